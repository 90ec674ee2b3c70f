use Rattle.std.proofs.Common.{◌≡◌, ◌++◌, take}
use Rattle.std.specs.List.{flat_map}
use Rattle.line_grammar.specs.Line.{line_text}
use Rattle.script_text.specs.Spelling.{repairer_lines}
use Rattle.script_text.proofs.script_writing.push_repairers.Given as goal

abbrev pub invariant-loop-part : goal.invariant-loop-part
invariant-loop-part l = l.text.items ≡ l.initial.text.items ++ flat_map line_text (flat_map repairer_lines (take l.part-index l.parts))
