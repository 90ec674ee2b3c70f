use Rattle.std.proofs.Common.{◌≡◌, ◌++◌, take}
use Rattle.std.specs.Prelude.{map}
use Rattle.std.specs.List.{flat_map}
use Rattle.line_grammar.specs.Line.{StepLine, line_text}
use Rattle.script_text.proofs.script_writing.push_schedule.Given as goal

abbrev pub invariant-loop-token : goal.invariant-loop-token
invariant-loop-token l = l.text.items ≡ l.initial.text.items ++ flat_map line_text (map StepLine (take l.token-index l.tokens))
