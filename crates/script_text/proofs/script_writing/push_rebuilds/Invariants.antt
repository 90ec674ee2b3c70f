use Rattle.std.proofs.Common.{◌≡◌, ◌++◌, take}
use Rattle.std.specs.Prelude.{map}
use Rattle.std.specs.List.{flat_map}
use Rattle.line_grammar.specs.Line.{RebuildLine, line_text}
use Rattle.script_text.proofs.script_writing.push_rebuilds.Given as goal

abbrev pub invariant-loop-rebuild : goal.invariant-loop-rebuild
invariant-loop-rebuild l = l.text.items ≡ l.initial.text.items ++ flat_map line_text (map RebuildLine (take l.rebuild-index l.rebuilds))
