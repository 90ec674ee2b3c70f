use Rattle.std.proofs.Common.{take}
use Rattle.std.specs.Prelude.{fold}
use Rattle.clay_words.specs.Grammar.{IsApp, bare_app, with_command}
use Rattle.clay_words.specs.Names.{all_names}
use Rattle.clay_words.proofs.grammar.clay_grammar.Given as goal

abbrev pub invariant-loop-name : goal.invariant-loop-name
invariant-loop-name l = IsApp l.program (fold with_command bare_app (take l.name-index all_names))
