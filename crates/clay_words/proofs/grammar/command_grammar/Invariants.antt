use Rattle.std.proofs.Common.{take}
use Rattle.std.specs.Prelude.{map}
use Rattle.clay_words.specs.Grammar.{IsApp, numbered_app}
use Rattle.clay_words.specs.Names.{word_of}
use Rattle.clay_words.proofs.grammar.command_grammar.Given as goal

abbrev pub invariant-loop-id : goal.invariant-loop-id
invariant-loop-id l = IsApp l.command (numbered_app (word_of l.fn.name) (map (λ id. id.now) (take l.id-index l.ids)))
