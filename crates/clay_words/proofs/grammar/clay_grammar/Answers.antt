use Rattle.std.proofs.Common.{ap, ◌∙◌}
use Rattle.std.specs.Prelude.{fold}
use Rattle.std.proofs.lemmas.List.{take_all}
use Rattle.clay_words.specs.Grammar.{bare_app, with_command}
use Rattle.clay_words.specs.Names.{all_names}
use Rattle.clay_words.proofs.Numbered.{app_is, fold_more, with_another}
use Rattle.clay_words.proofs.grammar.clay_grammar.Goals as goal

pub loop-name-init : goal.loop-name-init
loop-name-init c = c.bare_grammar-program.ensures

pub loop-name-preserved : goal.loop-name-preserved
loop-name-preserved c =
    app_is c.in_ok-program.program _ _ (fold_more with_command bare_app all_names c.loop-name.name-index _ c.loop-name-test.true)
    (with_another _ _ _ _ _ c.loop-name.invariant c.in_ok-command_grammar.ensures c.in_ok-program.ensures)

pub returns : goal.returns
returns c = c.loop-name.invariant.shape ∙ ap (fold with_command bare_app) (take_all c.loop-name.name-index all_names c.loop-name-test.false)
