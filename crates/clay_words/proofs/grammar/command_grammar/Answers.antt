use Rattle.std.proofs.Common.{ap, ◌∙◌}
use Rattle.std.specs.Prelude.{map}
use Rattle.std.proofs.lemmas.List.{take_all}
use Rattle.clap.specs.Words.{new_app}
use Rattle.clay_words.specs.Grammar.{numbered_app, with_number}
use Rattle.clay_words.specs.Names.{word_of}
use Rattle.clay_words.proofs.Numbered.{app_is, fold_mapped, with_one}
use Rattle.clay_words.proofs.grammar.command_grammar.Goals as goal

pub loop-id-init : goal.loop-id-init
loop-id-init c = record { shape = c.new-command.ensures.app ∙ ap new_app c.word.ensures; local = c.new-command.ensures.local }

pub loop-id-preserved : goal.loop-id-preserved
loop-id-preserved c =
    app_is c.in_ok-command.command _ _ (fold_mapped with_number (new_app (word_of c.args.name)) (λ id. id.now) c.ids-ids.result.now c.loop-id.id-index _ c.loop-id-test.true)
    (with_one _ _ _ _ _ c.loop-id.invariant (record { rule = c.number.ensures.rule; local = c.number.ensures.local }) c.in_ok-command.ensures)

pub returns : goal.returns
returns c =
    app_is c.loop-id.command _ _
    (ap (numbered_app (word_of c.args.name)) (ap (map (λ id. id.now)) (take_all c.loop-id.id-index c.ids-ids.result.now c.loop-id-test.false) ∙ c.ids-ids.ensures))
    c.loop-id.invariant
