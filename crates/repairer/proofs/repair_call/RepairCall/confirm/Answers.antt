use Rattle.std.specs.Prelude.{⊤}
use Rattle.std.proofs.Common.{false, refl, sym, ap, ◌∙◌}
use Rattle.clay_grid.specs.Shape.{chunk_count}
use Rattle.store_core.specs.Act.{DirectoryStep}
use Rattle.run_laws.specs.States.{open_state}
use Rattle.run_laws.specs.GatherAfter.{confirming_after}
use Rattle.stripe_dir.specs.declared.directory_answers.Confirmed.{Confirmed}
use Rattle.stripe_dir.specs.Answers.{told_confirmed}
use Rattle.call_steps.specs.declared.answer.DirectoryAnswer.TheVariants as there
use Rattle.call_steps.specs.Answers.{directory_answer}
use Rattle.call_steps.specs.CallOf.{CallOf}
use Rattle.call_steps.specs.Steps.{stepped_at_directory}
use Rattle.repairer.specs.declared.stage.RepairStage.TheVariants as stage
use Rattle.repairer.specs.Standing.{seen_at}
use Rattle.repairer.specs.Inside.{takes_at}
use Rattle.repairer.proofs.Stages.{is_at, seen_by}
use Rattle.repairer.proofs.Steps.{confirmed}
use Rattle.repairer.proofs.Hearing.{hears}
use Rattle.repairer.proofs.repair_call.RepairCall.confirm.Goals as goal

pub returns-in-Superseded-clause-step : goal.returns-in-Superseded-clause-step
returns-in-Superseded-clause-step c =
    let a = c.self.inside in
    let answer = c.confirm-answer.result in
    confirmed a.opening a.rebuild.now a.number a.ticket c.confirm-answer.new.self (seen_at a.looked.value) (takes_at (chunk_count a.opening.geometry) a.takes) a.due a.due a.coding a.step
    _ (told_confirmed answer) c.args.d.now.core c.confirm-answer.new.directory.core c.confirm-answer.ensures.step c.confirm-answer.ensures.token
    (ap (λ (told : Confirmed ⊤ ⊤). open_state a.opening.geometry (confirming_after (seen_at a.looked.value) a.rebuild.now.server (told_confirmed told))) (sym c.in-Superseded.is))
    ∙ ap (λ (call : CallOf). stepped_at_directory false a.due call c.args.d.now.core)
    (seen_by a c.args.self.now stage.Confirming c.self.view_is (is_at a c.args.self.now stage.Confirming c.self.invariant c.self.view_is c.requires.stage))

pub returns-in-Current-clause-told : goal.returns-in-Current-clause-told
returns-in-Current-clause-told c =
    hears c.self.inside c.args.self.now c.self.invariant c.self.view_is stage.Confirming c.requires.stage c.args.d.now.core c.confirm-answer.new.directory.core false
    DirectoryStep.Confirm (told_confirmed c.confirm-answer.result) there.Current refl c.confirm-answer.ensures.step
    (ap (λ (told : Confirmed ⊤ ⊤). directory_answer (told_confirmed told)) c.in-Current.is)

pub returns-in-Superseded-clause-told : goal.returns-in-Superseded-clause-told
returns-in-Superseded-clause-told c =
    hears c.self.inside c.args.self.now c.self.invariant c.self.view_is stage.Confirming c.requires.stage c.args.d.now.core c.confirm-answer.new.directory.core false
    DirectoryStep.Confirm (told_confirmed c.confirm-answer.result) (there.Superseded c.in-Superseded.newer) refl c.confirm-answer.ensures.step
    (ap (λ (told : Confirmed ⊤ ⊤). directory_answer (told_confirmed told)) c.in-Superseded.is)

pub returns-in-Reaped-clause-told : goal.returns-in-Reaped-clause-told
returns-in-Reaped-clause-told c =
    hears c.self.inside c.args.self.now c.self.invariant c.self.view_is stage.Confirming c.requires.stage c.args.d.now.core c.confirm-answer.new.directory.core false
    DirectoryStep.Confirm (told_confirmed c.confirm-answer.result) (there.Reaped c.in-Reaped.at) refl c.confirm-answer.ensures.step
    (ap (λ (told : Confirmed ⊤ ⊤). directory_answer (told_confirmed told)) c.in-Reaped.is)
