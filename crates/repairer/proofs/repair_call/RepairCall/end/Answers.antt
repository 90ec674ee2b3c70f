use Rattle.std.proofs.Common.{◌≡◌, false, refl, ap, ◌∙◌}
use Rattle.clay_grid.specs.Shape.{chunk_count}
use Rattle.store_core.specs.Note.{note_of_rebuild}
use Rattle.store_core.specs.Act.{DirectoryStep}
use Rattle.run_laws.specs.GatherAfter.{ending_after}
use Rattle.stripe_dir.specs.Answers.{told_ended}
use Rattle.call_steps.specs.declared.outcomes.RepairOutcome.{RepairOutcome}
use Rattle.call_steps.specs.CallOf.{CallOf}
use Rattle.call_steps.specs.Outcomes.{repair_outcome_of}
use Rattle.call_steps.specs.Steps.{stepped_at_directory}
use Rattle.repairer.specs.declared.stage.RepairStage.TheVariants as stage
use Rattle.repairer.specs.Inside.{takes_at, call_by}
use Rattle.repairer.proofs.Stages.{is_at, keeps, seen_by}
use Rattle.repairer.proofs.Steps.{ended, end_seats}
use Rattle.repairer.proofs.Hearing.{hears}
use Rattle.repairer.proofs.repair_call.RepairCall.end.Goals as goal

pub invariant_of-self : goal.invariant_of-self
invariant_of-self c =
    let a = c.self.inside in
    let kept = keeps a stage.Ending c.self.invariant (is_at a c.args.self.now stage.Ending c.self.invariant c.self.view_is c.requires.stage) in
    record {
      below = c.self.invariant.below;
      kept = (end_seats a.ticket c.end-answer.new.self a.number (note_of_rebuild a.rebuild.now) DirectoryStep.End c.end-answer.result kept.0 c.end-answer.ensures.token, kept.1);
    }

pub returns-clause-step : goal.returns-clause-step
returns-clause-step c =
    let a = c.self.inside in
    let told = told_ended c.end-answer.result in
    let view : call_by stage.Ending a ≡ c.args.self.now =
    seen_by a c.args.self.now stage.Ending c.self.view_is (is_at a c.args.self.now stage.Ending c.self.invariant c.self.view_is c.requires.stage)
    in
    ended a.opening a.rebuild.now a.number a.ticket c.end-answer.new.self (takes_at (chunk_count a.opening.geometry) a.takes) a.due a.coding a.step
    (repair_outcome_of a.outcome) (repair_outcome_of c.ended_with.result) told c.args.d.now.core c.end-answer.new.directory.core
    c.end-answer.ensures.step c.end-answer.ensures.token
    (c.ended_with.ensures ∙ ap (λ (outcome : RepairOutcome). ending_after (repair_outcome_of outcome) told) c.replace-outcome.ensures.value)
    ∙ ap (λ (call : CallOf). stepped_at_directory false a.due call c.args.d.now.core) view

pub returns-clause-told : goal.returns-clause-told
returns-clause-told c =
    hears c.self.inside c.args.self.now c.self.invariant c.self.view_is stage.Ending c.requires.stage c.args.d.now.core c.end-answer.new.directory.core false
    DirectoryStep.End (told_ended c.end-answer.result) c.told_of-told.result refl c.end-answer.ensures.step c.told_of-told.ensures
