use Rattle.std.proofs.Common.{false, refl}
use Rattle.store_core.specs.Act.{DirectoryStep}
use Rattle.stripe_dir.specs.Answers.{told_ended}
use Rattle.repairer.specs.declared.stage.RepairStage.TheVariants as stage
use Rattle.repairer.proofs.Hearing.{hears}
use Rattle.repairer.proofs.repair_call.RepairCall.tell_placed.Goals as goal

pub returns-clause-told : goal.returns-clause-told
returns-clause-told c =
    let a = c.self.inside in
    hears a c.args.self.now c.self.invariant c.self.view_is stage.Placing c.requires.stage c.args.d.now.core c.repaired-answer.new.directory.core false
    (DirectoryStep.Repaired a.rebuild.now.server a.epoch) (told_ended c.repaired-answer.result) c.told_of-told.result refl c.repaired-answer.ensures.step c.told_of-told.ensures
