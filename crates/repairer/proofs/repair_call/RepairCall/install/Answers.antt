use Rattle.std.proofs.Common.{◌≡◌, Ok, Result, false, is_err, sym, ap, ◌∙◌}
use Rattle.std.specs.declared.alloc.AllocError.{AllocError}
use Rattle.clay_grid.specs.Shape.{chunk_count}
use Rattle.store_core.specs.Told.{Told}
use Rattle.store_core.specs.Act.{ServerStep}
use Rattle.store_core.specs.Server.{at_server}
use Rattle.chunk_server.specs.declared.server_answers.Installed.{Installed}
use Rattle.chunk_server.specs.declared.server_answers.Installed.TheVariants as installed
use Rattle.chunk_server.specs.Core.{core_of, told_installed}
use Rattle.call_steps.specs.CallOf.{CallOf}
use Rattle.call_steps.specs.Steps.{stepped_at_server}
use Rattle.repairer.specs.declared.stage.RepairStage.TheVariants as stage
use Rattle.repairer.specs.Standing.{seen_at}
use Rattle.repairer.specs.Inside.{takes_at}
use Rattle.repairer.proofs.Stages.{is_at, seen_by}
use Rattle.repairer.proofs.Steps.{placed}
use Rattle.repairer.proofs.Hearing.{its_version, installed_tells}
use Rattle.repairer.proofs.repair_call.RepairCall.install.Goals as goal

pub returns-in-Ok-Placed-clause-step : goal.returns-in-Ok-Placed-clause-step
returns-in-Ok-Placed-clause-step c =
    let a = c.self.inside in
    let at = is_at a c.args.self.now stage.Installing c.self.invariant c.self.view_is c.requires.stage in
    let version : c.in-Some.chunk.stamp.version ≡ (seen_at a.looked.value).version =
    its_version a c.args.self.now c.self.invariant c.self.view_is c.requires.stage c.in-Some.chunk c.in-Some.ensures.value
    in
    let is : c.install.result ≡ Ok (installed.Placed c.in-Ok-Placed.epoch) = c.in-Ok-Placed.is ∙ ap Ok c.in-Ok-Placed.field-0-is in
    let step : (core_of c.install.new.self, Told.Placed c.in-Ok-Placed.epoch) ≡ at_server false (ServerStep.Install c.in-Some.chunk.stamp.version) (core_of c.args.s.now) =
    ap (λ (r : Result Installed AllocError). (core_of c.install.new.self, told_installed r)) (sym is)
    ∙ c.install.ensures.core
    ∙ ap (λ (r : Result Installed AllocError). at_server (is_err r) (ServerStep.Install c.in-Some.chunk.stamp.version) (core_of c.args.s.now)) is
    in
    placed a.opening a.rebuild.now a.number a.ticket (seen_at a.looked.value) (takes_at (chunk_count a.opening.geometry) a.takes) a.due a.due a.coding a.step c.in-Some.chunk.stamp.version
    c.in-Ok-Placed.epoch (core_of c.args.s.now) (core_of c.install.new.self) step version
    ∙ ap (λ (call : CallOf). stepped_at_server false a.due call (core_of c.args.s.now)) (seen_by a c.args.self.now stage.Installing c.self.view_is at)

pub returns-in-Ok-Placed-clause-told : goal.returns-in-Ok-Placed-clause-told
returns-in-Ok-Placed-clause-told c =
    installed_tells c.self.inside c.args.self.now c.self.invariant c.self.view_is c.requires.stage c.in-Some.chunk c.in-Some.ensures.value (core_of c.args.s.now)
    (core_of c.install.new.self) c.install.result (Ok (installed.Placed c.in-Ok-Placed.epoch)) c.install.ensures.core (c.in-Ok-Placed.is ∙ ap Ok c.in-Ok-Placed.field-0-is)

pub returns-in-Ok-AlreadyThere-clause-told : goal.returns-in-Ok-AlreadyThere-clause-told
returns-in-Ok-AlreadyThere-clause-told c =
    installed_tells c.self.inside c.args.self.now c.self.invariant c.self.view_is c.requires.stage c.in-Some.chunk c.in-Some.ensures.value (core_of c.args.s.now)
    (core_of c.install.new.self) c.install.result (Ok installed.AlreadyThere) c.install.ensures.core (c.in-Ok-AlreadyThere.is ∙ ap Ok c.in-Ok-AlreadyThere.field-0-is)

pub returns-in-Ok-Away-clause-told : goal.returns-in-Ok-Away-clause-told
returns-in-Ok-Away-clause-told c =
    installed_tells c.self.inside c.args.self.now c.self.invariant c.self.view_is c.requires.stage c.in-Some.chunk c.in-Some.ensures.value (core_of c.args.s.now)
    (core_of c.install.new.self) c.install.result (Ok (installed.Away c.in-Ok-Away.downs)) c.install.ensures.core (c.in-Ok-Away.is ∙ ap Ok c.in-Ok-Away.field-0-is)

pub returns-in-Err-clause-told : goal.returns-in-Err-clause-told
returns-in-Err-clause-told c =
    installed_tells c.self.inside c.args.self.now c.self.invariant c.self.view_is c.requires.stage c.in-Some.chunk c.in-Some.ensures.value (core_of c.args.s.now)
    (core_of c.install.new.self) c.install.result _ c.install.ensures.core c.in-Err.is
