use Rattle.std.proofs.Common.{ap, subst, ◌∙◌, sym}
use Rattle.call_steps.specs.Steps.{IsUndueOncePlaced}
use Rattle.call_machine.specs.Kinds.{Machine}
use Rattle.call_machine.specs.Calls.{MachineOf}
use Rattle.call_machine.specs.Inside.{asked_by, call_by, IsOfKind}
use Rattle.call_machine.specs.declared.call_machine.MachineKind.{MachineKind}
use Rattle.call_machine.proofs.Machines.{of_rebuilds}
use Rattle.call_machine.proofs.call_machine.CallMachine.need.Goals as goal

pub returns-in-Read-clause-placed : goal.returns-in-Read-clause-placed
returns-in-Read-clause-placed c =
    let a = c.self.inside in
    of_rebuilds a c.args.self.now Machine.Reads (IsUndueOncePlaced c.args.self.now.call) c.self.view_is
    (subst (λ (k : MachineKind). IsOfKind k (asked_by a.task)) c.in-Read.is c.self.invariant) tt

pub returns-in-Put-clause-placed : goal.returns-in-Put-clause-placed
returns-in-Put-clause-placed c =
    let a = c.self.inside in
    of_rebuilds a c.args.self.now Machine.Puts (IsUndueOncePlaced c.args.self.now.call) c.self.view_is
    (subst (λ (k : MachineKind). IsOfKind k (asked_by a.task)) c.in-Put.is c.self.invariant).0 tt

pub returns-in-Patch-clause-placed : goal.returns-in-Patch-clause-placed
returns-in-Patch-clause-placed c =
    let a = c.self.inside in
    of_rebuilds a c.args.self.now Machine.Patches (IsUndueOncePlaced c.args.self.now.call) c.self.view_is
    (subst (λ (k : MachineKind). IsOfKind k (asked_by a.task)) c.in-Patch.is c.self.invariant).0 tt

pub returns-in-Rebuild-clause-placed : goal.returns-in-Rebuild-clause-placed
returns-in-Rebuild-clause-placed c =
    let a = c.self.inside in
    of_rebuilds a c.args.self.now Machine.Rebuilds (IsUndueOncePlaced c.args.self.now.call) c.self.view_is
    (subst (λ (k : MachineKind). IsOfKind k (asked_by a.task)) c.in-Rebuild.is c.self.invariant)
    (subst IsUndueOncePlaced
    (ap (λ (k : MachineKind). (call_by k (asked_by a.task)).call) (sym c.in-Rebuild.is) ∙ ap (λ (v : MachineOf). v.call) c.self.view_is)
    c.need-in-Rebuild.ensures.placed)
