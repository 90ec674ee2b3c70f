use Rattle.std.proofs.Common.{◌≡◌, ◌∙◌, ap, sym, subst}
use Rattle.call_machine.specs.Inside.{asked_by, call_by, IsOfKind}
use Rattle.call_machine.specs.Calls.{MachineOf}
use Rattle.client_read.specs.Ends.{IfServed}
use Rattle.call_steps.specs.declared.outcome.CallOutcome.TheVariants as ended
use Rattle.call_machine.specs.Kinds.{Machine, machine_of}
use Rattle.call_machine.specs.declared.call_machine.MachineKind.{MachineKind}
use Rattle.call_machine.proofs.Machines.{ends_as, if_reads, took_nothing}
use Rattle.call_machine.proofs.call_machine.CallMachine.finish.Goals as goal

pub returns-in-Put-clause-takes : goal.returns-in-Put-clause-takes
returns-in-Put-clause-takes c =
    c.finish-seat-in-Put.ensures.none ∙ took_nothing c.self.inside c.args.self c.in-Put.put _ c.self.view_is c.in-Put.is c.finish-seat-in-Put.ensures.nothing

pub returns-in-Read-clause-served : goal.returns-in-Read-clause-served
returns-in-Read-clause-served c =
    if_reads (machine_of c.args.self.asked)
    (subst (λ (owed : _). IfServed c.finish-seat.result.1 (λ bytes. bytes.items ≡ owed))
    (ap (λ (k : MachineKind). (call_by k (asked_by c.self.inside.task)).owed) (sym c.in-Read.is) ∙ ap (λ (v : MachineOf). v.owed) c.self.view_is)
    (c.finish-seat.ensures.served))

pub returns-in-Read-clause-kind : goal.returns-in-Read-clause-kind
returns-in-Read-clause-kind c =
    let a = c.self.inside in
    ends_as a c.args.self Machine.Reads (ended.Client c.finish-seat.result.1) c.self.view_is (subst (λ (k : MachineKind). IsOfKind k (asked_by a.task)) c.in-Read.is c.self.invariant) tt

pub returns-in-Put-clause-kind : goal.returns-in-Put-clause-kind
returns-in-Put-clause-kind c =
    let a = c.self.inside in
    ends_as a c.args.self Machine.Puts (ended.Client c.finish-seat-in-Put.result.1) c.self.view_is (subst (λ (k : MachineKind). IsOfKind k (asked_by a.task)) c.in-Put.is c.self.invariant).0 tt

pub returns-in-Patch-clause-kind : goal.returns-in-Patch-clause-kind
returns-in-Patch-clause-kind c =
    let a = c.self.inside in
    ends_as a c.args.self Machine.Patches (ended.Client c.finish-seat-in-Patch.result.1) c.self.view_is (subst (λ (k : MachineKind). IsOfKind k (asked_by a.task)) c.in-Patch.is c.self.invariant).0 tt

pub returns-in-Rebuild-clause-kind : goal.returns-in-Rebuild-clause-kind
returns-in-Rebuild-clause-kind c =
    let a = c.self.inside in
    ends_as a c.args.self Machine.Rebuilds (ended.Rebuild c.finish-seat-in-Rebuild.result.1) c.self.view_is (subst (λ (k : MachineKind). IsOfKind k (asked_by a.task)) c.in-Rebuild.is c.self.invariant) tt
