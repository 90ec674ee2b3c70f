use Rattle.std.proofs.Common.{sym, subst}
use Rattle.call_machine.specs.Kinds.{Machine}
use Rattle.call_machine.specs.Calls.{KnowsOldOf}
use Rattle.call_machine.specs.Inside.{asked_by, call_by, call_in, IsOfKind}
use Rattle.call_machine.specs.declared.call_machine.MachineKind.{MachineKind}
use Rattle.call_machine.specs.declared.call_machine.MachineKind.TheVariants as kind
use Rattle.call_machine.specs.declared.call_machine.CallMachine.TheInside.{Inside}
use Rattle.call_machine.proofs.Machines.{others_know, patch_knows}
use Rattle.call_machine.proofs.call_machine.CallMachine.on_coder.Goals.{in-Read, in-Put, in-Patch, in-Rebuild}
use Rattle.call_machine.proofs.call_machine.CallMachine.on_coder.Goals as goal

pub returns-clause-knows : goal.returns-clause-knows
returns-clause-knows g c d holds =
    let a = c.self.inside in
    elim c.match-self.branch [
      | in-Read w ↦
          subst (λ (b : Inside). KnowsOldOf d (call_in b)) (sym w.self-inside-is)
          (others_know d (call_by (kind.Read w.on_coder.new.self) (asked_by a.task)) (asked_by a.task) Machine.Reads (subst (λ (k : MachineKind). IsOfKind k (asked_by a.task)) w.in-Read.is c.self.invariant) tt)
      | in-Put w ↦
          subst (λ (b : Inside). KnowsOldOf d (call_in b)) (sym w.self-inside-is)
          (others_know d (call_by (kind.Put w.on_coder-in-Put.new.self) (asked_by a.task)) (asked_by a.task) Machine.Puts (subst (λ (k : MachineKind). IsOfKind k (asked_by a.task)) w.in-Put.is c.self.invariant).0 tt)
      | in-Patch w ↦
          subst (λ (b : Inside). KnowsOldOf d (call_in b)) (sym w.self-inside-is)
          (patch_knows d a c.args.self.now w.in-Patch.patch w.on_coder-in-Patch.new.self c.self.view_is w.in-Patch.is c.self.invariant w.on_coder-in-Patch.ensures.written (w.on_coder-in-Patch.ensures.knows d) holds)
      | in-Rebuild w ↦
          subst (λ (b : Inside). KnowsOldOf d (call_in b)) (sym w.self-inside-is)
          (others_know d (call_by (kind.Rebuild w.on_coder-in-Rebuild.new.self) (asked_by a.task)) (asked_by a.task) Machine.Rebuilds (subst (λ (k : MachineKind). IsOfKind k (asked_by a.task)) w.in-Rebuild.is c.self.invariant) tt)
    ]
