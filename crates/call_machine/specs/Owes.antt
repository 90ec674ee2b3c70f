-- That a call owes the bytes of its pins at the point of its look.
use Rattle.std.specs.Prelude.{◌≡◌, ℕ, List, IfSome}
use Rattle.call_machine.specs.Calls.{MachineOf}
use Rattle.call_machine.specs.Kinds.{Machine, asked_job, machine_of}
use Rattle.call_machine.specs.Pinned.{pinned_at}

-- the call has its job, and where it stands with pins of this point it is a call that reads, and its bytes are owed there
pub record OwesBy (IsOwed : ℕ → List ℕ → Type 0) (c : MachineOf) : Type 0 where
  pub job : c.call.job ≡ asked_job c.asked
  pub owes : IfSome (pinned_at c.call.state.at) (λ place. (machine_of c.asked ≡ Machine.Reads) × IsOwed place c.owed)
