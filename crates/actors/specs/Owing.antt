-- What a caller's turn leaves of the bytes that its call reads, and of the directory's stamps.
use Rattle.std.specs.Prelude.{◌≡◌, ℕ, Bool, false, ◌&&◌, List, [], ◌∷◌, ◌++◌, length, Option, None, Some}
use Rattle.store_core.specs.Act.{Act, Outcome}
use Rattle.stripe_stamps.specs.Sealed.{Sealed}
use Rattle.call_steps.specs.CallOf.{CallOf, act_of}
use Rattle.call_steps.specs.Ready.{ready}
use Rattle.call_machine.specs.Kinds.{Machine, machine_of, IfReads}
use Rattle.call_machine.specs.Calls.{MachineOf, drawn_by, owed_by}
use Rattle.actors.specs.Callers.{CallerOf, asked_at}

-- the bytes that a call in work reads
abbrev pub owed_now : Option MachineOf → List ℕ
owed_now None = []
owed_now (Some c) = c.owed

-- the call in work after a step that led it to this value
abbrev pub left_by : Act → MachineOf → Option MachineOf
left_by (Act.Finish outcome) c = None
left_by act c = Some c

-- a call that is served its bytes is served those that it reads
pub record IsServed (m : Machine) (owed : List ℕ) (served after : List (Option (List ℕ))) : Type 0 where
  pub bytes : List ℕ
  pub more : after ≡ served ++ Some bytes ∷ []
  pub reads : IfReads m (bytes ≡ owed)

-- the bytes that the ended calls were served, after a step that led the call in work to this act
abbrev pub AreServed : Act → Machine → List ℕ → List (Option (List ℕ)) → List (Option (List ℕ)) → Type 0
AreServed (Act.Finish (Outcome.Served point)) m owed served after = IsServed m owed served after
AreServed (Act.Finish outcome) m owed served after = after ≡ served ++ None ∷ []
AreServed act m owed served after = after ≡ served

-- a caller's turn: in its call, which is the next one of its part, from the first value to the second, with a coding and a step in which memory was wanting or not
pub record Owes (a : CallerOf) (d now : Sealed) (after : CallerOf) (call next : CallOf) (coding short : Bool) : Type 0 where
  pub before : MachineOf
  pub last : MachineOf
  pub is_ready : before.call ≡ ready coding call
  pub is_last : last.call ≡ next
  pub its : asked_at a.part (length a.actor.ended) ≡ Some before.asked
  pub asked : last.asked ≡ before.asked
  pub owed : (call.due && coding) ≡ false → before.owed ≡ owed_now a.work
  pub goes : last.owed ≡ owed_by short d before
  pub stamps : now.stamps ≡ d.stamps ++ drawn_by short d before
  pub served : AreServed (act_of next) (machine_of last.asked) last.owed a.served after.served
  pub work : after.work ≡ left_by (act_of next) last
