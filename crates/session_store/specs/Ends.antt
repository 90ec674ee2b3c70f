-- How a call or a rebuild that runs alone ends.
use Rattle.std.specs.Prelude.{◌≡◌, ⊤, ℕ, List, Option}
use Rattle.store_core.specs.Act.{Act, Outcome}
use Rattle.store_core.specs.Agreement.{Seat, ActorToken}
use Rattle.call_steps.specs.CallOf.{act_of, taken_of}
use Rattle.call_steps.specs.CallOutcomes.{call_outcome_of}
use Rattle.call_steps.specs.declared.outcome.CallOutcome.{CallOutcome}
use Rattle.call_steps.specs.declared.outcome.CallOutcome.TheVariants as ended
use Rattle.call_machine.specs.Calls.{MachineOf}
use Rattle.call_machine.specs.Ends.{IfBytesServed, IsEndOf}
use Rattle.call_machine.specs.Kinds.{machine_of, IfReads}
use Rattle.session_store.specs.declared.places.SessionPlaces.{SessionPlaces}
use Rattle.session_store.specs.Running.{HasRunTo}

-- a call of the map ends so
abbrev pub EndsCall : Outcome → Type 0
EndsCall (Outcome.Answered point reply) = ⊤
EndsCall (Outcome.Served point) = ⊤
EndsCall (Outcome.Unavailable stripe missing) = ⊤
EndsCall Outcome.NoMemory = ⊤
EndsCall _ = ⊥

-- and a rebuild so
abbrev pub EndsRebuild : Outcome → Type 0
EndsRebuild Outcome.Rebuilt = ⊤
EndsRebuild Outcome.Here = ⊤
EndsRebuild Outcome.NoSuch = ⊤
EndsRebuild (Outcome.Unavailable stripe missing) = ⊤
EndsRebuild Outcome.NoMemory = ⊤
EndsRebuild _ = ⊥

-- a client's call ended
abbrev pub IsOfClient : CallOutcome → Type 0
IsOfClient (ended.Client outcome) = ⊤
IsOfClient (ended.Rebuild outcome) = ⊥

-- a call has run from these places to those, and its actor's seat, its outcome and what it has taken are those of its last value
pub record EndsAlone (first : MachineOf) (before : SessionPlaces) (seat : Seat) (outcome : CallOutcome) (takes : Option (List ℕ)) (now : SessionPlaces) : Type 0 where
  pub last : MachineOf
  pub ran : HasRunTo first before last now
  pub token : ActorToken.Seated seat ≡ last.call.token
  pub kind : IsEndOf (machine_of last.asked) outcome
  pub over : act_of last.call ≡ Act.Finish (call_outcome_of outcome)
  pub served : IfReads (machine_of last.asked) (IfBytesServed outcome (λ bytes. bytes.items ≡ last.owed))
  pub taken : takes ≡ taken_of last.call.takes
