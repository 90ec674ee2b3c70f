-- Calls that run alone serve a session's requests.
use Rattle.std.specs.Prelude.{◌≡◌, ◌<◌, ◌⊎◌, ℕ, ◌-◌, ◌^◌, false, List, length, Some}
use Rattle.std.specs.List.{slice_get}
use Rattle.clay_grid.specs.Shape.{Shape, stripe_length}
use Rattle.store_map.specs.declared.actor.Actor.{Actor}
use Rattle.store_map.specs.declared.call.Call.{Call}
use Rattle.store_map.specs.declared.call.Call.TheVariants as call
use Rattle.store_core.specs.Note.{Kind, note_of}
use Rattle.store_core.specs.Act.{Act, ServerStep}
use Rattle.store_core.specs.NextAct.{job_of}
use Rattle.store_core.specs.Conditions.{MayBegin, IsOfClient}
use Rattle.store_core.specs.Server.{Server}
use Rattle.store_core.specs.Step.{Places, at_places}
use Rattle.session_rules.specs.State.{State}
use Rattle.session_rules.specs.declared.session_answer.Answer.{Answer}
use Rattle.session_rules.specs.Calls.{serve_call}
use Rattle.session_rules.specs.Rebuilds.{lose}
use Rattle.session_rules.specs.Alone.{EndsAs}
use Rattle.session_rules.specs.Seen.{IsSeenAs, IsQuiet}
use Rattle.session_rules.specs.Outcomes.{outcome_at}
use Rattle.session_rules.specs.Sweeps.{KeepsPinned}
use Rattle.session_rules.specs.Quiet.{IsSettled}

-- a loss is one step of the operator, where the server has been emptied fewer times than a count of 64 bits can tell
pub record LossesAreServed : Type 0 where
  pub seen :
      (g : Shape) (max : ℕ) (stands : List ℕ) (p : Places) (s : State) (who : Actor) (number server : ℕ) (at : Server) →
      slice_get p.servers server ≡ Some at → at.epoch < 2 ^ 64 - 1 → IsSeenAs g max stands p s →
      IsSeenAs g max stands (at_places false who number (Act.AtServer server ServerStep.Wipe) p).0 (lose server s)
  pub quiet :
      (stands : List ℕ) (p : Places) (s : State) (who : Actor) (number server : ℕ) → IsQuiet stands p s →
      IsQuiet stands (at_places false who number (Act.AtServer server ServerStep.Wipe) p).0 (lose server s)
  pub pinned :
      (stands : List ℕ) (p : Places) (s : State) (who : Actor) (number server : ℕ) → KeepsPinned stands p s →
      KeepsPinned stands (at_places false who number (Act.AtServer server ServerStep.Wipe) p).0 (lose server s)

-- a get or a read
abbrev pub IsReading : Kind → Type 0
IsReading kind = (kind ≡ Kind.Get) ⊎ (kind ≡ Kind.ReadAt)

-- what a call that ran alone leaves: it had this outcome, and the places are seen as the state after it
pub record IsServedAs (g : Shape) (max tries : ℕ) (who : Actor) (number : ℕ) (call : Call) (stands : List ℕ) (p : Places) (served : State × Answer) : Type 0 where
  pub after : Places
  pub ends : EndsAs g tries who number (job_of call) p (outcome_at (length p.directory.points) served.1) after
  pub seen : IsSeenAs g max stands after served.0
  pub quiet : IsQuiet stands p served.0 → IsQuiet stands after served.0
  pub pinned : KeepsPinned stands p served.0 → KeepsPinned stands after served.0

-- a get or a read that runs alone
abbrev pub ReadsAreServed : Type 0
ReadsAreServed =
    (g : Shape) (max tries : ℕ) (stands : List ℕ) (p : Places) (s : State) (who : Actor) (number : ℕ) (call : Call) →
    0 < stripe_length g → IsSeenAs g max stands p s → MayBegin p.directory who number → IsOfClient who (note_of call) → IsReading (note_of call).kind →
    IsServedAs g max tries who number call stands p (serve_call g max call s)

-- a stat that runs alone
abbrev pub StatsAreServed : Type 0
StatsAreServed =
    (g : Shape) (max tries : ℕ) (stands : List ℕ) (p : Places) (s : State) (who : Actor) (number : ℕ) (name : List ℕ) →
    0 < stripe_length g → IsSeenAs g max stands p s → MayBegin p.directory who number → IsOfClient who (note_of (call.Stat name)) →
    IsServedAs g max tries who number (call.Stat name) stands p (serve_call g max (call.Stat name) s)

-- the same before any sweep, from this state on: settled places stay settled
pub record IsDeletedAs (g : Shape) (max tries : ℕ) (who : Actor) (number : ℕ) (call : Call) (stands : List ℕ) (p : Places) (s : State) (served : State × Answer) : Type 0 where
  pub after : Places
  pub ends : EndsAs g tries who number (job_of call) p (outcome_at (length p.directory.points) served.1) after
  pub seen : IsSeenAs g max stands after served.0
  pub settled : IsSettled stands p s → IsSettled stands after served.0
  pub pinned : KeepsPinned stands p s → KeepsPinned stands after served.0

-- a delete that runs alone
abbrev pub DeletesAreServed : Type 0
DeletesAreServed =
    (g : Shape) (max tries : ℕ) (stands : List ℕ) (p : Places) (s : State) (who : Actor) (number : ℕ) (name : List ℕ) →
    0 < stripe_length g → IsSeenAs g max stands p s → MayBegin p.directory who number → IsOfClient who (note_of (call.Delete name)) →
    IsDeletedAs g max tries who number (call.Delete name) stands p s (serve_call g max (call.Delete name) s)
