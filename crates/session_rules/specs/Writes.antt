-- What a write that runs alone leaves.
use Rattle.std.specs.Prelude.{◌≡◌, ◌<◌, ℕ, ◌-◌, false, List, ◌++◌, length}
use Rattle.std.specs.List.{range_with_len}
use Rattle.clay_grid.specs.Shape.{Shape, stripe_length}
use Rattle.store_map.specs.PlainMap.{apply}
use Rattle.store_map.specs.declared.actor.Actor.{Actor}
use Rattle.store_map.specs.declared.call.Call.{Call}
use Rattle.store_map.specs.declared.call.Call.TheVariants as call
use Rattle.store_map.specs.declared.content.Content.{Content}
use Rattle.store_core.specs.Note.{note_of}
use Rattle.store_core.specs.NextAct.{job_of}
use Rattle.store_core.specs.Conditions.{MayBegin, IsOfClient}
use Rattle.store_core.specs.Step.{Places}
use Rattle.session_rules.specs.State.{State}
use Rattle.session_rules.specs.declared.session_answer.Answer.{Answer}
use Rattle.session_rules.specs.Calls.{is_refusal, serve_call}
use Rattle.session_rules.specs.Alone.{EndsAs}
use Rattle.session_rules.specs.Seen.{IsSeenAs}
use Rattle.session_rules.specs.Outcomes.{outcome_at}
use Rattle.session_rules.specs.Sweeps.{KeepsPinned}
use Rattle.session_rules.specs.Quiet.{IsSettled}

-- the versions that stand for a state's numbers once it has new stripes: each of those has a version of its own, numbered from the next on
abbrev pub stands_after : List ℕ → Places → State → State → List ℕ
stands_after stands p before after = stands ++ range_with_len (length p.directory.versions) (length after.stripes - length before.stripes)

-- a call that ran alone and may have drawn versions: it had this outcome, and the places are seen as the state after it; settled places stay settled
pub record IsWriteServedAs (g : Shape) (max tries : ℕ) (who : Actor) (number : ℕ) (call : Call) (stands : List ℕ) (p : Places) (s : State) (served : State × Answer) : Type 0 where
  pub after : Places
  pub ends : EndsAs g tries who number (job_of call) p (outcome_at (length p.directory.points) served.1) after
  pub seen : IsSeenAs g max (stands_after stands p s served.0) after served.0
  pub settled : IsSettled stands p s → IsSettled (stands_after stands p s served.0) after served.0
  pub pinned : KeepsPinned stands p s → KeepsPinned (stands_after stands p s served.0) after served.0

-- a write that the map doesn't refuse and that runs alone, with a try at least: its old bytes may be unavailable, and then the state stays
abbrev pub WritesAreServed : Type 0
WritesAreServed =
    (g : Shape) (max tries : ℕ) (stands : List ℕ) (p : Places) (s : State) (who : Actor) (number : ℕ) (name : List ℕ) (offset : ℕ) (content : Content) →
    0 < stripe_length g → 0 < tries → IsSeenAs g max stands p s → MayBegin p.directory who number → IsOfClient who (note_of (call.Write name offset content)) →
    is_refusal (apply max (call.Write name offset content) s.objects).1 ≡ false →
    IsWriteServedAs g max tries who number (call.Write name offset content) stands p s (serve_call g max (call.Write name offset content) s)
