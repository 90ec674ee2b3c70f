-- Puts, writes and deletes from quiet places to quiet places: the call, then the sweeper to its end.
use Rattle.std.specs.Prelude.{◌<◌, ◌+◌, ℕ, List, ◌++◌, length}
use Rattle.clay_grid.specs.Shape.{Shape, stripe_length}
use Rattle.store_map.specs.Content.{content_length}
use Rattle.store_map.specs.declared.actor.Actor.{Actor}
use Rattle.store_map.specs.declared.call.Call.{Call}
use Rattle.store_map.specs.declared.call.Call.TheVariants as call
use Rattle.store_map.specs.declared.content.Content.{Content}
use Rattle.store_core.specs.Note.{note_of}
use Rattle.store_core.specs.NextAct.{job_of}
use Rattle.store_core.specs.Conditions.{MayBegin, IsOfClient}
use Rattle.store_core.specs.Step.{Places}
use Rattle.session_rules.specs.State.{State}
use Rattle.session_rules.specs.declared.session_answer.Answer.{Answer}
use Rattle.session_rules.specs.Calls.{serve_call}
use Rattle.session_rules.specs.Alone.{EndsAs}
use Rattle.session_rules.specs.Seen.{IsSeenAs, IsQuiet}
use Rattle.session_rules.specs.Outcomes.{outcome_at}
use Rattle.session_rules.specs.Sweeps.{KeepsPinned}
use Rattle.session_rules.specs.Puts.{drawn_by}
use Rattle.session_rules.specs.Quiet.{AreSwept}
use Rattle.session_rules.specs.Writes.{stands_after}

-- the call ran alone to the session's answer, and the sweeper made quiet places of what it left, where these versions stand for the state's numbers
pub record IsServedAndSwept (g : Shape) (max tries : ℕ) (who : Actor) (number : ℕ) (call : Call) (p : Places) (stands : List ℕ) (served : State × Answer) : Type 0 where
  pub left : Places
  pub ends : EndsAs g tries who number (job_of call) p (outcome_at (length p.directory.points) served.1) left
  pub swept : AreSwept g max stands left served.0

-- a put that isn't too large
abbrev pub PutsAreSwept : Type 0
PutsAreSwept =
    (g : Shape) (max tries : ℕ) (stands : List ℕ) (p : Places) (s : State) (who : Actor) (number : ℕ) (name : List ℕ) (content : Content) →
    0 < stripe_length g → IsSeenAs g max stands p s → KeepsPinned stands p s → IsQuiet stands p s → MayBegin p.directory who number → IsOfClient who (note_of (call.Put name content)) →
    content_length content < max + 1 →
    IsServedAndSwept g max tries who number (call.Put name content) p (stands ++ drawn_by who number (note_of (call.Put name content)) p) (serve_call g max (call.Put name content) s)

-- a delete
abbrev pub DeletesAreSwept : Type 0
DeletesAreSwept =
    (g : Shape) (max tries : ℕ) (stands : List ℕ) (p : Places) (s : State) (who : Actor) (number : ℕ) (name : List ℕ) →
    0 < stripe_length g → IsSeenAs g max stands p s → KeepsPinned stands p s → IsQuiet stands p s → MayBegin p.directory who number → IsOfClient who (note_of (call.Delete name)) →
    IsServedAndSwept g max tries who number (call.Delete name) p stands (serve_call g max (call.Delete name) s)

-- any write, with a try at least
abbrev pub WritesAreSwept : Type 0
WritesAreSwept =
    (g : Shape) (max tries : ℕ) (stands : List ℕ) (p : Places) (s : State) (who : Actor) (number : ℕ) (name : List ℕ) (offset : ℕ) (content : Content) →
    0 < stripe_length g → 0 < tries → IsSeenAs g max stands p s → KeepsPinned stands p s → IsQuiet stands p s → MayBegin p.directory who number → IsOfClient who (note_of (call.Write name offset content)) →
    IsServedAndSwept g max tries who number (call.Write name offset content) p (stands_after stands p s (serve_call g max (call.Write name offset content) s).0)
    (serve_call g max (call.Write name offset content) s)
