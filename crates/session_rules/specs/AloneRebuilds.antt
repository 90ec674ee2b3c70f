-- A rebuild that runs alone.
use Rattle.std.specs.Prelude.{◌<◌, ◌+◌, ℕ, List, map}
use Rattle.clay_grid.specs.Shape.{Shape, chunk_count, stripe_length}
use Rattle.store_map.specs.declared.actor.Actor.{Actor}
use Rattle.store_map.specs.declared.call.Rebuild.{Rebuild as RebuildCall}
use Rattle.store_map.specs.declared.reply.Reply.TheVariants as reply
use Rattle.store_core.specs.Note.{note_of_rebuild}
use Rattle.store_core.specs.Act.{Outcome}
use Rattle.store_core.specs.NextAct.{rebuild_job}
use Rattle.store_core.specs.Conditions.{MayBegin, IsOfRepairer}
use Rattle.store_core.specs.Step.{Places}
use Rattle.session_rules.specs.State.{State, numbers_of}
use Rattle.session_rules.specs.declared.session_answer.Answer.{Answer}
use Rattle.session_rules.specs.Rebuilds.{rebuild}
use Rattle.session_rules.specs.Alone.{EndsAs}
use Rattle.session_rules.specs.Seen.{IsSeenAs, IsQuiet}
use Rattle.session_rules.specs.Outcomes.{lost_as}
use Rattle.session_rules.specs.Sweeps.{KeepsPinned}

-- the outcome of a rebuild that stands for a session's answer
abbrev pub rebuilt_as : Answer → Outcome
rebuilt_as Answer.Rebuilt = Outcome.Rebuilt
rebuilt_as Answer.Here = Outcome.Here
rebuilt_as (Answer.Unavailable stripe missing) = Outcome.Unavailable stripe (map lost_as missing)
rebuilt_as (Answer.Replied reply.NoSuch) = Outcome.NoSuch
rebuilt_as _ = Outcome.NoMemory

-- a rebuild that ran alone: it had this outcome, the places are seen as the state after it, quiet places stay quiet, and its actor may begin its next call
pub record IsRebuiltAs (g : Shape) (max tries : ℕ) (who : Actor) (number : ℕ) (call : RebuildCall) (stands : List ℕ) (p : Places) (s : State) (served : State × Answer) : Type 0 where
  pub after : Places
  pub ends : EndsAs g tries who number (rebuild_job call) p (rebuilt_as served.1) after
  pub seen : IsSeenAs g max stands after served.0
  pub quiet : IsQuiet stands p s → IsQuiet stands after served.0
  pub pinned : KeepsPinned stands p s → KeepsPinned stands after served.0
  pub next : MayBegin after.directory who (number + 1)

-- so it is of each rebuild at a server that there is, by a code with parity
abbrev pub RebuildsAreServed : Type 0
RebuildsAreServed =
    (g : Shape) (max tries : ℕ) (stands : List ℕ) (p : Places) (s : State) (who : Actor) (number : ℕ) (call : RebuildCall) →
    0 < stripe_length g → 0 < g.parity_count → call.server < chunk_count g → IsSeenAs g max stands p s → MayBegin p.directory who number → IsOfRepairer who (note_of_rebuild call) →
    IsRebuiltAs g max tries who number call stands p s (rebuild g call.stripe call.server s (numbers_of call.name s.numbers))
