-- A heal: rebuilds that run alone, one after another.
use Rattle.std.specs.Prelude.{◌≡◌, ◌<◌, ◌+◌, ℕ, List, [], ◌∷◌, length, take, IsTrue}
use Rattle.clay_grid.specs.Shape.{Shape, stripe_length}
use Rattle.store_map.specs.declared.actor.Actor.{Actor}
use Rattle.store_map.specs.declared.actor.Actor.TheVariants as actor
use Rattle.store_map.specs.declared.call.Rebuild.{Rebuild as RebuildCall}
use Rattle.store_core.specs.Act.{Outcome}
use Rattle.store_core.specs.NextAct.{rebuild_job}
use Rattle.store_core.specs.Conditions.{MayBegin}
use Rattle.store_core.specs.Step.{Places}
use Rattle.session_rules.specs.State.{State}
use Rattle.session_rules.specs.declared.session_answer.LostChunk.{LostChunk}
use Rattle.session_rules.specs.Heals.{to_heal, heal_all, numbers_last, heal}
use Rattle.session_rules.specs.Alone.{EndsAs}
use Rattle.session_rules.specs.Seen.{IsSeenAs, IsQuiet}
use Rattle.session_rules.specs.Sweeps.{KeepsPinned}

-- the call that makes a lost chunk anew
abbrev pub rebuild_of : LostChunk → RebuildCall
rebuild_of chunk = record { name = chunk.name; stripe = chunk.stripe; server = chunk.server }

-- some chunks are made anew one after another, by an actor's calls that run alone, with numbers from this one on
abbrev pub AreRebuilt : Shape → ℕ → Actor → ℕ → List LostChunk → Places → Places → Type 0
AreRebuilt g tries who number [] before after = before ≡ after
AreRebuilt g tries who number (chunk ∷ chunks) before after =
    (between : Places) × EndsAs g tries who number (rebuild_job (rebuild_of chunk)) before Outcome.Rebuilt between × AreRebuilt g tries who (number + 1) chunks between after

-- the state in which the first so many chunks of a heal were made anew, and the seat has used a number for each
abbrev pub healed_by : Shape → ℕ → State → State
healed_by g count s =
    let chunks : List LostChunk = take count (to_heal g s) in record ((heal_all g chunks s).0) { next = s.next + length chunks }

-- a repairer has made the first so many chunks of a heal anew, with numbers from the state's next one on: the places are seen as the state then, quiet places stay quiet, and the repairer may begin its next call
pub record IsHealedAs (g : Shape) (max tries : ℕ) (seat count : ℕ) (stands : List ℕ) (p : Places) (s : State) : Type 0 where
  pub after : Places
  pub rebuilt : AreRebuilt g tries (actor.Repairer seat) s.next (take count (to_heal g s)) p after
  pub seen : IsSeenAs g max stands after (healed_by g count s)
  pub quiet : IsQuiet stands p s → IsQuiet stands after (healed_by g count s)
  pub pinned : KeepsPinned stands p s → KeepsPinned stands after (healed_by g count s)
  pub next : MayBegin after.directory (actor.Repairer seat) (healed_by g count s).next

-- so it is of any first few of them; a session's heal, where its numbers last, has made them all
pub record HealsAreServed : Type 0 where
  pub begun :
      (g : Shape) (max tries : ℕ) (seat count : ℕ) (stands : List ℕ) (p : Places) (s : State) →
      0 < stripe_length g → 0 < g.parity_count → IsSeenAs g max stands p s → MayBegin p.directory (actor.Repairer seat) s.next → IsHealedAs g max tries seat count stands p s
  pub ended : (g : Shape) (s : State) → IsTrue (numbers_last g s) → (heal g s).0 ≡ healed_by g (length (to_heal g s)) s
