-- What a call that runs alone takes from each server.
use Rattle.std.specs.Prelude.{◌≡◌, ◌<◌, ◌+◌, ℕ, zero, suc, false, List, [], ◌∷◌, map, zip, take, replicate}
use Rattle.clay_grid.specs.Shape.{Shape, chunk_count, stripe_length}
use Rattle.clay_grid.specs.Limits.{IsGeometry}
use Rattle.store_map.specs.declared.actor.Actor.{Actor}
use Rattle.store_map.specs.declared.actor.Actor.TheVariants as actor
use Rattle.store_map.specs.declared.call.Rebuild.{Rebuild as RebuildCall}
use Rattle.store_core.specs.Note.{note_of_rebuild}
use Rattle.store_core.specs.Act.{Act, Outcome}
use Rattle.store_core.specs.NextAct.{Job, rebuild_job}
use Rattle.store_core.specs.Conditions.{MayBegin, IsOfRepairer}
use Rattle.store_core.specs.Step.{Places, at_places, take_from}
use Rattle.run_laws.specs.State.{first_state}
use Rattle.run_laws.specs.StateActs.{act_of_state}
use Rattle.session_rules.specs.State.{State, numbers_of, stripe_at}
use Rattle.session_rules.specs.declared.session_answer.LostChunk.{LostChunk}
use Rattle.session_rules.specs.declared.session_answer.Answer.{Answer}
use Rattle.session_rules.specs.Rebuilds.{rebuild}
use Rattle.session_rules.specs.Heals.{takes_of, to_heal, heal_all}
use Rattle.session_rules.specs.Alone.{AtWork, step, steps, EndsAs}
use Rattle.session_rules.specs.Seen.{IsSeenAs}
use Rattle.session_rules.specs.AloneHeals.{rebuild_of}

-- of a call with this number, by this actor, with so many tries
module _ (g : Shape) (tries : ℕ) (who : Actor) (number : ℕ) (job : Job) where
  -- the subchunks taken from each server, after a step by its act
  abbrev pub taken_by : Act → AtWork → List ℕ → List ℕ
  taken_by act w takes = take_from act (at_places false who number act w.places).1 takes

  -- after so many steps
  abbrev pub takes_in : ℕ → AtWork → List ℕ → List ℕ
  takes_in zero w takes = takes
  takes_in (suc n) w takes = takes_in n (step g tries who number job w) (taken_by (act_of_state g tries job w.call) w takes)

-- a rebuild that ran alone to its end and made its chunk has taken from each server what the session says of its stripe
abbrev pub RebuildsAreTaken : Type 0
RebuildsAreTaken =
    (g : Shape) (max tries : ℕ) (stands : List ℕ) (p : Places) (s : State) (who : Actor) (number : ℕ) (call : RebuildCall) (made : ℕ) (outcome : Outcome) →
    0 < stripe_length g → IsGeometry g → IsSeenAs g max stands p s → MayBegin p.directory who number → IsOfRepairer who (note_of_rebuild call) → call.server < chunk_count g →
    (rebuild g call.stripe call.server s (numbers_of call.name s.numbers)).1 ≡ Answer.Rebuilt →
    act_of_state g tries (rebuild_job call) (steps g tries who number (rebuild_job call) made (record { call = first_state; places = p })).call ≡ Act.Finish outcome →
    takes_in g tries who number (rebuild_job call) made (record { call = first_state; places = p }) (replicate (chunk_count g) 0)
    ≡ takes_of g (stripe_at s.stripes (numbers_of call.name s.numbers) call.stripe) call.server

-- counts and what was taken beside them
abbrev pub added : List ℕ → List ℕ → List ℕ
added so_far takes = map (λ pair. pair.0 + pair.1) (zip so_far takes)

-- some chunks are made anew one after another, by an actor's calls that run alone, and what these take leads from the one count to the other
abbrev pub AreTaken : Shape → ℕ → Actor → ℕ → List LostChunk → Places → List ℕ → List ℕ → Type 0
AreTaken g tries who number [] before so_far total = so_far ≡ total
AreTaken g tries who number (chunk ∷ chunks) before so_far total =
    (between : Places) × (ends : EndsAs g tries who number (rebuild_job (rebuild_of chunk)) before Outcome.Rebuilt between)
    × AreTaken g tries who (number + 1) chunks between
    (added so_far (takes_in g tries who number (rebuild_job (rebuild_of chunk)) ends.made (record { call = first_state; places = before }) (replicate (chunk_count g) 0))) total

-- so the first so many chunks of a heal take what the session says
abbrev pub HealsAreTaken : Type 0
HealsAreTaken =
    (g : Shape) (max tries seat count : ℕ) (stands : List ℕ) (p : Places) (s : State) →
    0 < stripe_length g → IsGeometry g → IsSeenAs g max stands p s → MayBegin p.directory (actor.Repairer seat) s.next →
    AreTaken g tries (actor.Repairer seat) s.next (take count (to_heal g s)) p (replicate (chunk_count g) 0) (heal_all g (take count (to_heal g s)) s).1
