-- Requests in which memory may be wanting: each is served as the session answers, or is answered that memory was wanting.
use Rattle.std.specs.Prelude.{◌≡◌, ◌⊎◌, ℕ, ◌+◌, ◌<◌, List, [], ◌∷◌, length, take, replicate, Some, IsTrue}
use Rattle.std.specs.List.{slice_get}
use Rattle.clay_grid.specs.Shape.{Shape, chunk_count, stripe_length}
use Rattle.clay_grid.specs.Limits.{IsGeometry}
use Rattle.store_map.specs.declared.actor.Actor.{Actor}
use Rattle.store_map.specs.declared.actor.Actor.TheVariants as actor
use Rattle.store_map.specs.declared.call.Call.{Call}
use Rattle.store_map.specs.declared.call.Rebuild.{Rebuild as RebuildCall}
use Rattle.store_core.specs.Act.{Act, Outcome}
use Rattle.store_core.specs.NextAct.{Job, job_of, rebuild_job}
use Rattle.store_core.specs.Calls.{Calls}
use Rattle.store_core.specs.Step.{Shortage, Places, at_places, take_from}
use Rattle.run_laws.specs.State.{State as CallAt, CallState, first_state}
use Rattle.run_laws.specs.StateActs.{act_of_state}
use Rattle.session_rules.specs.State.{Snapshot, State}
use Rattle.session_rules.specs.declared.request.Request.{Request}
use Rattle.session_rules.specs.declared.session_answer.LostChunk.{LostChunk}
use Rattle.session_rules.specs.declared.session_answer.Answer.{Answer}
use Rattle.session_rules.specs.Heals.{to_heal, numbers_last}
use Rattle.session_rules.specs.Serve.{serve}
use Rattle.session_rules.specs.Shortages.{IsServed}
use Rattle.session_rules.specs.Alone.{AtWork}
use Rattle.session_rules.specs.AloneHeals.{rebuild_of, healed_by}
use Rattle.session_rules.specs.Takes.{added}
use Rattle.session_rules.specs.Wants.{after_coding, wanting_step}
use Rattle.session_rules.specs.Outcomes.{outcome_at}
use Rattle.session_rules.specs.AloneRebuilds.{rebuilt_as}
use Rattle.session_rules.specs.Seats.{ran, HasEnded}
use Rattle.session_rules.specs.Between.{Seats, seats_after, IsBetween}
use Rattle.session_rules.specs.Reading.{begun, reading_steps}
use Rattle.session_rules.specs.AloneSnapshots.{kept_parts, gathered_as}
use Rattle.session_rules.specs.Serving.{AreSweptTo}

-- an actor's call runs alone to this outcome, wherever memory is wanting, and the sweeper after it to its end
pub record RunsTo (g : Shape) (tries : ℕ) (who : Actor) (number : ℕ) (job : Job) (before : Places) (outcome : Outcome) (after : Places) :
    Type 0 where
  pub shortages : List Shortage
  pub over : HasEnded g tries who number job shortages before outcome
  pub swept : AreSweptTo g (ran g tries who number job shortages before).places after

-- a request was answered as a session may, and the places are between requests again
pub record IsAnswered (calls : Calls) (g : Shape) (max : ℕ) (seats : Seats) (s : State) (request : Request) (after : Places) : Type 0 where
  pub served : State × Answer
  pub allowed : IsServed g max request s served
  pub stands : List ℕ
  pub between : IsBetween calls g max (seats_after request seats) stands after served.0

-- so it is of each call of the map, with a try at least, to whatever outcome it runs: that stands for the answer
abbrev pub CallsAreAnswered : Type 0
CallsAreAnswered =
    (calls : Calls) (g : Shape) (max tries : ℕ) (seats : Seats) (stands : List ℕ) (p after : Places) (s : State) (call : Call)
    (outcome : Outcome) → 0 < stripe_length g → 0 < tries → IsBetween calls g max seats stands p s →
    calls (actor.Client seats.client) seats.calls ≡ Some call →
    RunsTo g tries (actor.Client seats.client) seats.calls (job_of call) p outcome after →
    (answered : IsAnswered calls g max seats s (Request.OfMap call) after) × (outcome ≡ outcome_at (length p.directory.points) answered.served.1)

-- and of each rebuild at a server that there is, by a code with parity
abbrev pub RebuildsAreAnswered : Type 0
RebuildsAreAnswered =
    (calls : Calls) (g : Shape) (max tries : ℕ) (seats : Seats) (stands : List ℕ) (p after : Places) (s : State) (name : List ℕ)
    (stripe server : ℕ) (outcome : Outcome) → 0 < stripe_length g → 0 < g.parity_count → server < chunk_count g →
    IsBetween calls g max seats stands p s →
    (let call : RebuildCall = record { name = name; stripe = stripe; server = server } in
    RunsTo g tries (actor.Repairer seats.repairer) seats.rebuilds (rebuild_job call) p outcome after) →
    (answered : IsAnswered calls g max seats s (Request.Rebuild name stripe server) after) × (outcome ≡ rebuilt_as answered.served.1)

-- some chunks are made anew one after another, wherever memory is wanting, by an actor's calls with numbers from this one on
abbrev pub AreMadeAnew : Shape → ℕ → Actor → ℕ → List LostChunk → Places → Places → Type 0
AreMadeAnew g tries who number [] before after = before ≡ after
AreMadeAnew g tries who number (chunk ∷ chunks) before after =
    (shortages : List Shortage) × HasEnded g tries who number (rebuild_job (rebuild_of chunk)) shortages before Outcome.Rebuilt
    × AreMadeAnew g tries who (number + 1) chunks (ran g tries who number (rebuild_job (rebuild_of chunk)) shortages before).places after

-- a heal is cut off, and leaves this state: none of its chunks or the first few and not all were made anew, and perhaps the next one's rebuild ended for want of memory, and
-- has used its number
pub record IsCutOff (g : Shape) (tries : ℕ) (seats : Seats) (s : State) (before : Places) (now : State) (after : Places) : Type 0 where
  pub lasts : IsTrue (numbers_last g s)
  pub made : ℕ
  pub few : (made ≡ 0) ⊎ (made < length (to_heal g s))
  pub left : Places
  pub rebuilt : AreMadeAnew g tries (actor.Repairer seats.healer) s.next (take made (to_heal g s)) before left
  pub last :
      ((after ≡ left) × (now ≡ healed_by g made s))
      ⊎ ((chunk : LostChunk) × (slice_get (to_heal g s) made ≡ Some chunk)
      × RunsTo g tries (actor.Repairer seats.healer) (s.next + made) (rebuild_job (rebuild_of chunk)) left Outcome.NoMemory after
      × (now ≡ record (healed_by g made s) { next = s.next + made + 1 }))

-- so it is of a heal that is cut off
abbrev pub HealsAreAnswered : Type 0
HealsAreAnswered =
    (calls : Calls) (g : Shape) (max tries : ℕ) (seats : Seats) (stands : List ℕ) (p after : Places) (s now : State) →
    0 < stripe_length g → 0 < g.parity_count → IsBetween calls g max seats stands p s → IsCutOff g tries seats s p now after →
    (answered : IsAnswered calls g max seats s Request.Heal after) × (answered.served ≡ (now, Answer.NoMemory))

-- and of one in which memory was wanting, but which made each chunk anew: it is served
abbrev pub HealsAreMade : Type 0
HealsAreMade =
    (calls : Calls) (g : Shape) (max tries : ℕ) (seats : Seats) (stands : List ℕ) (p after : Places) (s : State) →
    0 < stripe_length g → IsGeometry g → IsBetween calls g max seats stands p s → IsTrue (numbers_last g s) →
    AreMadeAnew g tries (actor.Repairer seats.healer) s.next (to_heal g s) p after →
    (answered : IsAnswered calls g max seats s Request.Heal after) × (answered.served ≡ serve g max Request.Heal s)

-- a read of the snapshot that is open gathers alone to this outcome, wherever memory is wanting
pub record ReadsTo (g : Shape) (readers : List ℕ) (kept : Snapshot) (name : List ℕ) (offset count : ℕ) (before : Places) (outcome : Outcome)
    (after : Places) : Type 0 where
  pub shortages : List Shortage
  pub ends :
      reading_steps g shortages (begun g (kept_parts g readers before.directory kept name offset count) before)
      ≡ record { call = record { pairs = []; at = CallAt.Ending outcome }; places = after }

-- so it is of each such read
abbrev pub SnapReadsAreAnswered : Type 0
SnapReadsAreAnswered =
    (calls : Calls) (g : Shape) (max : ℕ) (seats : Seats) (stands : List ℕ) (p after : Places) (s : State) (kept : Snapshot) (name : List ℕ)
    (offset count : ℕ) (outcome : Outcome) → 0 < stripe_length g → IsBetween calls g max seats stands p s → s.snapshot ≡ Some kept →
    ReadsTo g seats.readers kept name offset count p outcome after →
    (answered : IsAnswered calls g max seats s (Request.SnapRead name offset count) after) × (outcome ≡ gathered_as answered.served.1)

-- the subchunks taken from each server in a call's steps, wherever memory is wanting
module _ (g : Shape) (tries : ℕ) (who : Actor) (number : ℕ) (job : Job) where
  abbrev pub took : List Shortage → AtWork → List ℕ → List ℕ
  took [] w takes = takes
  took (shortage ∷ shortages) w takes =
      let call : CallState = after_coding g tries who number job shortage.coding w.call in
      let act : Act = act_of_state g tries job call in
      took shortages (wanting_step g tries who number job shortage w) (take_from act (at_places shortage.step who number act w.places).1 takes)

-- some chunks are made anew so, and what this takes leads from the one count to the other
abbrev pub AreTakenAnew : Shape → ℕ → Actor → ℕ → List LostChunk → Places → List ℕ → List ℕ → Type 0
AreTakenAnew g tries who number [] before so_far total = so_far ≡ total
AreTakenAnew g tries who number (chunk ∷ chunks) before so_far total =
    (shortages : List Shortage) × HasEnded g tries who number (rebuild_job (rebuild_of chunk)) shortages before Outcome.Rebuilt
    × AreTakenAnew g tries who (number + 1) chunks (ran g tries who number (rebuild_job (rebuild_of chunk)) shortages before).places
    (added so_far
    (took g tries who number (rebuild_job (rebuild_of chunk)) shortages (record { call = first_state; places = before })
    (replicate (chunk_count g) 0))) total

-- a heal that has made each chunk anew, wherever memory was wanting, has taken what the session answers
abbrev pub HealsTakeAnew : Type 0
HealsTakeAnew =
    (calls : Calls) (g : Shape) (max tries : ℕ) (seats : Seats) (stands : List ℕ) (p : Places) (s : State) (total : List ℕ) →
    0 < stripe_length g → IsGeometry g → IsBetween calls g max seats stands p s → IsTrue (numbers_last g s) →
    AreTakenAnew g tries (actor.Repairer seats.healer) s.next (to_heal g s) p (replicate (chunk_count g) 0) total →
    (serve g max Request.Heal s).1 ≡ Answer.Healed (length (to_heal g s)) total
