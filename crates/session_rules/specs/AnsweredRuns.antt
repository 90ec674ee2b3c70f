-- Requests of a session one after another, in each of which memory may be wanting.
use Rattle.std.specs.Prelude.{◌≡◌, ◌⊎◌, ℕ, ◌<◌, List, [], ◌∷◌, length, take, Option, None, Some}
use Rattle.clay_grid.specs.Shape.{Shape, stripe_length}
use Rattle.clay_grid.specs.Limits.{IsGeometry}
use Rattle.store_map.specs.Laws.{names_of}
use Rattle.store_map.specs.declared.actor.Actor.TheVariants as actor
use Rattle.store_map.specs.declared.call.Rebuild.{Rebuild as RebuildCall}
use Rattle.store_core.specs.Act.{Outcome}
use Rattle.store_core.specs.NextAct.{job_of, rebuild_job}
use Rattle.store_core.specs.Calls.{Calls}
use Rattle.store_core.specs.Step.{Shortage, Places}
use Rattle.session_rules.specs.State.{Snapshot, State}
use Rattle.session_rules.specs.declared.request.Request.{Request}
use Rattle.session_rules.specs.declared.session_answer.Answer.{Answer}
use Rattle.session_rules.specs.Serve.{serve}
use Rattle.session_rules.specs.Snapshots.{snap}
use Rattle.session_rules.specs.Shortages.{IsServed}
use Rattle.session_rules.specs.Between.{Seats, seats_after, IsBetween}
use Rattle.session_rules.specs.Reading.{begun, reading_steps}
use Rattle.session_rules.specs.AloneSnapshots.{look_all, end_all, kept_parts}
use Rattle.session_rules.specs.Serving.{IsServedBy, MayBeAsked}
use Rattle.session_rules.specs.Runs.{seats_after_all}
use Rattle.session_rules.specs.Answering.{RunsTo, IsCutOff}

-- where a snapshot would be taken the first so many looks were made, and their passes were ended; elsewhere nothing was done
abbrev pub IsSnapCut : Seats → State → Answer → Places → Places → Type 0
IsSnapCut seats s (Answer.Replied answer) before after =
    (made : ℕ)
    × (let names : List (List ℕ) = take made (names_of s.objects) in
    after ≡ end_all seats.looks (take (length names) seats.readers) (look_all seats.looks seats.readers names before))
IsSnapCut seats s answer before after = after ≡ before

-- a read of the snapshot that is open made some steps, wherever memory was wanting
abbrev pub IsReadCut : Shape → List ℕ → List ℕ → ℕ → ℕ → Option Snapshot → Places → Places → Type 0
IsReadCut g readers name offset count None before after = after ≡ before
IsReadCut g readers name offset count (Some kept) before after =
    (shortages : List Shortage)
    × (after ≡ (reading_steps g shortages (begun g (kept_parts g readers before.directory kept name offset count) before)).places)

-- a request for which memory was wanting, and the state that it leaves: its call ended so, a heal was cut off, the passes of a snapshot's looks were
-- ended again, a read of a snapshot was cut off, or nothing was done; a loss and the drop of a snapshot allocate nothing
abbrev pub IsCutBy : Shape → ℕ → Seats → State → Request → Places → State → Places → Type 0
IsCutBy g tries seats s (Request.OfMap call) before now after =
    (now ≡ s) × RunsTo g tries (actor.Client seats.client) seats.calls (job_of call) before Outcome.NoMemory after
IsCutBy g tries seats s (Request.Rebuild name stripe server) before now after =
    let call : RebuildCall = record { name = name; stripe = stripe; server = server } in
    (now ≡ s) × RunsTo g tries (actor.Repairer seats.repairer) seats.rebuilds (rebuild_job call) before Outcome.NoMemory after
IsCutBy g tries seats s Request.Heal before now after = IsCutOff g tries seats s before now after
IsCutBy g tries seats s Request.Scrub before now after = (now ≡ s) × (after ≡ before)
IsCutBy g tries seats s (Request.Lose server) before now after = ⊥
IsCutBy g tries seats s Request.Snap before now after = (now ≡ s) × IsSnapCut seats s (snap s.snapshot s).1 before after
IsCutBy g tries seats s (Request.SnapRead name offset count) before now after =
    (now ≡ s) × IsReadCut g seats.readers name offset count s.snapshot before after
IsCutBy g tries seats s Request.SnapDrop before now after = ⊥

-- a request is served with ample memory, or memory was wanting; the state after it, and the answer
abbrev pub IsAnsweredBy : Calls → Shape → ℕ → ℕ → Seats → State → Request → Places → State × Answer → Places → Type 0
IsAnsweredBy calls g max tries seats s request before served after =
    ((served ≡ serve g max request s) × IsServedBy calls g max tries seats s request before served.1 after)
    ⊎ ((served.1 ≡ Answer.NoMemory) × IsCutBy g tries seats s request before served.0 after)

-- each of some requests may be asked in its turn, and is answered so, from the places and the state that the one before it left
abbrev pub AreAnsweredBy : Calls → Shape → ℕ → ℕ → Seats → State → List Request → Places → List Answer → State → Places → Type 0
AreAnsweredBy calls g max tries seats s [] before answers now after = (answers ≡ []) × (now ≡ s) × (after ≡ before)
AreAnsweredBy calls g max tries seats s (request ∷ requests) before [] now after = ⊥
AreAnsweredBy calls g max tries seats s (request ∷ requests) before (answer ∷ answers) now after =
    (next : State) × (between : Places) × MayBeAsked calls g seats s request
    × IsAnsweredBy calls g max tries seats s request before (next, answer) between
    × AreAnsweredBy calls g max tries (seats_after request seats) next requests between answers now after

-- the answers that a session may give, and the state that it comes to
abbrev pub MayBeAnswers : Shape → ℕ → State → List Request → List Answer → State → Type 0
MayBeAnswers g max s [] answers now = (answers ≡ []) × (now ≡ s)
MayBeAnswers g max s (request ∷ requests) [] now = ⊥
MayBeAnswers g max s (request ∷ requests) (answer ∷ answers) now =
    (next : State) × IsServed g max request s (next, answer) × MayBeAnswers g max next requests answers now

-- the answers to any list of requests are a session's, and the places are between requests again
abbrev pub RunsAreAnswered : Type 0
RunsAreAnswered =
    (calls : Calls) (g : Shape) (max tries : ℕ) (seats : Seats) (stands : List ℕ) (p after : Places) (s now : State)
    (requests : List Request) (answers : List Answer) → 0 < stripe_length g → IsGeometry g → 0 < tries →
    IsBetween calls g max seats stands p s → AreAnsweredBy calls g max tries seats s requests p answers now after →
    MayBeAnswers g max s requests answers now × ((stood : List ℕ) × IsBetween calls g max (seats_after_all seats requests) stood after now)
