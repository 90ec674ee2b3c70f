-- Lost chunks that are made anew one after another.
use Rattle.std.specs.Prelude.{◌≡◌, ◌⊎◌, ℕ, ◌+◌, ◌-◌, ◌<◌, ◌^◌, Bool, true, false, min, List, [], ◌∷◌, length, map, take, replicate, Option, None, Some, All, Result, Ok, Err}
use Rattle.std.specs.List.{slice_get}
use Rattle.std.specs.declared.alloc.AllocError.{AllocError}
use Rattle.clay_grid.specs.Shape.{Shape, chunk_count}
use Rattle.clay_grid.specs.Limits.{IsGeometry}
use Rattle.store_map.specs.declared.actor.Actor.{Actor}
use Rattle.store_map.specs.declared.actor.Actor.TheVariants as actor
use Rattle.store_map.specs.declared.call.Rebuild.{Rebuild as RebuildCall}
use Rattle.store_core.specs.Act.{Outcome}
use Rattle.store_core.specs.Agreement.{ActorToken, Agrees}
use Rattle.store_core.specs.Calls.{Calls}
use Rattle.store_core.specs.Lookups.{same_actor}
use Rattle.store_core.specs.NextAct.{rebuild_job}
use Rattle.store_core.specs.Step.{Shortage, Places as CorePlaces}
use Rattle.store_core.specs.Tokens.{actor_of}
use Rattle.run_laws.specs.State.{first_state}
use Rattle.run_laws.specs.Contents.{HasBytes}
use Rattle.run_laws.specs.MoreCalls.{AreDrawnBy}
use Rattle.stripe_stamps.specs.Sealed.{Sealed}
use Rattle.stripe_stamps.specs.Stamped.{HaveContents}
use Rattle.call_steps.specs.CallOf.{tries_by, taken_of}
use Rattle.session_rules.specs.declared.session_answer.Answer.{Answer}
use Rattle.session_rules.specs.Takes.{added}
use Rattle.session_rules.specs.Seats.{ran, HasEnded}
use Rattle.session_rules.specs.Answering.{took}
use Rattle.session_store.specs.declared.session_parts.Parts.{Parts}
use Rattle.session_store.specs.Kept.{HasSeat}
use Rattle.session_store.specs.Places.{ArePlaces, AreSame, seen_in}
use Rattle.session_store.specs.Sweeping.{HasSwept}

-- a count stays at the last value of 64 bits
abbrev pub low : ℕ → ℕ
low count = min count (2 ^ 64 - 1)

abbrev pub added_low : List ℕ → List ℕ → List ℕ
added_low so_far takes = map low (added so_far takes)

-- what a rebuild took is added, where it took something
abbrev pub added_if : Option (List ℕ) → List ℕ → List ℕ
added_if None so_far = so_far
added_if (Some takes) so_far = added_low so_far takes

-- ---- what rebuilds keep
-- by these calls a directory has the bytes of the map, and its stamps the contents of its versions
pub record HoldsBytes (calls : Calls) (d : Sealed) : Type 0 where
  pub bytes : HasBytes calls d.core
  pub drawn : AreDrawnBy calls d.core
  pub contents : HaveContents calls d

-- the healer may make chunks anew
pub record MayHeal (parts : Parts) : Type 0 where
  pub code : IsGeometry parts.places.book.geometry
  pub places : ArePlaces parts.places
  pub healer : HasSeat parts.places.directory.core (actor.Repairer 1) parts.next parts.healer
  pub calls : Calls
  pub holds : HoldsBytes calls parts.places.directory

-- the places stay of the same book, and the directory agrees with the tickets of all but the healer with which it agreed
pub record KeepsOthers (old now : Parts) : Type 0 where
  pub may : MayHeal now
  pub same : AreSame old.places now.places
  pub most : now.places.directory.core.max ≡ old.places.directory.core.max
  pub others :
      (token : ActorToken) → same_actor (actor.Repairer 1) (actor_of token) ≡ false → Agrees old.places.directory.core token →
      Agrees now.places.directory.core token
  pub holds : (calls : Calls) → HoldsBytes calls old.places.directory → HoldsBytes calls now.places.directory
  pub rest : now ≡ record old { places = now.places; healer = now.healer; next = now.next }

-- ---- one rebuild
abbrev pub is_rebuilt : Outcome → Bool
is_rebuilt Outcome.Rebuilt = true
is_rebuilt outcome = false

-- it has run alone to its end, and what it took was added
pub record HasHealedOne (old : Parts) (chunk : RebuildCall) (taken : List ℕ) (is_made : Bool) (now : Parts) (total : List ℕ) : Type 0 where
  pub keeps : KeepsOthers old now
  pub next : now.next ≡ old.next + 1
  pub shortages : List Shortage
  pub outcome : Outcome
  pub over :
      HasEnded old.places.book.geometry (tries_by old.places.book.script) (actor.Repairer 1) old.next (rebuild_job chunk) shortages
      (seen_in old.places) outcome
  pub leaves :
      (ran old.places.book.geometry (tries_by old.places.book.script) (actor.Repairer 1) old.next (rebuild_job chunk) shortages
      (seen_in old.places)).places ≡ seen_in now.places
  pub told : is_made ≡ is_rebuilt outcome
  pub takes :
      total
      ≡ added_if
      (taken_of
      (took old.places.book.geometry (tries_by old.places.book.script) (actor.Repairer 1) old.next (rebuild_job chunk) shortages
      (record { call = first_state; places = seen_in old.places }) (replicate (chunk_count old.places.book.geometry) 0))) taken

-- ---- one after another
-- some chunks were made anew with numbers from this one on, and what this took leads from the one count to the other
abbrev pub AreMade : Shape → ℕ → Actor → ℕ → List RebuildCall → CorePlaces → List ℕ → CorePlaces → List ℕ → Type 0
AreMade g tries who number [] before taken after total = (before ≡ after) × (taken ≡ total)
AreMade g tries who number (chunk ∷ chunks) before taken after total =
    (shortages : List Shortage) × HasEnded g tries who number (rebuild_job chunk) shortages before Outcome.Rebuilt
    × AreMade g tries who (number + 1) chunks (ran g tries who number (rebuild_job chunk) shortages before).places
    (added_if
    (taken_of (took g tries who number (rebuild_job chunk) shortages (record { call = first_state; places = before }) (replicate (chunk_count g) 0)))
    taken) after total

pub record HasMade (old : Parts) (chunks : List RebuildCall) (taken : List ℕ) (now : Parts) (total : List ℕ) : Type 0 where
  pub keeps : KeepsOthers old now
  pub next : now.next ≡ old.next + length chunks
  pub count : length total ≡ length taken
  pub made :
      AreMade old.places.book.geometry (tries_by old.places.book.script) (actor.Repairer 1) old.next chunks (seen_in old.places) taken
      (seen_in now.places) total

-- the first so many were made, and the next one's rebuild ended otherwise
pub record IsCutOffAt (old : Parts) (chunks : List RebuildCall) (taken : List ℕ) (now : Parts) : Type 0 where
  pub made : ℕ
  pub left : Parts
  pub so_far : List ℕ
  pub chunk : RebuildCall
  pub there : slice_get chunks made ≡ Some chunk
  pub before : HasMade old (take made chunks) taken left so_far
  pub total : List ℕ
  pub last : HasHealedOne left chunk so_far false now total
  pub keeps : KeepsOthers old now

-- all of them were made anew or not
abbrev pub HasHealed : Parts → List RebuildCall → List ℕ → Bool → Parts → List ℕ → Type 0
HasHealed old chunks taken true now total = HasMade old chunks taken now total
HasHealed old chunks taken false now total = IsCutOffAt old chunks taken now

-- these are chunks of the servers
abbrev pub AreOfServers : Parts → List RebuildCall → Type 0
AreOfServers parts chunks = All (λ chunk. chunk.server < chunk_count parts.places.book.geometry) chunks

-- the answer, where the sweeper follows on a rebuild that ended otherwise
pub record HasCut (old : Parts) (chunks : List RebuildCall) (taken : List ℕ) (answer : Answer) (now : Parts) : Type 0 where
  pub left : Parts
  pub cut : IsCutOffAt old chunks taken left
  pub swept : HasSwept left.places now.places
  pub rest : now ≡ record left { places = now.places }
  pub wanting : answer ≡ Answer.NoMemory

pub record HasAnswered (old : Parts) (chunks : List RebuildCall) (taken : List ℕ) (answer : Answer) (now : Parts) : Type 0 where
  pub total : List ℕ
  pub made : HasMade old chunks taken now total
  pub answers : answer ≡ Answer.Healed (length chunks) total

abbrev pub HealsWith : Parts → List RebuildCall → List ℕ → Answer → Parts → Type 0
HealsWith old chunks taken answer now = HasAnswered old chunks taken answer now ⊎ HasCut old chunks taken answer now

-- the same after memory for its chunks and its counts was taken, or nothing was done
abbrev pub HealsLost : Parts → List RebuildCall → Result Answer AllocError → Parts → Type 0
HealsLost old chunks (Ok answer) now = HealsWith old chunks (replicate (chunk_count old.places.book.geometry) 0) answer now
HealsLost old chunks (Err error) now = now ≡ old
