-- Each outcome has its cause among what the call was told.
use Rattle.std.specs.Prelude.{◌≡◌, ℕ, ◌+◌, ◌<◌, ◌≤◌, ◌⊎◌, List, [], ◌∷◌, length, map, ⊤}
use Rattle.clay_grid.specs.Shape.{Shape}
use Rattle.store_map.specs.declared.placement.Found.TheVariants as found
use Rattle.store_map.specs.declared.reply.Reply.{Reply}
use Rattle.store_map.specs.declared.reply.Reply.TheVariants as reply
use Rattle.store_core.specs.Told.{Told}
use Rattle.store_core.specs.Note.{Note}
use Rattle.store_core.specs.Act.{Act, Outcome}
use Rattle.store_core.specs.NextAct.{Job, next_act}
use Rattle.store_core.specs.Write.{next_write}
use Rattle.run_laws.specs.GatherLaws.{Tells}

-- an answer of the map at a point, or a commit there
abbrev pub Replies : ℕ → Reply → Told → Type 0
Replies point given (Told.Answer at answer) = (at ≡ point) × (answer ≡ given)
Replies point given (Told.Done at) = (at ≡ point) × (given ≡ reply.Done)
Replies point given _ = ⊥

-- pins at a point
abbrev pub PinsAt : ℕ → Told → Type 0
PinsAt point (Told.Pinned at length stripes) = at ≡ point
PinsAt point _ = ⊥

-- a chunk was placed
abbrev pub IsPlacement : Told → Type 0
IsPlacement (Told.Placed epoch) = ⊤
IsPlacement _ = ⊥

-- a rebuild's look was answered by a stripe, and the target, which is asked first, has its chunk
abbrev pub TargetHasIt : List Told → Type 0
TargetHasIt (Told.PinnedStripe seen ∷ Told.Here ∷ told) = ⊤
TargetHasIt _ = ⊥

-- a rebuild's look was answered by a stripe, and the target, which is asked first, was away
abbrev pub TargetIsAway : ℕ → List Told → Type 0
TargetIsAway downs (Told.PinnedStripe seen ∷ Told.Missing given ∷ told) = given ≡ found.Away downs
TargetIsAway downs _ = ⊥

-- it was away when it was asked, or when the chunk came
abbrev pub IsToldAway : ℕ → List Told → Type 0
IsToldAway downs told = TargetIsAway downs told ⊎ Tells (λ answer. answer ≡ Told.Away downs) told

-- the pairs of the commits that found the object changed, in order
abbrev pub changes_of : List Told → List (ℕ × ℕ)
changes_of [] = []
changes_of (Told.Changed base newer ∷ told) = (base, newer) ∷ changes_of told
changes_of (_ ∷ told) = changes_of told

-- by the parity chunks and the tries
abbrev pub HasCause : Shape → ℕ → Outcome → List Told → Type 0
HasCause g tries (Outcome.Answered point given) told = Tells (Replies point given) told
HasCause g tries (Outcome.Served point) told = Tells (PinsAt point) told × Tells (λ answer. answer ≡ Told.Ended) told
HasCause g tries Outcome.Rebuilt told = Tells IsPlacement told × Tells (λ answer. answer ≡ Told.Ended) told
HasCause g tries Outcome.Here told = (TargetHasIt told ⊎ Tells (λ answer. answer ≡ Told.AlreadyThere) told) × Tells (λ answer. answer ≡ Told.Ended) told
HasCause g tries (Outcome.Away downs) told = IsToldAway downs told × Tells (λ answer. answer ≡ Told.Ended) told
HasCause g tries Outcome.NoSuch told = Tells (λ answer. answer ≡ Told.NoSuch) told
HasCause g tries (Outcome.Superseded newer) told = Tells (λ answer. answer ≡ Told.Superseded newer) told
HasCause g tries (Outcome.Unavailable stripe missing) told = (length missing ≡ g.parity_count + 1) × Tells (λ answer. answer ≡ Told.Ended) told
HasCause g tries (Outcome.Contended pairs) told = (pairs ≡ changes_of told) × (tries ≤ length pairs)
HasCause g tries (Outcome.Reaped point) told = Tells (λ answer. answer ≡ Told.Reaped point) told
HasCause g tries Outcome.NoMemory told = ⊤

-- an act that is an outcome has its cause
abbrev pub IsCaused : Shape → ℕ → List Told → Act → Type 0
IsCaused g tries told (Act.Finish outcome) = HasCause g tries outcome told
IsCaused g tries told _ = ⊤

-- every outcome has its cause, and a write that lost all its tries is told so
pub record OutcomesHaveCauses : Type 0 where
  pub causes : (g : Shape) (tries : ℕ) (job : Job) (told : List Told) → 0 < g.parity_count → IsCaused g tries told (next_act g tries job told)
  pub all_tries_lost :
      (g : Shape) (tries : ℕ) (note : Note) (pairs : List (ℕ × ℕ)) → tries ≤ length pairs →
      next_write g tries note (map (λ pair. Told.Changed pair.0 pair.1) pairs) ≡ Act.Finish (Outcome.Contended pairs)
