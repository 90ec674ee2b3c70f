-- All chunks of a codeword one behind another, of which the missing ones are written to their places.
use Rattle.std.specs.Prelude.{◌≡◌, ◌≢◌, ℕ, ◌+◌, ◌*◌, ◌<◌, Bool, true, List, [], get_or, is_none, Option, None, Vec}
use Rattle.std.specs.declared.alloc.Global.{Global}
use Rattle.clay_grid.specs.Shape.{Shape, chunk_count, chunk_length}
use Rattle.clay_model.specs.Left.{Completes}
use Rattle.clay_lanes.specs.Present.{FitsChunks}

-- byte p in the place of chunk c is that of each codeword that fits
pub record HoldsPlace (g : Shape) (fits : List (List ℕ) → Type 0) (c : ℕ) (chunks : List ℕ) (p : ℕ) : Type 0 where
  pub at : (word : List (List ℕ)) → fits word → get_or chunks (c * chunk_length g + p) 0 ≡ get_or (get_or word c []) p 0

-- each byte that was right is right, and the chunks that aren't gone stay as they are
pub record KeepsPlaces (g : Shape) (fits : List (List ℕ) → Type 0) (gone : ℕ → Bool) (old new : List ℕ) : Type 0 where
  pub right : (c p : ℕ) → c < chunk_count g → p < chunk_length g → HoldsPlace g fits c old p → HoldsPlace g fits c new p
  pub there : (c p : ℕ) → c < chunk_count g → p < chunk_length g → gone c ≢ true
      → get_or new (c * chunk_length g + p) 0 ≡ get_or old (c * chunk_length g + p) 0

-- the chunks that are gone stand in their places, and the others stay as they are
pub record FillsGone (g : Shape) (fits : List (List ℕ) → Type 0) (gone : ℕ → Bool) (old new : List ℕ) : Type 0 where
  pub missing : (c p : ℕ) → c < chunk_count g → p < chunk_length g → gone c ≡ true → HoldsPlace g fits c new p
  pub there : (c p : ℕ) → c < chunk_count g → p < chunk_length g → gone c ≢ true
      → get_or new (c * chunk_length g + p) 0 ≡ get_or old (c * chunk_length g + p) 0

-- the missing chunks of each codeword that agrees with what is left
abbrev pub AreFilled : Shape → List (Option (Vec ℕ Global)) → List ℕ → List ℕ → Type 0
AreFilled g have old new = FillsGone g (λ word. Completes g have word) (λ c. is_none (get_or have c None)) old new

-- the missing chunks of each codeword whose chunks are those that are there
abbrev pub AreFilledFrom : Shape → List (Option (List ℕ)) → List ℕ → List ℕ → Type 0
AreFilledFrom g pieces old new = FillsGone g (λ word. FitsChunks g pieces word) (λ c. is_none (get_or pieces c None)) old new

-- how many bytes all chunks are
abbrev pub chunks_length : Shape → ℕ
chunks_length g = chunk_count g * chunk_length g
