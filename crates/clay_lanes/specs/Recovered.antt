-- What decoding by blocks of bytes works with and has found, for each codeword that fits what is there.
use Rattle.std.specs.Prelude.{◌≡◌, ℕ, ◌+◌, ◌*◌, ◌<◌, ◌≤◌, Bool, false, List, [], map, length, get_or, slice_index_or, filter, replicate, is_none, Option, None, All, Vec}
use Rattle.std.specs.List.{range_with_len}
use Rattle.std.specs.declared.alloc.Global.{Global}
use Rattle.clay_field.specs.Coupling.{determinant_inverse}
use Rattle.clay_grid.specs.Shape.{Shape, chunk_count, node_count, layer_count, chunk_length}
use Rattle.clay_grid.specs.Limits.{IsGeometry}
use Rattle.clay_grid.specs.Score.{score_at, IsByScore}
use Rattle.clay_model.specs.Erased.{erased_below}
use Rattle.clay_model.specs.Left.{AreLong, Completes}
use Rattle.code_laws.specs.Solved.{is_erased, uncoupled_byte}
use Rattle.generator_matrix.specs.Generated.{IsGeneratorOf}
use Rattle.lane_repair.specs.Pieces.{HoldsByte}
use Rattle.clay_lanes.specs.declared.recovery_plan.DecodePlan.{DecodePlan}

-- the gone nodes, which are few enough, the factors of every node in their values, the order of the layers, a subchunk of zeros, and the
-- products of the inverse of 5
pub record IsPlanFor (g : Shape) (gone : ℕ → Bool) (plan : DecodePlan) : Type 0 where
  pub geometry : IsGeometry g
  pub few : length plan.points.items ≤ g.parity_count
  pub nodes : length plan.erased.items ≡ node_count g
  pub erased_are : (i : ℕ) → i < node_count g → get_or plan.erased.items i false ≡ gone i
  pub points_are : plan.points.items ≡ erased_below plan.erased.items (node_count g)
  pub generator : IsGeneratorOf g plan.points.items plan.generator.unknown plan.generator.each
  pub order : IsByScore g plan.erased.items plan.layers.items
  pub empty : plan.zeros.items ≡ replicate g.width 0
  pub fifths : plan.fifths ≡ determinant_inverse

-- a call of decoding works with the plan of the missing chunks
pub record IsLanePlan (g : Shape) (have : List (Option (Vec ℕ Global))) (plan : DecodePlan) : Type 0 where
  pub count : length have ≡ chunk_count g
  pub lengths : AreLong (chunk_length g) have
  pub nodes : IsPlanFor g (is_erased g have) plan

-- the rows of layer n (`HoldsRows`) where those of one layer follow those of the one before
pub record HoldsLayerRows (g : Shape) (fits : List (List ℕ) → Type 0) (at len : ℕ) (points : List ℕ) (n : ℕ) (solved : List ℕ) : Type 0 where
  pub bytes : (word : List (List ℕ)) → fits word → (e b : ℕ) → e < length points → b < len
      → get_or solved ((n * length points + e) * len + b) 0 ≡ uncoupled_byte g word (at + b) (get_or points e 0) n

-- the layers of a score below that of layer n are solved
abbrev pub HoldsLower : Shape → (List (List ℕ) → Type 0) → ℕ → ℕ → List Bool → List ℕ → ℕ → List ℕ → Type 0
HoldsLower g fits at len erased points n solved =
    (p : ℕ) → p < layer_count g → score_at g erased p < score_at g erased n → HoldsLayerRows g fits at len points p solved

-- the rows of the first of some layers, as many as count, where those of one follow those of the one before
pub record AreRowsOfLayers (g : Shape) (fits : List (List ℕ) → Type 0) (at len : ℕ) (points layers : List ℕ) (count : ℕ) (rows : List ℕ) : Type 0 where
  pub bytes : (word : List (List ℕ)) → fits word → (i e b : ℕ) → i < count → e < length points → b < len
      → get_or rows ((i * length points + e) * len + b) 0 ≡ uncoupled_byte g word (at + b) (get_or points e 0) (get_or layers i 0)

-- the layers of a score below that of any of some layers are solved
abbrev pub AreNext : Shape → (List (List ℕ) → Type 0) → ℕ → ℕ → List Bool → List ℕ → List ℕ → List ℕ → Type 0
AreNext g fits at len erased points layers solved =
    (i : ℕ) → i < length layers → (get_or layers i 0 < layer_count g) × HoldsLower g fits at len erased points (get_or layers i 0) solved

-- byte p of a chunk is that of chunk c of each codeword that agrees with the chunks that are there
abbrev pub HoldsByteOf : Shape → List (Option (Vec ℕ Global)) → ℕ → List ℕ → ℕ → Type 0
HoldsByteOf g have c chunk p = HoldsByte (λ word. Completes g have word) c chunk p

-- each byte that was right is right
abbrev pub KeepsBytes : Shape → List (Option (Vec ℕ Global)) → ℕ → List ℕ → List ℕ → Type 0
KeepsBytes g have c old new = (p : ℕ) → HoldsByteOf g have c old p → HoldsByteOf g have c new p

-- the rows of a plan's erased nodes in every layer, for such codewords
abbrev pub HoldsLayersOf : Shape → List (Option (Vec ℕ Global)) → DecodePlan → ℕ → ℕ → List ℕ → Type 0
HoldsLayersOf g have plan at len solved =
    (n : ℕ) → n < layer_count g → HoldsLayerRows g (λ word. Completes g have word) at len plan.points.items n solved

-- each of so many chunks has this length
abbrev pub HaveLength : ℕ → ℕ → List (List ℕ) → Type 0
HaveLength count len chunks = (i : ℕ) → i < count → length (slice_index_or chunks i []) ≡ len

-- of some layers, for such codewords: their rows, and that those of a lower score are solved
abbrev pub AreRowsOfLayersFor : Shape → List (Option (Vec ℕ Global)) → DecodePlan → ℕ → ℕ → List ℕ → List ℕ → Type 0
AreRowsOfLayersFor g have plan at len layers rows = AreRowsOfLayers g (λ word. Completes g have word) at len plan.points.items layers (length layers) rows

abbrev pub AreNextOf : Shape → List (Option (Vec ℕ Global)) → DecodePlan → ℕ → ℕ → List ℕ → List ℕ → Type 0
AreNextOf g have plan at len layers solved = AreNext g (λ word. Completes g have word) at len plan.erased.items plan.points.items layers solved

-- the numbers of the missing chunks from c on, rising
abbrev pub missing_from : {A : Type 0} → List (Option A) → ℕ → ℕ → List ℕ
missing_from have c count = filter (λ i. is_none (get_or have i None)) (range_with_len c count)

-- the numbers of the missing chunks, rising
abbrev pub missing_of : {A : Type 0} → List (Option A) → List ℕ
missing_of have = missing_from have 0 (length have)

-- chunks are the missing ones of each codeword that agrees with what is left
pub record AreMissing (g : Shape) (have : List (Option (Vec ℕ Global))) (chunks : List (List ℕ)) : Type 0 where
  pub count : length chunks ≡ length (missing_of have)
  pub lengths : All (λ chunk. length chunk ≡ chunk_length g) chunks
  pub value : (word : List (List ℕ)) → Completes g have word → chunks ≡ map (λ c. get_or word c []) (missing_of have)
