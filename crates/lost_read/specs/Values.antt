-- The values of the unknown nodes in the layers that are solved, for each codeword that has the pieces.
use Rattle.std.specs.Prelude.{◌≡◌, ◌≢◌, ℕ, ◌+◌, ◌*◌, ◌<◌, true, List, length, get_or, bit_xor}
use Rattle.clay_field.specs.Field.{product}
use Rattle.generator_matrix.specs.Generated.{factor_at}
use Rattle.clay_grid.specs.Shape.{layer_count}
use Rattle.clay_grid.specs.Score.{score_at}
use Rattle.code_laws.specs.Solved.{uncoupled_byte}
use Rattle.lost_layers.specs.ErasedLayers.{is_solved}
use Rattle.lost_read.specs.MissingPlan.{rank}
use Rattle.lost_read.specs.declared.missing_reading.Reading.{Reading}
use Rattle.lost_read.specs.MissingReadings.{run_of, Fits}

-- a row for each unknown node in each layer that is solved
abbrev pub values_length : Reading → ℕ
values_length reading = rank (run_of reading) (layer_count (run_of reading).g) * (length reading.plan.now.points.items * (run_of reading).g.width)

-- to the rows of the unknown nodes is added what node i adds in layer n
abbrev pub AddsNodeIn : Reading → ℕ → ℕ → List ℕ → List ℕ → Type 0
AddsNodeIn reading n i before after =
    (word : List (List ℕ)) → Fits reading word → (a b : ℕ) → a < length reading.plan.now.points.items → b < (run_of reading).g.width
    → get_or after (a * (run_of reading).g.width + b) 0
    ≡ bit_xor (get_or before (a * (run_of reading).g.width + b) 0)
    (product (factor_at reading.plan.now.generator.each (length reading.plan.now.points.items) i a) (uncoupled_byte (run_of reading).g word b i n))

-- the values of the unknown nodes in layer n, a row for each
abbrev pub HoldsRowsIn : Reading → ℕ → List ℕ → Type 0
HoldsRowsIn reading n rows =
    (word : List (List ℕ)) → Fits reading word → (a b : ℕ) → a < length reading.plan.now.points.items → b < (run_of reading).g.width
    → get_or rows (a * (run_of reading).g.width + b) 0 ≡ uncoupled_byte (run_of reading).g word b (get_or reading.plan.now.points.items a 0) n

-- the same, where each layer that is solved has its rows
abbrev pub HoldsLayerIn : Reading → ℕ → List ℕ → Type 0
HoldsLayerIn reading n values =
    (word : List (List ℕ)) → Fits reading word → (a b : ℕ) → a < length reading.plan.now.points.items → b < (run_of reading).g.width
    → get_or values ((rank (run_of reading) n * length reading.plan.now.points.items + a) * (run_of reading).g.width + b) 0
    ≡ uncoupled_byte (run_of reading).g word b (get_or reading.plan.now.points.items a 0) n

-- the layers to solve of a score below that of layer n are solved
abbrev pub HoldsLowerIn : Reading → ℕ → List ℕ → Type 0
HoldsLowerIn reading n values =
    (p : ℕ) → p < layer_count (run_of reading).g → is_solved (run_of reading) p ≡ true
    → score_at (run_of reading).g (run_of reading).unknown p < score_at (run_of reading).g (run_of reading).unknown n → HoldsLayerIn reading p values

-- each layer to solve is solved
abbrev pub HoldsAllIn : Reading → List ℕ → Type 0
HoldsAllIn reading values = (p : ℕ) → p < layer_count (run_of reading).g → is_solved (run_of reading) p ≡ true → HoldsLayerIn reading p values

-- layer n is solved, if it is to be, and others stay so
pub record AddsLayerIn (reading : Reading) (n : ℕ) (before after : List ℕ) : Type 0 where
  pub added : is_solved (run_of reading) n ≡ true → HoldsLayerIn reading n after
  pub kept : (p : ℕ) → p < layer_count (run_of reading).g → is_solved (run_of reading) p ≡ true → p ≢ n → HoldsLayerIn reading p before → HoldsLayerIn reading p after
