-- The uncoupled values of the last column that a stripe gives.
use Rattle.std.specs.Prelude.{ℕ, List}
use Rattle.clay_grid.specs.Shape.{Shape}
use Rattle.clay_grid.specs.Layers.{layer_of}
use Rattle.code_laws.specs.Columns.{first_parity, uncoupled_value}
use Rattle.generator_matrix.specs.Generated.{generated}

-- byte b of row e of the last column in layer z
abbrev pub solved_value : Shape → List ℕ → List ℕ → ℕ → ℕ → List ℕ → ℕ
solved_value g factors stripe b e z = generated factors g.parity_count (first_parity g) (λ i. uncoupled_value g stripe b i z) e

-- byte b of subchunk n of row e of the last column
abbrev pub layer_value : Shape → List ℕ → List ℕ → ℕ → ℕ → ℕ → ℕ
layer_value g factors stripe n e b = solved_value g factors stripe b e (layer_of g n)
