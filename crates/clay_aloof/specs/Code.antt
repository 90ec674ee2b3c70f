-- The codewords of a shape.
use Rattle.std.specs.Prelude.{◌≡◌, ℕ, ◌+◌, ◌*◌, ◌^◌, ◌<◌, ◌≤◌, Bool, false, cond, List, [], length, get_or, take}
use Rattle.std.specs.List.{concat}
use Rattle.clay_grid.specs.Shape.{column_count, chunk_length}
use Rattle.clay_grid.specs.Layers.{index_of}
use Rattle.clay_grid.specs.Score.{count_below}
use Rattle.clay_model.specs.Coupling.{HasZeroSums}
use Rattle.clay_aloof.specs.Shape.{AloofShape, all_chunks, rows_of, grid_of, is_virtual_node, chunk_at}

-- byte b of subchunk z of node i, which is 0 at a virtual node
abbrev pub coupled_value : AloofShape → List (List ℕ) → ℕ → ℕ → List ℕ → ℕ
coupled_value a chunks b i z =
    cond (is_virtual_node a i) 0 (get_or (get_or chunks (chunk_at a i) []) (index_of (rows_of a) z * a.width + b) 0)

-- chunks are a codeword if in each layer, at each byte, the first parity_count weighted sums of the uncoupled values are zero
pub record IsCodeword (a : AloofShape) (chunks : List (List ℕ)) : Type 0 where
  pub count : length chunks ≡ all_chunks a
  pub lengths : (c : ℕ) → c < all_chunks a → length (get_or chunks c []) ≡ chunk_length (grid_of a)
  pub bytes : (c p : ℕ) → get_or (get_or chunks c []) p 0 < 2 ^ 8
  pub sums : (b : ℕ) → b < a.width → HasZeroSums (rows_of a) (column_count (grid_of a)) a.parity_count (coupled_value a chunks b)

-- a codeword and the stripe that its data chunks are
pub record Codes (a : AloofShape) (stripe : List ℕ) (chunks : List (List ℕ)) : Type 0 where
  pub codeword : IsCodeword a chunks
  pub joined : concat (take a.data_count chunks) ≡ stripe

-- two lists of chunks are equal at each chunk that is not erased, and no more are erased than there are parity chunks
pub record AgreesBut (a : AloofShape) (erased : ℕ → Bool) (chunks others : List (List ℕ)) : Type 0 where
  pub few : count_below (all_chunks a) erased ≤ a.parity_count
  pub same : (c : ℕ) → c < all_chunks a → erased c ≡ false → get_or chunks c [] ≡ get_or others c []
