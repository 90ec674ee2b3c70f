-- The chunks that are there, however a view shows them, and the codewords that have them.
use Rattle.std.specs.Prelude.{◌≡◌, ℕ, ◌+◌, ◌*◌, Bool, false, not, ◌&&◌, cond, List, map, length, get_or, slice_range, All, Option, IfSome, Some, None, is_none}
use Rattle.std.specs.List.{range_with_len}
use Rattle.clay_grid.specs.Shape.{Shape, chunk_count, chunk_length}
use Rattle.clay_model.specs.Code.{IsCodeword, AgreesWith, is_virtual, chunk_of_node}

-- an entry for each chunk, with a chunk's bytes where it is there
pub record AreChunks (g : Shape) (pieces : List (Option (List ℕ))) : Type 0 where
  pub count : length pieces ≡ chunk_count g
  pub lengths : All (λ o. IfSome o (λ piece. length piece ≡ chunk_length g)) pieces

-- a codeword whose chunks are those that are there
pub record FitsChunks (g : Shape) (pieces : List (Option (List ℕ))) (word : List (List ℕ)) : Type 0 where
  pub codeword : IsCodeword g word
  pub agrees : AgreesWith pieces word

-- whether the chunk of node i is missing
abbrev pub is_gone : Shape → List (Option (List ℕ)) → ℕ → Bool
is_gone g pieces i = not (is_virtual g i) && is_none (get_or pieces (chunk_of_node g i) None)

-- the chunks that are there of all, which stand one behind another
abbrev pub chunks_left : Shape → List Bool → List ℕ → List (Option (List ℕ))
chunks_left g missing chunks =
    map (λ c. cond (get_or missing c false) None (Some (slice_range chunks (c * chunk_length g) (c * chunk_length g + chunk_length g)))) (range_with_len 0 (chunk_count g))
