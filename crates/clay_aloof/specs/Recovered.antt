-- Missing chunks of a codeword, from the others.
use Rattle.std.specs.Prelude.{◌≡◌, ℕ, ◌+◌, ◌*◌, ◌<◌, ◌≤◌, ◌&&◌, Bool, false, not, List, [], length, get_or, slice_range}
use Rattle.clay_grid.specs.Shape.{layer_count, chunk_length}
use Rattle.clay_grid.specs.Score.{count_below}
use Rattle.clay_aloof.specs.Shape.{AloofShape, all_chunks, grid_of, is_virtual_node, chunk_at}
use Rattle.clay_aloof.specs.Code.{IsCodeword}
use Rattle.clay_aloof.specs.Limits.{IsAloof}
use Rattle.clay_aloof.specs.Solved.{IsPlan, IsIn}
use Rattle.clay_aloof.specs.declared.layer_solving.Plan.{Plan}

-- whether chunk c is missing
abbrev pub is_gone : List Bool → ℕ → Bool
is_gone missing c = get_or missing c false

-- whether the chunk of node i is; a virtual node has none
abbrev pub is_gone_node : AloofShape → List Bool → ℕ → Bool
is_gone_node a missing i = not (is_virtual_node a i) && is_gone missing (chunk_at a i)

-- an entry for each chunk, of which no more are missing than there are parity chunks
pub record AreFew (a : AloofShape) (missing : List Bool) : Type 0 where
  pub count : length missing ≡ all_chunks a
  pub few : count_below (all_chunks a) (is_gone missing) ≤ a.parity_count

-- chunk c of all chunks, which stand one behind another
abbrev pub chunk_in : AloofShape → List ℕ → ℕ → List ℕ
chunk_in a bytes c = slice_range bytes (c * chunk_length (grid_of a)) (c * chunk_length (grid_of a) + chunk_length (grid_of a))

-- a codeword with the chunks that aren't missing
pub record HasOthers (a : AloofShape) (missing : List Bool) (bytes : List ℕ) (word : List (List ℕ)) : Type 0 where
  pub codeword : IsCodeword a word
  pub agrees : (c : ℕ) → c < all_chunks a → is_gone missing c ≡ false → get_or word c [] ≡ chunk_in a bytes c

-- the chunks that aren't missing stay, and all are those of each codeword with them
pub record IsRecovered (a : AloofShape) (missing : List Bool) (old new : List ℕ) : Type 0 where
  pub kept : (c : ℕ) → c < all_chunks a → is_gone missing c ≡ false → chunk_in a new c ≡ chunk_in a old c
  pub value : (word : List (List ℕ)) → HasOthers a missing old word → (c : ℕ) → c < all_chunks a → chunk_in a new c ≡ get_or word c []

-- these nodes are erased, and all layers are solved
pub record IsWholePlan (a : AloofShape) (erased : List Bool) (plan : Plan) : Type 0 where
  pub aloof : IsAloof a
  pub sound : IsPlan (grid_of a) plan
  pub few : length plan.points.items ≤ a.parity_count
  pub erased_are : plan.erased.items ≡ erased
  pub all : (n : ℕ) → n < layer_count (grid_of a) → IsIn plan.layers.items n
