-- Missing chunks of a code with fewer helpers. Each chunk has a mark, which is 0 where it is missing.
use Rattle.std.specs.Prelude.{◌≡◌, ◌≢◌, ℕ, ◌*◌, ◌<◌, List, [], length, get_or}
use Rattle.clay_grid.specs.Shape.{chunk_length}
use Rattle.clay_aloof.specs.Shape.{AloofShape, all_chunks, grid_of}
use Rattle.clay_aloof.specs.Code.{IsCodeword}
use Rattle.clay_c.specs.Pieces.{piece_at}

-- a mark for each chunk, and as many chunks
abbrev pub AloofChunksFit : AloofShape → List ℕ → List ℕ → Type 0
AloofChunksFit a present chunks = (length present ≡ all_chunks a) × (length chunks ≡ all_chunks a * chunk_length (grid_of a))

-- a codeword that has the chunks without the mark 0
pub record HasLeft (a : AloofShape) (present bytes : List ℕ) (word : List (List ℕ)) : Type 0 where
  pub codeword : IsCodeword a word
  pub agrees : (c : ℕ) → c < all_chunks a → get_or present c 0 ≢ 0 → get_or word c [] ≡ piece_at (chunk_length (grid_of a)) bytes c

-- the chunks without the mark 0 stay, and all are those of each codeword that has these
pub record RecoversAloof (a : AloofShape) (present old new : List ℕ) : Type 0 where
  pub kept : (c : ℕ) → c < all_chunks a → get_or present c 0 ≢ 0 → piece_at (chunk_length (grid_of a)) new c ≡ piece_at (chunk_length (grid_of a)) old c
  pub value : (word : List (List ℕ)) → HasLeft a present old word → (c : ℕ) → c < all_chunks a → piece_at (chunk_length (grid_of a)) new c ≡ get_or word c []
