-- A repair from the parts that a view shows, wherever they stand.
use Rattle.std.specs.Prelude.{◌≡◌, ◌≢◌, ℕ, ◌/◌, ◌^◌, ◌<◌, false, List, [], map, length, get_or, All, Option, IfSome, Some, None, is_none, is_some}
use Rattle.clay_grid.specs.Score.{count_below}
use Rattle.clay_model.specs.Code.{AgreesWith}
use Rattle.clay_model.specs.RepairParts.{subchunks_at}
use Rattle.clay_aloof.specs.Shape.{AloofShape, all_chunks, rows_of, node_of}
use Rattle.clay_aloof.specs.Code.{IsCodeword}
use Rattle.clay_aloof.specs.Repair.{aloof_layers_of, part_bytes}

-- an entry for each chunk: none for the lost one, so many as there are helpers, and one for each other chunk of the lost one's column
pub record PiecesFit (a : AloofShape) (lost : ℕ) (pieces : List (Option (List ℕ))) : Type 0 where
  pub count : length pieces ≡ all_chunks a
  pub none : get_or pieces lost None ≡ None
  pub helpers : count_below (all_chunks a) (λ c. is_some (get_or pieces c None)) ≡ a.helper_count
  pub column : (c : ℕ) → c < all_chunks a → c ≢ lost → node_of a c / rows_of a ≡ node_of a lost / rows_of a → is_none (get_or pieces c None) ≡ false

-- parts of their length, of helpers that fit
pub record ArePieces (a : AloofShape) (lost : ℕ) (pieces : List (Option (List ℕ))) : Type 0 where
  pub chunk : lost < all_chunks a
  pub fit : PiecesFit a lost pieces
  pub lengths : All (λ o. IfSome o (λ piece. length piece ≡ part_bytes a)) pieces

-- their numbers are bytes
abbrev pub HaveBytes : List (Option (List ℕ)) → Type 0
HaveBytes pieces = (c : ℕ) (piece : List ℕ) → get_or pieces c None ≡ Some piece → (i : ℕ) → get_or piece i 0 < 2 ^ 8

-- a codeword whose chunks have these parts
pub record FitsPieces (a : AloofShape) (lost : ℕ) (pieces : List (Option (List ℕ))) (word : List (List ℕ)) : Type 0 where
  pub codeword : IsCodeword a word
  pub agrees : AgreesWith pieces (map (λ chunk. subchunks_at a.width chunk (aloof_layers_of a lost)) word)

-- a chunk is the lost one of a codeword with these parts, and of each such codeword
pub record IsRebuiltFrom (a : AloofShape) (lost : ℕ) (pieces : List (Option (List ℕ))) (chunk : List ℕ) : Type 0 where
  pub word : List (List ℕ)
  pub has_parts : FitsPieces a lost pieces word
  pub value : chunk ≡ get_or word lost []
  pub only : (other : List (List ℕ)) → FitsPieces a lost pieces other → chunk ≡ get_or other lost []
