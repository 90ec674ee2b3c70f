-- The parts from which a lost chunk is rebuilt, and the helpers that give them.
use Rattle.std.specs.Prelude.{◌≡◌, ◌≢◌, ℕ, ◌-◌, ◌*◌, ◌/◌, ◌%◌, ◌^◌, ◌<◌, false, List, [], map, length, get_or, Option, None, is_none, is_some, Vec}
use Rattle.std.specs.declared.alloc.Global.{Global}
use Rattle.clay_grid.specs.Shape.{column_count}
use Rattle.clay_grid.specs.Repair.{layers_with_digit}
use Rattle.clay_grid.specs.Score.{count_below}
use Rattle.clay_model.specs.Code.{AgreesWith}
use Rattle.clay_model.specs.Left.{parts, AreLong}
use Rattle.clay_model.specs.RepairParts.{subchunks_at}
use Rattle.clay_aloof.specs.Shape.{AloofShape, all_chunks, rows_of, grid_of, node_of}
use Rattle.clay_aloof.specs.Code.{IsCodeword}

-- the layers that a repair reads: those of which the digit of the lost node's column is its row
abbrev pub aloof_layers_of : AloofShape → ℕ → List ℕ
aloof_layers_of a lost = layers_with_digit (grid_of a) (node_of a lost / rows_of a) (node_of a lost % rows_of a)

-- an entry for each chunk: none for the lost one, so many as there are helpers, and one for each other chunk of the lost one's column
pub record HelpersFit (a : AloofShape) (lost : ℕ) (have : List (Option (Vec ℕ Global))) : Type 0 where
  pub count : length have ≡ all_chunks a
  pub none : get_or have lost None ≡ None
  pub helpers : count_below (all_chunks a) (λ c. is_some (get_or have c None)) ≡ a.helper_count
  pub column : (c : ℕ) → c < all_chunks a → c ≢ lost → node_of a c / rows_of a ≡ node_of a lost / rows_of a → is_none (get_or have c None) ≡ false

-- the length of a part
abbrev pub part_bytes : AloofShape → ℕ
part_bytes a = rows_of a ^ (column_count (grid_of a) - 1) * a.width

-- parts of their length, of helpers that fit
pub record AreParts (a : AloofShape) (lost : ℕ) (have : List (Option (Vec ℕ Global))) : Type 0 where
  pub chunk : lost < all_chunks a
  pub fit : HelpersFit a lost have
  pub lengths : AreLong (part_bytes a) have

-- a codeword whose chunks have these parts
pub record HasParts (a : AloofShape) (lost : ℕ) (have : List (Option (Vec ℕ Global))) (word : List (List ℕ)) : Type 0 where
  pub codeword : IsCodeword a word
  pub agrees : AgreesWith (parts have) (map (λ chunk. subchunks_at a.width chunk (aloof_layers_of a lost)) word)

-- a chunk is the lost one of a codeword with these parts, and of each such codeword
pub record IsRebuilt (a : AloofShape) (lost : ℕ) (have : List (Option (Vec ℕ Global))) (chunk : List ℕ) : Type 0 where
  pub word : List (List ℕ)
  pub has_parts : HasParts a lost have word
  pub value : chunk ≡ get_or word lost []
  pub only : (other : List (List ℕ)) → HasParts a lost have other → chunk ≡ get_or other lost []
