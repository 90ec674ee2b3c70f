-- What calls from C ask and write of codes with fewer helpers. Each chunk has a mark, which is 0 where it doesn't help.
use Rattle.std.specs.Prelude.{◌≡◌, ◌≢◌, ℕ, ◌-◌, ◌*◌, ◌/◌, ◌^◌, ◌<◌, Bool, not, eqb, cond, List, [], map, length, get_or, drop, Option, Some, None}
use Rattle.std.specs.List.{range_with_len}
use Rattle.clay_grid.specs.Shape.{column_count, virtual_count, layer_count, chunk_length}
use Rattle.clay_grid.specs.Score.{count_below}
use Rattle.clay_model.specs.Code.{AgreesWith}
use Rattle.clay_model.specs.RepairParts.{subchunks_at}
use Rattle.clay_aloof.specs.Shape.{AloofShape, all_chunks, rows_of, grid_of, stripe_bytes, node_of}
use Rattle.clay_aloof.specs.Code.{IsCodeword, Codes}
use Rattle.clay_aloof.specs.Repair.{aloof_layers_of, part_bytes}
use Rattle.clay_c.specs.Pieces.{piece_at, starts_of, AreLaid}
use Rattle.clay_c.specs.declared.ClayNumbers.{ClayNumbers}

-- the numbers of a code
pub record HasAloofNumbers (a : AloofShape) (numbers : ClayNumbers) : Type 0 where
  pub chunks : numbers.chunks ≡ all_chunks a
  pub rows : numbers.rows ≡ rows_of a
  pub columns : numbers.columns ≡ column_count (grid_of a)
  pub virtual_nodes : numbers.virtual_nodes ≡ virtual_count (grid_of a)
  pub layers : numbers.layers ≡ layer_count (grid_of a)
  pub chunk_len : numbers.chunk_len ≡ chunk_length (grid_of a)
  pub stripe_len : numbers.stripe_len ≡ stripe_bytes a
  pub part_len : numbers.part_len ≡ part_bytes a

-- room for the layers that a repair reads
abbrev pub AloofLayersFit : AloofShape → List ℕ → Type 0
AloofLayersFit a layers = length layers ≡ rows_of a ^ (column_count (grid_of a) - 1)

-- a stripe, and room for its parity chunks
abbrev pub AloofParityFits : AloofShape → List ℕ → List ℕ → Type 0
AloofParityFits a stripe parity = (length stripe ≡ stripe_bytes a) × (length parity ≡ a.parity_count * chunk_length (grid_of a))

-- the stripe's parity chunks, one behind another
pub record MakesAloofParity (a : AloofShape) (stripe parity : List ℕ) : Type 0 where
  pub chunks : List (List ℕ)
  pub code : Codes a stripe chunks
  pub laid : AreLaid (chunk_length (grid_of a)) (drop a.data_count chunks) parity

-- a chunk's mark says that it helps
abbrev pub is_marked : List ℕ → ℕ → Bool
is_marked marks c = not (eqb (get_or marks c 0) 0)

-- as many chunks have a mark as there are helpers: each other chunk of the lost one's column, and not the lost one
pub record MarksFit (a : AloofShape) (lost : ℕ) (marks : List ℕ) : Type 0 where
  pub none : get_or marks lost 0 ≡ 0
  pub helpers : count_below (all_chunks a) (is_marked marks) ≡ a.helper_count
  pub column : (c : ℕ) → c < all_chunks a → c ≢ lost → node_of a c / rows_of a ≡ node_of a lost / rows_of a → get_or marks c 0 ≢ 0

-- another chunk of the lost one's column has no mark
abbrev pub IsUnmarked : AloofShape → ℕ → List ℕ → ℕ → Type 0
IsUnmarked a lost marks c = (c ≢ lost) × (node_of a c / rows_of a ≡ node_of a lost / rows_of a) × (get_or marks c 0 ≡ 0)

-- no chunk below count is one
abbrev pub HasMarks : AloofShape → ℕ → List ℕ → ℕ → Type 0
HasMarks a lost marks count = (c : ℕ) → c < count → IsUnmarked a lost marks c → ⊥

-- a mark for each chunk, a part for each helper, and room for a chunk
abbrev pub MarkedPartsFit : AloofShape → List ℕ → List ℕ → List ℕ → Type 0
MarkedPartsFit a marks parts chunk =
    (length marks ≡ all_chunks a) × (length parts ≡ a.helper_count * part_bytes a) × (length chunk ≡ chunk_length (grid_of a))

-- the parts of the chunks with a mark, from one behind another
abbrev pub marked_parts : AloofShape → List ℕ → List ℕ → List (Option (List ℕ))
marked_parts a marks bytes =
    map (λ c. cond (eqb (get_or marks c 0) 0) None (Some (piece_at (part_bytes a) bytes (count_below c (is_marked marks))))) (range_with_len 0 (all_chunks a))

-- where the pieces of the first count chunks start that have a mark, of len bytes each, one behind another
abbrev pub starts_marked : List ℕ → ℕ → ℕ → List (Option ℕ)
starts_marked marks len count = starts_of (λ c. eqb (get_or marks c 0) 0) (λ c. count_below c (is_marked marks)) len count

-- a codeword of which the chunks with a mark have these parts
pub record GivesParts (a : AloofShape) (lost : ℕ) (marks bytes : List ℕ) (word : List (List ℕ)) : Type 0 where
  pub codeword : IsCodeword a word
  pub agrees : AgreesWith (marked_parts a marks bytes) (map (λ chunk. subchunks_at a.width chunk (aloof_layers_of a lost)) word)

-- the lost chunk of a codeword with these parts, and of each such codeword
pub record RebuildsAloof (a : AloofShape) (lost : ℕ) (marks bytes chunk : List ℕ) : Type 0 where
  pub word : List (List ℕ)
  pub gives : GivesParts a lost marks bytes word
  pub value : chunk ≡ get_or word lost []
  pub only : (other : List (List ℕ)) → GivesParts a lost marks bytes other → chunk ≡ get_or other lost []
