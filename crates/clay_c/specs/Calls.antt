-- What calls from C ask and write: chunks and parts stand one behind another.
use Rattle.std.specs.Prelude.{◌≡◌, ◌≢◌, ℕ, ◌+◌, ◌-◌, ◌*◌, ◌^◌, ◌<◌, eqb, cond, nat_lt, List, [], map, length, get_or, count_by, Option, Some, None}
use Rattle.std.specs.List.{range_with_len}
use Rattle.clay_grid.specs.Shape.{Shape, chunk_count, row_count, column_count, virtual_count, layer_count, chunk_length, stripe_length}
use Rattle.clay_model.specs.Code.{IsCodeword, AgreesWith}
use Rattle.clay_model.specs.RepairParts.{part_length, repair_parts}
use Rattle.clay_parity.specs.Parity.{AreParity}
use Rattle.clay_c.specs.Pieces.{piece_at, AreLaid}
use Rattle.clay_c.specs.declared.ClayNumbers.{ClayNumbers}

-- the numbers of a code
pub record HasNumbers (g : Shape) (numbers : ClayNumbers) : Type 0 where
  pub chunks : numbers.chunks ≡ chunk_count g
  pub rows : numbers.rows ≡ row_count g
  pub columns : numbers.columns ≡ column_count g
  pub virtual_nodes : numbers.virtual_nodes ≡ virtual_count g
  pub layers : numbers.layers ≡ layer_count g
  pub chunk_len : numbers.chunk_len ≡ chunk_length g
  pub stripe_len : numbers.stripe_len ≡ stripe_length g
  pub part_len : numbers.part_len ≡ part_length g

-- room for the repair layers
abbrev pub LayersFit : Shape → List ℕ → Type 0
LayersFit g layers = length layers ≡ row_count g ^ (column_count g - 1)

-- a stripe, and room for its parity chunks
abbrev pub ParityFits : Shape → List ℕ → List ℕ → Type 0
ParityFits g stripe parity = (length stripe ≡ stripe_length g) × (length parity ≡ g.parity_count * chunk_length g)

-- the stripe's parity chunks, one behind another
pub record MakesParity (g : Shape) (stripe parity : List ℕ) : Type 0 where
  pub chunks : List (List ℕ)
  pub are : AreParity g stripe chunks
  pub laid : AreLaid (chunk_length g) chunks parity

-- a mark for each chunk, and as many chunks
abbrev pub ChunksFit : Shape → List ℕ → List ℕ → Type 0
ChunksFit g present chunks = (length present ≡ chunk_count g) × (length chunks ≡ chunk_count g * chunk_length g)

-- how many chunks have the mark 0
abbrev pub lost_count : List ℕ → ℕ
lost_count present = count_by (λ mark. eqb mark 0) present

-- the chunks without the mark 0
abbrev pub left_of : Shape → List ℕ → List ℕ → List (Option (List ℕ))
left_of g present chunks =
    map (λ c. cond (eqb (get_or present c 0) 0) None (Some (piece_at (chunk_length g) chunks c))) (range_with_len 0 (chunk_count g))

-- the chunks of each codeword that has those without the mark 0, which stay in any case
pub record Recovers (g : Shape) (present old new : List ℕ) : Type 0 where
  pub value : (word : List (List ℕ)) → IsCodeword g word → AgreesWith (left_of g present old) word → AreLaid (chunk_length g) word new
  pub kept : (c b : ℕ) → c < chunk_count g → get_or present c 0 ≢ 0 → b < chunk_length g
      → get_or new (c * chunk_length g + b) 0 ≡ get_or old (c * chunk_length g + b) 0

-- the place of a chunk among all but the lost one
abbrev pub place_among_others : ℕ → ℕ → ℕ
place_among_others lost c = cond (nat_lt c lost) c (c - 1)

-- the parts of all but the lost chunk, from one behind another
abbrev pub parts_of : Shape → ℕ → List ℕ → List (Option (List ℕ))
parts_of g lost bytes =
    map (λ c. cond (eqb c lost) None (Some (piece_at (part_length g) bytes (place_among_others lost c)))) (range_with_len 0 (chunk_count g))

-- parts of all but one chunk, and room for that one
abbrev pub PartsFit : Shape → List ℕ → List ℕ → Type 0
PartsFit g parts chunk = (length parts ≡ (chunk_count g - 1) * part_length g) × (length chunk ≡ chunk_length g)

-- the lost chunk of each codeword whose other chunks have these parts
abbrev pub Rebuilds : Shape → ℕ → List ℕ → List ℕ → Type 0
Rebuilds g lost parts chunk =
    (word : List (List ℕ)) → IsCodeword g word → AgreesWith (parts_of g lost parts) (repair_parts g lost word) → chunk ≡ get_or word lost []
