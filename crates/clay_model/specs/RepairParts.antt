-- The parts of a codeword's chunks from which a lost chunk is rebuilt.
use Rattle.std.specs.Prelude.{◌≡◌, ◌≢◌, ℕ, ◌-◌, ◌*◌, ◌^◌, ◌<◌, false, List, [], map, flat_map, length, get_or, take, drop, Option, None, is_none, Vec}
use Rattle.std.specs.declared.alloc.Global.{Global}
use Rattle.clay_grid.specs.Shape.{Shape, chunk_count, row_count, column_count, chunk_length}
use Rattle.clay_grid.specs.Repair.{repair_layers_of}
use Rattle.clay_model.specs.Code.{IsCodeword, AgreesWith}
use Rattle.clay_model.specs.Left.{parts, AreLong}

-- of a chunk's bytes the subchunks at these layers, `width` bytes each, one after another
abbrev pub subchunks_at : ℕ → List ℕ → List ℕ → List ℕ
subchunks_at width bytes layers = flat_map (λ layer. take width (drop (layer * width) bytes)) layers

-- of each chunk the subchunks that a repair of the lost chunk reads
abbrev pub repair_parts : Shape → ℕ → List (List ℕ) → List (List ℕ)
repair_parts g lost word = map (λ chunk. subchunks_at g.width chunk (repair_layers_of g lost)) word

-- the length of such a part: of the layers' digits one is given
abbrev pub part_length : Shape → ℕ
part_length g = row_count g ^ (column_count g - 1) * g.width

-- an entry for each chunk: none for the lost one, and a part's bytes for each other
pub record AreParts (g : Shape) (lost : ℕ) (have : List (Option (Vec ℕ Global))) : Type 0 where
  pub chunk : lost < chunk_count g
  pub count : length have ≡ chunk_count g
  pub none : get_or have lost None ≡ None
  pub others : (c : ℕ) → c < chunk_count g → c ≢ lost → is_none (get_or have c None) ≡ false
  pub lengths : AreLong (part_length g) have

-- a codeword whose chunks have these parts
pub record HasParts (g : Shape) (lost : ℕ) (have : List (Option (Vec ℕ Global))) (word : List (List ℕ)) : Type 0 where
  pub codeword : IsCodeword g word
  pub agrees : AgreesWith (parts have) (repair_parts g lost word)

-- a chunk is the lost one of each codeword with these parts
pub record IsRebuilt (g : Shape) (lost : ℕ) (have : List (Option (Vec ℕ Global))) (chunk : List ℕ) : Type 0 where
  pub len : length chunk ≡ chunk_length g
  pub value : (word : List (List ℕ)) → HasParts g lost have word → chunk ≡ get_or word lost []
