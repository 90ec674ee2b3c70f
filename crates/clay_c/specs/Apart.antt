-- What calls from C ask and write where chunks and parts stand apart, each a slice of its own.
use Rattle.std.specs.Prelude.{◌≡◌, ℕ, ◌-◌, eqb, nat_lt, cond, List, [], map, length, get_or, filter, All, Option, Some, None}
use Rattle.std.specs.List.{range_with_len}
use Rattle.clay_grid.specs.Shape.{Shape, chunk_count, chunk_length}
use Rattle.clay_grid.specs.Score.{count_below}
use Rattle.clay_model.specs.Code.{IsCodeword, AgreesWith}
use Rattle.clay_model.specs.RepairParts.{part_length, repair_parts}
use Rattle.clay_c.specs.Calls.{place_among_others, lost_count}
use Rattle.clay_c.specs.Helpers.{is_marked}

-- each has so many bytes
abbrev pub HaveBytes : ℕ → List (List ℕ) → Type 0
HaveBytes len slices = All (λ slice. length slice ≡ len) slices

-- the parts of all but the lost chunk
abbrev pub part_slices : Shape → ℕ → List (List ℕ) → List (Option (List ℕ))
part_slices g lost parts =
    map (λ c. cond (eqb c lost) None (Some (get_or parts (place_among_others lost c) []))) (range_with_len 0 (chunk_count g))

-- parts of all but one chunk, and room for that one
abbrev pub PartSlicesFit : Shape → List (List ℕ) → List ℕ → Type 0
PartSlicesFit g parts chunk = (length parts ≡ chunk_count g - 1) × HaveBytes (part_length g) parts × (length chunk ≡ chunk_length g)

-- the lost chunk of each codeword whose other chunks have these parts
abbrev pub RebuildsApart : Shape → ℕ → List (List ℕ) → List ℕ → Type 0
RebuildsApart g lost parts chunk =
    (word : List (List ℕ)) → IsCodeword g word → AgreesWith (part_slices g lost parts) (repair_parts g lost word) → chunk ≡ get_or word lost []

-- a mark for each chunk, the chunks without the mark 0, and room for the others
abbrev pub ChunkSlicesFit : Shape → List ℕ → List (List ℕ) → List (List ℕ) → Type 0
ChunkSlicesFit g present chunks missing =
    (length present ≡ chunk_count g) × (length chunks ≡ chunk_count g - lost_count present) × (length missing ≡ lost_count present)
    × HaveBytes (chunk_length g) chunks × HaveBytes (chunk_length g) missing

-- the chunks without the mark 0
abbrev pub left_slices : Shape → List ℕ → List (List ℕ) → List (Option (List ℕ))
left_slices g present chunks =
    map (λ c. cond (eqb (get_or present c 0) 0) None (Some (get_or chunks (count_below c (is_marked present)) []))) (range_with_len 0 (chunk_count g))

-- the numbers of the chunks with the mark 0, rising
abbrev pub lost_numbers : Shape → List ℕ → List ℕ
lost_numbers g present = filter (λ c. eqb (get_or present c 0) 0) (range_with_len 0 (chunk_count g))

-- the chunks with the mark 0 of each codeword that has the others
abbrev pub RecoversApart : Shape → List ℕ → List (List ℕ) → List (List ℕ) → Type 0
RecoversApart g present chunks missing =
    (word : List (List ℕ)) → IsCodeword g word → AgreesWith (left_slices g present chunks) word → missing ≡ map (λ c. get_or word c []) (lost_numbers g present)

-- the data chunks, and room for the parity chunks
abbrev pub DataSlicesFit : Shape → List (List ℕ) → List (List ℕ) → Type 0
DataSlicesFit g chunks parity =
    (length chunks ≡ g.data_count) × (length parity ≡ g.parity_count) × HaveBytes (chunk_length g) chunks × HaveBytes (chunk_length g) parity

-- a mark for each data chunk, and 0 for each parity chunk
abbrev pub data_marks : Shape → ℕ → List ℕ
data_marks g count = map (λ c. cond (nat_lt c g.data_count) 1 0) (range_with_len 0 count)
