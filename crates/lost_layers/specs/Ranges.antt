-- The code of a range of positions of the subchunks.
use Rattle.std.specs.Prelude.{ℕ, ◌+◌, ◌*◌, ◌/◌, ◌%◌, ◌≤◌, List, map, get_or}
use Rattle.std.specs.List.{range_with_len}
use Rattle.clay_grid.specs.Shape.{Shape, layer_count}
use Rattle.clay_model.specs.Code.{IsCodeword}

-- the code with subchunks of w bytes
abbrev pub of_width : Shape → ℕ → Shape
of_width g w = record { data_count = g.data_count; parity_count = g.parity_count; width = w }

-- of each subchunk of a chunk the w bytes from position p on, one subchunk after another
abbrev pub range_of_chunk : Shape → ℕ → ℕ → List ℕ → List ℕ
range_of_chunk g p w chunk = map (λ i. get_or chunk (i / w * g.width + (p + i % w)) 0) (range_with_len 0 (layer_count g * w))

-- of the chunks of a codeword they are a codeword
abbrev pub RangesAreCoded : Shape → Type 0
RangesAreCoded g = (p w : ℕ) (word : List (List ℕ)) → p + w ≤ g.width → IsCodeword g word → IsCodeword (of_width g w) (map (range_of_chunk g p w) word)
