-- Three worked codewords, of one byte a subchunk.
use Rattle.std.specs.Prelude.{ℕ, zero, suc, ◌/◌, ◌%◌, List, [], ◌∷◌, ◌++◌}
use Rattle.clay_grid.specs.Shape.{Shape, row_count, node_count, layer_count}
use Rattle.clay_grid.specs.Layers.{layer_of}
use Rattle.clay_model.specs.Coupling.{uncoupled}
use Rattle.clay_model.specs.Code.{coupled_value}

-- the uncoupled values of the nodes below n in layer z, at byte 0
abbrev pub values_below : Shape → List (List ℕ) → List ℕ → ℕ → List ℕ
values_below g chunks z zero = []
values_below g chunks z (suc n) =
    values_below g chunks z n ++ uncoupled (row_count g) (coupled_value g chunks 0) (n % row_count g) (n / row_count g) z ∷ []

-- the uncoupled values of all nodes in each of the first n layers
abbrev pub layers_below : Shape → List (List ℕ) → ℕ → List (List ℕ)
layers_below g chunks zero = []
layers_below g chunks (suc n) =
    layers_below g chunks n ++ values_below g chunks (layer_of g n) (node_count g) ∷ []

-- the uncoupled values, layer by layer and node by node
abbrev pub uncoupled_layers : Shape → List (List ℕ) → List (List ℕ)
uncoupled_layers g chunks = layers_below g chunks (layer_count g)

-- two data chunks and two parity chunks
abbrev pub two_and_two : Shape
two_and_two = record { data_count = 2; parity_count = 2; width = 1 }

-- three data chunks and two parity chunks, with a virtual node between them
abbrev pub three_and_two : Shape
three_and_two = record { data_count = 3; parity_count = 2; width = 1 }

-- the data byte is unpaired
abbrev pub unpaired_chunks : List (List ℕ)
unpaired_chunks =
    (0x01 ∷ 0x00 ∷ 0x00 ∷ 0x00 ∷ [])
    ∷ (0x00 ∷ 0x00 ∷ 0x00 ∷ 0x00 ∷ [])
    ∷ (0x03 ∷ 0xa6 ∷ 0x00 ∷ 0x00 ∷ [])
    ∷ (0x53 ∷ 0x00 ∷ 0x00 ∷ 0x00 ∷ [])
    ∷ []

-- the data byte is paired with one of the other data chunk
abbrev pub paired_chunks : List (List ℕ)
paired_chunks =
    (0x00 ∷ 0x00 ∷ 0x00 ∷ 0x00 ∷ [])
    ∷ (0x01 ∷ 0x00 ∷ 0x00 ∷ 0x00 ∷ [])
    ∷ (0x02 ∷ 0xf5 ∷ 0x06 ∷ 0x51 ∷ [])
    ∷ (0xf4 ∷ 0x00 ∷ 0xa6 ∷ 0x00 ∷ [])
    ∷ []

-- the data byte is paired with one of the virtual node
abbrev pub virtual_chunks : List (List ℕ)
virtual_chunks =
    (0x00 ∷ 0x00 ∷ 0x00 ∷ 0x00 ∷ 0x00 ∷ 0x00 ∷ 0x00 ∷ 0x00 ∷ [])
    ∷ (0x00 ∷ 0x00 ∷ 0x00 ∷ 0x00 ∷ 0x00 ∷ 0x00 ∷ 0x00 ∷ 0x00 ∷ [])
    ∷ (0x00 ∷ 0x00 ∷ 0x01 ∷ 0x00 ∷ 0x00 ∷ 0x00 ∷ 0x00 ∷ 0x00 ∷ [])
    ∷ (0x0c ∷ 0x55 ∷ 0x07 ∷ 0xf7 ∷ 0x00 ∷ 0x00 ∷ 0x00 ∷ 0x00 ∷ [])
    ∷ (0xa4 ∷ 0x00 ∷ 0xf5 ∷ 0x00 ∷ 0x00 ∷ 0x00 ∷ 0x00 ∷ 0x00 ∷ [])
    ∷ []
