-- Lists of layers, by their numbers, of which some call reads the subchunks.
use Rattle.std.specs.Prelude.{ℕ, ◌+◌, ◌*◌, ◌/◌, ◌%◌, nat_eq, nat_lt, min, max, List, get_or, filter}
use Rattle.std.specs.List.{range_with_len}
use Rattle.clay_grid.specs.Shape.{Shape, row_count, layer_count, node_of_chunk}
use Rattle.clay_grid.specs.Layers.{layer_of}

-- the numbers of all layers, rising
abbrev pub all_layers : Shape → List ℕ
all_layers g = range_with_len 0 (layer_count g)

-- the layers of which digit y is x
abbrev pub layers_with_digit : Shape → ℕ → ℕ → List ℕ
layers_with_digit g y x = filter (λ z. nat_eq (get_or (layer_of g z) y 0) x) (all_layers g)

-- the layers that a repair of the chunk reads: those of which the digit of its node's column is its node's row
abbrev pub repair_layers_of : Shape → ℕ → List ℕ
repair_layers_of g chunk =
    let node : ℕ = node_of_chunk g chunk in layers_with_digit g (node / row_count g) (node % row_count g)

-- the layers whose subchunks have one of the bytes of a chunk from start up to end
abbrev pub layers_in_range : Shape → ℕ → ℕ → List ℕ
layers_in_range g start end = filter (λ z. nat_lt (max start (z * g.width)) (min end ((z + 1) * g.width))) (all_layers g)
