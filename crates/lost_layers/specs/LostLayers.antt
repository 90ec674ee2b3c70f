-- Which subchunks of the other chunks determine a run of a lost chunk's layers.
use Rattle.std.specs.Prelude.{ℕ, suc, ◌+◌, ◌-◌, ◌*◌, ◌/◌, ◌%◌, ◌<◌, ◌≤◌, Bool, not, ◌&&◌, ◌||◌, nat_eq, nat_lt, if◌then◌else◌, get_or, set}
use Rattle.clay_grid.specs.Shape.{Shape, chunk_count, row_count, column_count, layer_count, node_of_chunk}
use Rattle.clay_grid.specs.Layers.{layer_of, index_of}
use Rattle.clay_grid.specs.Score.{count_below}
use Rattle.lost_layers.specs.declared.run.LostRun.{LostRun}

-- a chunk's layers, which may be none
pub record IsLostRun (g : Shape) (run : LostRun) : Type 0 where
  pub chunk : run.lost < chunk_count g
  pub order : run.from ≤ run.to
  pub layers : run.to ≤ layer_count g

-- the layer is one of the run
abbrev pub is_wanted : LostRun → ℕ → Bool
is_wanted run n = not (nat_lt n run.from) && nat_lt n run.to

-- layer n with the digit x in column y
abbrev pub layer_with : Shape → ℕ → ℕ → ℕ → ℕ
layer_with g n y x = index_of (row_count g) (set (layer_of g n) y x)

-- the node of column y that is unpaired in layer n
abbrev pub unpaired_node : Shape → ℕ → ℕ → ℕ
unpaired_node g y n = y * row_count g + get_or (layer_of g n) y 0

-- the partner of node i's subchunk n is its node's subchunk of its layer
abbrev pub partner_node : Shape → ℕ → ℕ → ℕ
partner_node g i n = unpaired_node g (i / row_count g) n

abbrev pub partner_layer : Shape → ℕ → ℕ → ℕ
partner_layer g i n = layer_with g n (i / row_count g) (i % row_count g)

-- the lost chunk's node, and its column
abbrev pub lost_node : Shape → LostRun → ℕ
lost_node g run = node_of_chunk g run.lost

abbrev pub lost_column : Shape → LostRun → ℕ
lost_column g run = lost_node g run / row_count g

-- the lost node is unpaired in layer n
abbrev pub is_unpaired : Shape → LostRun → ℕ → Bool
is_unpaired g run n = nat_eq (get_or (layer_of g n) (lost_column g run) 0) (lost_node g run % row_count g)

-- the uncoupled values of layer n are solved for. A lone layer of a run is solved itself; of more, those are in which the lost node is unpaired
-- and that differ from one of the run at most in the digit of its column.
abbrev pub is_solved : Shape → LostRun → ℕ → Bool
is_solved g run n =
    if nat_eq run.to (suc run.from) then nat_eq n run.from
    else (is_unpaired g run n && not (nat_eq (count_below (row_count g) (λ x. is_wanted run (layer_with g n (lost_column g run) x))) 0))

-- the lost node; or, where it stands in the last column itself, one of the first column that stands for a chunk and is paired in layer n
abbrev pub further_node : Shape → LostRun → ℕ → ℕ
further_node g run n =
    if nat_eq (suc (lost_column g run)) (column_count g) then (if nat_eq (get_or (layer_of g n) 0 0) 0 then 1 else 0)
    else lost_node g run

-- node i's value in layer n is one of as many as sums tell: those of the lost node's column where it is unpaired; where it is paired, those of
-- the last column's paired nodes, and of one more
abbrev pub is_unknown : Shape → LostRun → ℕ → ℕ → Bool
is_unknown g run n i =
    if is_unpaired g run n then nat_eq (i / row_count g) (lost_column g run)
    else ((nat_eq (i / row_count g) (column_count g - 1) && not (nat_eq i (unpaired_node g (column_count g - 1) n))) || nat_eq i (further_node g run n))
