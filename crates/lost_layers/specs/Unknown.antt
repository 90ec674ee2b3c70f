-- Which nodes count as unknown for a run.
use Rattle.std.specs.Prelude.{ℕ, suc, ◌/◌, ◌%◌, true, false, Bool, not, ◌&&◌, ◌||◌, nat_eq, nat_lt, if◌then◌else◌, List, ◌++◌, get_or, set, fold, filter}
use Rattle.std.specs.List.{range_with_len}
use Rattle.clay_grid.specs.Shape.{Shape, row_count, node_count}
use Rattle.clay_grid.specs.Layers.{layer_of}
use Rattle.clay_grid.specs.Score.{count_below}
use Rattle.lost_layers.specs.LostLayers.{unpaired_node, lost_column}
use Rattle.lost_layers.specs.declared.run.LostRun.{LostRun}
use Rattle.lost_layers.specs.declared.unknown.Choice.{Choice}
use Rattle.lost_layers.specs.declared.unknown.Choice.TheVariants.{OwnColumn, MetColumns, Paired}

-- the node of column y that the run's first layer leaves unpaired is missing
abbrev pub is_met : Shape → LostRun → List Bool → ℕ → Bool
is_met g run missing y = get_or missing (unpaired_node g y run.from) false

-- the nodes of a choice: of the lost node's column, where the run has more layers than one or its first meets a missing node there; of all
-- columns where that layer meets a missing node; those that are paired in that layer
abbrev pub is_chosen : Shape → LostRun → List Bool → Choice → ℕ → Bool
is_chosen g run missing OwnColumn i =
    nat_eq (i / row_count g) (lost_column g run) && (nat_lt (suc run.from) run.to || is_met g run missing (i / row_count g))
is_chosen g run missing MetColumns i = is_met g run missing (i / row_count g)
is_chosen g run missing Paired i = not (nat_eq (get_or (layer_of g run.from) (i / row_count g) 0) (i % row_count g))

-- these nodes, rising
abbrev pub chosen : Shape → LostRun → List Bool → Choice → List ℕ
chosen g run missing choice = filter (is_chosen g run missing choice) (range_with_len 0 (node_count g))

-- the marks with node i's, while there are fewer than parity chunks
abbrev pub with_node : Shape → List Bool → ℕ → List Bool
with_node g marks i = if nat_lt (count_below (node_count g) (λ j. get_or marks j false)) g.parity_count then set marks i true else marks

-- the missing nodes, then those of each choice, while there is room
abbrev pub unknown_from : Shape → LostRun → List Bool → List Bool
unknown_from g run missing =
    fold (with_node g) missing (chosen g run missing OwnColumn ++ (chosen g run missing MetColumns ++ chosen g run missing Paired))
