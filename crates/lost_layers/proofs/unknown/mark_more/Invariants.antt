use Rattle.std.proofs.Common.{◌≡◌, fold, filter}
use Rattle.std.specs.List.{range_with_len}
use Rattle.lost_layers.specs.Unknown.{is_chosen, with_node}
use Rattle.lost_layers.proofs.unknown.mark_more.Given as goal

abbrev pub invariant-loop-node : goal.invariant-loop-node
invariant-loop-node l =
    l.marks ≡ fold (with_node l.placed.g) l.initial.marks (filter (is_chosen l.placed.g l.placed.run l.missing l.choice) (range_with_len 0 l.node))
