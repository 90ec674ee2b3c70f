use Rattle.std.proofs.Common.{◌≡◌, map}
use Rattle.std.specs.List.{range_with_len}
use Rattle.lost_layers.specs.Without.{is_gone}
use Rattle.lost_layers.proofs.marked.mark_gone.Given as goal

abbrev pub invariant-loop-node : goal.invariant-loop-node
invariant-loop-node l = l.marks.items ≡ map (is_gone l.g l.run l.present) (range_with_len 0 l.node)
