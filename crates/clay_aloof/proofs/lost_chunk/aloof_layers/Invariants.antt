use Rattle.std.proofs.Common.{◌≡◌, eqb, get_or, filter}
use Rattle.std.specs.List.{range_with_len}
use Rattle.clay_grid.specs.Layers.{layer_of}
use Rattle.clay_aloof.proofs.lost_chunk.aloof_layers.Given as goal

abbrev pub invariant-loop-z : goal.invariant-loop-z
invariant-loop-z l = l.layers.items ≡ filter (λ z. eqb (get_or (layer_of l.grid z) l.y 0) l.x) (range_with_len 0 l.z)
