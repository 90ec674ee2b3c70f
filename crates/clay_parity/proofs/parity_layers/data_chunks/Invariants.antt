use Rattle.std.proofs.Common.{◌≡◌, ◌+◌, ◌*◌, map, slice_range}
use Rattle.std.specs.List.{range_with_len}
use Rattle.clay_model.specs.Chunks.{contents}
use Rattle.clay_parity.proofs.parity_layers.data_chunks.Given as goal

abbrev pub invariant-loop-c : goal.invariant-loop-c
invariant-loop-c l = contents l.chunks.items ≡ map (λ c. slice_range l.stripe (c * l.len) ((c + 1) * l.len)) (range_with_len 0 l.c)
