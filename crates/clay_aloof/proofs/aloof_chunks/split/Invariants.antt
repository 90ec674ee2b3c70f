use Rattle.std.proofs.Common.{◌≡◌}
use Rattle.clay_model.specs.Chunks.{contents}
use Rattle.clay_aloof.specs.Encoded.{chunks_in}
use Rattle.clay_aloof.proofs.aloof_chunks.split.Given as goal

abbrev pub invariant-loop-c : goal.invariant-loop-c
invariant-loop-c l = contents l.chunks.items ≡ chunks_in l.c l.len l.bytes
