use Rattle.std.proofs.Common.{◌≡◌}
use Rattle.clay_lanes.specs.Recovered.{missing_from}
use Rattle.clay_lanes.proofs.block_chunks.missing_numbers.Given as goal

abbrev pub invariant-loop-c : goal.invariant-loop-c
invariant-loop-c l = l.numbers.items ≡ missing_from l.have 0 l.c
