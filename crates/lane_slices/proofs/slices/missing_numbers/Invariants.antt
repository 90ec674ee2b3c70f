use Rattle.std.proofs.Common.{◌≡◌}
use Rattle.lane_repair.specs.Views.{pieces_of}
use Rattle.clay_lanes.specs.Recovered.{missing_from}
use Rattle.lane_slices.proofs.slices.missing_numbers.Given as goal

abbrev pub invariant-loop-c : goal.invariant-loop-c
invariant-loop-c l = l.numbers.items ≡ missing_from (pieces_of l.have) 0 l.c
