use Rattle.lane_repair.specs.Views.{pieces_of}
use Rattle.clay_aloof.specs.Rebuilt.{HoldsLost}
use Rattle.clay_aloof.proofs.lost_chunk.write_lost.Given as goal

abbrev pub invariant-loop-z : goal.invariant-loop-z
invariant-loop-z l = HoldsLost l.g l.lost (pieces_of l.parts) l.z l.chunk
