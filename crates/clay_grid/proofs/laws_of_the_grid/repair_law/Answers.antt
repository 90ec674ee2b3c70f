use Rattle.std.proofs.Common.{arith}
use Rattle.clay_grid.proofs.LimitLaws.{node_of_chunk-lt}
use Rattle.clay_grid.proofs.RepairLaws.{length-repair_layers_of}
use Rattle.clay_grid.proofs.laws_of_the_grid.repair_law.Goals as goal

pub returns : goal.returns
returns c = λ g chunk h below. length-repair_layers_of g chunk (omega (arith, h.limits.parity_chunks.0)) (node_of_chunk-lt g chunk h below)
