use Rattle.std.proofs.Common.{arith}
use Rattle.clay_grid.proofs.ScoreLaws.{score_at-le}
use Rattle.clay_grid.proofs.laws_of_the_grid.score_law.Goals as goal

pub returns : goal.returns
returns c = λ g erased z h. score_at-le g erased z (omega (arith, h.limits.parity_chunks.0))
