use Rattle.clay_grid.proofs.LimitLaws.{IsGeometry-limits}
use Rattle.clay_grid.proofs.laws_of_the_grid.limit_law.Goals as goal

pub returns : goal.returns
returns c = IsGeometry-limits
