use Rattle.std.proofs.Common.{ap, ◌∙◌}
use Rattle.dir_parts.specs.ToldPoints.{points_of}
use Rattle.dir_parts.proofs.ToldPoints.{points_back}
use Rattle.dir_parts.proofs.told_points.ToldPoints.new.Goals as goal

pub returns : goal.returns
returns c = ap points_of c.of.ensures ∙ points_back _
