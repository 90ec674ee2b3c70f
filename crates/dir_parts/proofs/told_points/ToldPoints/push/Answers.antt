use Rattle.std.proofs.Common.{ap, ◌∙◌}
use Rattle.dir_parts.specs.ToldPoints.{points_of}
use Rattle.dir_parts.proofs.ToldPoints.{points_back}
use Rattle.dir_parts.proofs.told_points.ToldPoints.push.Goals as goal

pub returns : goal.returns
returns c = ap points_of c.of-tag.ensures ∙ points_back _
