use Rattle.std.proofs.Common.{◌∙◌}
use Rattle.clay_model.proofs.PairLaws.{fifth_lem}
use Rattle.clay_model.proofs.coupling.fifth.Goals as goal

pub returns : goal.returns
returns c = c.mul.ensures ∙ fifth_lem c.args.a
