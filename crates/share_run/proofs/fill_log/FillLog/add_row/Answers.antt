use Rattle.std.proofs.Common.{◌∙◌, ap}
use Rattle.share_run.specs.Logs.{filled_of}
use Rattle.share_run.proofs.PlaceLemmas.{log_told}
use Rattle.share_run.proofs.fill_log.FillLog.add_row.Goals as goal

pub returns : goal.returns
returns g c = ap (λ ns. filled_of ns) c.of-tag.ensures ∙ log_told _
