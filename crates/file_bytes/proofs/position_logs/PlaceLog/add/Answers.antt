use Rattle.std.proofs.Common.{◌∙◌, ap}
use Rattle.file_bytes.specs.Logs.{placed_of}
use Rattle.file_bytes.proofs.PlaceLemmas.{log_told}
use Rattle.file_bytes.proofs.position_logs.PlaceLog.add.Goals as goal

pub returns : goal.returns
returns c = ap (λ ns. placed_of ns) c.of-tag.ensures ∙ log_told _
