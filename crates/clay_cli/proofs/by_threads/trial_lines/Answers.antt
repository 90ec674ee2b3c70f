use Rattle.std.proofs.Common.{◌∙◌}
use Rattle.clay_cli.proofs.Outputs.{on_ok}
use Rattle.clay_cli.proofs.by_threads.trial_lines.Goals as goal

pub returns : goal.returns
returns c = on_ok c.from_slice.result (λ text made. made ∙ c.as_bytes.ensures.value ∙ c.in_ok-lines.ensures.ok) c.from_slice.ensures.items
