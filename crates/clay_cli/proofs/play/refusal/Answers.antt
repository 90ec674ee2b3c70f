use Rattle.std.proofs.Common.{ap, ◌∙◌}
use Rattle.clay_cli.specs.Play.{refusal_line}
use Rattle.clay_cli.proofs.Outputs.{on_ok}
use Rattle.clay_cli.proofs.play.refusal.Goals as goal

pub returns-clause-line : goal.returns-clause-line
returns-clause-line c =
    on_ok c.line.result
    (λ output made. made.1 ∙ c.as_bytes.ensures.value ∙ c.in_ok-line.ensures.ok ∙ ap (λ word. refusal_line c.args.fault.line word) c.kind_text.ensures)
    c.line.ensures
