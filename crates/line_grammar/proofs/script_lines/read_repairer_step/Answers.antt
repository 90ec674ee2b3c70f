use Rattle.std.proofs.Common.{refl, ◌++◌}
use Rattle.std.specs.Prelude.{codes}
use Rattle.store_map.specs.declared.actor.Token.TheVariants.{Repairer}
use Rattle.line_grammar.proofs.TextLaws.{token_err, repairer_only}
use Rattle.line_grammar.specs.ReadsLine.{ReadsToken}
use Rattle.line_grammar.proofs.HandedOn.{handed_on}
use Rattle.line_grammar.proofs.script_lines.read_repairer_step.Goals as goal

pub returns-in_err-repairer : goal.returns-in_err-repairer
returns-in_err-repairer c = λ form.
    handed_on (ReadsToken form (codes "r " ++ c.args.word.now)) c.from_residual.result c.in_err-repairer.field-0.0 c.from_residual.ensures.1
    (token_err form (codes "r ") c.args.word.now (λ i. Repairer i) (λ i. tt) (λ i. refl) (λ i. refl) (repairer_only c.args.word.now) c.in_err-repairer.field-0.0 c.in_err-repairer.ensures)
