use Rattle.std.proofs.Common.{refl, ◌++◌}
use Rattle.std.specs.Prelude.{codes}
use Rattle.store_map.specs.declared.actor.Token.TheVariants.{Client}
use Rattle.line_grammar.proofs.TextLaws.{token_err, client_only}
use Rattle.line_grammar.specs.ReadsLine.{ReadsToken}
use Rattle.line_grammar.proofs.HandedOn.{handed_on}
use Rattle.line_grammar.proofs.script_lines.read_client_step.Goals as goal

pub returns-in_err-client : goal.returns-in_err-client
returns-in_err-client c = λ form.
    handed_on (ReadsToken form (codes "c " ++ c.args.word.now)) c.from_residual.result c.in_err-client.field-0.0 c.from_residual.ensures.1
    (token_err form (codes "c ") c.args.word.now (λ i. Client i) (λ i. tt) (λ i. refl) (λ i. refl) (client_only c.args.word.now) c.in_err-client.field-0.0 c.in_err-client.ensures)
