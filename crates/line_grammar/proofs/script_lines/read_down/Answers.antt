use Rattle.std.proofs.Common.{refl, ◌++◌}
use Rattle.std.specs.Prelude.{codes}
use Rattle.store_map.specs.declared.actor.Token.TheVariants.{Down}
use Rattle.line_grammar.proofs.TextLaws.{token_err, down_only}
use Rattle.line_grammar.specs.ReadsLine.{ReadsToken}
use Rattle.line_grammar.proofs.HandedOn.{handed_on}
use Rattle.line_grammar.proofs.script_lines.read_down.Goals as goal

pub returns-in_err-server : goal.returns-in_err-server
returns-in_err-server c =
    handed_on (ReadsToken 2 (codes "down " ++ c.args.word.now)) c.from_residual.result c.in_err-server.field-0.0 c.from_residual.ensures.1
    (token_err 2 (codes "down ") c.args.word.now (λ i. Down i) (λ i. refl) (λ i. refl) (λ i. refl) (down_only c.args.word.now) c.in_err-server.field-0.0 c.in_err-server.ensures)
