use Rattle.std.proofs.Common.{refl, ◌++◌}
use Rattle.std.specs.Prelude.{codes}
use Rattle.store_map.specs.declared.actor.Token.TheVariants.{Up}
use Rattle.line_grammar.proofs.TextLaws.{token_err, up_only}
use Rattle.line_grammar.specs.ReadsLine.{ReadsToken}
use Rattle.line_grammar.proofs.HandedOn.{handed_on}
use Rattle.line_grammar.proofs.script_lines.read_up.Goals as goal

pub returns-in_err-server : goal.returns-in_err-server
returns-in_err-server c =
    handed_on (ReadsToken 2 (codes "up " ++ c.args.word.now)) c.from_residual.result c.in_err-server.field-0.0 c.from_residual.ensures.1
    (token_err 2 (codes "up ") c.args.word.now (λ i. Up i) (λ i. refl) (λ i. refl) (λ i. refl) (up_only c.args.word.now) c.in_err-server.field-0.0 c.in_err-server.ensures)
