use Rattle.std.proofs.Common.{refl, ◌++◌}
use Rattle.std.specs.Prelude.{codes}
use Rattle.store_map.specs.declared.actor.Token.TheVariants.{Wipe}
use Rattle.line_grammar.proofs.TextLaws.{token_err, wipe_only}
use Rattle.line_grammar.specs.ReadsLine.{ReadsToken}
use Rattle.line_grammar.proofs.HandedOn.{handed_on}
use Rattle.line_grammar.proofs.script_lines.read_wipe.Goals as goal

pub returns-in_err-server : goal.returns-in_err-server
returns-in_err-server c = λ form.
    handed_on (ReadsToken form (codes "wipe " ++ c.args.word.now)) c.from_residual.result c.in_err-server.field-0.0 c.from_residual.ensures.1
    (token_err form (codes "wipe ") c.args.word.now (λ i. Wipe i) (λ i. tt) (λ i. refl) (λ i. refl) (wipe_only c.args.word.now) c.in_err-server.field-0.0 c.in_err-server.ensures)
