use Rattle.std.proofs.Common.{Err, ◌++◌}
use Rattle.std.specs.Prelude.{codes}
use Rattle.line_grammar.specs.Reads.{ReadsContent}
use Rattle.line_grammar.proofs.HandedOn.{handed_on}
use Rattle.line_grammar.proofs.ContentLaws.{ramp_reads}
use Rattle.line_grammar.proofs.content_words.read_ramp.Goals as goal

pub returns-in_err-first : goal.returns-in_err-first
returns-in_err-first c =
    handed_on (ReadsContent (codes "ramp:" ++ c.args.words.now)) c.from_residual.result c.in_err-first.field-0.0 c.from_residual.ensures.1
    (ramp_reads c.args.words.now (Err c.in_err-first.field-0.0) c.in_err-first.ensures)
