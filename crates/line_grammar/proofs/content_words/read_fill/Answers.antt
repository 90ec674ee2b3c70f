use Rattle.std.proofs.Common.{Err, ◌++◌}
use Rattle.std.specs.Prelude.{codes}
use Rattle.line_grammar.specs.Reads.{ReadsContent}
use Rattle.line_grammar.proofs.HandedOn.{handed_on}
use Rattle.line_grammar.proofs.ContentLaws.{fill_reads}
use Rattle.line_grammar.proofs.content_words.read_fill.Goals as goal

pub returns-in_err-byte : goal.returns-in_err-byte
returns-in_err-byte c =
    handed_on (ReadsContent (codes "fill:" ++ c.args.words.now)) c.from_residual.result c.in_err-byte.field-0.0 c.from_residual.ensures.1
    (fill_reads c.args.words.now (Err c.in_err-byte.field-0.0) c.in_err-byte.ensures)
