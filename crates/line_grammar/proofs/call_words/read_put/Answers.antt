use Rattle.std.proofs.Common.{◌≡◌, ◌++◌, true, sym, ◌∙◌}
use Rattle.std.specs.Prelude.{codes}
use Rattle.line_grammar.specs.Reads.{ReadsCall}
use Rattle.line_grammar.proofs.HandedOn.{handed_on}
use Rattle.line_grammar.proofs.CallLaws.{put_no_space, put_parts, put_err}
use Rattle.line_grammar.proofs.call_words.read_put.Goals as goal

pub returns-in_default : goal.returns-in_default
returns-in_default c = put_no_space c.args.words.now c.in_default.ensures.none

pub returns-then-not-is_name : goal.returns-then-not-is_name
returns-then-not-is_name c = λ call form e.
    let parts = put_parts c.args.words.now c.in-Some.name.now c.in-Some.data.now c.in-Some.ensures.found c.in-Some.ensures.first call form e in
    let named : c.is_name.result ≡ true = c.is_name.ensures ∙ parts.0 in cc (named, c.if-not-is_name.true)

pub returns-in_err-content : goal.returns-in_err-content
returns-in_err-content c =
    handed_on (ReadsCall (codes "put " ++ c.args.words.now)) c.from_residual.result c.in_err-content.field-0.0 c.from_residual.ensures.1
    (put_err c.args.words.now c.in-Some.name.now c.in-Some.data.now c.in_err-content.field-0.0 c.in-Some.ensures.found c.in-Some.ensures.first
    (sym c.is_name.ensures ∙ c.if-not-is_name.false) c.in_err-content.ensures)
