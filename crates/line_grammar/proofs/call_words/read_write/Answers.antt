use Rattle.std.proofs.Common.{◌≡◌, ◌++◌, true, sym, ◌∙◌}
use Rattle.std.specs.Prelude.{codes}
use Rattle.line_grammar.specs.Reads.{ReadsCall}
use Rattle.line_grammar.proofs.HandedOn.{handed_on}
use Rattle.store_map.specs.declared.call.Call.TheVariants.{Write}
use Rattle.line_grammar.proofs.CallLaws.{write_no_space, write_no_second, write_parts, write_made, write_err, not_small}
use Rattle.line_grammar.proofs.call_words.read_write.Goals as goal

pub returns-in_default : goal.returns-in_default
returns-in_default c = write_no_space c.args.words.now c.in_default.ensures.none

pub returns-in_default-split_at_first : goal.returns-in_default-split_at_first
returns-in_default-split_at_first c =
    write_no_second c.args.words.now c.in-Some.name.now c.in-Some.rest.now c.in-Some.ensures.found c.in-Some.ensures.first c.in_default-split_at_first.ensures.none

pub returns-then-not-is_name : goal.returns-then-not-is_name
returns-then-not-is_name c = λ call form e.
    let parts = write_parts c.args.words.now c.in-Some.name.now c.in-Some.rest.now c.in-Some-split_at_first.offset.now c.in-Some-split_at_first.data.now
    c.in-Some.ensures.found c.in-Some.ensures.first c.in-Some-split_at_first.ensures.found c.in-Some-split_at_first.ensures.first call form e in
    let named : c.is_name.result ≡ true = c.is_name.ensures ∙ parts.0 in cc (named, c.if-not-is_name.true)

pub returns-then-not-is_number : goal.returns-then-not-is_number
returns-then-not-is_number c = λ call form e.
    let parts = write_parts c.args.words.now c.in-Some.name.now c.in-Some.rest.now c.in-Some-split_at_first.offset.now c.in-Some-split_at_first.data.now
    c.in-Some.ensures.found c.in-Some.ensures.first c.in-Some-split_at_first.ensures.found c.in-Some-split_at_first.ensures.first call form e in
    let number : c.is_number.result ≡ true = c.is_number.ensures.1 (parts.1.0, parts.1.4) in cc (number, c.if-not-is_number.true)

pub returns-in_err-content : goal.returns-in_err-content
returns-in_err-content c =
    handed_on (ReadsCall (codes "write " ++ c.args.words.now)) c.from_residual.result c.in_err-content.field-0.0 c.from_residual.ensures.1
    (write_err c.args.words.now c.in-Some.name.now c.in-Some.rest.now c.in-Some-split_at_first.offset.now c.in-Some-split_at_first.data.now c.in_err-content.field-0.0
    c.in-Some.ensures.found c.in-Some.ensures.first c.in-Some-split_at_first.ensures.found c.in-Some-split_at_first.ensures.first
    (sym c.is_name.ensures ∙ c.if-not-is_name.false) (c.is_number.ensures.0 c.if-not-is_number.false) c.in_err-content.ensures)

pub returns-in_default-small_number : goal.returns-in_default-small_number
returns-in_default-small_number c =
    let large = c.in_default-small_number.ensures in (
      Write c.in-Some.name.now large.0 c.in_ok-content.content,
      (sym c.is_name.ensures ∙ c.if-not-is_name.false, c.in_ok-content.ensures.0),
      λ fits. not_small large.0 large.1 fits.0.0,
      write_made c.args.words.now c.in-Some.name.now c.in-Some.rest.now c.in-Some-split_at_first.offset.now c.in-Some-split_at_first.data.now large.0 c.in_ok-content.content
          c.in-Some.ensures.found c.in-Some-split_at_first.ensures.found large.2 c.in_ok-content.ensures.2,
    )
