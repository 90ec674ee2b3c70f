use Rattle.std.proofs.Common.{◌≡◌, true}
use Rattle.line_grammar.proofs.CallLaws.{not_small}
use Rattle.line_grammar.proofs.TextLaws.{code_no_space, code_no_second, code_parts, code_made, refused_is_none, shape}
use Rattle.line_grammar.proofs.script_lines.read_code_words.Goals as goal

pub returns-in_default : goal.returns-in_default
returns-in_default c = λ g form. code_no_space c.args.words.now c.in_default.ensures.none g

pub returns-in_default-split_at_first : goal.returns-in_default-split_at_first
returns-in_default-split_at_first c = λ g form.
    code_no_second c.args.words.now c.in-Some.k.now c.in-Some.rest.now c.in-Some.ensures.found c.in-Some.ensures.first c.in_default-split_at_first.ensures.none g

pub returns-then-not-is_number : goal.returns-then-not-is_number
returns-then-not-is_number c = λ g form e.
    let parts = code_parts c.args.words.now c.in-Some.k.now c.in-Some.rest.now c.in-Some-split_at_first.m.now c.in-Some-split_at_first.w.now
    c.in-Some.ensures.found c.in-Some.ensures.first c.in-Some-split_at_first.ensures.found c.in-Some-split_at_first.ensures.first g e in
    let number : c.is_number.result ≡ true = c.is_number.ensures.1 (g.data_count, parts.0) in cc (number, c.if-not-is_number.true)

pub returns-then-not-is_number-2 : goal.returns-then-not-is_number-2
returns-then-not-is_number-2 c = λ g form e.
    let parts = code_parts c.args.words.now c.in-Some.k.now c.in-Some.rest.now c.in-Some-split_at_first.m.now c.in-Some-split_at_first.w.now
    c.in-Some.ensures.found c.in-Some.ensures.first c.in-Some-split_at_first.ensures.found c.in-Some-split_at_first.ensures.first g e in
    let number : c.is_number-2.result ≡ true = c.is_number-2.ensures.1 (g.parity_count, parts.1) in cc (number, c.if-not-is_number-2.true)

pub returns-then-not-is_number-3 : goal.returns-then-not-is_number-3
returns-then-not-is_number-3 c = λ g form e.
    let parts = code_parts c.args.words.now c.in-Some.k.now c.in-Some.rest.now c.in-Some-split_at_first.m.now c.in-Some-split_at_first.w.now
    c.in-Some.ensures.found c.in-Some.ensures.first c.in-Some-split_at_first.ensures.found c.in-Some-split_at_first.ensures.first g e in
    let number : c.is_number-3.result ≡ true = c.is_number-3.ensures.1 (g.width, parts.2) in cc (number, c.if-not-is_number-3.true)

pub returns-in_default-small_number : goal.returns-in_default-small_number
returns-in_default-small_number c =
    let large = c.in_default-small_number.ensures in
    let m = c.is_number-2.ensures.0 c.if-not-is_number-2.false in
    let w = c.is_number-3.ensures.0 c.if-not-is_number-3.false in (
      shape large.0 m.0 w.0,
      tt,
      λ fits. not_small large.0 large.1 fits.0,
      code_made c.args.words.now c.in-Some.k.now c.in-Some.rest.now c.in-Some-split_at_first.m.now c.in-Some-split_at_first.w.now large.0 m.0 w.0
          c.in-Some.ensures.found c.in-Some-split_at_first.ensures.found large.2 m.1 w.1,
    )

pub returns-in_default-small_number-2 : goal.returns-in_default-small_number-2
returns-in_default-small_number-2 c =
    let large = c.in_default-small_number-2.ensures in
    let w = c.is_number-3.ensures.0 c.if-not-is_number-3.false in (
      shape c.in-Some-small_number.k large.0 w.0,
      tt,
      λ fits. not_small large.0 large.1 fits.1,
      code_made c.args.words.now c.in-Some.k.now c.in-Some.rest.now c.in-Some-split_at_first.m.now c.in-Some-split_at_first.w.now c.in-Some-small_number.k large.0 w.0
          c.in-Some.ensures.found c.in-Some-split_at_first.ensures.found c.in-Some-small_number.ensures.1 large.2 w.1,
    )

pub returns-in_default-small_number-3 : goal.returns-in_default-small_number-3
returns-in_default-small_number-3 c =
    let large = c.in_default-small_number-3.ensures in (
      shape c.in-Some-small_number.k c.in-Some-small_number-2.m large.0,
      tt,
      λ fits. not_small large.0 large.1 fits.2,
      code_made c.args.words.now c.in-Some.k.now c.in-Some.rest.now c.in-Some-split_at_first.m.now c.in-Some-split_at_first.w.now c.in-Some-small_number.k c.in-Some-small_number-2.m large.0
          c.in-Some.ensures.found c.in-Some-split_at_first.ensures.found c.in-Some-small_number.ensures.1 c.in-Some-small_number-2.ensures.1 large.2,
    )

pub returns-in-Err : goal.returns-in-Err
returns-in-Err c =
    let g = shape c.in-Some-small_number.k c.in-Some-small_number-2.m c.in-Some-small_number-3.w in (
      g,
      (c.in-Some-small_number.ensures.0, c.in-Some-small_number-2.ensures.0, c.in-Some-small_number-3.ensures.0),
      refused_is_none g c.in-Err.field-0 c.in-Err.ensures.refused,
      code_made c.args.words.now c.in-Some.k.now c.in-Some.rest.now c.in-Some-split_at_first.m.now c.in-Some-split_at_first.w.now c.in-Some-small_number.k c.in-Some-small_number-2.m c.in-Some-small_number-3.w
          c.in-Some.ensures.found c.in-Some-split_at_first.ensures.found c.in-Some-small_number.ensures.1 c.in-Some-small_number-2.ensures.1 c.in-Some-small_number-3.ensures.1,
    )
