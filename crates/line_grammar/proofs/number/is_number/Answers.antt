use Rattle.std.proofs.Common.{length, sym, ◌∙◌, arith}
use Rattle.std.proofs.lemmas.Bool.{eqb-true, eqb-false}
use Rattle.line_grammar.proofs.NumberLaws.{number_from_digits, digits_from_number, digits_from_test, test_from_digits}
use Rattle.line_grammar.proofs.number.is_number.Goals as goal
use Rattle.line_grammar.proofs.number.is_number.Goals.{else-word-eq48-via-then-word-eq48+else-word-gt1, else-word-eq48-via-else-word-eq48}

pub returns-then-is_empty : goal.returns-then-is_empty
returns-then-is_empty c = (
  λ t. cc t,
  λ number.
      let digits = digits_from_number c.args.word.now number in
      let empty = eqb-true (length c.args.word.now) 0 (sym c.is_empty.ensures ∙ c.if-is_empty.true) in
      absurd (omega (arith, digits.some, empty)),
)

pub returns-then-word-gt1 : goal.returns-then-word-gt1
returns-then-word-gt1 c = (
  λ t. cc t,
  λ number.
      let digits = digits_from_number c.args.word.now number in
      absurd (omega (arith, digits.alone c.if-word-eq48.true, c.if-word-gt1.true)),
)

pub returns : goal.returns
returns c = (
  λ t. number_from_digits c.args.word.now (record {
    some = omega (arith, eqb-false (length c.args.word.now) 0 (sym c.is_empty.ensures ∙ c.if-is_empty.false));
    digits = digits_from_test c.args.word.now (c.are_digits.ensures.0 t);
    alone = λ zero_first. elim c.else-word-eq48.branch [
      | else-word-eq48-via-then-word-eq48+else-word-gt1 w ↦ omega (arith, eqb-false (length c.args.word.now) 0 (sym c.is_empty.ensures ∙ c.if-is_empty.false))
      | else-word-eq48-via-else-word-eq48 w ↦ absurd (w.if-word-eq48.false zero_first)
    ];
  }),
  λ number. c.are_digits.ensures.1 (test_from_digits c.args.word.now (digits_from_number c.args.word.now number).digits),
)
