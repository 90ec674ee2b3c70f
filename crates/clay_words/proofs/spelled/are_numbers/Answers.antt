use Rattle.std.proofs.Common.{◌≡◌, false, true, sym, subst, arith, String, Global, string_bytes}
use Rattle.line_grammar.specs.Numbers.{IsNumberWord}
use Rattle.clay_words.proofs.SpelledLaws.{one_more}
use Rattle.clay_words.proofs.spelled.are_numbers.Goals as goal

pub loop-word-preserved : goal.loop-word-preserved
loop-word-preserved c =
    let P : String Global → Type 0 = λ word. IsNumberWord (string_bytes word) in
    let number : P c.word-item.result = subst IsNumberWord c.as_bytes.ensures.value (c.is_number.ensures.0 c.if-not-is_number.false) in
    one_more P c.args.words.now c.loop-word.word-index c.word-item.result c.word-item.is (omega (arith, c.loop-word-test.true)) number c.loop-word.invariant

pub returns-then-not-is_number : goal.returns-then-not-is_number
returns-then-not-is_number c = (
  (λ bad. let h : false ≡ true = bad in cc),
  (λ all.
      let P : String Global → Type 0 = λ word. IsNumberWord (string_bytes word) in
      let number : P c.word-item.result = subst P (sym c.word-item.is) (all c.loop-word.word-index c.word-item.result (omega (arith, c.loop-word-test.true))) in
      let yes : c.is_number.result ≡ true = c.is_number.ensures.1 (subst IsNumberWord (sym c.as_bytes.ensures.value) number) in
      cc (yes, c.if-not-is_number.true)),
)
