use Rattle.std.proofs.Common.{◌≡◌, true, sym, subst}
use Rattle.std.specs.declared.num.ParseIntError.{ParseIntError}
use Rattle.line_grammar.specs.Numbers.{IsNumberWord}
use Rattle.line_grammar.proofs.NumberLaws.{digits_from_number}
use Rattle.clay_words.proofs.StartLaws.{parsed_start, no_start_word}
use Rattle.clay_words.proofs.numbers_of_words.start_of.Goals as goal

pub returns-then-not-is_number : goal.returns-then-not-is_number
returns-then-not-is_number c =
    no_start_word c.args.word.now (λ word.
    let yes : c.is_number.result ≡ true = c.is_number.ensures.1 (subst IsNumberWord (sym c.as_bytes.ensures.value) word) in cc (yes, c.if-not-is_number.true))

pub returns : goal.returns
returns c =
    let number : IsNumberWord c.args.word.now = subst IsNumberWord c.as_bytes.ensures.value (c.is_number.ensures.0 c.if-not-is_number.false) in
    rw c.ok.ensures.value (parsed_start ParseIntError c.args.word.now c.parse.result (digits_from_number c.args.word.now number) c.parse.ensures.value.0)
