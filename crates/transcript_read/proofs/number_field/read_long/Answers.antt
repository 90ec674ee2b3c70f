use Rattle.std.proofs.Common.{◌≡◌, true}
use Rattle.std.specs.declared.num.ParseIntError.{ParseIntError}
use Rattle.line_grammar.proofs.NumberLaws.{digits_from_number, digits_are_text}
use Rattle.transcript_read.proofs.PartLaws.{no_long_word, parsed_long}
use Rattle.transcript_read.proofs.number_field.read_long.Goals as goal

pub returns-then-not-is_number : goal.returns-then-not-is_number
returns-then-not-is_number c =
    no_long_word c.args.word.now (λ word. let yes : c.is_number.result ≡ true = c.is_number.ensures.1 word in cc (yes, c.if-not-is_number.true))

pub returns-in-Ok : goal.returns-in-Ok
returns-in-Ok c =
    let same = c.in-Ok.ensures.cases.0 in
    let digits = digits_from_number c.args.word.now (c.is_number.ensures.0 c.if-not-is_number.false) in
    rw (c.ok.ensures.value, ← same) (parsed_long ParseIntError c.in-Ok.text.now c.parse.result (rw same digits) c.parse.ensures.value.0)

pub returns-in-Err : goal.returns-in-Err
returns-in-Err c =
    let digits = digits_from_number c.args.word.now (c.is_number.ensures.0 c.if-not-is_number.false) in
    absurd (c.in-Err.ensures.cases.0 (digits_are_text c.args.word.now digits.digits))
