use Rattle.std.specs.declared.num.ParseIntError.{ParseIntError}
use Rattle.line_grammar.proofs.NumberLaws.{parsed, digits_from_number, digits_are_text}
use Rattle.line_grammar.proofs.number.small_number.Goals as goal

pub returns-in-Ok : goal.returns-in-Ok
returns-in-Ok c =
    let same = c.in-Ok.ensures.cases.0 in
    let digits = digits_from_number c.args.word.now c.requires in
    rw (c.ok.ensures.value, ← same) (parsed ParseIntError c.in-Ok.text.now c.parse.result (rw same digits) c.parse.ensures.value.0)

pub returns-in-Err : goal.returns-in-Err
returns-in-Err c =
    let digits = digits_from_number c.args.word.now c.requires in
    absurd (c.in-Err.ensures.cases.0 (digits_are_text c.args.word.now digits.digits))
