use Rattle.std.proofs.Common.{◌≡◌, true}
use Rattle.line_grammar.proofs.ContentLaws.{byte_digits}
use Rattle.line_grammar.proofs.ByteLaws.{byte_found, byte_refused}
use Rattle.line_grammar.proofs.content_words.read_byte.Goals as goal
use Rattle.line_grammar.proofs.content_words.read_byte.Goals.{then-word-ne2-via-then-word-ne2, then-word-ne2-via-else-word-ne2+then-not-are_lower_digits}

pub returns-then-word-ne2 : goal.returns-then-word-ne2
returns-then-word-ne2 c = λ b h e.
    let digits = byte_digits c.args.word.now b h e in
    elim c.then-word-ne2.branch [
      | then-word-ne2-via-then-word-ne2 w ↦ absurd (w.if-word-ne2.true digits.0)
      | then-word-ne2-via-else-word-ne2+then-not-are_lower_digits w ↦
          let lower : w.are_lower_digits.result ≡ true = w.are_lower_digits.ensures.1 digits.1 in cc (lower, w.if-not-are_lower_digits.true)
    ]

pub returns-in-Ok : goal.returns-in-Ok
returns-in-Ok c =
    byte_found c.args.word.now c.decode_to_slice.new.out (c.are_lower_digits.ensures.0 c.if-not-are_lower_digits.false) c.if-word-ne2.false c.in-Ok.ensures.value

pub returns-in-Err : goal.returns-in-Err
returns-in-Err c = λ b h e. byte_refused c.args.word.now c.decode_to_slice.new.out c.in-Err.field-0 b h e c.in-Err.ensures.value
