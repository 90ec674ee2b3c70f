use Rattle.std.proofs.Common.{◌≡◌, true, arith}
use Rattle.line_grammar.proofs.DigitLaws.{never_spelled}
use Rattle.transcript_read.proofs.reply_field.read_bytes.Goals as goal
use Rattle.transcript_read.proofs.reply_field.read_bytes.Goals.{then-not-are_lower_digits-via-then-not-are_lower_digits, then-not-are_lower_digits-via-else-not-are_lower_digits+then-digits-ne0}

pub returns-then-not-are_lower_digits : goal.returns-then-not-are_lower_digits
returns-then-not-are_lower_digits c = λ bytes are e.
    let spelled = never_spelled c.args.digits.now bytes are e in
    elim c.then-not-are_lower_digits.branch [
      | then-not-are_lower_digits-via-then-not-are_lower_digits w ↦
          let yes : c.are_lower_digits.result ≡ true = c.are_lower_digits.ensures.1 spelled.0 in cc (yes)
      | then-not-are_lower_digits-via-else-not-are_lower_digits+then-digits-ne0 w ↦ omega (arith, spelled.1)
    ]
