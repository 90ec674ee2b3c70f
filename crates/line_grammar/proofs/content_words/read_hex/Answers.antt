use Rattle.std.proofs.Common.{◌≡◌, ◌++◌, ℕ, true, List, ap, arith}
use Rattle.std.specs.Prelude.{codes}
use Rattle.line_grammar.proofs.ContentLaws.{no_hex_digits, hex_too_long, hex_few}
use Rattle.line_grammar.proofs.content_words.read_hex.Goals as goal
use Rattle.line_grammar.proofs.content_words.read_hex.Goals.{then-not-are_lower_digits-via-then-not-are_lower_digits, then-not-are_lower_digits-via-else-not-are_lower_digits+then-digits-ne0}

pub returns-then-not-are_lower_digits : goal.returns-then-not-are_lower_digits
returns-then-not-are_lower_digits c = no_hex_digits c.args.digits.now (λ lower even.
    elim c.then-not-are_lower_digits.branch [
      | then-not-are_lower_digits-via-then-not-are_lower_digits w ↦
          let yes : c.are_lower_digits.result ≡ true = c.are_lower_digits.ensures.1 lower in cc (yes)
      | then-not-are_lower_digits-via-else-not-are_lower_digits+then-digits-ne0 w ↦ omega (arith, even)
    ])

pub returns-then-digits : goal.returns-then-digits
returns-then-digits c =
    hex_too_long c.args.digits.now (c.are_lower_digits.ensures.0 c.if-not-are_lower_digits.false) c.if-digits-ne0.false c.if-digits.true

pub from_vec-requires : goal.from_vec-requires
from_vec-requires c =
    let few = hex_few c.in-Ok.bytes.items c.args.digits.now c.in-Ok.ensures.spelled (omega arith) in
    omega (arith, few)

pub returns-in-Ok : goal.returns-in-Ok
returns-in-Ok c =
    let few = hex_few c.in-Ok.bytes.items c.args.digits.now c.in-Ok.ensures.spelled (omega arith) in
    rw c.from_vec.ensures (c.in-Ok.ensures.bytes, few, ap (λ (l : List ℕ). codes "hex:" ++ l) c.in-Ok.ensures.spelled)
