use Rattle.std.proofs.Common.{◌≡◌, true, arith}
use Rattle.line_grammar.proofs.ContentLaws.{no_colon, run_parts, run_made}
use Rattle.line_grammar.proofs.content_words.read_run.Goals as goal

pub returns-in_default : goal.returns-in_default
returns-in_default c = no_colon c.args.words.now c.in_default.ensures.none

pub returns-in_default-read_byte : goal.returns-in_default-read_byte
returns-in_default-read_byte c = λ run h e.
    let parts = run_parts c.args.words.now c.in-Some.digits.now c.in-Some.number.now run h c.in-Some.ensures.found c.in-Some.ensures.first e in
    c.in_default-read_byte.ensures run.0 h parts.0

pub returns-then-not-is_number : goal.returns-then-not-is_number
returns-then-not-is_number c = λ run h e.
    let parts = run_parts c.args.words.now c.in-Some.digits.now c.in-Some.number.now run h c.in-Some.ensures.found c.in-Some.ensures.first e in
    let number : c.is_number.result ≡ true = c.is_number.ensures.1 (run.1, parts.1) in
    cc (number, c.if-not-is_number.true)

pub returns-in_default-small_number : goal.returns-in_default-small_number
returns-in_default-small_number c = (
  (c.in-Some-read_byte.byte, c.in-Some-small_number.length),
  c.in-Some-read_byte.ensures.0,
  λ fits. omega (arith, fits, c.if-length-le-MAX_DATA.false),
  run_made c.args.words.now c.in-Some.digits.now c.in-Some.number.now c.in-Some-read_byte.byte c.in-Some-small_number.length
      c.in-Some.ensures.found c.in-Some-read_byte.ensures.1 c.in-Some-small_number.ensures.1,
)

pub returns-in_default-small_number-2 : goal.returns-in_default-small_number-2
returns-in_default-small_number-2 c =
    let large = c.in_default-small_number.ensures in (
      (c.in-Some-read_byte.byte, large.0),
      c.in-Some-read_byte.ensures.0,
      λ fits. omega (arith, fits, large.1),
      run_made c.args.words.now c.in-Some.digits.now c.in-Some.number.now c.in-Some-read_byte.byte large.0
          c.in-Some.ensures.found c.in-Some-read_byte.ensures.1 large.2,
    )
