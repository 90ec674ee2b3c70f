use Rattle.std.proofs.Common.{◌≡◌, true}
use Rattle.line_grammar.proofs.DecimalLaws.{found_decimal, no_decimal, no_word}
use Rattle.line_grammar.proofs.number.read_number.Goals as goal

pub returns-then-is_number-clause-found : goal.returns-then-is_number-clause-found
returns-then-is_number-clause-found c = found_decimal c.args.word.now c.small_number.result c.small_number.ensures

pub returns-then-is_number-clause-none : goal.returns-then-is_number-clause-none
returns-then-is_number-clause-none c = no_decimal c.args.word.now c.small_number.result c.small_number.ensures

pub returns-else-is_number-clause-none : goal.returns-else-is_number-clause-none
returns-else-is_number-clause-none c =
    no_word c.args.word.now (λ word. let yes : c.is_number.result ≡ true = c.is_number.ensures.1 word in cc (yes, c.if-is_number.false))
