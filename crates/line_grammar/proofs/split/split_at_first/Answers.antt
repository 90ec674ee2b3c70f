use Rattle.std.proofs.Common.{arith}
use Rattle.line_grammar.proofs.LineLaws.{Lacks-from_tests, Lacks-before}
use Rattle.line_grammar.proofs.split.split_at_first.Goals as goal

pub returns-in_err-at-clause-none : goal.returns-in_err-at-clause-none
returns-in_err-at-clause-none c = rw c.from_residual.ensures (Lacks-from_tests c.args.byte c.args.text.now (λ k lt. c.in_err-at.ensures k (omega arith) lt))

pub returns-clause-first : goal.returns-clause-first
returns-clause-first c =
    let found = c.in_ok-at.ensures.0 in
    Lacks-before c.args.byte c.args.text.now c.in_ok-at.at (omega (arith, found.high)) (λ k lt. found.before k (omega arith) lt)
