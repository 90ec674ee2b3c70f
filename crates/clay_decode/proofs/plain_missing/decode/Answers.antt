use Rattle.std.proofs.Common.{refl, arith}
use Rattle.clay_decode.proofs.plain_missing.decode.Goals as goal

pub returns-then-missing_count-m-clause-too_few : goal.returns-then-missing_count-m-clause-too_few
returns-then-missing_count-m-clause-too_few c = (λ _. omega (arith, c.if-missing_count-m.true, c.m.ensures.value, c.missing_count.ensures), λ _. refl)
