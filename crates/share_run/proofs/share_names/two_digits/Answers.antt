use Rattle.std.proofs.Common.{arith}
use Rattle.share_run.proofs.NameLemmas.{two_digits_are}
use Rattle.share_run.proofs.share_names.two_digits.Goals as goal

pub returns-in_ok-digit-in-len2-2 : goal.returns-in_ok-digit-in-len2-2
returns-in_ok-digit-in-len2-2 c =
    let tens = c.in_ok-digit-in-len2.ensures in
    let ones = c.in_ok-digit-in-len2-2.ensures in
    two_digits_are c.args.digits.now c.in_ok-digit-in-len2.field-0 c.in_ok-digit-in-len2-2.field-0 (omega (arith, c.in-len2.len_at_least, c.in-len2.len_below)) tens.0 ones.0 tens.1 ones.1
