use Rattle.std.proofs.Common.{◌+◌, ◌-◌, arith}
use Rattle.crc64.specs.Folding.{span}
use Rattle.crc64.proofs.Struck.{digits_more}
use Rattle.crc64.proofs.folding.strike.Goals as goal

pub returns : goal.returns
returns c = λ start bytes have entered_are.
    let at = c.args.at in
    digits_more start at (at + span + 32 - at) bytes c.args.digits.now c.args.lanes c.gathered-sum.result c.requires (omega arith)
    c.gathered-sum.ensures have entered_are
