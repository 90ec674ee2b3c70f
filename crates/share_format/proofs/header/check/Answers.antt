use Rattle.std.proofs.Common.{sym, arith}
use Rattle.std.proofs.lemmas.List.{length-take-le}
use Rattle.share_format.proofs.header.check.Goals as goal

pub slice_bounds-told-end : goal.slice_bounds-told-end
slice_bounds-told-end c = sym (length-take-le 56 c.args.bytes.now (omega (arith, c.requires)))
