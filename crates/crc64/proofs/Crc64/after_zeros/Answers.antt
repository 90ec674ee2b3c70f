use Rattle.std.proofs.Common.{◌≡◌, ◌%◌, get_or, sym, arith}
use Rattle.std.proofs.lemmas.Nat.{mod_below}
use Rattle.std.proofs.lemmas.List.{get_or_read}
use Rattle.crc64.proofs.Division.{remainder_none}
use Rattle.crc64.proofs.Combined.{zero_byte}
use Rattle.crc64.proofs.Crc64.after_zeros.Goals as goal

pub loop-byte-init : goal.loop-byte-init
loop-byte-init c = sym (remainder_none c.args.start)

pub loop-byte-preserved : goal.loop-byte-preserved
loop-byte-preserved c =
    let entries = c.args.self.now.remainders.items in
    let filled = c.args.self.now.filled in
    let register = c.loop-byte.register in
    let found : c.index.result.now ≡ get_or entries (register % 256) 0 =
    get_or_read entries (register % 256) c.index.result.now (omega (arith, filled.long, mod_below register 256 (omega arith))) c.index.ensures 0 in
    zero_byte c.args.start c.loop-byte._byte register c.index.result.now entries filled c.loop-byte.invariant found
