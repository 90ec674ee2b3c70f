use Rattle.std.proofs.Common.{◌≡◌, ◌/◌, ◌%◌, get_or, bit_xor, sym, ap, ◌∙◌, arith}
use Rattle.std.proofs.lemmas.Nat.{mod_below}
use Rattle.std.proofs.lemmas.List.{get_or_read}
use Rattle.crc64.proofs.Division.{after_none}
use Rattle.crc64.proofs.Lookups.{bytes_step}
use Rattle.crc64.proofs.Crc64.after_each.Goals as goal

pub loop-byte-init : goal.loop-byte-init
loop-byte-init c = sym (after_none c.args.start)

pub loop-byte-preserved : goal.loop-byte-preserved
loop-byte-preserved c =
    let entries = c.args.self.now.remainders.items in
    let filled = c.args.self.now.filled in
    let register = c.loop-byte.register in
    let low = bit_xor register c.from.result % 256 in
    let found : c.index.result.now ≡ get_or entries low 0 =
    get_or_read entries low c.index.result.now (omega (arith, filled.long, mod_below (bit_xor register c.from.result) 256 (omega arith))) c.index.ensures 0 in
    bytes_step c.args.start register (bit_xor c.index.result.now (register / 256)) c.loop-byte.byte-index c.args.bytes.now entries filled
    (omega (arith, c.loop-byte-test.true)) (c.type_inv.bytes c.loop-byte.byte-index).fits c.loop-byte.invariant
    (ap (λ v. bit_xor v (register / 256)) found ∙ ap (λ b. bit_xor (get_or entries (bit_xor register b % 256) 0) (register / 256)) c.from.ensures)
