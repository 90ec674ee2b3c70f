use Rattle.std.proofs.Common.{◌≡◌, ℕ, ◌+◌, ◌-◌, ◌*◌, ◌/◌, ◌%◌, ◌^◌, ◌<◌, get_or, bit_xor, sym, ap, ◌∙◌, arith}
use Rattle.std.proofs.lemmas.Nat.{mod_below}
use Rattle.std.proofs.lemmas.List.{get_or_read}
use Rattle.crc64.specs.Remainder.{remainder}
use Rattle.crc64.proofs.Division.{remainder_zero}
use Rattle.crc64.proofs.Lookups.{word_step}
use Rattle.crc64.proofs.Crc64.word_remainder.Goals as goal

pub loop-place-init : goal.loop-place-init
loop-place-init c =
    let none : c.args.word % 1 ≡ 0 = omega arith in
    sym (ap (remainder (64 + 8 * c.args.behind)) none ∙ remainder_zero (64 + 8 * c.args.behind))

pub loop-place-preserved : goal.loop-place-preserved
loop-place-preserved c =
    let entries = c.args.self.now.remainders.items in
    let filled = c.args.self.now.filled in
    let place : ℕ = c.loop-place.place in
    let byte : ℕ = c.args.word / 2 ^ (8 * place) % 256 in
    let less : place < 8 = omega (arith, c.loop-place-test.true) in
    let low : byte < 256 = mod_below (c.args.word / 2 ^ (8 * place)) 256 (omega arith) in
    let found : c.index.result.now ≡ get_or entries ((c.args.behind + 7 - place) * 256 + byte) 0 =
    get_or_read entries ((c.args.behind + 7 - place) * 256 + byte) c.index.result.now (omega (arith, filled.long, c.requires, less, low)) c.index.ensures 0 in
    ap (bit_xor c.loop-place.sum) found
    ∙ word_step entries c.args.behind place c.args.word c.loop-place.sum filled c.requires less c.loop-place.invariant
