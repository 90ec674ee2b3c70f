use Rattle.std.proofs.Common.{◌≡◌, ℕ, ◌+◌, ◌-◌, ◌%◌, get_or, bit_xor, ◌/◌, sym, ap, subst, arith}
use Rattle.std.proofs.lemmas.List.{get_or_read}
use Rattle.crc64.specs.Tables.{HasRemainders}
use Rattle.crc64.proofs.Lookups.{pushed_next}
use Rattle.crc64.proofs.Crc64.new.Goals as goal

pub loop-place-preserved : goal.loop-place-preserved
loop-place-preserved c =
    let entries = c.loop-place.remainders.items in
    let shorter : ℕ = c.index-shorter.result.now in
    let long = c.loop-place.invariant.long in
    let before : shorter ≡ get_or entries (c.loop-place.place - 256) 0 =
    get_or_read entries (c.loop-place.place - 256) shorter (omega (arith, long, c.loop-place.auto.place)) c.index-shorter.ensures 0 in
    let low : c.index.result.now ≡ get_or entries (shorter % 256) 0 =
    get_or_read entries (shorter % 256) c.index.result.now (omega (arith, long, c.loop-place.auto.place)) c.index.ensures 0 in
    subst (HasRemainders (c.loop-place.place + 1)) (sym c.in_ok-push.ensures.items)
    (pushed_next c.loop-place.place (bit_xor c.index.result.now (shorter / 256)) shorter entries c.loop-place.invariant (omega (arith, c.loop-place.auto.place)) before
    (ap (λ v. bit_xor v (shorter / 256)) low))
