-- A put's stripes are its length in stripes, rounded up.
use Rattle.std.proofs.Common.{◌≡◌, ℕ, zero, suc, ◌+◌, ◌-◌, ◌*◌, ◌/◌, ◌<◌, sym, ap, ◌∙◌, arith}
use Rattle.std.proofs.Math.Nat.{add-div_right}
use Rattle.std.proofs.lemmas.Nat.{div-mul-add}
use Rattle.store_map.specs.Limits.{stripes_met}

zero-div : (stripe n : ℕ) → n < stripe → n / stripe ≡ 0
zero-div stripe n small =
    let back : n ≡ 0 * stripe + n = omega arith in
    ap (λ m. m / stripe) back ∙ div-mul-add 0 stripe n small

pub stripes_met-start : (stripe n : ℕ) → 0 < stripe → stripes_met stripe 0 n ≡ (n + stripe - 1) / stripe
stripes_met-start stripe zero some =
    let back : 0 + stripe - 1 ≡ stripe - 1 = omega arith in
    sym (ap (λ m. m / stripe) back ∙ zero-div stripe (stripe - 1) (omega arith))
stripes_met-start stripe (suc n) some =
    let first : 0 + n ≡ n = omega arith in
    let last : suc n + stripe - 1 ≡ n + stripe = omega arith in
    let none : 0 / stripe ≡ 0 = zero-div stripe 0 some in
    let shorter : n / stripe - 0 + 1 ≡ n / stripe + 1 = omega arith in
    (λ i. first i / stripe - none i + 1) ∙ shorter ∙ sym (add-div_right n some) ∙ sym (ap (λ m. m / stripe) last)
