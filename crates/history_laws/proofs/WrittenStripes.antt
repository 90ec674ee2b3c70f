-- The stripes that hold a written byte are those from the first one on, as many as the bytes meet.
use Rattle.std.proofs.Common.{◌≡◌, ◌⊎◌, ℕ, zero, suc, ◌+◌, ◌-◌, ◌*◌, ◌/◌, ◌<◌, ◌≤◌, ap, ◌∙◌, inl, inr, arith, mul-le-mul_right}
use Rattle.std.proofs.Math.Nat.{div-mul-le_self}
use Rattle.std.proofs.lemmas.Nat.{le-div, div-mul-add}
use Rattle.std.proofs.lemmas.Bool.{cases_lt}
use Rattle.store_map.specs.Limits.{stripes_met}

-- a byte of a stripe
pub record ByteIn (stripe_bytes offset count stripe : ℕ) : Type 0 where
  pub byte : ℕ
  pub from : offset ≤ byte
  pub before : byte < offset + count
  pub there : byte / stripe_bytes ≡ stripe

-- a later byte is in no earlier stripe
div_rises : (a b k : ℕ) → 0 < k → a ≤ b → a / k ≤ b / k
div_rises a b k some h = le-div (a / k) b k some (let back : a / k * k ≤ a = div-mul-le_self a k in omega (arith, back, h))

module _ (s : ℕ) (some : 0 < s) where
  -- where it stands
  pub within : (offset count stripe : ℕ) → ByteIn s offset count stripe → (offset / s ≤ stripe) × (stripe < offset / s + stripes_met s offset count)
  within offset zero stripe b = absurd (omega (arith, b.from, b.before))
  within offset (suc n) stripe b =
      let low : offset / s ≤ b.byte / s = div_rises offset b.byte s some b.from in
      let high : b.byte / s ≤ (offset + n) / s = div_rises b.byte (offset + n) s some (omega (arith, b.before)) in
      counts (offset / s) (b.byte / s) ((offset + n) / s) low high b.there
    where
      counts : (x y z : ℕ) → x ≤ y → y ≤ z → y ≡ stripe → (x ≤ stripe) × (stripe < x + (z - x + 1))
      counts x y z low high e = (omega (arith, low, e), omega (arith, low, high, e))

  -- each of them has one
  pub byte_of : (offset count stripe : ℕ) → offset / s ≤ stripe → stripe < offset / s + stripes_met s offset count → ByteIn s offset count stripe
  byte_of offset zero stripe low high = absurd (omega (arith, low, high))
  byte_of offset (suc n) stripe low high = by (cases_lt (offset / s) stripe)
    where
      first : (offset / s) ≤ (offset + n) / s
      first = div_rises offset (offset + n) s some (omega arith)

      last : stripe ≤ (offset + n) / s
      last = counts (offset / s) ((offset + n) / s) first high
        where
          counts : (x z : ℕ) → x ≤ z → stripe < x + (z - x + 1) → stripe ≤ z
          counts x z rises h = omega (arith, rises, h)

      by : (offset / s < stripe) ⊎ (stripe ≤ offset / s) → ByteIn s offset (suc n) stripe
      by (inr same) = record { byte = offset; from = omega arith; before = omega arith; there = omega (arith, same, low) }
      by (inl later) = record { byte = stripe * s; from = starts (cases_lt offset (stripe * s)); before = omega (arith, up, back); there = exact }
        where
          up : stripe * s ≤ (offset + n) / s * s
          up = mul-le-mul_right s last

          back : (offset + n) / s * s ≤ offset + n
          back = div-mul-le_self (offset + n) s

          exact : stripe * s / s ≡ stripe
          exact = let none : stripe * s ≡ stripe * s + 0 = omega arith in ap (λ m. m / s) none ∙ div-mul-add stripe s 0 some

          starts : (offset < stripe * s) ⊎ (stripe * s ≤ offset) → offset ≤ stripe * s
          starts (inl less) = omega (arith, less)
          starts (inr more) = let no : stripe ≤ offset / s = le-div stripe offset s some more in absurd (omega (arith, no, later))
