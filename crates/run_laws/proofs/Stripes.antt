-- How many stripes a call pins.
use Rattle.std.proofs.Common.{◌≡◌, ℕ, zero, suc, ◌+◌, ◌-◌, ◌*◌, ◌/◌, ◌<◌, ◌≤◌, min, Bool, true, false, cond, ◌||◌, nat_lt, [], ◌∷◌, length, filter, sym, ap, inl, inr, subst, ◌∙◌, arith, mul-le-mul_right}
use Rattle.std.proofs.Math.Nat.{div-mul-le_self}
use Rattle.std.proofs.lemmas.Nat.{le-div, div_below}
use Rattle.std.proofs.lemmas.Bool.{le-ltb, cases_lt}
use Rattle.std.specs.List.{range_with_len}
use Rattle.clay_grid.specs.Shape.{Shape, stripe_length}
use Rattle.store_map.specs.Limits.{stripes_met}
use Rattle.store_core.specs.Note.{Note, Kind}
use Rattle.store_core.specs.Read.{read_end, read_end_by}
use Rattle.store_core.specs.Look.{keeps_old, pinned_by}
use Rattle.store_core.proofs.TouchedStripes.{count_between, in_range}
use Rattle.run_laws.specs.CallLeft.{pins_by}

-- ---- quotients
div_mono : (a b k : ℕ) → 0 < k → a ≤ b → a / k ≤ b / k
div_mono a b k some h = le-div (a / k) b k some (let back : a / k * k ≤ a = div-mul-le_self a k in omega (arith, back, h))

minus_more : (a b c : ℕ) → a ≤ b → a - c + 1 ≤ b - c + 1
minus_more a b c h = omega (arith, h)

minus_none : (a b c z : ℕ) → a ≤ b → z ≡ 0 → a - c + 1 ≤ b - z + 1
minus_none a b c z h e = omega (arith, h, e)

-- a stripe after the one in which a byte stands begins after the byte, or with it
begins_after : (stripe offset i : ℕ) → 0 < stripe → offset / stripe < i → offset ≤ i * stripe
begins_after stripe offset i some after = elim (cases_lt (i * stripe) offset) as (λ _. offset ≤ i * stripe) [
  | inl before ↦ absurd (let low : i ≤ offset / stripe = le-div i offset stripe some (omega (arith, before)) in omega (arith, low, after))
  | inr right ↦ right
]

-- a stripe before the one in which a byte stands ends before the byte, or with it
ends_before : (stripe offset i : ℕ) → i + 1 ≤ offset / stripe → (i + 1) * stripe ≤ offset
ends_before stripe offset i before =
    let next : (i + 1) * stripe ≤ offset / stripe * stripe = mul-le-mul_right stripe before in
    let back : offset / stripe * stripe ≤ offset = div-mul-le_self offset stripe in
    omega (arith, next, back)

-- ---- counts of stripes
module _ (stripe : ℕ) (some : 0 < stripe) where
  met_more : (offset n k : ℕ) → n ≤ k → stripes_met stripe offset n ≤ stripes_met stripe offset k
  met_more offset zero k h = omega arith
  met_more offset (suc n) zero h = absurd (omega (arith, h))
  met_more offset (suc n) (suc k) h =
      minus_more ((offset + n) / stripe) ((offset + k) / stripe) (offset / stripe) (div_mono (offset + n) (offset + k) stripe some (omega (arith, h)))

  met_within : (offset n k : ℕ) → (0 < n → offset + n ≤ k) → stripes_met stripe offset n ≤ stripes_met stripe 0 k
  met_within offset zero k h = omega arith
  met_within offset (suc n) zero h = absurd (let within : offset + suc n ≤ 0 = h (omega arith) in omega (arith, within))
  met_within offset (suc n) (suc k) h =
      let within : offset + suc n ≤ suc k = h (omega arith) in
      let none : 0 / stripe < 1 = div_below 0 stripe 1 some (omega (arith, some)) in
      minus_none ((offset + n) / stripe) ((0 + k) / stripe) (offset / stripe) (0 / stripe) (div_mono (offset + n) (0 + k) stripe some (omega (arith, within))) (omega (arith, none))

-- ---- what a filter lets through only at the ends of a range
last_only : (p : ℕ → Bool) (a k : ℕ) → ((i : ℕ) → a ≤ i → i + 1 < a + k → p i ≡ false) → length (filter p (range_with_len a k)) ≤ 1
last_only p a zero none = omega arith
last_only p a (suc zero) none = by (p a)
  where
    by : (b : Bool) → length (cond b (a ∷ []) []) ≤ 1
    by true = omega arith
    by false = omega arith
last_only p a (suc (suc k)) none =
    subst (λ b. length (cond b (a ∷ filter p (range_with_len (a + 1) (suc k))) (filter p (range_with_len (a + 1) (suc k)))) ≤ 1)
    (sym (none a (omega arith) (omega arith)))
    (last_only p (a + 1) (suc k) (λ i low high. none i (omega (arith, low)) (omega (arith, high))))

ends_only : (p : ℕ → Bool) (a k : ℕ) → ((i : ℕ) → a < i → i + 1 < a + k → p i ≡ false) → length (filter p (range_with_len a k)) ≤ 2
ends_only p a zero none = omega arith
ends_only p a (suc k) none = by (p a) (last_only p (a + 1) k (λ i low high. none i (omega (arith, low)) (omega (arith, high))))
  where
    by : (b : Bool) → length (filter p (range_with_len (a + 1) k)) ≤ 1 → length (cond b (a ∷ filter p (range_with_len (a + 1) k)) (filter p (range_with_len (a + 1) k))) ≤ 2
    by true h = omega (arith, h)
    by false h = omega (arith, h)

module _ (g : Shape) (some : 0 < stripe_length g) where
  -- neither the first nor the last of the stripes that are met
  keeps_none : (length_now offset n i : ℕ) → offset / stripe_length g < i → i + 1 < offset / stripe_length g + stripes_met (stripe_length g) offset n
      → keeps_old g length_now offset (offset + n) i ≡ false
  keeps_none length_now offset zero i low high = absurd (omega (arith, low, high))
  keeps_none length_now offset (suc n) i low high =
      let from : offset ≤ i * stripe_length g = begins_after (stripe_length g) offset i some low in
      let first : nat_lt (i * stripe_length g) (min offset length_now) ≡ false = le-ltb (i * stripe_length g) (min offset length_now) (low_end (i * stripe_length g) from) in
      let to : (i + 1) * stripe_length g ≤ offset + n =
      ends_before (stripe_length g) (offset + n) i (last (offset / stripe_length g) ((offset + n) / stripe_length g) high (div_mono offset (offset + n) (stripe_length g) some (omega arith))) in
      ap (λ b. b || nat_lt (offset + suc n) (min ((i + 1) * stripe_length g) length_now)) first
      ∙ le-ltb (offset + suc n) (min ((i + 1) * stripe_length g) length_now) (high_end ((i + 1) * stripe_length g) to)
    where
      low_end : (start : ℕ) → offset ≤ start → min offset length_now ≤ start
      low_end start h = omega (arith, h)

      high_end : (end : ℕ) → end ≤ offset + n → min end length_now ≤ offset + suc n
      high_end end h = omega (arith, h)

      last : (a b : ℕ) → i + 1 < a + (b - a + 1) → a ≤ b → i + 1 ≤ b
      last a b h rises = omega (arith, h, rises)

  pub pins_few : (kind : Kind) (max : ℕ) (note : Note) (length_now : ℕ) → note.kind ≡ kind → length_now ≤ max
      → length (pinned_by kind g note length_now) ≤ pins_by kind g max note
  pins_few Kind.Get max note length_now e short =
      let whole : read_end note length_now ≡ length_now = ap (λ kind. read_end_by kind note.offset note.length length_now) e in
      let count : length (pinned_by Kind.Get g note length_now) ≡ stripes_met (stripe_length g) note.offset (read_end note length_now - note.offset) =
      count_between g note.offset (read_end note length_now) in
      subst (λ n. n ≤ stripes_met (stripe_length g) 0 max) (sym count)
      (subst (λ end. stripes_met (stripe_length g) note.offset (end - note.offset) ≤ stripes_met (stripe_length g) 0 max) (sym whole)
      (met_within (stripe_length g) some note.offset (length_now - note.offset) max (λ more. omega (arith, more, short))))
  pins_few Kind.ReadAt max note length_now e short =
      let part : read_end note length_now ≡ min (note.offset + note.length) length_now = ap (λ kind. read_end_by kind note.offset note.length length_now) e in
      let count : length (pinned_by Kind.ReadAt g note length_now) ≡ stripes_met (stripe_length g) note.offset (read_end note length_now - note.offset) =
      count_between g note.offset (read_end note length_now) in
      subst (λ n. n ≤ stripes_met (stripe_length g) note.offset (min note.length (max - note.offset))) (sym count)
      (subst (λ end. stripes_met (stripe_length g) note.offset (end - note.offset) ≤ stripes_met (stripe_length g) note.offset (min note.length (max - note.offset))) (sym part)
      (met_more (stripe_length g) some note.offset (min (note.offset + note.length) length_now - note.offset) (min note.length (max - note.offset)) (omega (arith, short))))
  pins_few Kind.Write max note length_now e short =
      ends_only (keeps_old g length_now note.offset (note.offset + note.length)) (note.offset / stripe_length g)
      (stripes_met (stripe_length g) note.offset (note.offset + note.length - note.offset))
      (λ i low high. keeps_none length_now note.offset note.length i low
      (subst (λ n. i + 1 < note.offset / stripe_length g + stripes_met (stripe_length g) note.offset n) (in_range note.offset note.length) high))
  pins_few Kind.Put max note length_now e short = omega arith
  pins_few Kind.Stat max note length_now e short = omega arith
  pins_few Kind.Delete max note length_now e short = omega arith
  pins_few Kind.Rebuild max note length_now e short = omega arith
