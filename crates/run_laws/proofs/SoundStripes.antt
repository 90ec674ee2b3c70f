-- Which stripes a call pins, and how many an object has after a put or a write.
use Rattle.std.proofs.Common.{◌≡◌, ◌⊎◌, ℕ, zero, suc, ◌+◌, ◌-◌, ◌*◌, ◌/◌, ◌<◌, ◌≤◌, min, max, true, nat_lt, length, Contains, All, refl, sym, ap, subst, ◌∙◌, inl, inr, arith, mul-le-mul_right}
use Rattle.std.proofs.Math.Nat.{div-mul-le_self}
use Rattle.std.proofs.lemmas.Nat.{le-div, div_below}
use Rattle.std.proofs.lemmas.Bool.{ltb-true, or_cases, cases_lt}
use Rattle.std.proofs.lemmas.List.FromFn.{length-range_with_len, get_or-range_with_len}
use Rattle.std.proofs.lemmas.List.Elements.{All-nil}
use Rattle.std.specs.List.{range_with_len}
use Rattle.clay_grid.specs.Shape.{Shape, stripe_length}
use Rattle.store_map.specs.Limits.{stripes_met}
use Rattle.store_core.specs.Note.{Note, Kind}
use Rattle.store_core.specs.Read.{read_end, read_end_by}
use Rattle.store_core.specs.Look.{stripes_between, keeps_old, pinned_by}
use Rattle.run_laws.proofs.SoundLists.{all_by, in_filter}

-- ---- quotients
-- a quotient rises
div_rises : (a b k : ℕ) → 0 < k → a ≤ b → a / k ≤ b / k
div_rises a b k some h = le-div (a / k) b k some (let back : a / k * k ≤ a = div-mul-le_self a k in omega (arith, back, h))

-- no stripe before the first
zero_div : (k : ℕ) → 0 < k → 0 / k ≡ 0
zero_div k some = let below : 0 / k < 1 = div_below 0 k 1 some (omega (arith, some)) in omega (arith, below)

module _ (stripe : ℕ) (some : 0 < stripe) where
  -- the stripes of an object's bytes
  met_whole : (n : ℕ) → stripes_met stripe 0 (suc n) ≡ n / stripe + 1
  met_whole n =
      let none : 0 / stripe ≡ 0 = zero_div stripe some in
      let same : 0 + n ≡ n = omega arith in
      let more : (0 + n) / stripe ≡ n / stripe = ap (λ m. m / stripe) same in
      let x : ℕ = (0 + n) / stripe in
      let y : ℕ = n / stripe in
      let z : ℕ = 0 / stripe in
      counts x y z more none
    where
      counts : (x y z : ℕ) → x ≡ y → z ≡ 0 → x - z + 1 ≡ y + 1
      counts x y z e f = omega (arith, e, f)

  -- a stripe that begins before the end of the object is one of its stripes
  pub within_stripes : (i length_now : ℕ) → i * stripe < length_now → i < stripes_met stripe 0 length_now
  within_stripes i zero h = absurd (omega (arith, h))
  within_stripes i (suc n) h =
      let low : i ≤ n / stripe = le-div i n stripe some (let before : i * stripe < suc n = h in omega (arith, before)) in
      subst (λ m. i < m) (sym (met_whole n)) (omega (arith, low))

  -- more bytes meet no fewer stripes
  met_rises : (a b : ℕ) → a ≤ b → stripes_met stripe 0 a ≤ stripes_met stripe 0 b
  met_rises zero b h = omega arith
  met_rises (suc a) zero h = absurd (omega (arith, h))
  met_rises (suc a) (suc b) h =
      let rises : a / stripe ≤ b / stripe = div_rises a b stripe some (omega (arith, h)) in
      let x : ℕ = a / stripe in
      let y : ℕ = b / stripe in
      subst (λ m. m ≤ stripes_met stripe 0 (suc b)) (sym (met_whole a)) (subst (λ m. a / stripe + 1 ≤ m) (sym (met_whole b)) (omega (arith, rises)))

  -- the stripe in which a write begins is one of the object's, or the next
  pub first_fits : (offset length_now : ℕ) → offset ≤ length_now → offset / stripe ≤ stripes_met stripe 0 length_now
  first_fits zero length_now h = let none : 0 / stripe ≡ 0 = zero_div stripe some in omega (arith, none)
  first_fits (suc o) length_now h = by (cases_lt (suc o / stripe) (stripes_met stripe 0 length_now))
    where
      at : suc o / stripe * stripe ≤ suc o
      at = div-mul-le_self (suc o) stripe

      by : (suc o / stripe < stripes_met stripe 0 length_now) ⊎ (stripes_met stripe 0 length_now ≤ suc o / stripe) → suc o / stripe ≤ stripes_met stripe 0 length_now
      by (inl less) = omega (arith, less)
      by (inr more) = before (suc o / stripe) refl
        where
          before : (q : ℕ) → suc o / stripe ≡ q → suc o / stripe ≤ stripes_met stripe 0 length_now
          before zero e = omega (arith, e)
          before (suc p) e =
              let back : suc p * stripe ≤ suc o = subst (λ q. q * stripe ≤ suc o) e at in
              let begins : p * stripe < length_now = omega (arith, back, some, h) in
              let inside : p < stripes_met stripe 0 length_now = within_stripes p length_now begins in
              omega (arith, inside, e)

  -- the stripes up to the end of a write that has bytes
  written_end : (offset n : ℕ) → offset / stripe + stripes_met stripe offset (suc n) ≡ stripes_met stripe 0 (offset + suc n)
  written_end offset n =
      let rises : offset / stripe ≤ (offset + n) / stripe = div_rises offset (offset + n) stripe some (omega arith) in
      let same : offset + suc n ≡ suc (offset + n) = omega arith in
      let whole : stripes_met stripe 0 (offset + suc n) ≡ (offset + n) / stripe + 1 = ap (stripes_met stripe 0) same ∙ met_whole (offset + n) in
      counts (offset / stripe) ((offset + n) / stripe) rises ∙ sym whole
    where
      counts : (a b : ℕ) → a ≤ b → a + (b - a + 1) ≡ b + 1
      counts a b h = omega (arith, h)

  -- the count after a write
  pub count_written : (offset n length_now : ℕ) → offset ≤ length_now
      → offset / stripe + (stripes_met stripe offset n + (stripes_met stripe 0 length_now - (offset / stripe + stripes_met stripe offset n))) ≡ stripes_met stripe 0 (max length_now (offset + n))
  count_written offset zero length_now h =
      let first : offset / stripe ≤ stripes_met stripe 0 length_now = first_fits offset length_now h in
      let same : max length_now (offset + 0) ≡ length_now = omega (arith, h) in
      counts (offset / stripe) (stripes_met stripe 0 length_now) first ∙ sym (ap (stripes_met stripe 0) same)
    where
      counts : (a b : ℕ) → a ≤ b → a + (0 + (b - (a + 0))) ≡ b
      counts a b h = omega (arith, h)
  count_written offset (suc n) length_now h = by (cases_lt length_now (offset + suc n))
    where
      end : offset / stripe + stripes_met stripe offset (suc n) ≡ stripes_met stripe 0 (offset + suc n)
      end = written_end offset n

      counts : (a b c e : ℕ) → a + b ≡ e → c ≤ e → a + (b + (c - (a + b))) ≡ e
      counts a b c e f h = omega (arith, f, h)

      others : (a b c e : ℕ) → a + b ≡ e → e ≤ c → a + (b + (c - (a + b))) ≡ c
      others a b c e f h = omega (arith, f, h)

      by : (length_now < offset + suc n) ⊎ (offset + suc n ≤ length_now)
          → offset / stripe + (stripes_met stripe offset (suc n) + (stripes_met stripe 0 length_now - (offset / stripe + stripes_met stripe offset (suc n)))) ≡ stripes_met stripe 0 (max length_now (offset + suc n))
      by (inl less) =
          let same : max length_now (offset + suc n) ≡ offset + suc n = omega (arith, less) in
          counts (offset / stripe) (stripes_met stripe offset (suc n)) (stripes_met stripe 0 length_now) (stripes_met stripe 0 (offset + suc n)) end (met_rises length_now (offset + suc n) (omega (arith, less)))
          ∙ sym (ap (stripes_met stripe 0) same)
      by (inr more) =
          let same : max length_now (offset + suc n) ≡ length_now = omega (arith, more) in
          others (offset / stripe) (stripes_met stripe offset (suc n)) (stripes_met stripe 0 length_now) (stripes_met stripe 0 (offset + suc n)) end (met_rises (offset + suc n) length_now more)
          ∙ sym (ap (stripes_met stripe 0) same)

-- ---- the stripes that a call pins
module _ (g : Shape) (some : 0 < stripe_length g) where
  -- a stripe that meets some bytes begins before their end
  begins_before : (start count i : ℕ) → Contains (range_with_len (start / stripe_length g) (stripes_met (stripe_length g) start count)) i → i * stripe_length g < start + count
  begins_before start zero i c = absurd (let less : c.0 < 0 = c.1 in omega (arith, less))
  begins_before start (suc n) i c =
      let from : ℕ = start / stripe_length g in
      let many : ℕ = stripes_met (stripe_length g) start (suc n) in
      let less : c.0 < length (range_with_len (start / stripe_length g) (stripes_met (stripe_length g) start (suc n))) = c.1 in
      let same : length (range_with_len (start / stripe_length g) (stripes_met (stripe_length g) start (suc n))) ≡ stripes_met (stripe_length g) start (suc n) =
      length-range_with_len (start / stripe_length g) (stripes_met (stripe_length g) start (suc n)) in
      let within : c.0 < stripes_met (stripe_length g) start (suc n) = omega (arith, less, same) in
      let place : i ≡ start / stripe_length g + c.0 = sym c.2 ∙ get_or-range_with_len (start / stripe_length g) (stripes_met (stripe_length g) start (suc n)) c.0 i within in
      let rises : start / stripe_length g ≤ (start + n) / stripe_length g = div_rises start (start + n) (stripe_length g) some (omega arith) in
      let low : i ≤ (start + n) / stripe_length g = last (start / stripe_length g) ((start + n) / stripe_length g) c.0 within place rises in
      let back : (start + n) / stripe_length g * stripe_length g ≤ start + n = div-mul-le_self (start + n) (stripe_length g) in
      let up : i * stripe_length g ≤ (start + n) / stripe_length g * stripe_length g = mul-le-mul_right (stripe_length g) low in
      omega (arith, back, up)
    where
      last : (a b j : ℕ) → j < b - a + 1 → i ≡ a + j → a ≤ b → i ≤ b
      last a b j h e rises = omega (arith, h, e, rises)

  -- a stripe that meets the bytes from start to end
  between_begins : (start end i : ℕ) → Contains (stripes_between g start end) i → i * stripe_length g < start + (end - start)
  between_begins start end i c = begins_before start (end - start) i c

  -- where there is such a stripe, the bytes' end is after their start
  between_below : (start end i : ℕ) → Contains (stripes_between g start end) i → i * stripe_length g < end
  between_below start end i c = by (cases_lt start end)
    where
      at : i * stripe_length g < start + (end - start)
      at = between_begins start end i c

      nothing : end - start ≡ 0 → ⊥
      nothing e =
          let bad : Contains (range_with_len (start / stripe_length g) (stripes_met (stripe_length g) start 0)) i =
          subst (λ n. Contains (range_with_len (start / stripe_length g) (stripes_met (stripe_length g) start n)) i) e c in
          let less : bad.0 < 0 = bad.1 in omega (arith, less)

      by : (start < end) ⊎ (end ≤ start) → i * stripe_length g < end
      by (inl less) = omega (arith, at, less)
      by (inr more) = absurd (nothing (omega (arith, more)))

  -- a read ends within the object
  read_below : (kind : Kind) (note : Note) (length_now : ℕ) → read_end_by kind note.offset note.length length_now ≤ length_now
  read_below Kind.Get note length_now = omega arith
  read_below _ note length_now = omega arith

  -- each pinned stripe is one of the object
  pub pins_within : (kind : Kind) (note : Note) (length_now : ℕ) → All (λ i. i < stripes_met (stripe_length g) 0 length_now) (pinned_by kind g note length_now)
  pins_within Kind.Get note length_now =
      all_by (λ i. i < stripes_met (stripe_length g) 0 length_now) (pinned_by Kind.Get g note length_now)
      (λ i c.
      let below : i * stripe_length g < read_end note length_now = between_below note.offset (read_end note length_now) i c in
      let short : read_end note length_now ≤ length_now = read_below note.kind note length_now in
      within_stripes (stripe_length g) some i length_now (omega (arith, below, short)))
  pins_within Kind.ReadAt note length_now =
      all_by (λ i. i < stripes_met (stripe_length g) 0 length_now) (pinned_by Kind.ReadAt g note length_now)
      (λ i c.
      let below : i * stripe_length g < read_end note length_now = between_below note.offset (read_end note length_now) i c in
      let short : read_end note length_now ≤ length_now = read_below note.kind note length_now in
      within_stripes (stripe_length g) some i length_now (omega (arith, below, short)))
  pins_within Kind.Write note length_now =
      all_by (λ i. i < stripes_met (stripe_length g) 0 length_now) (pinned_by Kind.Write g note length_now)
      (λ i c.
      let kept : Contains (stripes_between g note.offset (note.offset + note.length)) i × (keeps_old g length_now note.offset (note.offset + note.length) i ≡ true) =
      in_filter (keeps_old g length_now note.offset (note.offset + note.length)) (stripes_between g note.offset (note.offset + note.length)) i c in
      within_stripes (stripe_length g) some i length_now (old i (between_below note.offset (note.offset + note.length) i kept.0) (or_cases _ _ kept.1)))
    where
      old : (i : ℕ) → i * stripe_length g < note.offset + note.length
          → (nat_lt (i * stripe_length g) (min note.offset length_now) ≡ true) ⊎ (nat_lt (note.offset + note.length) (min ((i + 1) * stripe_length g) length_now) ≡ true) → i * stripe_length g < length_now
      old i below (inl first) =
          let before : i * stripe_length g < min note.offset length_now = ltb-true (i * stripe_length g) (min note.offset length_now) first in
          omega (arith, before)
      old i below (inr last) =
          let after : note.offset + note.length < min ((i + 1) * stripe_length g) length_now = ltb-true (note.offset + note.length) (min ((i + 1) * stripe_length g) length_now) last in
          let m : ℕ = (i + 1) * stripe_length g in
          below_least (note.offset + note.length) m (i * stripe_length g) below after
        where
          below_least : (e m b : ℕ) → b < e → e < min m length_now → b < length_now
          below_least e m b h k = omega (arith, h, k)
  pins_within Kind.Put note length_now = All-nil (λ i. i < stripes_met (stripe_length g) 0 length_now)
  pins_within Kind.Stat note length_now = All-nil (λ i. i < stripes_met (stripe_length g) 0 length_now)
  pins_within Kind.Delete note length_now = All-nil (λ i. i < stripes_met (stripe_length g) 0 length_now)
  pins_within Kind.Rebuild note length_now = All-nil (λ i. i < stripes_met (stripe_length g) 0 length_now)
