-- Bytes from one place up to another, and those of stripes joined.
use Rattle.std.proofs.Common.{◌≡◌, ◌⊎◌, ℕ, zero, suc, ◌+◌, ◌-◌, ◌*◌, ◌/◌, ◌<◌, ◌≤◌, max, min, List, [], ◌++◌, length, get_or, map, take, drop, refl, sym, ap, subst, ◌∙◌, inl, inr, arith, length-append, length-drop}
use Rattle.std.proofs.Math.Nat.{div-mul-le_self}
use Rattle.std.proofs.lemmas.Bool.{cases_lt}
use Rattle.std.proofs.lemmas.List.{length-take, get_or_append_left, get_or-append_right, get_or-take, get_or-drop, ext_get_or, append-nil}
use Rattle.std.specs.List.{range_with_len, concat}
use Rattle.store_map.specs.Limits.{stripes_met}
use Rattle.run_laws.proofs.Bytes.{stripe_at, stripe_count, stripe_byte}
use Rattle.run_laws.proofs.Laid.{met_low, met_high, begins_after}

-- the bytes from a place up to another
abbrev pub range_of : List ℕ → ℕ → ℕ → List ℕ
range_of bytes from to = take (to - from) (drop from bytes)

-- how many they are
range_count : (bytes : List ℕ) (from to : ℕ) → to ≤ length bytes → length (range_of bytes from to) ≡ to - from
range_count bytes from to h = length-take (to - from) (drop from bytes) ∙ ap (λ n. min (to - from) n) (length-drop from bytes) ∙ counts (length bytes) h
  where
    counts : (m : ℕ) → to ≤ m → min (to - from) (m - from) ≡ to - from
    counts m h = omega (arith, h)

-- each of them
range_byte : (bytes : List ℕ) (from to k : ℕ) → k < to - from → get_or (range_of bytes from to) k 0 ≡ get_or bytes (from + k) 0
range_byte bytes from to k h = get_or-take (to - from) (drop from bytes) k 0 h ∙ get_or-drop from bytes k 0

-- none where the end is before the start
range_none : (bytes : List ℕ) (from to : ℕ) → to ≤ from → range_of bytes from to ≡ []
range_none bytes from to h = let none : to - from ≡ 0 = omega (arith, h) in ap (λ n. take n (drop from bytes)) none

-- two that follow one another
ranges_joined : (bytes : List ℕ) (x y z : ℕ) → x ≤ y → y ≤ z → z ≤ length bytes → range_of bytes x y ++ range_of bytes y z ≡ range_of bytes x z
ranges_joined bytes x y z h k l =
    ext_get_or 0 (range_of bytes x y ++ range_of bytes y z) (range_of bytes x z) count (λ i less. by i (subst (λ n. i < n) count less) (cases_lt i (y - x)))
  where
    first : length (range_of bytes x y) ≡ y - x
    first = range_count bytes x y (omega (arith, k, l))

    second : length (range_of bytes y z) ≡ z - y
    second = range_count bytes y z l

    whole : length (range_of bytes x z) ≡ z - x
    whole = range_count bytes x z l

    count : length (range_of bytes x y ++ range_of bytes y z) ≡ length (range_of bytes x z)
    count = length-append (range_of bytes x y) (range_of bytes y z) ∙ sums (length (range_of bytes x y)) (length (range_of bytes y z)) first second ∙ sym whole
      where
        sums : (a b : ℕ) → a ≡ y - x → b ≡ z - y → a + b ≡ z - x
        sums a b e f = omega (arith, e, f, h, k)

    by : (i : ℕ) → i < length (range_of bytes x z) → (i < y - x) ⊎ (y - x ≤ i) → get_or (range_of bytes x y ++ range_of bytes y z) i 0 ≡ get_or (range_of bytes x z) i 0
    by i less (inl low) =
        get_or_append_left (range_of bytes x y) (range_of bytes y z) 0 i (subst (λ n. i < n) (sym first) low)
        ∙ range_byte bytes x y i low
        ∙ sym (range_byte bytes x z i (subst (λ n. i < n) whole less))
    by i less (inr high) =
        let within : i < z - x = subst (λ n. i < n) whole less in
        get_or-append_right (range_of bytes x y) (range_of bytes y z) (y - x) i 0 first high
        ∙ range_byte bytes y z (i - (y - x)) (omega (arith, within, high, h, k))
        ∙ ap (λ n. get_or bytes n 0) (omega (arith, high, h))
        ∙ sym (range_byte bytes x z i within)

-- ---- parts of stripes
module _ (s : ℕ) (some : 0 < s) (bytes : List ℕ) (start end : ℕ) (long : end ≤ length bytes) where
  -- a stripe's part
  abbrev pub part_at : ℕ → List ℕ
  part_at i = range_of (stripe_at s bytes i) (start - i * s) (min (end - i * s) s)

  -- it is those of the bytes that stand in the stripe
  part_is : (i : ℕ) → i * s ≤ end → start < i * s + s → part_at i ≡ range_of bytes (max start (i * s)) (min end (i * s + s))
  part_is i low high =
      ext_get_or 0 (part_at i) (range_of bytes (max start (i * s)) (min end (i * s + s))) (first ∙ counts (i * s) low high ∙ sym second)
      (λ k less.
      let within : k < min (end - i * s) s - (start - i * s) = subst (λ n. k < n) first less in
      range_byte (stripe_at s bytes i) (start - i * s) (min (end - i * s) s) k within
      ∙ stripe_byte s i bytes (start - i * s + k) (inside (i * s) k within)
      ∙ ap (λ n. get_or bytes n 0) (place (i * s) k)
      ∙ sym (range_byte bytes (max start (i * s)) (min end (i * s + s)) k (other (i * s) k low high within)))
    where
      first : length (part_at i) ≡ min (end - i * s) s - (start - i * s)
      first = range_count (stripe_at s bytes i) (start - i * s) (min (end - i * s) s) (subst (λ n. min (end - i * s) s ≤ n) (sym (stripe_count s i bytes)) (least (end - i * s)))
        where
          least : (a : ℕ) → min a s ≤ s
          least a = omega arith

      second : length (range_of bytes (max start (i * s)) (min end (i * s + s))) ≡ min end (i * s + s) - max start (i * s)
      second = range_count bytes (max start (i * s)) (min end (i * s + s)) (least (i * s + s))
        where
          least : (a : ℕ) → min end a ≤ length bytes
          least a = omega (arith, long)

      counts : (f : ℕ) → f ≤ end → start < f + s → min (end - f) s - (start - f) ≡ min end (f + s) - max start f
      counts f h k = omega (arith, h, k)

      inside : (f k : ℕ) → k < min (end - f) s - (start - f) → start - f + k < s
      inside f k h = omega (arith, h)

      place : (f k : ℕ) → f + (start - f + k) ≡ max start f + k
      place f k = omega arith

      other : (f k : ℕ) → f ≤ end → start < f + s → k < min (end - f) s - (start - f) → k < min end (f + s) - max start f
      other f k h l m = omega (arith, h, l, m)

  -- the parts of stripes that follow one another
  parts_joined : (m i : ℕ) → start < i * s + s → ((a : ℕ) → a < m → (i + a) * s < end) → start ≤ end
      → concat (map part_at (range_with_len i m)) ≡ range_of bytes (max start (i * s)) (min end ((i + m) * s))
  parts_joined zero i high below within =
      let same : i + 0 ≡ i = omega arith in
      sym (range_none bytes (max start (i * s)) (min end ((i + 0) * s)) (subst (λ n. min end (n * s) ≤ max start (i * s)) (sym same) (least (i * s))))
    where
      least : (f : ℕ) → min end f ≤ max start f
      least f = omega arith
  parts_joined (suc m) i high below within =
      let next : (i + 1) * s ≡ i * s + s = omega arith in
      let here : i * s < end = subst (λ n. n * s < end) (omega arith) (below 0 (omega arith)) in
      let rest : concat (map part_at (range_with_len (i + 1) m)) ≡ range_of bytes (max start ((i + 1) * s)) (min end ((i + 1 + m) * s)) =
      parts_joined m (i + 1) (omega (arith, next, high, some)) (λ a less. subst (λ n. n * s < end) (omega arith) (below (suc a) (omega (arith, less)))) within in
      (λ j. part_is i (omega (arith, here)) high j ++ rest j) ∙ by m below (cases_lt end (i * s + s)) here
    where
      next : (i + 1) * s ≡ i * s + s
      next = omega arith

      by : (m : ℕ) → ((a : ℕ) → a < suc m → (i + a) * s < end) → (end < i * s + s) ⊎ (i * s + s ≤ end) → i * s < end
          → range_of bytes (max start (i * s)) (min end (i * s + s)) ++ range_of bytes (max start ((i + 1) * s)) (min end ((i + 1 + m) * s)) ≡ range_of bytes (max start (i * s)) (min end ((i + suc m) * s))
      by m below (inr more) here =
          let last : (i + 1 + m) * s ≡ (i + suc m) * s = ap (λ n. n * s) (omega arith) in
          let tail : (i + suc m) * s ≡ i * s + s + m * s = omega arith in
          (λ j. range_of bytes (max start (i * s)) (middle (i * s + s) more j) ++ range_of bytes (from ((i + 1) * s) next j) (min end (last j)))
          ∙ ranges_joined bytes (max start (i * s)) (i * s + s) (min end ((i + suc m) * s)) (begin (i * s)) (before (m * s) ((i + suc m) * s) tail more) (least ((i + suc m) * s))
        where
          middle : (y : ℕ) → y ≤ end → min end y ≡ y
          middle y h = omega (arith, h)

          from : (x : ℕ) → x ≡ i * s + s → max start x ≡ i * s + s
          from x e = omega (arith, e, high)

          begin : (f : ℕ) → max start (i * s) ≤ i * s + s
          begin f = omega (arith, high)

          before : (t z : ℕ) → z ≡ i * s + s + t → i * s + s ≤ end → i * s + s ≤ min end z
          before t z e h = omega (arith, e, h)

          least : (z : ℕ) → min end z ≤ length bytes
          least z = omega (arith, long)
      by zero below (inl less) here =
          let one : (i + 1 + 0) * s ≡ i * s + s = ap (λ n. n * s) (omega arith) ∙ next in
          let same : (i + suc 0) * s ≡ i * s + s = ap (λ n. n * s) (omega arith) ∙ next in
          (λ j. range_of bytes (max start (i * s)) (min end (i * s + s)) ++ range_of bytes (max start (next j)) (min end (one j)))
          ∙ ap (λ l. range_of bytes (max start (i * s)) (min end (i * s + s)) ++ l) (range_none bytes (max start (i * s + s)) (min end (i * s + s)) (least (i * s + s)))
          ∙ append-nil (range_of bytes (max start (i * s)) (min end (i * s + s)))
          ∙ ap (λ n. range_of bytes (max start (i * s)) (min end n)) (sym same)
        where
          least : (f : ℕ) → min end f ≤ max start f
          least f = omega (arith, within)
      by (suc m) below (inl less) here =
          let one : (i + 1) * s < end = below 1 (omega arith) in
          absurd (let e : (i + 1) * s ≡ i * s + s = next in omega (arith, one, e, less))

  -- those of all stripes that the bytes from start up to end meet
  pub parts_are : start ≤ end → concat (map part_at (range_with_len (start / s) (stripes_met s start (end - start)))) ≡ range_of bytes start end
  parts_are within =
      parts_joined (stripes_met s start (end - start)) (start / s) first
      (λ a less. subst (λ n. (start / s + a) * s < n) whole (met_low s some start (end - start) a less)) within
      ∙ by (end - start) refl
    where
      same : start / s + 0 ≡ start / s
      same = omega arith

      first : start < start / s * s + s
      first = subst (λ n. start < n * s + s) same (met_high s some start 0)

      whole : start + (end - start) ≡ end
      whole = omega (arith, within)

      low : start / s * s ≤ start
      low = div-mul-le_self start s

      begin : max start (start / s * s) ≡ start
      begin = counts (start / s * s) low
        where
          counts : (f : ℕ) → f ≤ start → max start f ≡ start
          counts f h = omega (arith, h)

      by : (n : ℕ) → end - start ≡ n → range_of bytes (max start (start / s * s)) (min end ((start / s + stripes_met s start n) * s)) ≡ range_of bytes start end
      by zero none =
          range_none bytes (max start (start / s * s)) (min end ((start / s + 0) * s)) (subst (λ n. min end (n * s) ≤ max start (start / s * s)) (sym same) (least (start / s * s)))
          ∙ sym (range_none bytes start end (omega (arith, none)))
        where
          least : (f : ℕ) → min end f ≤ max start f
          least f = omega arith
      by (suc m) counted =
          let after : start + suc m ≤ (start / s + stripes_met s start (suc m)) * s = begins_after s some start m (start / s + stripes_met s start (suc m)) (omega arith) in
          (λ j. range_of bytes (begin j) (last ((start / s + stripes_met s start (suc m)) * s) after j))
        where
          last : (z : ℕ) → start + suc m ≤ z → min end z ≡ end
          last z h = omega (arith, h, counted, within)
