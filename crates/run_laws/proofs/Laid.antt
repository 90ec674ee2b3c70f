-- The stripes of bytes that are put, or written over an object's, by the stripes that the call touches.
use Rattle.std.proofs.Common.{◌≡◌, ◌⊎◌, ℕ, zero, suc, ◌+◌, ◌-◌, ◌*◌, ◌/◌, ◌%◌, ◌<◌, ◌≤◌, max, min, nat_eq, nat_lt, Bool, true, false, cond, ◌||◌, List, [], ◌∷◌, length, get_or, map, filter, find, replicate, Option, None, Some, option_map, All, Contains, refl, sym, ap, subst, ◌∙◌, inl, inr, arith, mul-le-mul_right}
use Rattle.std.proofs.Math.Nat.{div-mul-le_self}
use Rattle.std.proofs.lemmas.Nat.{mod_below, div-add-mod'}
use Rattle.std.proofs.lemmas.Bool.{true≢false, cases_lt, cases_Bool, ltb-false, eq-eqb, eqb-true}
use Rattle.std.proofs.lemmas.List.{length-map, length-replicate, get_or-map, get_or_past, get_or-replicate}
use Rattle.std.proofs.lemmas.List.FromFn.{length-range_with_len, length-map-range_with_len, get_or-range_with_len, get_or-map-range_with_len}
use Rattle.std.proofs.lemmas.List.Elements.{All-contains}
use Rattle.std.specs.List.{range_with_len}
use Rattle.clay_grid.specs.Shape.{Shape, stripe_length}
use Rattle.clay_model.specs.Code.{stripes_below}
use Rattle.store_map.specs.Content.{overwrite}
use Rattle.store_map.specs.Limits.{stripes_met}
use Rattle.store_core.specs.Content.{lay_over, old_content}
use Rattle.store_core.specs.Directory.{Pin}
use Rattle.store_core.specs.Look.{keeps_old}
use Rattle.run_laws.proofs.SoundLists.{filtered}
use Rattle.run_laws.proofs.SoundStripes.{first_fits}
use Rattle.run_laws.proofs.Bytes.{over_before, over_within, over_after, stripe_at, stripes_below_at, stripe_count, stripe_byte, same_stripes, IsOut, laid_is, made_stripes}
use Rattle.run_laws.proofs.LengthProofs.{length-overwrite}

-- ---- the stripes that are touched
-- a product with a smaller factor
rises : (a b k : ℕ) → a ≤ b → a * k ≤ b * k
rises a b k h = mul-le-mul_right k h

-- no stripe before the first
pub zero_div : (s : ℕ) → 0 < s → 0 / s ≡ 0
zero_div s some = by (0 / s) (div-mul-le_self 0 s)
  where
    by : (q : ℕ) → q * s ≤ 0 → q ≡ 0
    by zero h = refl
    by (suc q) h =
        let one : suc q * s ≡ s + q * s = omega arith in
        absurd (omega (arith, h, one, some))

-- an or that fails
or_fails : (a b : Bool) → (a || b) ≡ false → (a ≡ false) × (b ≡ false)
or_fails true b e = absurd (true≢false e)
or_fails false b e = (refl, e)

module _ (s : ℕ) (some : 0 < s) (offset : ℕ) where
  -- a touched stripe begins before the last byte's end
  pub met_low : (n a : ℕ) → a < stripes_met s offset n → (offset / s + a) * s < offset + n
  met_low zero a h = absurd (omega (arith, h))
  met_low (suc m) a h = last (offset / s) ((offset + m) / s) (div-mul-le_self offset s) (div-mul-le_self (offset + m) s) h
    where
      last : (x y : ℕ) → x * s ≤ offset → y * s ≤ offset + m → a < y - x + 1 → (x + a) * s < offset + suc m
      last x y low top less = whole (cases_lt y x)
        where
          whole : (y < x) ⊎ (x ≤ y) → (x + a) * s < offset + suc m
          whole (inr le) =
              let up : (x + a) * s ≤ y * s = rises (x + a) y s (omega (arith, less, le)) in
              omega (arith, up, top)
          whole (inl lt) =
              let up : (x + a) * s ≤ x * s = rises (x + a) x s (omega (arith, less, lt)) in
              omega (arith, up, low)

  -- and ends after the first byte
  pub met_high : (a : ℕ) → offset < (offset / s + a) * s + s
  met_high a =
      let whole : offset / s * s + offset % s ≡ offset = div-add-mod' offset s in
      let rest : offset % s < s = mod_below offset s some in
      let up : offset / s * s ≤ (offset / s + a) * s = rises (offset / s) (offset / s + a) s (omega arith) in
      omega (arith, whole, rest, up)

  -- a stripe before the touched ones ends before the first byte
  pub ends_before : (i : ℕ) → i < offset / s → i * s + s ≤ offset
  ends_before i h =
      let up : (i + 1) * s ≤ offset / s * s = rises (i + 1) (offset / s) s (omega (arith, h)) in
      let low : offset / s * s ≤ offset = div-mul-le_self offset s in
      let one : (i + 1) * s ≡ i * s + s = omega arith in
      omega (arith, up, low, one)

  -- one after them begins after the last
  pub begins_after : (m i : ℕ) → offset / s + stripes_met s offset (suc m) ≤ i → offset + suc m ≤ i * s
  begins_after m i h = last (offset / s) ((offset + m) / s) ((offset + m) % s) (div-add-mod' (offset + m) s) (mod_below (offset + m) s some) h
    where
      last : (x y r : ℕ) → y * s + r ≡ offset + m → r < s → x + (y - x + 1) ≤ i → offset + suc m ≤ i * s
      last x y r whole rest less =
          let up : (y + 1) * s ≤ i * s = rises (y + 1) i s (omega (arith, less)) in
          let one : (y + 1) * s ≡ y * s + s = omega arith in
          omega (arith, whole, rest, up, one)

  -- so the bytes of any other stripe are out
  pub others_out : (n i j : ℕ) → j < s → (i < offset / s) ⊎ (offset / s + stripes_met s offset n ≤ i) → IsOut offset n (i * s + j)
  others_out n i j within (inl before) = inl (let ends : i * s + s ≤ offset = ends_before i before in omega (arith, ends, within))
  others_out zero i j within (inr after) = by (cases_lt (i * s + j) offset)
    where
      by : (i * s + j < offset) ⊎ (offset ≤ i * s + j) → IsOut offset 0 (i * s + j)
      by (inl less) = inl less
      by (inr more) = inr (omega (arith, more))
  others_out (suc m) i j within (inr after) = inr (let begins : offset + suc m ≤ i * s = begins_after m i after in omega (arith, begins))

-- ---- the pin of a stripe
module _ (mk : ℕ → Pin) (named : (stripe : ℕ) → (mk stripe).stripe ≡ stripe) (i : ℕ) where
  -- it is found where the stripe is pinned
  abbrev pub Found : List ℕ → Type 0
  Found stripes =
      ((find (λ (pin : Pin). nat_eq i pin.stripe) (map mk stripes) ≡ Some (mk i)) × Contains stripes i)
      ⊎ ((find (λ (pin : Pin). nat_eq i pin.stripe) (map mk stripes) ≡ None) × (Contains stripes i → ⊥))

  pub found_pin : (stripes : List ℕ) → Found stripes
  found_pin [] = inr (refl, λ c. absurd (let less : c.0 < 0 = c.1 in omega (arith, less)))
  found_pin (x ∷ xs) = by (found_pin xs) (nat_eq i (mk x).stripe) refl
    where
      later : Contains xs i → Contains (x ∷ xs) i
      later c = (suc c.0, (let less : c.0 < length xs = c.1 in omega (arith, less)), c.2)

      none : nat_eq i (mk x).stripe ≡ false → (Contains xs i → ⊥) → (k : ℕ) → k < suc (length xs) → get_or (x ∷ xs) k i ≡ i → ⊥
      none apart gone zero less e = true≢false (sym (eq-eqb i (mk x).stripe (sym (named x ∙ e))) ∙ apart)
      none apart gone (suc k) less e = gone (k, omega (arith, less), e)

      by : Found xs → (b : Bool) → nat_eq i (mk x).stripe ≡ b
          → ((cond {A = Option Pin} b (Some (mk x)) (find (λ (pin : Pin). nat_eq i pin.stripe) (map mk xs)) ≡ Some (mk i)) × Contains (x ∷ xs) i)
          ⊎ ((cond {A = Option Pin} b (Some (mk x)) (find (λ (pin : Pin). nat_eq i pin.stripe) (map mk xs)) ≡ None) × (Contains (x ∷ xs) i → ⊥))
      by rest true e =
          let same : i ≡ x = eqb-true i (mk x).stripe e ∙ named x in
          inl (ap (λ k. Some (mk k)) (sym same), (0, omega arith, sym same))
      by (inl f) false e = inl (f.0, later f.1)
      by (inr f) false e = inr (f.0, λ c. none e f.1 c.0 c.1 c.2)

-- ---- a put's bytes
module _ (g : Shape) (some : 0 < stripe_length g) (news : List ℕ) where
  -- laid over zeros they are the stripe of the bytes
  pub laid_alone : (offset i : ℕ) → offset ≡ 0 → i < stripes_met (stripe_length g) 0 (length news) → lay_over g i (replicate (stripe_length g) 0) 0 news ≡ stripe_at (stripe_length g) news i
  laid_alone offset i first less =
      let none : 0 / stripe_length g + i ≡ i = zero_first in
      laid_is g i 0 (replicate (stripe_length g) 0) news (length-replicate (stripe_length g) 0)
      (subst (λ k. k * stripe_length g < 0 + length news) none (met_low (stripe_length g) some 0 (length news) i less)) (omega (arith, some)) news
      (λ k is. ap (λ m. get_or news m 0) (omega arith))
      (λ j within out. get_or-replicate (stripe_length g) j 0 0 within ∙ sym (past j out))
    where
      zero_first : 0 / stripe_length g + i ≡ i
      zero_first = let none : 0 / stripe_length g ≡ 0 = zero_div (stripe_length g) some in omega (arith, none)

      past : (j : ℕ) → IsOut 0 (length news) (i * stripe_length g + j) → get_or news (i * stripe_length g + j) 0 ≡ 0
      past j (inl before) = absurd (omega (arith, before))
      past j (inr after) = get_or_past news (i * stripe_length g + j) 0 (omega (arith, after))

-- ---- a write's bytes
module _ (g : Shape) (some : 0 < stripe_length g) (contents : List (List ℕ)) (versions : List ℕ) (bytes : List ℕ) (stored : map (λ version. get_or contents version []) versions ≡ stripes_below (stripe_length g) (length versions) bytes)
    (count : length versions ≡ stripes_met (stripe_length g) 0 (length bytes)) (offset : ℕ) (news : List ℕ) (fits : offset ≤ length bytes) where
  -- what a version stands for
  abbrev at : ℕ → List ℕ
  at version = get_or contents version []

  -- the bytes after the write
  abbrev whole : List ℕ
  whole = overwrite bytes offset news

  -- a version of the object stands for its stripe
  old_at : (i : ℕ) → i < length versions → at (get_or versions i 0) ≡ stripe_at (stripe_length g) bytes i
  old_at i less = sym (get_or-map at versions i 0 [] less) ∙ ap (λ l. get_or l i []) stored ∙ stripes_below_at (stripe_length g) (length versions) i bytes less

  -- bytes that aren't written stay
  out_stays : (k : ℕ) → IsOut offset (length news) k → get_or bytes k 0 ≡ get_or whole k 0
  out_stays k (inl before) = sym (over_before bytes offset news fits k before)
  out_stays k (inr after) = sym (over_after bytes offset news fits k after)

  -- the pin of a stripe
  abbrev mk : ℕ → Pin
  mk stripe = record { stripe = stripe; version = get_or versions stripe 0 }

  -- the stripes that are touched
  abbrev touched : List ℕ
  touched = range_with_len (offset / stripe_length g) (stripes_met (stripe_length g) offset (length news))

  -- those of them that keep old bytes
  abbrev keeps : ℕ → Bool
  keeps = keeps_old g (length bytes) offset (offset + length news)

  module _ (pinned : List Pin) (pins : pinned ≡ map mk (filter keeps touched)) (within_object : All (λ i. i < stripes_met (stripe_length g) 0 (length bytes)) (filter keeps touched)) where
    -- the content that a touched stripe's new version is laid over
    abbrev under : ℕ → List ℕ
    under i = old_content g contents (option_map (λ (pin : Pin). pin.version) (find (λ (pin : Pin). nat_eq i pin.stripe) pinned))

    -- what its new version stands for
    pub laid_there : (a : ℕ) → a < stripes_met (stripe_length g) offset (length news)
        → lay_over g (offset / stripe_length g + a) (under (offset / stripe_length g + a)) offset news ≡ stripe_at (stripe_length g) whole (offset / stripe_length g + a)
    laid_there a less = by (found_pin mk (λ stripe. refl) i (filter keeps touched))
      where
        i : ℕ
        i = offset / stripe_length g + a

        is_touched : Contains touched i
        is_touched = (
          a,
          subst (λ n. a < n) (sym (length-range_with_len (offset / stripe_length g) (stripes_met (stripe_length g) offset (length news)))) less,
          get_or-range_with_len (offset / stripe_length g) (stripes_met (stripe_length g) offset (length news)) a i less,
        )

        laid_over : (old : List ℕ) → length old ≡ stripe_length g
            → ((j : ℕ) → j < stripe_length g → IsOut offset (length news) (i * stripe_length g + j) → get_or old j 0 ≡ get_or bytes (i * stripe_length g + j) 0)
            → lay_over g i old offset news ≡ stripe_at (stripe_length g) whole i
        laid_over old long same =
            laid_is g i offset old news long (met_low (stripe_length g) some offset (length news) a less) (met_high (stripe_length g) some offset a) whole
            (λ k is. over_within bytes offset news fits k is.0 is.1)
            (λ j within out. same j within out ∙ out_stays (i * stripe_length g + j) out)

        at_found : (found : Option Pin) → find (λ (pin : Pin). nat_eq i pin.stripe) pinned ≡ found → lay_over g i (old_content g contents (option_map (λ (pin : Pin). pin.version) found)) offset news ≡ stripe_at (stripe_length g) whole i
            → lay_over g i (under i) offset news ≡ stripe_at (stripe_length g) whole i
        at_found found e h = ap (λ f. lay_over g i (old_content g contents (option_map (λ (pin : Pin). pin.version) f)) offset news) e ∙ h

        find_is : find (λ (pin : Pin). nat_eq i pin.stripe) pinned ≡ find (λ (pin : Pin). nat_eq i pin.stripe) (map mk (filter keeps touched))
        find_is = ap (λ l. find (λ (pin : Pin). nat_eq i pin.stripe) l) pins

        -- of a stripe that isn't pinned there are no old bytes beside those that are written
        nothing : keeps i ≡ false → (j : ℕ) → j < stripe_length g → IsOut offset (length news) (i * stripe_length g + j) → get_or bytes (i * stripe_length g + j) 0 ≡ 0
        nothing none j within out =
            get_or_past bytes (i * stripe_length g + j) 0
            (ends out (ltb-false (i * stripe_length g) (min offset (length bytes)) (parts none).0) (ltb-false (offset + length news) (min ((i + 1) * stripe_length g) (length bytes)) (parts none).1))
          where
            parts : keeps i ≡ false → (nat_lt (i * stripe_length g) (min offset (length bytes)) ≡ false) × (nat_lt (offset + length news) (min ((i + 1) * stripe_length g) (length bytes)) ≡ false)
            parts e = or_fails _ _ e

            next : (i + 1) * stripe_length g ≡ i * stripe_length g + stripe_length g
            next = omega arith

            last : (f t m n : ℕ) → t ≡ f + stripe_length g → (f + j < offset) ⊎ (offset + n ≤ f + j) → min offset m ≤ f → min t m ≤ offset + n → m ≤ f + j
            last f t m n e (inl before) first end = omega (arith, e, before, first, end, within)
            last f t m n e (inr after) first end = omega (arith, e, after, first, end, within)

            ends : IsOut offset (length news) (i * stripe_length g + j) → min offset (length bytes) ≤ i * stripe_length g → min ((i + 1) * stripe_length g) (length bytes) ≤ offset + length news
                → length bytes ≤ i * stripe_length g + j
            ends out first end = last (i * stripe_length g) ((i + 1) * stripe_length g) (length bytes) (length news) next out first end

        by : Found mk (λ stripe. refl) i (filter keeps touched) → lay_over g i (under i) offset news ≡ stripe_at (stripe_length g) whole i
        by (inl f) =
            let inside : i < stripes_met (stripe_length g) 0 (length bytes) = All-contains (λ i. i < stripes_met (stripe_length g) 0 (length bytes)) (filter keeps touched) i within_object f.1 in
            let old_is : at (get_or versions i 0) ≡ stripe_at (stripe_length g) bytes i = old_at i (subst (λ n. i < n) (sym count) inside) in
            at_found (Some (mk i)) (find_is ∙ f.0)
            (ap (λ old. lay_over g i old offset news) old_is
            ∙ laid_over (stripe_at (stripe_length g) bytes i) (stripe_count (stripe_length g) i bytes) (λ j within out. stripe_byte (stripe_length g) i bytes j within))
        by (inr f) =
            let none : keeps i ≡ false = unkept (cases_Bool (keeps i)) in
            at_found None (find_is ∙ f.0)
            (laid_over (replicate (stripe_length g) 0) (length-replicate (stripe_length g) 0) (λ j within out. get_or-replicate (stripe_length g) j 0 0 within ∙ sym (nothing none j within out)))
          where
            unkept : (keeps i ≡ true) ⊎ (keeps i ≡ false) → keeps i ≡ false
            unkept (inl e) = absurd (f.1 (filtered keeps touched i e is_touched))
            unkept (inr e) = e

    -- the versions that were drawn
    module _ (drawn : List ℕ) (laid : map at drawn ≡ map (λ i. lay_over g i (under i) offset news) touched) where
      -- the object's versions then
      abbrev after : List ℕ
      after = overwrite versions (offset / stripe_length g) drawn

      drawn_count : length drawn ≡ stripes_met (stripe_length g) offset (length news)
      drawn_count = sym (length-map drawn at) ∙ ap length laid ∙ length-map-range_with_len (λ i. lay_over g i (under i) offset news) (offset / stripe_length g) (stripes_met (stripe_length g) offset (length news))

      begins : offset / stripe_length g ≤ length versions
      begins = subst (λ n. offset / stripe_length g ≤ n) (sym count) (first_fits (stripe_length g) some offset (length bytes) fits)

      new_count : length after ≡ max (length versions) (offset / stripe_length g + length drawn)
      new_count = length-overwrite versions (offset / stripe_length g) drawn begins

      -- another stripe stays
      other_at : (i : ℕ) → i < length versions → (i < offset / stripe_length g) ⊎ (offset / stripe_length g + length drawn ≤ i) → at (get_or versions i 0) ≡ stripe_at (stripe_length g) whole i
      other_at i less apart =
          old_at i less
          ∙ same_stripes (stripe_length g) i bytes whole
          (λ j within. out_stays (i * stripe_length g + j)
          (others_out (stripe_length g) some offset (length news) i j within (subst (λ n. (i < offset / stripe_length g) ⊎ (offset / stripe_length g + n ≤ i)) drawn_count apart)))

      -- a touched one is written
      drawn_at : (i : ℕ) → offset / stripe_length g ≤ i → i < offset / stripe_length g + length drawn → at (get_or drawn (i - offset / stripe_length g) 0) ≡ stripe_at (stripe_length g) whole i
      drawn_at i high low =
          let place : i - offset / stripe_length g < length drawn = inside (offset / stripe_length g) (length drawn) high low in
          let same : offset / stripe_length g + (i - offset / stripe_length g) ≡ i = back (offset / stripe_length g) high in
          let less : i - offset / stripe_length g < stripes_met (stripe_length g) offset (length news) = subst (λ n. i - offset / stripe_length g < n) drawn_count place in
          sym (get_or-map at drawn (i - offset / stripe_length g) 0 [] place)
          ∙ ap (λ l. get_or l (i - offset / stripe_length g) []) laid
          ∙ get_or-map-range_with_len (λ i. lay_over g i (under i) offset news) (offset / stripe_length g) (stripes_met (stripe_length g) offset (length news)) (i - offset / stripe_length g)
          (offset / stripe_length g + (i - offset / stripe_length g)) [] less refl
          ∙ laid_there (i - offset / stripe_length g) less
          ∙ ap (stripe_at (stripe_length g) whole) same
        where
          inside : (f n : ℕ) → f ≤ i → i < f + n → i - f < n
          inside f n h k = omega (arith, h, k)

          back : (f : ℕ) → f ≤ i → f + (i - f) ≡ i
          back f h = omega (arith, h)

      -- so each version stands for its stripe of the new bytes
      new_at : (i : ℕ) → i < length after → at (get_or after i 0) ≡ stripe_at (stripe_length g) whole i
      new_at i less = by (cases_lt i (offset / stripe_length g)) (cases_lt i (offset / stripe_length g + length drawn))
        where
          first : ℕ
          first = offset / stripe_length g

          old_there : (f n m k : ℕ) → i < k → k ≡ max m (f + n) → f + n ≤ i → i < m
          old_there f n m k a b c = omega (arith, a, b, c)

          before_end : (f m : ℕ) → i < f → f ≤ m → i < m
          before_end f m a b = omega (arith, a, b)

          by : (i < offset / stripe_length g) ⊎ (offset / stripe_length g ≤ i) → (i < offset / stripe_length g + length drawn) ⊎ (offset / stripe_length g + length drawn ≤ i)
              → at (get_or after i 0) ≡ stripe_at (stripe_length g) whole i
          by (inl low) other =
              ap at (over_before versions (offset / stripe_length g) drawn begins i low)
              ∙ other_at i (before_end (offset / stripe_length g) (length versions) low begins) (inl low)
          by (inr high) (inl low) = ap at (over_within versions (offset / stripe_length g) drawn begins i high low) ∙ drawn_at i high low
          by (inr high) (inr more) =
              ap at (over_after versions (offset / stripe_length g) drawn begins i more)
              ∙ other_at i (old_there (offset / stripe_length g) (length drawn) (length versions) (length after) less new_count more) (inr more)

      -- all of them stand for the stripes of the new bytes
      pub written_stripes : map at after ≡ stripes_below (stripe_length g) (length after) whole
      written_stripes =
          made_stripes (stripe_length g) (length after) (λ i. at (get_or after i 0)) whole new_at (map at after) (length-map after at)
          (λ i less. get_or-map at after i 0 [] less)
