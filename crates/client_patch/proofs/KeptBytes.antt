-- The old bytes that a write keeps, by the stripes that it pins.
use Rattle.std.proofs.Common.{◌≡◌, ℕ, zero, suc, ◌+◌, ◌-◌, ◌*◌, ◌/◌, ◌<◌, ◌≤◌, min, nat_eq, nat_lt, Bool, true, false, cond, ◌||◌, List, [], ◌∷◌, ◌++◌, length, get_or, take, drop, map, filter, find, replicate, slice_get, Option, None, Some, option_map, Contains, refl, sym, ap, subst, ◌∙◌, inl, inr, arith, mul-le-mul_right}
use Rattle.std.specs.List.{range_with_len}
use Rattle.std.specs.Option.{option_and_then}
use Rattle.std.proofs.Math.Seq.{drop-append_seam}
use Rattle.std.proofs.lemmas.Bool.{true≢false, eqb-true, eq-eqb, ltb-true}
use Rattle.std.proofs.lemmas.List.{take_all, take_min, length-take-le, take-append-le}
use Rattle.std.proofs.lemmas.List.FromFn.{length-range_with_len, get_or-range_with_len}
use Rattle.clay_grid.specs.Shape.{Shape, stripe_length}
use Rattle.clay_model.specs.Code.{padded}
use Rattle.store_map.specs.Limits.{stripes_met}
use Rattle.store_core.specs.Directory.{Pin}
use Rattle.store_core.specs.Look.{keeps_old}
use Rattle.run_laws.proofs.SoundLists.{in_filter, filtered}
use Rattle.run_laws.proofs.Laid.{met_low, met_high, Found, found_pin}
use Rattle.version_seal.specs.Entry.{StampOf, old_bytes}
use Rattle.stripe_stamps.specs.Sealed.{base_stamp}
use Rattle.gather_parts.specs.Gatherings.{bytes_between}
use Rattle.client_patch.specs.Padded.{IsPadded}
use Rattle.client_patch.specs.Kept.{kept_count, kept_from, old_in}

-- the content of a version, if it has a stamp
abbrev pub content_of : Option StampOf → List ℕ
content_of (Some stamp) = stamp.content
content_of None = []

unequal : (a b : ℕ) → (a ≡ b → ⊥) → nat_eq a b ≡ false
unequal a b apart = by (nat_eq a b) refl
  where
    by : (e : Bool) → nat_eq a b ≡ e → e ≡ false
    by true e = absurd (apart (eqb-true a b e))
    by false e = refl

module _ (g : Shape) (some : 0 < stripe_length g) (size start n : ℕ) (stamps : List StampOf) (versions : List ℕ) where
  abbrev end : ℕ
  end = start + n

  abbrev keeps : ℕ → Bool
  keeps = keeps_old g size start (start + n)

  abbrev count : ℕ → ℕ
  count = kept_count g size start (start + n)

  -- the content of a stripe
  abbrev pub content : ℕ → List ℕ
  content stripe = content_of (slice_get stamps (get_or versions stripe 0))

  -- the bytes that are gathered of pinned stripes
  abbrev pub gathered : List ℕ → List ℕ
  gathered [] = []
  gathered (stripe ∷ stripes) = bytes_between (0 - stripe * stripe_length g) (min (size - stripe * stripe_length g) (stripe_length g)) (content stripe) ++ gathered stripes

  -- the same, of stripes of which some keep none
  abbrev counted : List ℕ → List ℕ
  counted [] = []
  counted (stripe ∷ stripes) = take (count stripe) (content stripe) ++ counted stripes

  gathered_counted : (stripes : List ℕ) → gathered (filter keeps stripes) ≡ counted stripes
  gathered_counted [] = refl
  gathered_counted (stripe ∷ stripes) = by (gathered_counted stripes) (keeps stripe)
    where
      by : gathered (filter keeps stripes) ≡ counted stripes → (b : Bool)
          → gathered (cond {A = List ℕ} b (stripe ∷ filter keeps stripes) (filter keeps stripes))
          ≡ take (cond {A = ℕ} b (min (stripe_length g) (size - stripe * stripe_length g)) 0) (content stripe) ++ counted stripes
      by rest true =
          let none : 0 - stripe * stripe_length g ≡ 0 = omega arith in
          let same : min (size - stripe * stripe_length g) (stripe_length g) - 0 ≡ min (stripe_length g) (size - stripe * stripe_length g) = omega arith in
          (λ i. take (min (size - stripe * stripe_length g) (stripe_length g) - none i) (drop (none i) (content stripe)) ++ rest i)
          ∙ ap (λ k. take k (content stripe) ++ counted stripes) same
      by rest false = rest

  -- the bytes of a stripe that comes behind stripes that keep none
  front_by : (k : ℕ) (own rest : List ℕ) → k ≤ length own → take k (take k own ++ rest) ≡ take k own
  front_by k own rest few =
      let whole : length (take k own) ≡ k = length-take-le k own few in
      take-append-le k (take k own) rest (subst (λ m. k ≤ m) (sym whole) (omega arith)) ∙ take_all k (take k own) (subst (λ m. m ≤ k) (sym whole) (omega arith))

  counted_at : (a m p : ℕ) → p < m → ((x : ℕ) → a ≤ x → x < a + p → count x ≡ 0) → count (a + p) ≤ length (content (a + p))
      → take (count (a + p)) (counted (range_with_len a m)) ≡ take (count (a + p)) (content (a + p))
  counted_at a zero p less none few = absurd (omega (arith, less))
  counted_at a (suc m) zero less none few =
      let same : a + 0 ≡ a = omega arith in
      subst (λ b. count b ≤ length (content b) → take (count b) (take (count a) (content a) ++ counted (range_with_len (a + 1) m)) ≡ take (count b) (content b)) (sym same)
      (front_by (count a) (content a) (counted (range_with_len (a + 1) m))) few
  counted_at a (suc m) (suc p) less none few =
      let here : a + 1 + p ≡ a + suc p = omega arith in
      let zero_here : count a ≡ 0 = none a (omega arith) (omega arith) in
      ap (λ k. take (count (a + suc p)) (take k (content a) ++ counted (range_with_len (a + 1) m))) zero_here
      ∙ subst (λ b. count b ≤ length (content b) → take (count b) (counted (range_with_len (a + 1) m)) ≡ take (count b) (content b)) here
      (counted_at (a + 1) m p (omega (arith, less)) (λ x low high. none x (omega (arith, low)) (subst (λ b. x < b) here high))) few

  abbrev first : ℕ
  first = start / stripe_length g

  abbrev met : ℕ
  met = stripes_met (stripe_length g) start n

  -- stripes between the first and another one that is touched keep none
  middle : (place x : ℕ) → place < met → first + 1 ≤ x → x < first + place → count x ≡ 0
  middle place x less low high = by (keeps x) refl
    where
      begins : start ≤ x * stripe_length g
      begins =
          let up : (first + 1) * stripe_length g ≤ x * stripe_length g = mul-le-mul_right (stripe_length g) low in
          let past : start < (start / stripe_length g + 0) * stripe_length g + stripe_length g = met_high (stripe_length g) some start 0 in
          let one : (first + 1) * stripe_length g ≡ (start / stripe_length g + 0) * stripe_length g + stripe_length g = omega arith in
          omega (arith, up, past, one)

      ends : (x + 1) * stripe_length g ≤ start + n
      ends =
          let up : (x + 1) * stripe_length g ≤ (first + place) * stripe_length g = mul-le-mul_right (stripe_length g) (omega (arith, high)) in
          let below : (start / stripe_length g + place) * stripe_length g < start + n = met_low (stripe_length g) some start n place less in
          omega (arith, up, below)

      neither : keeps x ≡ false
      neither = either (nat_lt (x * stripe_length g) (min start size)) (nat_lt (start + n) (min ((x + 1) * stripe_length g) size)) refl refl
        where
          either : (a b : Bool) → nat_lt (x * stripe_length g) (min start size) ≡ a → nat_lt (start + n) (min ((x + 1) * stripe_length g) size) ≡ b → (a || b) ≡ false
          either true b e f = absurd (let less : x * stripe_length g < min start size = ltb-true _ _ e in let low : start ≤ x * stripe_length g = begins in omega (arith, less, low))
          either false true e f = absurd (let less : start + n < min ((x + 1) * stripe_length g) size = ltb-true _ _ f in let high : (x + 1) * stripe_length g ≤ start + n = ends in omega (arith, less, high))
          either false false e f = refl

      by : (b : Bool) → keeps x ≡ b → cond {A = ℕ} b (min (stripe_length g) (size - x * stripe_length g)) 0 ≡ 0
      by true e = absurd (true≢false (sym e ∙ neither))
      by false e = refl

  module _ (whole : (x : ℕ) → Contains (filter keeps (range_with_len first met)) x → IsPadded g size x (content x)) where
    -- a stripe that is touched
    touched_at : (place : ℕ) → place < met → Contains (range_with_len first met) (first + place)
    touched_at place less = (place, subst (λ k. place < k) (sym (length-range_with_len first met)) less, get_or-range_with_len first met place (first + place) less)

    enough : (place : ℕ) → place < met → count (first + place) ≤ length (content (first + place))
    enough place less = by (keeps (first + place)) refl
      where
        by : (b : Bool) → keeps (first + place) ≡ b → cond {A = ℕ} b (min (stripe_length g) (size - (first + place) * stripe_length g)) 0 ≤ length (content (first + place))
        by false e = omega arith
        by true e = subst (λ k. min (stripe_length g) (size - (first + place) * stripe_length g) ≤ k) (sym (whole (first + place) (filtered keeps (range_with_len first met) (first + place) e (touched_at place less))).whole) (omega arith)

    -- its bytes among all that are gathered
    found_bytes : (place : ℕ) → place < met
        → take (count (first + place)) (drop (kept_from g size start (start + n) (first + place)) (gathered (filter keeps (range_with_len first met)))) ≡ take (count (first + place)) (content (first + place))
    found_bytes place less = ap (λ l. take (count (first + place)) (drop (kept_from g size start (start + n) (first + place)) l)) (gathered_counted (range_with_len first met)) ∙ by place met refl less
      where
        by : (place m : ℕ) → met ≡ m → place < m → take (count (first + place)) (drop (kept_from g size start (start + n) (first + place)) (counted (range_with_len first m))) ≡ take (count (first + place)) (content (first + place))
        by zero m is less =
            let same : first + 0 ≡ first = omega arith in
            let here : nat_eq (first + 0) first ≡ true = eq-eqb (first + 0) first same in
            ap (λ b. take (count (first + 0)) (drop (cond {A = ℕ} b 0 (count first)) (counted (range_with_len first m)))) here
            ∙ counted_at first m 0 less (λ x low high. absurd (omega (arith, low, high))) (enough 0 (subst (λ k. 0 < k) (sym is) less))
        by (suc place) zero is less = absurd (omega (arith, less))
        by (suc place) (suc m) is less =
            let apart : nat_eq (first + suc place) first ≡ false = unequal (first + suc place) first (λ e. omega (arith, e)) in
            let here : first + 1 + place ≡ first + suc place = omega arith in
            let zero_less : 0 < met = subst (λ k. 0 < k) (sym is) (omega arith) in
            let none : first + 0 ≡ first = omega arith in
            let long : count first ≤ length (content first) = subst (λ x. count x ≤ length (content x)) none (enough 0 zero_less) in
            let within : suc place < met = subst (λ k. suc place < k) (sym is) less in
            ap (λ b. take (count (first + suc place)) (drop (cond {A = ℕ} b 0 (count first)) (take (count first) (content first) ++ counted (range_with_len (first + 1) m)))) apart
            ∙ ap (take (count (first + suc place))) (behind (count first) (content first) (counted (range_with_len (first + 1) m)) long)
            ∙ subst (λ b. count b ≤ length (content b) → take (count b) (counted (range_with_len (first + 1) m)) ≡ take (count b) (content b)) here
            (counted_at (first + 1) m place (omega (arith, less)) (λ x low high. middle (suc place) x within low (subst (λ b. x < b) here high))) (enough (suc place) within)
          where
            behind : (k : ℕ) (own rest : List ℕ) → k ≤ length own → drop k (take k own ++ rest) ≡ rest
            behind k own rest few =
                let len : length (take k own) ≡ k = length-take-le k own few in
                subst (λ m. drop m (take k own ++ rest) ≡ rest) len (drop-append_seam (take k own) rest)

    abbrev mk : ℕ → Pin
    mk stripe = record { stripe = stripe; version = get_or versions stripe 0 }

    module _ (stamped : (x : ℕ) → Contains (filter keeps (range_with_len first met)) x → (stamp : StampOf) × (slice_get stamps (get_or versions x 0) ≡ Some stamp)) where
      -- the old bytes are those of the pinned stamp
      pub old_is : (place : ℕ) → place < met → old_bytes g (base_stamp stamps (map mk (filter keeps (range_with_len first met))) (first + place))
          ≡ old_in g size start (start + n) (gathered (filter keeps (range_with_len first met))) (first + place)
      old_is place less =
          by (found_pin mk (λ stripe. refl) (first + place) (filter keeps (range_with_len first met))) (keeps (first + place)) refl
          ∙ ap (padded (stripe_length g)) (sym (found_bytes place less))
        where
          touched : Contains (range_with_len first met) (first + place)
          touched = touched_at place less

          base : Option Pin → List ℕ
          base found = old_bytes g (option_and_then (λ version. slice_get stamps version) (option_map (λ pin. pin.version) found))

          by : Found mk (λ stripe. refl) (first + place) (filter keeps (range_with_len first met)) → (b : Bool) → keeps (first + place) ≡ b
              → base (find (λ (pin : Pin). nat_eq (first + place) pin.stripe) (map mk (filter keeps (range_with_len first met)))) ≡ padded (stripe_length g) (take (count (first + place)) (content (first + place)))
          by (inl f) false e = absurd (true≢false (sym (in_filter keeps (range_with_len first met) (first + place) f.1).1 ∙ e))
          by (inr f) true e = absurd (f.1 (filtered keeps (range_with_len first met) (first + place) e touched))
          by (inr f) false e =
              let none : stripe_length g ≡ stripe_length g - 0 = omega arith in
              ap base f.0 ∙ ap (λ k. replicate {A = ℕ} k 0) none ∙ ap (λ b. padded (stripe_length g) (take (cond {A = ℕ} b (min (stripe_length g) (size - (first + place) * stripe_length g)) 0) (content (first + place)))) (sym e)
          by (inl f) true e =
              let stamp : (stamp : StampOf) × (slice_get stamps (get_or versions (first + place) 0) ≡ Some stamp) = stamped (first + place) f.1 in
              let pad : IsPadded g size (first + place) (content (first + place)) = whole (first + place) f.1 in
              let left : ℕ = size - (first + place) * stripe_length g in
              let both : min (size - (first + place) * stripe_length g) (length (content (first + place))) ≡ min (stripe_length g) (size - (first + place) * stripe_length g)
              = ap (λ m. min (size - (first + place) * stripe_length g) m) pad.whole ∙ omega arith in
              ap base f.0
              ∙ ap (old_bytes g) stamp.1
              ∙ sym (ap content_of stamp.1)
              ∙ sym pad.zeros
              ∙ ap (padded (stripe_length g)) (sym (take_min left (content (first + place))) ∙ ap (λ k. take k (content (first + place))) both)
              ∙ ap (λ b. padded (stripe_length g) (take (cond {A = ℕ} b (min (stripe_length g) (size - (first + place) * stripe_length g)) 0) (content (first + place)))) (sym e)
