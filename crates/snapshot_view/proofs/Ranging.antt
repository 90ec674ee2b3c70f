-- The bytes that a read of a snapshot gathers.
use Rattle.std.proofs.Common.{◌≡◌, ℕ, zero, suc, ◌+◌, ◌-◌, ◌*◌, ◌/◌, ◌<◌, ◌≤◌, min, List, [], ◌∷◌, ◌++◌, length, map, get_or, take, drop, refl, sym, ap, subst, ◌∙◌, arith, length-drop}
use Rattle.std.specs.List.{concat, range_with_len}
use Rattle.std.proofs.lemmas.List.{length-map, length-take, get_or-map, get_or-take, get_or-drop, ext_get_or}
use Rattle.std.proofs.lemmas.List.FromFn.{length-range_with_len, get_or-range_with_len, length-map-range_with_len, get_or-map-range_with_len}
use Rattle.clay_grid.specs.Shape.{Shape, stripe_length}
use Rattle.clay_model.specs.Code.{stripes_of}
use Rattle.store_map.specs.Limits.{stripes_met}
use Rattle.store_core.specs.Note.{Note, Kind}
use Rattle.run_laws.proofs.Bytes.{stripe_at, stripes_below_at, count_stripes}
use Rattle.run_laws.proofs.Ranges.{range_of, part_at, parts_are}
use Rattle.run_laws.proofs.SoundStripes.{pins_within}
use Rattle.store_map.proofs.LimitLaws.{stripes_met-start}
use Rattle.call_steps.specs.declared.seen.Seen.{Seen}
use Rattle.gather_parts.specs.Wanted.{wanted_of, bytes_of}

-- an element of a list that has one
one_of : {X : Type 0} (xs : List X) (k : ℕ) → k < length xs → X
one_of [] k less = absurd (omega (arith, less))
one_of (x ∷ xs) k less = x

module _ (g : Shape) (some : 0 < stripe_length g) (bytes : List ℕ) (stripes : List Seen)
    (numbered : map (λ seen. seen.stripe) stripes ≡ range_with_len 0 (length stripes))
    (stored : map (λ seen. seen.stamp.content) stripes ≡ stripes_of g bytes) (start end : ℕ) (long : end ≤ length bytes) (within : start ≤ end) where
  abbrev s : ℕ
  s = stripe_length g

  abbrev first : ℕ
  first = start / s

  abbrev count : ℕ
  count = stripes_met s start (end - start)

  -- a stripe's wanted bytes
  abbrev part : Seen → List ℕ
  part seen = range_of seen.stamp.content (start - seen.stripe * s) (min (end - seen.stripe * s) s)

  joined : (xs : List Seen) → bytes_of (map (wanted_of g start end) xs) ≡ concat (map part xs)
  joined [] = refl
  joined (x ∷ xs) = ap (λ l. part x ++ l) (joined xs)

  all : length stripes ≡ (length bytes + s - 1) / s
  all =
      sym (length-map stripes (λ (seen : Seen). seen.stamp.content)) ∙ ap length stored
      ∙ count_stripes s ((length bytes + s - 1) / s) bytes

  -- a stripe that the range meets is there
  met : (k : ℕ) → k < count → first + k < length stripes
  met k less =
      let note : Note = record { kind = Kind.ReadAt; name = []; offset = start; length = end - start } in
      let whole : min (start + (end - start)) (length bytes) ≡ end = same (length bytes) long in
      let numbers : List ℕ = range_with_len first count in
      let inside : get_or (range_with_len first (stripes_met s start (min (start + (end - start)) (length bytes) - start))) k 0 < stripes_met s 0 (length bytes) =
      pins_within g some Kind.ReadAt note (length bytes) k 0 (subst (λ e. k < length (range_with_len first (stripes_met s start (e - start)))) (sym whole) (subst (λ n. k < n) (sym (length-range_with_len first count)) less)) in
      subst (λ n. n < length stripes) (get_or-range_with_len first count k 0 less)
      (subst (λ n. get_or numbers k 0 < n) (stripes_met-start s (length bytes) some ∙ sym all)
      (subst (λ e. get_or (range_with_len first (stripes_met s start (e - start))) k 0 < stripes_met s 0 (length bytes)) whole inside))
    where
      same : (n : ℕ) → end ≤ n → min (start + (end - start)) n ≡ end
      same n h = omega (arith, h, within)

  plain : (n : ℕ) → 0 + n ≡ n
  plain n = omega arith

  -- its part is that of the bytes
  each : (k : ℕ) (x : Seen) → k < count → part (get_or (take count (drop first stripes)) k x) ≡ part_at s some bytes start end long (first + k)
  each k x less =
      let there : first + k < length stripes = met k less in
      let here : get_or (take count (drop first stripes)) k x ≡ get_or stripes (first + k) x = get_or-take count (drop first stripes) k x less ∙ get_or-drop first stripes k x in
      let number : (get_or stripes (first + k) x).stripe ≡ first + k =
      sym (get_or-map (λ (seen : Seen). seen.stripe) stripes (first + k) x 0 there) ∙ ap (λ l. get_or l (first + k) 0) numbered ∙ get_or-range_with_len 0 (length stripes) (first + k) 0 there ∙ plain (first + k) in
      let content : (get_or stripes (first + k) x).stamp.content ≡ stripe_at s bytes (first + k) =
      sym (get_or-map (λ (seen : Seen). seen.stamp.content) stripes (first + k) x [] there) ∙ ap (λ l. get_or l (first + k) []) stored
      ∙ stripes_below_at s ((length bytes + s - 1) / s) (first + k) bytes (subst (λ n. first + k < n) all there) in
      ap part here ∙ (λ i. range_of (content i) (start - number i * s) (min (end - number i * s) s))

  counted : length (take count (drop first stripes)) ≡ count
  counted = length-take count (drop first stripes) ∙ ap (min count) (length-drop first stripes) ∙ least count (length stripes) met
    where
      least : (count n : ℕ) → ((k : ℕ) → k < count → first + k < n) → min count (n - first) ≡ count
      least zero n h = omega arith
      least (suc m) n h = let last : first + m < n = h m (omega arith) in omega (arith, last)

  parts_there : map part (take count (drop first stripes)) ≡ map (part_at s some bytes start end long) (range_with_len first count)
  parts_there =
      ext_get_or [] (map part (take count (drop first stripes))) (map (part_at s some bytes start end long) (range_with_len first count))
      (length-map (take count (drop first stripes)) part ∙ counted ∙ sym (length-map-range_with_len (part_at s some bytes start end long) first count))
      (λ k less.
      let inside : k < length (take count (drop first stripes)) = subst (λ n. k < n) (length-map (take count (drop first stripes)) part) less in
      let below : k < count = subst (λ n. k < n) counted inside in
      let x : Seen = one_of (take count (drop first stripes)) k inside in
      get_or-map part (take count (drop first stripes)) k x [] inside ∙ each k x below
      ∙ sym (get_or-map-range_with_len (part_at s some bytes start end long) first count k (first + k) [] below refl))

  -- the bytes that are wanted of the stripes that meet the range
  pub range_wanted : bytes_of (map (wanted_of g start end) (take count (drop first stripes))) ≡ range_of bytes start end
  range_wanted = joined (take count (drop first stripes)) ∙ ap concat parts_there ∙ parts_are s some bytes start end long within
