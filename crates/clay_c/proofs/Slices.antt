-- Parts that stand apart, as a view shows them.
use Rattle.std.proofs.Common.{◌≡◌, ℕ, zero, suc, ◌+◌, ◌-◌, ◌*◌, ◌<◌, ◌≤◌, Bool, true, false, not, cond, eqb, List, [], ◌∷◌, map, length, get_or, filter, count_by, All, Option, Some, None, is_none, IfSome, refl, sym, subst, ap, ◌∙◌, inl, inr, arith}
use Rattle.std.specs.Option.{option_map}
use Rattle.std.specs.List.{range_with_len}
use Rattle.std.proofs.lemmas.Bool.{eq-eqb, ne_eqb, true≢false, cases_lt}
use Rattle.std.proofs.lemmas.List.{get_or_past}
use Rattle.std.proofs.lemmas.List.FromFn.{length-map-range_with_len, get_or-map-range_with_len, length-range_with_len, get_or-range_with_len}
use Rattle.std.proofs.lemmas.List.Sums.{length-filter}
use Rattle.clay_grid.specs.Shape.{Shape, chunk_count, chunk_length}
use Rattle.clay_grid.specs.Score.{count_below}
use Rattle.clay_model.specs.RepairParts.{part_length}
use Rattle.lane_repair.specs.Views.{placed_slices, ArePieces}
use Rattle.clay_lanes.specs.Present.{AreChunks}
use Rattle.clay_lanes.specs.Recovered.{missing_of}
use Rattle.clay_lanes.proofs.FillLemmas.{same_count}
use Rattle.clay_c.specs.Pieces.{starts_of}
use Rattle.clay_c.specs.Calls.{place_among_others, lost_count}
use Rattle.clay_c.specs.Helpers.{is_marked}
use Rattle.clay_c.specs.Apart.{HaveBytes, part_slices, left_slices, lost_numbers}
use Rattle.clay_c.proofs.Shown.{place_below}
use Rattle.clay_c.proofs.Missing.{lost_counted}
use Rattle.clay_c.proofs.Marking.{count_before, none_cond}

module _ (slices : List (List ℕ)) (gone : ℕ → Bool) (place : ℕ → ℕ) where
  shown_slice : (b : Bool) (c : ℕ) → option_map (λ at. get_or slices at []) (cond b None (Some (place c * 1))) ≡ cond b None (Some (get_or slices (place c) []))
  shown_slice true c = refl
  shown_slice false c = let once : place c * 1 ≡ place c = omega arith in ap (λ p. Some (get_or slices p [])) once

  shown_slices : (cs : List ℕ) → placed_slices slices (map (λ c. cond (gone c) None (Some (place c * 1))) cs) ≡ map (λ c. cond (gone c) None (Some (get_or slices (place c) []))) cs
  shown_slices [] = refl
  shown_slices (c ∷ cs) = λ i. shown_slice (gone c) c i ∷ shown_slices cs i

  -- the slices at the places of those that aren't gone
  pub slices_shown : (count : ℕ) → placed_slices slices (starts_of gone place 1 count) ≡ map (λ c. cond (gone c) None (Some (get_or slices (place c) []))) (range_with_len 0 count)
  slices_shown count = shown_slices (range_with_len 0 count)

  module _ (n : ℕ) where
    stands : (b : Bool) (c : ℕ) → (b ≡ false → place c < n) → IfSome (cond b None (Some (place c * 1))) (λ at. at < n)
    stands true c within = tt
    stands false c within = let once : place c * 1 ≡ place c = omega arith in subst (λ p. p < n) (sym once) (within refl)

    pub places_stand : (count : ℕ) → ((c : ℕ) → c < count → gone c ≡ false → place c < n) → All (λ o. IfSome o (λ at. at < n)) (starts_of gone place 1 count)
    places_stand count within = λ c d h.
        let f : ℕ → Option ℕ = λ c. cond (gone c) None (Some (place c * 1)) in
        let below : c < count = subst (λ n. c < n) (length-map-range_with_len f 0 count) h in
        subst (λ o. IfSome o (λ at. at < n)) (sym (get_or-map-range_with_len f 0 count c c d below (omega arith))) (stands (gone c) c (within c below))

  long : (len : ℕ) (b : Bool) (c : ℕ) → HaveBytes len slices → (b ≡ false → place c < length slices) → IfSome (cond b None (Some (get_or slices (place c) []))) (λ piece. length piece ≡ len)
  long len true c each within = tt
  long len false c each within = each (place c) [] (within refl)

  pub slices_long : (len count : ℕ) → HaveBytes len slices → ((c : ℕ) → c < count → gone c ≡ false → place c < length slices)
      → All (λ o. IfSome o (λ piece. length piece ≡ len)) (map (λ c. cond (gone c) None (Some (get_or slices (place c) []))) (range_with_len 0 count))
  slices_long len count each within = λ c d h.
      let f : ℕ → Option (List ℕ) = λ c. cond (gone c) None (Some (get_or slices (place c) [])) in
      let below : c < count = subst (λ n. c < n) (length-map-range_with_len f 0 count) h in
      subst (λ o. IfSome o (λ piece. length piece ≡ len)) (sym (get_or-map-range_with_len f 0 count c c d below (omega arith))) (long len (gone c) c each (within c below))

there : (b : Bool) (l : List ℕ) → b ≡ false → is_none (cond b None (Some l)) ≡ false
there b l h = ap (λ v. is_none (cond v None (Some l))) h

-- ---- the parts of all but a lost chunk

module _ (g : Shape) (lost : ℕ) (inside : lost < chunk_count g) where
  pub other_place : (c : ℕ) → c < chunk_count g → eqb c lost ≡ false → place_among_others lost c < chunk_count g - 1
  other_place c below other = place_below lost c (chunk_count g) inside below (λ same. true≢false (sym (eq-eqb c lost same) ∙ other))

  pub are_part_slices : (slices : List (List ℕ)) → length slices ≡ chunk_count g - 1 → HaveBytes (part_length g) slices → ArePieces g lost (part_slices g lost slices)
  are_part_slices slices count each =
      let f : ℕ → Option (List ℕ) = λ c. cond (eqb c lost) None (Some (get_or slices (place_among_others lost c) [])) in
      record {
        chunk = inside;
        count = length-map-range_with_len f 0 (chunk_count g);
        others = λ c below other.
            ap is_none (get_or-map-range_with_len f 0 (chunk_count g) c c None below (omega arith)) ∙ there (eqb c lost) (get_or slices (place_among_others lost c) []) (ne_eqb c lost other);
        lengths = slices_long slices (λ c. eqb c lost) (place_among_others lost) (part_length g) (chunk_count g) each
            (λ c below other. subst (λ n. place_among_others lost c < n) (sym count) (other_place c below other));
      }

-- ---- the chunks that are there

pub both_counted : (n : ℕ) (f : ℕ → Bool) → count_below n f + count_below n (λ i. not (f i)) ≡ n
both_counted zero f = refl
both_counted (suc n) f = joined (count_below n f) (count_below n (λ i. not (f i))) (cond (f n) 1 0) (cond (not (f n)) 1 0) n (both_counted n f) (one (f n))
  where
    one : (b : Bool) → cond b 1 0 + cond (not b) 1 0 ≡ 1
    one true = refl
    one false = refl

    joined : (a b c d n : ℕ) → a + b ≡ n → c + d ≡ 1 → a + c + (b + d) ≡ suc n
    joined a b c d n p q = omega arith

module _ (g : Shape) (present : List ℕ) (chunks : List (List ℕ)) (marks : length present ≡ chunk_count g) where
  pub left_entry : (c : ℕ) → c < chunk_count g → get_or (left_slices g present chunks) c None ≡ cond (eqb (get_or present c 0) 0) None (Some (get_or chunks (count_below c (is_marked present)) []))
  left_entry c h =
      get_or-map-range_with_len (λ k. cond (eqb (get_or present k 0) 0) None (Some (get_or chunks (count_below k (is_marked present)) []))) 0 (chunk_count g) c c None h (omega arith)

  pub length-left : length (left_slices g present chunks) ≡ chunk_count g
  length-left = length-map-range_with_len (λ k. cond (eqb (get_or present k 0) 0) None (Some (get_or chunks (count_below k (is_marked present)) []))) 0 (chunk_count g)

  -- which are missing
  pub none_left : (c : ℕ) → is_none (get_or (left_slices g present chunks) c None) ≡ eqb (get_or present c 0) 0
  none_left c = elim (cases_lt c (chunk_count g)) [
    | inl below ↦ ap is_none (left_entry c below) ∙ none_cond (eqb (get_or present c 0) 0) (get_or chunks (count_below c (is_marked present)) [])
    | inr past ↦
        ap is_none (get_or_past (left_slices g present chunks) c None (subst (λ n. n ≤ c) (sym length-left) past))
        ∙ sym (ap (λ v. eqb v 0) (get_or_past present c 0 (subst (λ n. n ≤ c) (sym marks) past)))
  ]

  pub left_few : count_by is_none (left_slices g present chunks) ≡ lost_count present
  left_few = same_count is_none (λ mark. eqb mark 0) None 0 (left_slices g present chunks) present (length-left ∙ sym marks) (λ c h. none_left c)

  pub lost_left : missing_of (left_slices g present chunks) ≡ lost_numbers g present
  lost_left = λ k. filter (λ c. none_left c k) (range_with_len 0 (length-left k))

  pub length-lost : length (lost_numbers g present) ≡ lost_count present
  length-lost =
      length-filter (λ c. eqb (get_or present c 0) 0) (range_with_len 0 (chunk_count g))
      ∙ same_count (λ c. eqb (get_or present c 0) 0) (λ mark. eqb mark 0) 0 0 (range_with_len 0 (chunk_count g)) present (length-range_with_len 0 (chunk_count g) ∙ sym marks)
      (λ c h.
      let flat : 0 + c ≡ c = omega arith in
      ap (λ v. eqb (get_or present v 0) 0) (get_or-range_with_len 0 (chunk_count g) c 0 (subst (λ n. c < n) (length-range_with_len 0 (chunk_count g)) h) ∙ flat))

  counted : count_below (chunk_count g) (is_marked present) ≡ chunk_count g - lost_count present
  counted =
      let both = both_counted (chunk_count g) (λ c. eqb (get_or present c 0) 0) in
      let lost : count_below (chunk_count g) (λ c. eqb (get_or present c 0) 0) ≡ lost_count present = ap (λ n. count_below n (λ c. eqb (get_or present c 0) 0)) (sym marks) ∙ lost_counted present in
      omega (arith, both, lost)

  pub left_within : length chunks ≡ chunk_count g - lost_count present → (c : ℕ) → c < chunk_count g → eqb (get_or present c 0) 0 ≡ false → count_below c (is_marked present) < length chunks
  left_within count c below there =
      let before : count_below c (is_marked present) + 1 ≤ count_below (chunk_count g) (is_marked present) = count_before (chunk_count g) c (is_marked present) below (ap not there) in
      omega (arith, before, counted, count)

  pub are_left : length chunks ≡ chunk_count g - lost_count present → HaveBytes (chunk_length g) chunks → AreChunks g (left_slices g present chunks)
  are_left count each = record {
    count = length-left;
    lengths = slices_long chunks (λ c. eqb (get_or present c 0) 0) (λ c. count_below c (is_marked present)) (chunk_length g) (chunk_count g) each (left_within count);
  }
