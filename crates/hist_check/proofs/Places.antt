-- Lines whose points rise: at most one stands at a point.
use Rattle.std.proofs.Common.{◌≡◌, ℕ, zero, suc, ◌<◌, ◌≤◌, ◌⊎◌, Bool, true, false, ltb, eqb, List, [], ◌∷◌, length, get_or, refl, sym, ap, ◌∙◌, None, Some, inl, inr, arith}
use Rattle.std.specs.Prelude.{◌||◌, ◌&&◌, find, nat_eq}
use Rattle.std.specs.Bool.{⊤}
use Rattle.std.specs.List.{list_any}
use Rattle.std.specs.List.Sorted.{IsNonDecreasingBy, IsPartitionPoint}
use Rattle.std.proofs.lemmas.Bool.{ltb-true, ltb-false, ne_eqb, cases_order, and_left}
use Rattle.std.proofs.lemmas.List.Folds.{list_any_none}
use Rattle.store_map.specs.declared.line.HLine.{HLine}
use Rattle.hist_rules.specs.First.{first_fault_after, first_fault_along}
use Rattle.hist_rules.specs.PointsRise.{point_rises, number_rises, line_rises}
use Rattle.hist_tables.proofs.Ors.{none_parts, unless_none}

-- ---- points rise

-- each line's point is above the one before, the first one's above this
abbrev Above : ℕ → List HLine → Type 0
Above point [] = ⊤
Above point (line ∷ lines) = (point < line.point) × Above line.point lines

above_from_rule : (before : List HLine) (last : HLine) (lines : List HLine) → first_fault_after line_rises (last ∷ before) lines ≡ None → Above last.point lines
above_from_rule before last [] e = tt
above_from_rule before last (line ∷ lines) e =
    let parts = none_parts (line_rises (last ∷ before) line) (first_fault_after line_rises (line ∷ last ∷ before) lines) e in
    let here = none_parts (point_rises (Some last) line) (number_rises (find (λ other. nat_eq line.call.client other.call.client) (last ∷ before)) line) parts.0 in
    (ltb-true last.point line.point (unless_none (ltb last.point line.point) _ here.0), above_from_rule (last ∷ before) line lines parts.1)

above_each : (point : ℕ) (lines : List HLine) → Above point lines → (k : ℕ) (d : HLine) → k < length lines → point < (get_or lines k d).point
above_each point [] h k d within = absurd (omega (arith, within))
above_each point (line ∷ lines) h zero d within = h.0
above_each point (line ∷ lines) h (suc k) d within = omega (arith, h.0, above_each line.point lines h.1 k d (omega (arith, within)))

above_pairs : (point : ℕ) (lines : List HLine) → Above point lines → (i j : ℕ) (d : HLine) → i < j → j < length lines → (get_or lines i d).point < (get_or lines j d).point
above_pairs point [] h i j d below within = absurd (omega (arith, within))
above_pairs point (line ∷ lines) h i zero d below within = absurd (omega (arith, below))
above_pairs point (line ∷ lines) h zero (suc j) d below within = above_each line.point lines h.1 j d (omega (arith, within))
above_pairs point (line ∷ lines) h (suc i) (suc j) d below within = above_pairs line.point lines h.1 i j d (omega (arith, below)) (omega (arith, within))

pairs_rise : (lines : List HLine) → first_fault_after line_rises [] lines ≡ None → (i j : ℕ) (d : HLine) → i < j → j < length lines → (get_or lines i d).point < (get_or lines j d).point
pairs_rise [] e i j d below within = absurd (omega (arith, within))
pairs_rise (line ∷ lines) e i zero d below within = absurd (omega (arith, below))
pairs_rise (line ∷ lines) e zero (suc j) d below within = above_each line.point lines (rest line lines e) j d (omega (arith, within))
  where
    rest : (line : HLine) (lines : List HLine) → first_fault_after line_rises [] (line ∷ lines) ≡ None → Above line.point lines
    rest line lines e = above_from_rule [] line lines (none_parts (line_rises [] line) (first_fault_after line_rises (line ∷ []) lines) e).1
pairs_rise (line ∷ lines) e (suc i) (suc j) d below within = above_pairs line.point lines (rest line lines e) i j d (omega (arith, below)) (omega (arith, within))
  where
    rest : (line : HLine) (lines : List HLine) → first_fault_after line_rises [] (line ∷ lines) ≡ None → Above line.point lines
    rest line lines e = above_from_rule [] line lines (none_parts (line_rises [] line) (first_fault_after line_rises (line ∷ []) lines) e).1

-- ---- one place

or_false : (b : Bool) → (b || false) ≡ b
or_false true = refl
or_false false = refl

-- a test that fails at every other place is that of this place
only_at : {X : Type 0} (test : X → Bool) (xs : List X) (i : ℕ) (d : X) → i < length xs
    → ((k : ℕ) (e : X) → k < length xs → (k ≡ i → ⊥) → test (get_or xs k e) ≡ false) → list_any test xs ≡ test (get_or xs i d)
only_at test [] i d within others = absurd (omega (arith, within))
only_at test (x ∷ xs) zero d within others =
    let none : list_any test xs ≡ false = list_any_none test xs (λ k e l. others (suc k) e (omega (arith, l)) (λ same. absurd (omega (arith, same)))) in
    ap (λ (b : Bool). test x || b) none ∙ or_false (test x)
only_at test (x ∷ xs) (suc i) d within others =
    let first : test x ≡ false = others zero x (omega arith) (λ same. absurd (omega (arith, same))) in
    ap (λ (b : Bool). b || list_any test xs) first
    ∙ only_at test xs i d (omega (arith, within)) (λ k e l differ. others (suc k) e (omega (arith, l)) (λ same. differ (omega (arith, same))))

module _ (lines : List HLine) (rising : first_fault_along line_rises lines ≡ None) (point : ℕ) where
  pub points_do_not_fall : IsNonDecreasingBy (λ (line : HLine). line.point) lines
  points_do_not_fall i j d le within = by (cases_order i j)
    where
      by : ((i ≡ j) ⊎ ((i < j) ⊎ (j < i))) → (get_or lines i d).point ≤ (get_or lines j d).point
      by (inl same) = omega (arith, ap (λ (k : ℕ). (get_or lines k d).point) same)
      by (inr (inl less)) = omega (arith, pairs_rise lines rising i j d less within)
      by (inr (inr more)) = absurd (omega (arith, le, more))

  -- the lines below the place are below the point, and the others aren't
  module _ (place : ℕ) (parted : IsPartitionPoint (λ (line : HLine). ltb line.point point ≡ true) (λ (line : HLine). ltb line.point point ≡ false) lines place) (holds : HLine → Bool) where
    abbrev At : HLine → Bool
    At line = eqb line.point point && holds line

    fails_below : (k : ℕ) (e : HLine) → k < place → At (get_or lines k e) ≡ false
    fails_below k e below =
        let less = ltb-true (get_or lines k e).point point (parted.0 k e (omega arith) below) in
        and_left (eqb (get_or lines k e).point point) (holds (get_or lines k e)) (ne_eqb (get_or lines k e).point point (λ same. omega (arith, less, same)))

    pub none_there : length lines ≤ place → false ≡ list_any At lines
    none_there past = sym (list_any_none At lines (λ k e within. fails_below k e (omega (arith, past, within))))

    pub one_there : (line : HLine) → place < length lines → line ≡ get_or lines place line → At line ≡ list_any At lines
    one_there line within is = ap At is ∙ sym (only_at At lines place line within others)
      where
        above : (k : ℕ) (e : HLine) → k < length lines → place < k → At (get_or lines k e) ≡ false
        above k e inside more =
            let least = ltb-false (get_or lines place e).point point (parted.1 place e (omega arith) within) in
            let higher = pairs_rise lines rising place k e more inside in
            and_left (eqb (get_or lines k e).point point) (holds (get_or lines k e)) (ne_eqb (get_or lines k e).point point (λ same. omega (arith, least, higher, same)))

        others : (k : ℕ) (e : HLine) → k < length lines → (k ≡ place → ⊥) → At (get_or lines k e) ≡ false
        others k e inside differ = by (cases_order k place)
          where
            by : ((k ≡ place) ⊎ ((k < place) ⊎ (place < k))) → At (get_or lines k e) ≡ false
            by (inl same) = absurd (differ same)
            by (inr (inl less)) = fails_below k e less
            by (inr (inr more)) = above k e inside more
