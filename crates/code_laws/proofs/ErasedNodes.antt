-- The erased nodes are distinct points, and the sums over them and over the present nodes make up those of all nodes.
use Rattle.std.proofs.Common.{◌≡◌, ℕ, zero, suc, ◌+◌, ◌<◌, ◌≤◌, Bool, true, false, cond, List, [], ◌∷◌, ◌++◌, length, get_or, refl, sym, subst, ap, ◌∙◌, inl, inr, arith, bit_xor}
use Rattle.std.proofs.lemmas.Bool.{cases_lt, cases_Bool, cond-true, cond-false}
use Rattle.std.proofs.lemmas.List.{length_push, get_or_push, get_or_append_left}
use lib.Bits.{xor_zero_r}
use Rattle.clay_field.specs.Field.{product, power_of}
use Rattle.clay_field.proofs.FieldLaws.{product_zero}
use Rattle.clay_model.specs.Sums.{sum_below, weighted_sum}
use Rattle.clay_model.proofs.SumLaws.{equal_from_sum, sum_below_same, sum_below-xor}
use Rattle.clay_model.specs.Points.{AreDistinct, sum_over}
use Rattle.clay_model.specs.Erased.{erased_below, present, ErasedValuesAreSolved}
use Rattle.code_laws.proofs.PointSums.{AreApart, same_values}

erased_below-erased : (erased : List Bool) (n : ℕ) → get_or erased n false ≡ true → erased_below erased (suc n) ≡ erased_below erased n ++ n ∷ []
erased_below-erased erased n gone = cond-true (get_or erased n false) (erased_below erased n ++ n ∷ []) (erased_below erased n) gone

erased_below-present : (erased : List Bool) (n : ℕ) → get_or erased n false ≡ false → erased_below erased (suc n) ≡ erased_below erased n
erased_below-present erased n here = cond-false (get_or erased n false) (erased_below erased n ++ n ∷ []) (erased_below erased n) here

-- numbers below n that rise
pub record IsRisingBelow (n : ℕ) (points : List ℕ) : Type 0 where
  pub below : (e : ℕ) → e < length points → get_or points e 0 < n
  pub rising : (d e : ℕ) → d < e → e < length points → get_or points d 0 < get_or points e 0

IsRisingBelow-push : (n : ℕ) (points : List ℕ) → IsRisingBelow n points → IsRisingBelow (suc n) (points ++ n ∷ [])
IsRisingBelow-push n points before =
    let more : length (points ++ n ∷ []) ≡ length points + 1 = length_push points n in
    let old : (e : ℕ) → e < length points → get_or (points ++ n ∷ []) e 0 ≡ get_or points e 0 = λ e h. get_or_append_left points (n ∷ []) 0 e h in
    let last : (e : ℕ) → length points ≤ e → e < length (points ++ n ∷ []) → get_or (points ++ n ∷ []) e 0 ≡ n =
    λ e h l. get_or_push points n 0 e (omega arith) in
    record {
      below = λ e h. elim (cases_lt e (length points)) [
        | inl within ↦ omega (arith, old e within, before.below e within)
        | inr past ↦ omega (arith, last e past h)
      ];
      rising = λ d e l h.
          let within_d : d < length points = omega arith in
          elim (cases_lt e (length points)) [
            | inl within ↦ omega (arith, old d within_d, old e within, before.rising d e l within)
            | inr past ↦ omega (arith, old d within_d, last e past h, before.below d within_d)
          ];
    }

IsRisingBelow-more : (n : ℕ) (points : List ℕ) → IsRisingBelow n points → IsRisingBelow (suc n) points
IsRisingBelow-more n points before = record {
  below = λ e h. let b = before.below e h in omega arith;
  rising = before.rising;
}

pub erased_rise : (erased : List Bool) (n : ℕ) → IsRisingBelow n (erased_below erased n)
erased_rise erased zero = record {
  below = λ e h. absurd (omega arith);
  rising = λ d e l h. absurd (omega arith);
}
erased_rise erased (suc n) =
    elim (cases_Bool (get_or erased n false)) [
      | inl gone ↦ subst (IsRisingBelow (suc n)) (sym (erased_below-erased erased n gone)) (IsRisingBelow-push n (erased_below erased n) (erased_rise erased n))
      | inr here ↦ subst (IsRisingBelow (suc n)) (sym (erased_below-present erased n here)) (IsRisingBelow-more n (erased_below erased n) (erased_rise erased n))
    ]

pub AreDistinct-erased : (erased : List Bool) (n : ℕ) → AreDistinct (erased_below erased n)
AreDistinct-erased erased n d e l h same = let r = (erased_rise erased n).rising d e l h in omega arith

-- ---- sums

sum_at_points : List ℕ → (ℕ → ℕ) → ℕ
sum_at_points points h = sum_below (length points) (λ e. h (get_or points e 0))

sum_at_points-push : (points : List ℕ) (n : ℕ) (h : ℕ → ℕ) → sum_at_points (points ++ n ∷ []) h ≡ bit_xor (sum_at_points points h) (h n)
unfolding sum_at_points
sum_at_points-push points n h =
    let more : length (points ++ n ∷ []) ≡ suc (length points) = length_push points n ∙ omega arith in
    let rest = sum_below_same (length points) (λ e. h (get_or (points ++ n ∷ []) e 0)) (λ e. h (get_or points e 0)) (λ e l. ap h (get_or_append_left points (n ∷ []) 0 e l)) in
    ap (λ k. sum_below k (λ e. h (get_or (points ++ n ∷ []) e 0))) more
    ∙ (λ k. bit_xor (rest k) (h (get_or_push points n 0 (length points) refl k)))

sum_at_points-erased : (erased : List Bool) (n : ℕ) (h : ℕ → ℕ) → sum_at_points (erased_below erased n) h ≡ sum_below n (λ i. cond (get_or erased i false) (h i) 0)
unfolding sum_at_points
sum_at_points-erased erased zero h = refl
sum_at_points-erased erased (suc n) h =
    elim (cases_Bool (get_or erased n false)) [
      | inl gone ↦
          ap (λ points. sum_at_points points h) (erased_below-erased erased n gone)
          ∙ sum_at_points-push (erased_below erased n) n h
          ∙ (λ k. bit_xor (sum_at_points-erased erased n h k) (sym (cond-true (get_or erased n false) (h n) 0 gone) k))
      | inr here ↦
          ap (λ points. sum_at_points points h) (erased_below-present erased n here)
          ∙ sum_at_points-erased erased n h
          ∙ sym (xor_zero_r (sum_below n (λ i. cond (get_or erased i false) (h i) 0)))
          ∙ ap (bit_xor (sum_below n (λ i. cond (get_or erased i false) (h i) 0))) (sym (cond-false (get_or erased n false) (h n) 0 here))
    ]

either : (erased : Bool) (p v : ℕ) → product p v ≡ bit_xor (cond erased (product p v) 0) (product p (cond erased 0 v))
either true p v = sym (xor_zero_r (product p v)) ∙ ap (bit_xor (product p v)) (sym (product_zero p))
either false p v = refl

-- the sums of all nodes are those of the erased ones and those of the present ones
pub sums_make_up : (erased : List Bool) (n : ℕ) (f : ℕ → ℕ) (j : ℕ)
    → weighted_sum n f j ≡ bit_xor (sum_over (erased_below erased n) (λ e. f (get_or (erased_below erased n) e 0)) j) (weighted_sum n (present erased f) j)
unfolding sum_at_points
sums_make_up erased n f j =
    let h : ℕ → ℕ = λ i. product (power_of i j) (f i) in
    sum_below_same n h (λ i. bit_xor (cond (get_or erased i false) (h i) 0) (product (power_of i j) (present erased f i))) (λ i l. either (get_or erased i false) (power_of i j) (f i))
    ∙ sum_below-xor n (λ i. cond (get_or erased i false) (h i) 0) (λ i. product (power_of i j) (present erased f i))
    ∙ ap (λ s. bit_xor s (weighted_sum n (present erased f) j)) (sym (sum_at_points-erased erased n h))

pub erased_values_solved : ErasedValuesAreSolved
erased_values_solved n erased f found small fbytes foundbytes zeros sums e h =
    let points : List ℕ = erased_below erased n in
    let apart : AreApart (λ i. get_or points i 0) (length points) = record {
      bytes = λ i l. let b = (erased_rise erased n).below i l in omega arith;
      apart = AreDistinct-erased erased n;
    } in
    same_values (λ i. get_or points i 0) (length points) found (λ i. f (get_or points i 0)) apart foundbytes
    (λ i l. fbytes (get_or points i 0) ((erased_rise erased n).below i l))
    (λ j l. sums j l ∙ sym (equal_from_sum (sum_over points (λ i. f (get_or points i 0)) j) (weighted_sum n (present erased f) j) (sym (sums_make_up erased n f j) ∙ zeros j l)))
    e h
