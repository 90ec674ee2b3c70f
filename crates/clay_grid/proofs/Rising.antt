-- Lists that hold just the numbers with a property, in an order.
use Rattle.std.proofs.Common.{◌≡◌, ℕ, zero, suc, subst, ◌+◌, ◌-◌, ◌<◌, ◌≤◌, ◌⊎◌, inl, inr, Bool, true, false, cond, List, [], ◌∷◌, ◌++◌, length, get_or, refl, sym, ap, ◌∙◌, arith, append_assoc, length-append}
use Rattle.std.specs.List.{filter, range_with_len}
use Rattle.std.proofs.lemmas.Bool.{cases_lt, cases_eq, cases_Bool}
use Rattle.std.proofs.lemmas.List.{append-nil, get_or_append_left, get_or-append-add}
use Rattle.std.proofs.lemmas.List.Elements.{filter-append}
use Rattle.clay_grid.specs.Score.{count_below}

pub record Lists (R : ℕ → ℕ → Type 0) (P : ℕ → Type 0) (xs : List ℕ) : Type 0 where
  pub rising : (i j : ℕ) → i < j → j < length xs → R (get_or xs i 0) (get_or xs j 0)
  pub only : (i : ℕ) → i < length xs → P (get_or xs i 0)
  pub each : (w : ℕ) → P w → (i : ℕ) × (i < length xs) × (get_or xs i 0 ≡ w)

pub Lists-none : (R : ℕ → ℕ → Type 0) (P : ℕ → Type 0) → ((w : ℕ) → P w → ⊥) → Lists R P []
Lists-none R P none = record {
  rising = λ i j h l. absurd (omega arith);
  only = λ i h. absurd (omega arith);
  each = λ w p. absurd (none w p);
}

pub Lists-one : (R : ℕ → ℕ → Type 0) (P : ℕ → Type 0) (n : ℕ) → P n → ((w : ℕ) → P w → n ≡ w) → Lists R P (n ∷ [])
Lists-one R P n has only_one = record {
  rising = λ i j h l. absurd (omega arith);
  only = λ i h. subst (λ k. P (get_or (n ∷ []) k 0)) (let first : 0 ≡ i = omega arith in first) has;
  each = λ w p. (0, omega arith, only_one w p);
}

-- the same list, of a property and an order that say the same of it
pub Lists-same : (R S : ℕ → ℕ → Type 0) (P Q : ℕ → Type 0) (xs : List ℕ) → ((v w : ℕ) → P v → P w → R v w → S v w) → ((w : ℕ) → P w → Q w) → ((w : ℕ) → Q w → P w) → Lists R P xs → Lists S Q xs
Lists-same R S P Q xs order there back l = record {
  rising = λ i j h within. order (get_or xs i 0) (get_or xs j 0) (l.only i (omega arith)) (l.only j within) (l.rising i j h within);
  only = λ i h. there (get_or xs i 0) (l.only i h);
  each = λ w q. l.each w (back w q);
}

at_right : (xs ys : List ℕ) (i : ℕ) → length xs ≤ i → get_or (xs ++ ys) i 0 ≡ get_or ys (i - length xs) 0
at_right xs ys i h =
    let place : i ≡ length xs + (i - length xs) = omega arith in
    ap (λ n. get_or (xs ++ ys) n 0) place ∙ get_or-append-add xs ys (i - length xs) 0

pub Lists-append : (R : ℕ → ℕ → Type 0) (P Q : ℕ → Type 0) (xs ys : List ℕ) → Lists R P xs → Lists R Q ys → ((v w : ℕ) → P v → Q w → R v w) → Lists R (λ w. P w ⊎ Q w) (xs ++ ys)
Lists-append R P Q xs ys l m between =
    let long : length (xs ++ ys) ≡ length xs + length ys = length-append xs ys in
    record {
      rising = λ i j h within. elim (cases_lt j (length xs)) [
        | inl left ↦
            let left_i : i < length xs = omega arith in
            subst (λ v. R v (get_or (xs ++ ys) j 0)) (sym (get_or_append_left xs ys 0 i left_i))
            (subst (R (get_or xs i 0)) (sym (get_or_append_left xs ys 0 j left)) (l.rising i j h left))
        | inr right ↦
            let place : j - length xs < length ys = omega arith in
            subst (R (get_or (xs ++ ys) i 0)) (sym (at_right xs ys j right))
            (elim (cases_lt i (length xs)) [
              | inl left_i ↦ subst (λ v. R v (get_or ys (j - length xs) 0)) (sym (get_or_append_left xs ys 0 i left_i)) (between _ _ (l.only i left_i) (m.only (j - length xs) place))
              | inr right_i ↦ subst (λ v. R v (get_or ys (j - length xs) 0)) (sym (at_right xs ys i right_i)) (m.rising (i - length xs) (j - length xs) (omega arith) place)
            ])
      ];
      only = λ i within. elim (cases_lt i (length xs)) [
        | inl left ↦ subst (λ v. P v ⊎ Q v) (sym (get_or_append_left xs ys 0 i left)) (inl (l.only i left))
        | inr right ↦
            let place : i - length xs < length ys = omega arith in
            subst (λ v. P v ⊎ Q v) (sym (at_right xs ys i right)) (inr (m.only (i - length xs) place))
      ];
      each = λ w either. elim either [
        | inl p ↦
            let found = l.each w p in
            let within : found.0 < length xs = found.1 in
            (found.0, omega arith, get_or_append_left xs ys 0 found.0 within ∙ found.2)
        | inr q ↦
            let found = m.each w q in
            let within : found.0 < length ys = found.1 in
            (length xs + found.0, omega arith, get_or-append-add xs ys found.0 0 ∙ found.2)
      ];
    }

-- ---- the numbers below n that pass a test

pub range_with_len_more : (a n : ℕ) → range_with_len a (n + 1) ≡ range_with_len a n ++ (a + n) ∷ []
range_with_len_more a zero = let none : a ≡ a + 0 = omega arith in ap (λ x. x ∷ []) none
range_with_len_more a (suc n) =
    let more : suc n + 1 ≡ suc (n + 1) = omega arith in
    let last : a + 1 + n ≡ a + suc n = omega arith in
    ap (range_with_len a) more ∙ ap (λ xs. a ∷ xs) (range_with_len_more (a + 1) n) ∙ ap (λ x. (a ∷ range_with_len (a + 1) n) ++ x ∷ []) last

pub filter_more : (p : ℕ → Bool) (n : ℕ) → filter p (range_with_len 0 (n + 1)) ≡ filter p (range_with_len 0 n) ++ cond (p n) (n ∷ []) []
filter_more p n =
    let last : 0 + n ≡ n = omega arith in
    ap (filter p) (range_with_len_more 0 n) ∙ filter-append p (range_with_len 0 n) ((0 + n) ∷ []) ∙ ap (λ x. filter p (range_with_len 0 n) ++ cond (p x) (x ∷ []) []) last

pub Lists-filter : (p : ℕ → Bool) (n : ℕ) → Lists (λ v w. v < w) (λ w. (w < n) × (p w ≡ true)) (filter p (range_with_len 0 n))
Lists-filter p zero = Lists-none _ _ (λ w h. omega (arith, h.0))
Lists-filter p (suc n) =
    let Last : ℕ → Type 0 = λ w. (w ≡ n) × (p w ≡ true) in
    let rest = Lists-filter p n in
    let last : Lists (λ v w. v < w) Last (cond (p n) (n ∷ []) []) =
    elim (cases_Bool (p n)) [
      | inl passed ↦ subst (λ b. Lists (λ v w. v < w) Last (cond b (n ∷ []) [])) (sym passed) (Lists-one _ _ n (refl, passed) (λ w h. sym h.0))
      | inr failed ↦ subst (λ b. Lists (λ v w. v < w) Last (cond b (n ∷ []) [])) (sym failed) (Lists-none _ _ (λ w h. let both : true ≡ false = sym h.1 ∙ ap p h.0 ∙ failed in cc))
    ] in
    let both = Lists-append _ _ _ _ _ rest last (λ v w h e. omega (arith, h.0, e.0)) in
    let more : n + 1 ≡ suc n = omega arith in
    subst (Lists (λ v w. v < w) (λ w. (w < suc n) × (p w ≡ true))) (sym (filter_more p n) ∙ ap (λ k. filter p (range_with_len 0 k)) more)
    (Lists-same _ _ _ _ _ (λ v w hv hw h. h)
    (λ w either. elim either [ inl h ↦ (omega (arith, h.0), h.1) | inr e ↦ (omega (arith, e.0), e.1) ])
    (λ w h. elim (cases_eq w n) [ inl same ↦ inr (same, h.1) | inr other ↦ inl (omega (arith, h.0, other), h.1) ])
    both)

pub length-filter_range : (p : ℕ → Bool) (n : ℕ) → length (filter p (range_with_len 0 n)) ≡ count_below n p
length-filter_range p zero = refl
length-filter_range p (suc n) =
    let more : suc n ≡ n + 1 = omega arith in
    let rest = length-filter_range p n in
    let last : length (cond (p n) (n ∷ []) []) ≡ cond (p n) 1 0 = elim (p n) as (λ b. length (cond b (n ∷ []) []) ≡ cond b 1 0) [ true ↦ refl | false ↦ refl ] in
    ap (λ k. length (filter p (range_with_len 0 k))) more ∙ ap length (filter_more p n) ∙ length-append (filter p (range_with_len 0 n)) (cond (p n) (n ∷ []) []) ∙ (λ i. rest i + last i)

-- ---- a loop that appends the numbers that pass

pub filter_pass : (p : ℕ → Bool) (n : ℕ) (base before after : List ℕ) → after ≡ before ++ n ∷ [] → before ≡ base ++ filter p (range_with_len 0 n) → p n ≡ true → after ≡ base ++ filter p (range_with_len 0 (n + 1))
filter_pass p n base before after pushed kept passed =
    pushed
    ∙ ap (λ xs. xs ++ n ∷ []) kept
    ∙ append_assoc base (filter p (range_with_len 0 n)) (n ∷ [])
    ∙ ap (λ b. base ++ (filter p (range_with_len 0 n) ++ cond b (n ∷ []) [])) (sym passed)
    ∙ ap (λ xs. base ++ xs) (sym (filter_more p n))

pub filter_fail : (p : ℕ → Bool) (n : ℕ) (base before : List ℕ) → before ≡ base ++ filter p (range_with_len 0 n) → p n ≡ false → before ≡ base ++ filter p (range_with_len 0 (n + 1))
filter_fail p n base before kept failed =
    kept
    ∙ ap (λ xs. base ++ xs) (sym (append-nil (filter p (range_with_len 0 n))))
    ∙ ap (λ b. base ++ (filter p (range_with_len 0 n) ++ cond b (n ∷ []) [])) (sym failed)
    ∙ ap (λ xs. base ++ xs) (sym (filter_more p n))
