-- Rows that are written side by side, block by block.
use Rattle.std.proofs.Common.{◌≡◌, ℕ, ◌+◌, ◌-◌, ◌*◌, ◌<◌, List, [], ◌∷◌, ◌++◌, length, get_or, take, drop, inl, inr, subst, sym, ap, ◌∙◌, arith, bit_xor}
use Rattle.std.proofs.lemmas.Bool.{cases_lt}
use Rattle.std.proofs.lemmas.List.{get_or_append_left, get_or-append_right, get_or-take, get_or-drop}
use Rattle.clay_field.specs.Field.{product}
use Rattle.generator_matrix.specs.declared.column.ColumnFactors.{ColumnFactors}
use Rattle.generator_matrix.specs.Columns.{row_byte, both_of, all_of, both_rows, all_rows, all_added, odd_added, high_added, last_added, IsColumn, AddsColumn, EndsColumn}

-- the rows of four lists, one behind the other
module _ (len : ℕ) (a b c d : List ℕ) (la : length a ≡ len) (lb : length b ≡ len) (lc : length c ≡ len) where
  pub row_zero : (k : ℕ) → k < len → row_byte len (a ++ (b ++ (c ++ d))) 0 k ≡ get_or a k 0
  row_zero k h =
      let here : 0 * len + k ≡ k = omega arith in
      ap (λ p. get_or (a ++ (b ++ (c ++ d))) p 0) here ∙ get_or_append_left a (b ++ (c ++ d)) 0 k (omega arith)

  pub row_one : (k : ℕ) → k < len → row_byte len (a ++ (b ++ (c ++ d))) 1 k ≡ get_or b k 0
  row_one k h =
      let back : 1 * len + k - len ≡ k = omega arith in
      get_or-append_right a (b ++ (c ++ d)) len (1 * len + k) 0 la (omega arith)
      ∙ ap (λ p. get_or (b ++ (c ++ d)) p 0) back
      ∙ get_or_append_left b (c ++ d) 0 k (omega arith)

  pub row_two : (k : ℕ) → k < len → row_byte len (a ++ (b ++ (c ++ d))) 2 k ≡ get_or c k 0
  row_two k h =
      let back : 2 * len + k - len - len ≡ k = omega arith in
      get_or-append_right a (b ++ (c ++ d)) len (2 * len + k) 0 la (omega arith)
      ∙ get_or-append_right b (c ++ d) len (2 * len + k - len) 0 lb (omega arith)
      ∙ ap (λ p. get_or (c ++ d) p 0) back
      ∙ get_or_append_left c d 0 k (omega arith)

  pub row_three : (k : ℕ) → k < len → row_byte len (a ++ (b ++ (c ++ d))) 3 k ≡ get_or d k 0
  row_three k h =
      let back : 3 * len + k - len - len - len ≡ k = omega arith in
      get_or-append_right a (b ++ (c ++ d)) len (3 * len + k) 0 la (omega arith)
      ∙ get_or-append_right b (c ++ d) len (3 * len + k - len) 0 lb (omega arith)
      ∙ get_or-append_right c d len (3 * len + k - len - len) 0 lc (omega arith)
      ∙ ap (λ p. get_or d p 0) back

-- four lists are the rows of one
pub record HaveRows (len : ℕ) (rows a b c d : List ℕ) : Type 0 where
  pub r0 : (k : ℕ) → k < len → row_byte len rows 0 k ≡ get_or a k 0
  pub r1 : (k : ℕ) → k < len → row_byte len rows 1 k ≡ get_or b k 0
  pub r2 : (k : ℕ) → k < len → row_byte len rows 2 k ≡ get_or c k 0
  pub r3 : (k : ℕ) → k < len → row_byte len rows 3 k ≡ get_or d k 0

pub have_joined : (len : ℕ) (a b c d : List ℕ) → length a ≡ len → length b ≡ len → length c ≡ len → HaveRows len (a ++ (b ++ (c ++ d))) a b c d
have_joined len a b c d la lb lc = record {
  r0 = row_zero len a b c d la lb lc;
  r1 = row_one len a b c d la lb lc;
  r2 = row_two len a b c d la lb lc;
  r3 = row_three len a b c d la lb lc;
}

-- the four parts of a list that is cut three times
pub have_cut : (len : ℕ) (rows a rest b more c d : List ℕ) → a ≡ take len rows → rest ≡ drop len rows → b ≡ take len rest → more ≡ drop len rest → c ≡ take len more → d ≡ drop len more → HaveRows len rows a b c d
have_cut len rows a rest b more c d ea er eb em ec ed =
    let rest_at : (k : ℕ) → get_or rest k 0 ≡ get_or rows (len + k) 0 = λ k. ap (λ l. get_or l k 0) er ∙ get_or-drop len rows k 0 in
    let more_at : (k : ℕ) → get_or more k 0 ≡ get_or rows (len + (len + k)) 0 = λ k. ap (λ l. get_or l k 0) em ∙ get_or-drop len rest k 0 ∙ rest_at (len + k) in
    record {
      r0 = λ k h.
          let place : 0 * len + k ≡ k = omega arith in
          ap (λ p. get_or rows p 0) place ∙ sym (ap (λ l. get_or l k 0) ea ∙ get_or-take len rows k 0 h);
      r1 = λ k h.
          let place : 1 * len + k ≡ len + k = omega arith in
          ap (λ p. get_or rows p 0) place ∙ sym (ap (λ l. get_or l k 0) eb ∙ get_or-take len rest k 0 h ∙ rest_at k);
      r2 = λ k h.
          let place : 2 * len + k ≡ len + (len + k) = omega arith in
          ap (λ p. get_or rows p 0) place ∙ sym (ap (λ l. get_or l k 0) ec ∙ get_or-take len more k 0 h ∙ more_at k);
      r3 = λ k h.
          let place : 3 * len + k ≡ len + (len + (len + k)) = omega arith in
          ap (λ p. get_or rows p 0) place ∙ sym (ap (λ l. get_or l k 0) ed ∙ get_or-drop len more k 0 ∙ more_at (len + k));
    }

-- what is added to four lists is added to their rows
pub added_rows : (len : ℕ) (f : ColumnFactors) (values u0 u1 u2 u3 before o0 o1 o2 o3 after n0 n1 n2 n3 : List ℕ)
    → HaveRows len values u0 u1 u2 u3 → HaveRows len before o0 o1 o2 o3 → HaveRows len after n0 n1 n2 n3
    → ((k : ℕ) → k < len → get_or n0 k 0 ≡ all_added u0 u1 u2 u3 o0 k)
    → ((k : ℕ) → k < len → get_or n1 k 0 ≡ odd_added f.sigma u0 u1 u2 u3 o1 k)
    → ((k : ℕ) → k < len → get_or n2 k 0 ≡ high_added f.tau u0 u1 u2 u3 o2 k)
    → ((k : ℕ) → k < len → get_or n3 k 0 ≡ last_added f.kappa f.tau f.rho u0 u1 u2 u3 o3 k)
    → AddsColumn len f values before after
added_rows len f values u0 u1 u2 u3 before o0 o1 o2 o3 after n0 n1 n2 n3 v o n e0 e1 e2 e3 =
    let all_is : (k : ℕ) → k < len → all_of u0 u1 u2 u3 k ≡ all_rows len values k =
    λ k h i. bit_xor (bit_xor (sym (v.r0 k h) i) (sym (v.r2 k h) i)) (bit_xor (sym (v.r1 k h) i) (sym (v.r3 k h) i)) in
    let odd_is : (k : ℕ) → k < len → both_of u1 u3 k ≡ both_rows len values 1 3 k = λ k h i. bit_xor (sym (v.r1 k h) i) (sym (v.r3 k h) i) in
    let high_is : (k : ℕ) → k < len → both_of u2 u3 k ≡ both_rows len values 2 3 k = λ k h i. bit_xor (sym (v.r2 k h) i) (sym (v.r3 k h) i) in
    record {
      all = λ k h. n.r0 k h ∙ e0 k h ∙ (λ i. bit_xor (sym (o.r0 k h) i) (all_is k h i));
      odd = λ k h. n.r1 k h ∙ e1 k h ∙ (λ i. bit_xor (bit_xor (sym (o.r1 k h) i) (odd_is k h i)) (product f.sigma (all_is k h i)));
      high = λ k h. n.r2 k h ∙ e2 k h ∙ (λ i. bit_xor (bit_xor (sym (o.r2 k h) i) (high_is k h i)) (product f.tau (all_is k h i)));
      last = λ k h.
          n.r3 k h ∙ e3 k h
          ∙ (λ i. bit_xor
          (bit_xor (bit_xor (bit_xor (sym (o.r3 k h) i) (sym (v.r3 k h) i)) (product f.kappa (all_is k h i))) (product f.tau (odd_is k h i)))
          (product f.rho (high_is k h i)));
    }

-- the rows out of their column form
pub ended_rows : (len : ℕ) (before o0 o1 o2 o3 after n0 n1 n2 n3 : List ℕ) → HaveRows len before o0 o1 o2 o3 → HaveRows len after n0 n1 n2 n3
    → ((k : ℕ) → k < len → get_or n0 k 0 ≡ bit_xor (bit_xor (get_or o0 k 0) (both_of o1 o3 k)) (get_or o2 k 0))
    → ((k : ℕ) → k < len → get_or n1 k 0 ≡ both_of o1 o3 k)
    → ((k : ℕ) → k < len → get_or n2 k 0 ≡ both_of o2 o3 k)
    → ((k : ℕ) → k < len → get_or n3 k 0 ≡ get_or o3 k 0)
    → EndsColumn len before after
ended_rows len before o0 o1 o2 o3 after n0 n1 n2 n3 o n e0 e1 e2 e3 = record {
  first = λ k h. n.r0 k h ∙ e0 k h ∙ (λ i. bit_xor (bit_xor (sym (o.r0 k h) i) (bit_xor (sym (o.r1 k h) i) (sym (o.r3 k h) i))) (sym (o.r2 k h) i));
  second = λ k h. n.r1 k h ∙ e1 k h ∙ (λ i. bit_xor (sym (o.r1 k h) i) (sym (o.r3 k h) i));
  third = λ k h. n.r2 k h ∙ e2 k h ∙ (λ i. bit_xor (sym (o.r2 k h) i) (sym (o.r3 k h) i));
  fourth = λ k h. n.r3 k h ∙ e3 k h ∙ sym (o.r3 k h);
}

-- one column more that was found
pub columns_more : (factors : List ℕ) (columns new : List ColumnFactors) (n : ℕ) (found : ColumnFactors) → new ≡ (columns ++ (found ∷ [])) → length columns ≡ n
    → ((y : ℕ) (default : ColumnFactors) → y < n → IsColumn factors y (get_or columns y default)) → IsColumn factors n found
    → (y : ℕ) (default : ColumnFactors) → y < n + 1 → IsColumn factors y (get_or new y default)
columns_more factors columns new n found same long before this y default h =
    subst (λ l. IsColumn factors y (get_or l y default)) (sym same) (elim (cases_lt y n) [
      | inl early ↦ subst (IsColumn factors y) (sym (get_or_append_left columns (found ∷ []) default y (omega arith))) (before y default early)
      | inr late ↦
          let here : n ≡ y = omega arith in
          let none : y - n ≡ 0 = omega arith in
          let at : get_or (columns ++ (found ∷ [])) y default ≡ found =
          get_or-append_right columns (found ∷ []) n y default long (omega arith) ∙ ap (λ k. get_or (found ∷ []) k default) none in
          subst (IsColumn factors y) (sym at) (subst (λ k. IsColumn factors k found) here this)
    ])
