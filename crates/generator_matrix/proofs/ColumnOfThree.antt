-- Four products of a column of three are all nine products of its nodes.
use Rattle.std.proofs.Common.{◌≡◌, ◌≢◌, ℕ, ◌+◌, ◌-◌, ◌*◌, ◌^◌, ◌<◌, List, [], ◌∷◌, ◌++◌, length, get_or, refl, inl, inr, subst, sym, ap, ◌∙◌, arith, bit_xor}
use Rattle.std.proofs.lemmas.Bool.{cases_eq}
use Rattle.std.proofs.lemmas.List.{get_or_append_left, get_or-append_right}
use Rattle.std.proofs.lemmas.Nat.{xor_comm}
use lib.Bits.{xor_assoc, xor_self, xor_zero_r}
use Rattle.clay_field.specs.Field.{product}
use Rattle.clay_field.proofs.FieldLaws.{product_add_left, product_add_right, one_product}
use Rattle.generator_matrix.specs.Generated.{factor_at}
use Rattle.generator_matrix.specs.Columns.{row_byte}
use Rattle.generator_matrix.specs.SmallColumns.{AddsNodes, IsEnd, IsColumnOfThree, row_added, middle_added, last_row_added}
use Rattle.generator_matrix.proofs.ColumnLaws.{xor_left_comm, xor_again, zero_xor, one_more}

abbrev three : ℕ → ℕ → ℕ → ℕ
three p q r = bit_xor (bit_xor p q) r

take_off : (p s k : ℕ) → bit_xor (three p s k) (bit_xor s k) ≡ p
take_off p s k = simp (xor_assoc, xor_comm, xor_left_comm, xor_self, xor_again, xor_zero_r, zero_xor)

middle_order : (m p q r : ℕ) → bit_xor (bit_xor m (bit_xor p q)) r ≡ three p (bit_xor m q) r
middle_order m p q r = simp (xor_assoc, xor_comm, xor_left_comm)

spread : (d n m f s0 s1 s2 k0 k1 k2 : ℕ)
    → bit_xor (bit_xor (bit_xor (bit_xor d (bit_xor n m)) f) (three s0 s1 s2)) (three k0 k1 k2)
    ≡ bit_xor d (three (bit_xor n (bit_xor s0 k0)) (bit_xor m (bit_xor s1 k1)) (bit_xor f (bit_xor s2 k2)))
spread d n m f s0 s1 s2 k0 k1 k2 = simp (xor_assoc, xor_comm, xor_left_comm)

backwards : (p q r : ℕ) → three p q r ≡ three r q p
backwards p q r = simp (xor_assoc, xor_comm, xor_left_comm)

-- a node's product in a row, from those in the two other rows
other_products : (g s k u : ℕ) → three g s k ≡ 1 → u < 2 ^ 8 → bit_xor u (bit_xor (product s u) (product k u)) ≡ product g u
other_products g s k u one byte =
    ap (λ x. bit_xor x (bit_xor (product s u) (product k u)))
    (sym (ap (λ x. bit_xor x (product k u)) (sym (product_add_left g s u)) ∙ sym (product_add_left (bit_xor g s) k u) ∙ ap (λ f. product f u) one ∙ one_product u byte))
    ∙ take_off (product g u) (product s u) (product k u)

-- what the middle row gets
middle_is : (s t n m f : ℕ) → m < 2 ^ 8 → bit_xor (bit_xor m (product s (bit_xor n m))) (product t f) ≡ three (product s n) (product (bit_xor 1 s) m) (product t f)
middle_is s t n m f byte =
    ap (λ x. bit_xor (bit_xor m x) (product t f)) (product_add_right s n m)
    ∙ middle_order m (product s n) (product s m) (product t f)
    ∙ sym (ap (λ x. three (product s n) x (product t f)) (one_more s m byte))

-- what the last row gets
last_is : (k r n m f : ℕ) → bit_xor (product k (bit_xor n m)) (product r f) ≡ three (product k n) (product k m) (product r f)
last_is k r n m f = ap (λ x. bit_xor x (product r f)) (product_add_right k n m)

-- ---- the nodes of a column

module _ (factors : List ℕ) (near last : ℕ) (form : IsColumnOfThree factors near last) (u : ℕ → ℕ) (bytes : (x : ℕ) → u x < 2 ^ 8) where
  abbrev far : ℕ
  far = 2 - near

  abbrev term : ℕ → ℕ → ℕ
  term x e = product (factor_at factors 3 x e) (u x)

  -- the sum of what all nodes add to row e
  abbrev all : ℕ → ℕ
  all e = bit_xor (bit_xor (bit_xor 0 (term 0 e)) (term 1 e)) (term 2 e)

  ordered : (e : ℕ) → three (term near e) (term 1 e) (term far e) ≡ all e
  ordered e = elim form.near_end [
    | inl first ↦
        let other : 2 - near ≡ 2 = omega (arith, first) in
        (λ i. three (term (first i) e) (term 1 e) (term (other i) e)) ∙ sym (ap (λ x. bit_xor (bit_xor x (term 1 e)) (term 2 e)) (zero_xor (term 0 e)))
    | inr third ↦
        let other : 2 - near ≡ 0 = omega (arith, third) in
        (λ i. three (term (third i) e) (term 1 e) (term (other i) e))
        ∙ backwards (term 2 e) (term 1 e) (term 0 e)
        ∙ sym (ap (λ x. bit_xor (bit_xor x (term 1 e)) (term 2 e)) (zero_xor (term 0 e)))
  ]

  abbrev for_middle : ℕ
  for_middle = bit_xor (bit_xor (u 1) (product (factor_at factors 3 near 1) (bit_xor (u near) (u 1)))) (product (factor_at factors 3 far 1) (u far))

  abbrev for_last : ℕ
  for_last = bit_xor (product (factor_at factors 3 near last) (bit_xor (u near) (u 1))) (product (factor_at factors 3 far last) (u far))

  middle_three : for_middle ≡ three (term near 1) (term 1 1) (term far 1)
  middle_three =
      middle_is (factor_at factors 3 near 1) (factor_at factors 3 far 1) (u near) (u 1) (u far) (bytes 1)
      ∙ ap (λ f. three (term near 1) (product f (u 1)) (term far 1)) (sym form.middle_row)

  last_three : for_last ≡ three (term near last) (term 1 last) (term far last)
  last_three =
      last_is (factor_at factors 3 near last) (factor_at factors 3 far last) (u near) (u 1) (u far)
      ∙ ap (λ f. three (term near last) (product f (u 1)) (term far last)) (sym form.last_row)

  pub middle_sum : for_middle ≡ all 1
  middle_sum = middle_three ∙ ordered 1

  pub last_sum : for_last ≡ all last
  last_sum = last_three ∙ ordered last

  pub row_sum : (d : ℕ) → bit_xor (bit_xor (bit_xor (bit_xor d (bit_xor (u near) (u 1))) (u far)) for_middle) for_last ≡ bit_xor d (all (2 - last))
  row_sum d =
      (λ i. bit_xor (bit_xor (bit_xor (bit_xor d (bit_xor (u near) (u 1))) (u far)) (middle_three i)) (last_three i))
      ∙ spread d (u near) (u 1) (u far) (term near 1) (term 1 1) (term far 1) (term near last) (term 1 last) (term far last)
      ∙ (λ i. bit_xor d (three
      (other_products (factor_at factors 3 near (2 - last)) (factor_at factors 3 near 1) (factor_at factors 3 near last) (u near) form.near_sum (bytes near) i)
      (other_products (factor_at factors 3 1 (2 - last)) (factor_at factors 3 1 1) (factor_at factors 3 1 last) (u 1) form.middle_sum (bytes 1) i)
      (other_products (factor_at factors 3 far (2 - last)) (factor_at factors 3 far 1) (factor_at factors 3 far last) (u far) form.far_sum (bytes far) i)))
      ∙ ap (bit_xor d) (ordered (2 - last))

-- ---- the rows

-- a list is row x of some rows
abbrev pub IsRow : ℕ → List ℕ → ℕ → List ℕ → Type 0
IsRow len rows x row = (k : ℕ) → k < len → row_byte len rows x k ≡ get_or row k 0

pub each_end : (P : ℕ → Type 0) (last : ℕ) → IsEnd last → P (2 - last) → P 1 → P last → (e : ℕ) → e < 3 → P e
each_end P last end first middle at_last e h = elim (cases_eq e 1) [
  | inl same ↦ subst P (sym same) middle
  | inr other ↦ elim (cases_eq e last) [
    | inl same ↦ subst P (sym same) at_last
    | inr unlike ↦ elim end [
      | inl zero ↦ let here : 2 - last ≡ e = omega (arith, zero, other, unlike) in subst P here first
      | inr two ↦ let here : 2 - last ≡ e = omega (arith, two, other, unlike) in subst P here first
    ]
  ]
]

-- what is added to three lists is added to their rows
pub three_added : (len : ℕ) (factors : List ℕ) (near last : ℕ) (values u0 u1 u2 before o0 o1 o2 after n0 n1 n2 : List ℕ) → IsColumnOfThree factors near last
    → ((p : ℕ) → get_or values p 0 < 2 ^ 8)
    → IsRow len values near u0 → IsRow len values 1 u1 → IsRow len values (2 - near) u2
    → IsRow len before (2 - last) o0 → IsRow len before 1 o1 → IsRow len before last o2
    → IsRow len after (2 - last) n0 → IsRow len after 1 n1 → IsRow len after last n2
    → ((k : ℕ) → k < len → get_or n0 k 0
    ≡ row_added (factor_at factors 3 near 1) (factor_at factors 3 (2 - near) 1) (factor_at factors 3 near last) (factor_at factors 3 (2 - near) last) u0 u1 u2 o0 k)
    → ((k : ℕ) → k < len → get_or n1 k 0 ≡ middle_added (factor_at factors 3 near 1) (factor_at factors 3 (2 - near) 1) u0 u1 u2 o1 k)
    → ((k : ℕ) → k < len → get_or n2 k 0 ≡ last_row_added (factor_at factors 3 near last) (factor_at factors 3 (2 - near) last) u0 u1 u2 o2 k)
    → AddsNodes 3 len (λ x e. factor_at factors 3 x e) (λ x b. get_or values (x * len + b) 0) before after
three_added len factors near last values u0 u1 u2 before o0 o1 o2 after n0 n1 n2 form bytes v0 v1 v2 p0 p1 p2 q0 q1 q2 e0 e1 e2 = record {
  at = λ e b he hb.
      let u : ℕ → ℕ = λ x. row_byte len values x b in
      let s : ℕ = factor_at factors 3 near 1 in
      let t : ℕ = factor_at factors 3 (2 - near) 1 in
      let k : ℕ = factor_at factors 3 near last in
      let r : ℕ = factor_at factors 3 (2 - near) last in
      let sum : ℕ → ℕ = λ e. bit_xor (bit_xor (bit_xor 0 (product (factor_at factors 3 0 e) (u 0))) (product (factor_at factors 3 1 e) (u 1))) (product (factor_at factors 3 2 e) (u 2)) in
      let P : ℕ → Type 0 = λ e. row_byte len after e b ≡ bit_xor (row_byte len before e b) (sum e) in
      let first : P (2 - last) =
      q0 b hb ∙ e0 b hb
      ∙ (λ i. bit_xor
      (bit_xor (bit_xor (bit_xor (sym (p0 b hb) i) (bit_xor (sym (v0 b hb) i) (sym (v1 b hb) i))) (sym (v2 b hb) i))
      (bit_xor (bit_xor (sym (v1 b hb) i) (product s (bit_xor (sym (v0 b hb) i) (sym (v1 b hb) i)))) (product t (sym (v2 b hb) i))))
      (bit_xor (product k (bit_xor (sym (v0 b hb) i) (sym (v1 b hb) i))) (product r (sym (v2 b hb) i))))
      ∙ row_sum factors near last form u (λ x. bytes (x * len + b)) (row_byte len before (2 - last) b) in
      let second : P 1 =
      q1 b hb ∙ e1 b hb
      ∙ (λ i. bit_xor (sym (p1 b hb) i) (bit_xor (bit_xor (sym (v1 b hb) i) (product s (bit_xor (sym (v0 b hb) i) (sym (v1 b hb) i)))) (product t (sym (v2 b hb) i))))
      ∙ ap (bit_xor (row_byte len before 1 b)) (middle_sum factors near last form u (λ x. bytes (x * len + b))) in
      let third : P last =
      q2 b hb ∙ e2 b hb
      ∙ (λ i. bit_xor (sym (p2 b hb) i) (bit_xor (product k (bit_xor (sym (v0 b hb) i) (sym (v1 b hb) i))) (product r (sym (v2 b hb) i))))
      ∙ ap (bit_xor (row_byte len before last b)) (last_sum factors near last form u (λ x. bytes (x * len + b))) in
      each_end P last form.last_end first second third e he;
}

-- three lists, one behind another
module _ (len : ℕ) (a b c : List ℕ) (la : length a ≡ len) (lb : length b ≡ len) where
  pub joined_first : IsRow len (a ++ (b ++ c)) 0 a
  joined_first k h =
      let place : 0 * len + k ≡ k = omega arith in
      ap (λ p. get_or (a ++ (b ++ c)) p 0) place ∙ get_or_append_left a (b ++ c) 0 k (omega arith)

  pub joined_second : IsRow len (a ++ (b ++ c)) 1 b
  joined_second k h =
      let back : 1 * len + k - len ≡ k = omega arith in
      get_or-append_right a (b ++ c) len (1 * len + k) 0 la (omega arith)
      ∙ ap (λ p. get_or (b ++ c) p 0) back
      ∙ get_or_append_left b c 0 k (omega arith)

  pub joined_third : IsRow len (a ++ (b ++ c)) 2 c
  joined_third k h =
      let back : 2 * len + k - len - len ≡ k = omega arith in
      get_or-append_right a (b ++ c) len (2 * len + k) 0 la (omega arith)
      ∙ get_or-append_right b c len (2 * len + k - len) 0 lb (omega arith)
      ∙ ap (λ p. get_or c p 0) back

pub end_below : (n : ℕ) → IsEnd n → n < 3
end_below n end = elim end [
  | inl zero ↦ omega (arith, zero)
  | inr two ↦ omega (arith, two)
]

pub end_not_two : (n : ℕ) → IsEnd n → n ≢ 2 → n ≡ 0
end_not_two n end other = elim end [
  | inl zero ↦ zero
  | inr two ↦ absurd (other two)
]

-- the nodes 3, 4 and 5 in the rows of the nodes 6, 7 and 8: 4 and 5 stand 1 apart, and 6 and 7
worked : IsColumnOfThree (212 ∷ 242 ∷ 39 ∷ 208 ∷ 81 ∷ 128 ∷ 209 ∷ 80 ∷ 128 ∷ []) 2 2
worked = record {
  near_end = inr refl;
  last_end = inr refl;
  near_sum = refl;
  middle_sum = refl;
  far_sum = refl;
  middle_row = refl;
  last_row = refl;
}
