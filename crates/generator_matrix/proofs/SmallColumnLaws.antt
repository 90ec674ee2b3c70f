-- Few products of a column's sums are all products of its nodes.
use Rattle.std.proofs.Common.{◌≡◌, ℕ, suc, ◌+◌, ◌-◌, ◌*◌, ◌^◌, ◌<◌, List, [], ◌∷◌, ◌++◌, length, get_or, take, drop, refl, inl, inr, subst, sym, ap, ◌∙◌, arith, bit_xor}
use Rattle.std.proofs.lemmas.Bool.{cases_eq}
use Rattle.std.proofs.lemmas.List.{get_or_append_left, get_or-append_right, get_or-take, get_or-drop}
use lib.Bits.{xor_assoc, xor_zero_r}
use Rattle.clay_field.specs.Field.{product}
use Rattle.clay_field.proofs.FieldLaws.{product_add_right}
use Rattle.clay_model.specs.Sums.{sum_below}
use Rattle.clay_model.proofs.SumLaws.{sum_below_same}
use Rattle.generator_matrix.specs.Generated.{factor_at}
use Rattle.clay_kernels.specs.Lanes.{AddsRows}
use Rattle.generator_matrix.specs.Columns.{row_byte}
use Rattle.generator_matrix.specs.SmallColumns.{AddsNodes, IsColumnOfTwo, own_added}
use Rattle.generator_matrix.proofs.ColumnLaws.{swap, zero_xor, one_more}

-- ---- two nodes

shifted : (d u p q : ℕ) → bit_xor (bit_xor d u) (bit_xor p q) ≡ bit_xor d (bit_xor (bit_xor u p) q)
shifted d u p q = xor_assoc d u (bit_xor p q) ∙ ap (bit_xor d) (sym (xor_assoc u p q))

turned : (d v p q : ℕ) → bit_xor (bit_xor d v) (bit_xor p q) ≡ bit_xor d (bit_xor p (bit_xor v q))
turned d v p q = swap d v p q ∙ xor_assoc d p (bit_xor v q)

-- the first node's row
first_row : (c d u v : ℕ) → u < 2 ^ 8
    → bit_xor (bit_xor d u) (product c (bit_xor u v)) ≡ bit_xor d (bit_xor (bit_xor 0 (product (bit_xor 1 c) u)) (product c v))
first_row c d u v byte =
    ap (bit_xor (bit_xor d u)) (product_add_right c u v)
    ∙ shifted d u (product c u) (product c v)
    ∙ sym (ap (λ x. bit_xor d (bit_xor x (product c v))) (zero_xor (product (bit_xor 1 c) u) ∙ one_more c u byte))

-- the second node's
second_row : (c d u v : ℕ) → v < 2 ^ 8
    → bit_xor (bit_xor d v) (product c (bit_xor u v)) ≡ bit_xor d (bit_xor (bit_xor 0 (product c u)) (product (bit_xor 1 c) v))
second_row c d u v byte =
    ap (bit_xor (bit_xor d v)) (product_add_right c u v)
    ∙ turned d v (product c u) (product c v)
    ∙ sym ((λ i. bit_xor d (bit_xor (zero_xor (product c u) i) (one_more c v byte i))))

below_two : (P : ℕ → Type 0) → P 0 → P 1 → (n : ℕ) → n < 2 → P n
below_two P p0 p1 n h = elim (cases_eq n 0) [
  | inl e ↦ subst P (sym e) p0
  | inr n0 ↦ let e : n ≡ 1 = omega (arith, n0) in subst P (sym e) p1
]

-- two lists are the rows of one
pub record HaveTwo (len : ℕ) (rows a b : List ℕ) : Type 0 where
  pub r0 : (k : ℕ) → k < len → row_byte len rows 0 k ≡ get_or a k 0
  pub r1 : (k : ℕ) → k < len → row_byte len rows 1 k ≡ get_or b k 0

pub two_joined : (len : ℕ) (a b : List ℕ) → length a ≡ len → HaveTwo len (a ++ b) a b
two_joined len a b la = record {
  r0 = λ k h.
      let place : 0 * len + k ≡ k = omega arith in
      ap (λ p. get_or (a ++ b) p 0) place ∙ get_or_append_left a b 0 k (omega arith);
  r1 = λ k h.
      let back : 1 * len + k - len ≡ k = omega arith in
      get_or-append_right a b len (1 * len + k) 0 la (omega arith) ∙ ap (λ p. get_or b p 0) back;
}

pub two_cut : (len : ℕ) (rows a b : List ℕ) → a ≡ take len rows → b ≡ drop len rows → HaveTwo len rows a b
two_cut len rows a b ea eb = record {
  r0 = λ k h.
      let place : 0 * len + k ≡ k = omega arith in
      ap (λ p. get_or rows p 0) place ∙ sym (ap (λ l. get_or l k 0) ea ∙ get_or-take len rows k 0 h);
  r1 = λ k h.
      let place : 1 * len + k ≡ len + k = omega arith in
      ap (λ p. get_or rows p 0) place ∙ sym (ap (λ l. get_or l k 0) eb ∙ get_or-drop len rows k 0);
}

-- what is added to two lists is added to their rows
pub two_added : (len : ℕ) (factors : List ℕ) (c : ℕ) (values u0 u1 before o0 o1 after n0 n1 : List ℕ) → IsColumnOfTwo factors c
    → ((p : ℕ) → get_or values p 0 < 2 ^ 8)
    → HaveTwo len values u0 u1 → HaveTwo len before o0 o1 → HaveTwo len after n0 n1
    → ((k : ℕ) → k < len → get_or n0 k 0 ≡ own_added c u0 u0 u1 o0 k)
    → ((k : ℕ) → k < len → get_or n1 k 0 ≡ own_added c u1 u0 u1 o1 k)
    → AddsNodes 2 len (λ x e. factor_at factors 2 x e) (λ x b. get_or values (x * len + b) 0) before after
two_added len factors c values u0 u1 before o0 o1 after n0 n1 form bytes v o n e0 e1 = record {
  at = λ e b he hb.
      let u : ℕ = row_byte len values 0 b in
      let w : ℕ = row_byte len values 1 b in
      let P : ℕ → Type 0 = λ e. row_byte len after e b
      ≡ bit_xor (row_byte len before e b) (bit_xor (bit_xor 0 (product (factor_at factors 2 0 e) u)) (product (factor_at factors 2 1 e) w)) in
      let at0 : P 0 =
      n.r0 b hb ∙ e0 b hb
      ∙ (λ i. bit_xor (bit_xor (sym (o.r0 b hb) i) (sym (v.r0 b hb) i)) (product c (bit_xor (sym (v.r0 b hb) i) (sym (v.r1 b hb) i))))
      ∙ first_row c (row_byte len before 0 b) u w (bytes _)
      ∙ (λ i. bit_xor (row_byte len before 0 b) (bit_xor (bit_xor 0 (product (sym form.first_own i) u)) (product (sym form.second_other i) w))) in
      let at1 : P 1 =
      n.r1 b hb ∙ e1 b hb
      ∙ (λ i. bit_xor (bit_xor (sym (o.r1 b hb) i) (sym (v.r1 b hb) i)) (product c (bit_xor (sym (v.r0 b hb) i) (sym (v.r1 b hb) i))))
      ∙ second_row c (row_byte len before 1 b) u w (bytes _)
      ∙ (λ i. bit_xor (row_byte len before 1 b) (bit_xor (bit_xor 0 (product (sym form.first_other i) u)) (product (sym form.second_own i) w))) in
      below_two P at0 at1 e he;
}

-- ---- nodes one after another

-- the rows to which the first nodes are added
pub record NodesDone (node m len : ℕ) (factor value : ℕ → ℕ → ℕ) (before now : List ℕ) : Type 0 where
  pub at : (e b : ℕ) → e < m → b < len
      → get_or now (e * len + b) 0 ≡ bit_xor (get_or before (e * len + b) 0) (sum_below node (λ x. product (factor x e) (value x b)))

pub nothing_done : (m len : ℕ) (factor value : ℕ → ℕ → ℕ) (rows : List ℕ) → NodesDone 0 m len factor value rows rows
nothing_done m len factor value rows = record { at = λ e b he hb. sym (xor_zero_r (get_or rows (e * len + b) 0)) }

pub one_done : (node m len : ℕ) (factor value : ℕ → ℕ → ℕ) (before now after : List ℕ) → NodesDone node m len factor value before now
    → AddsRows m len (factor node) (value node) now after → NodesDone (node + 1) m len factor value before after
one_done node m len factor value before now after h adds = record {
  at = λ e b he hb.
      let next : suc node ≡ node + 1 = omega arith in
      let term : ℕ → ℕ = λ x. product (factor x e) (value x b) in
      let old : ℕ = get_or before (e * len + b) 0 in
      adds.at e b he hb
      ∙ ap (λ x. bit_xor x (term node)) (h.at e b he hb)
      ∙ xor_assoc old (sum_below node term) (term node)
      ∙ ap (λ n. bit_xor old (sum_below n term)) next;
}

-- the same by equal factors
pub AddsNodes-as : (m len : ℕ) (factor factor' value : ℕ → ℕ → ℕ) (before after : List ℕ) → ((x e : ℕ) → x < m → e < m → factor x e ≡ factor' x e)
    → AddsNodes m len factor value before after → AddsNodes m len factor' value before after
AddsNodes-as m len factor factor' value before after same adds = record {
  at = λ e b he hb.
      adds.at e b he hb
      ∙ ap (bit_xor (get_or before (e * len + b) 0))
      (sum_below_same m (λ x. product (factor x e) (value x b)) (λ x. product (factor' x e) (value x b)) (λ x hx. ap (λ f. product f (value x b)) (same x e hx he)));
}

-- the nodes 0 and 1 in the rows of the nodes 2 and 3
worked : IsColumnOfTwo (3 ∷ 2 ∷ 2 ∷ 3 ∷ []) 2
worked = record { first_own = refl; first_other = refl; second_other = refl; second_own = refl }
