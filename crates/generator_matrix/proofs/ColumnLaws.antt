-- Four sums in column form take up a column of four known nodes, and come out of it.
use Rattle.std.proofs.Common.{◌≡◌, ℕ, suc, ◌+◌, ◌-◌, ◌*◌, ◌^◌, ◌<◌, List, length, get_or, replicate, inl, inr, subst, sym, ap, ◌∙◌, arith, bit_xor}
use Rattle.std.proofs.lemmas.Bool.{cases_eq}
use Rattle.std.proofs.lemmas.Nat.{xor_comm}
use Rattle.std.proofs.lemmas.List.{get_or-replicate}
use lib.Bits.{xor_assoc, xor_self, xor_zero_r}
use Rattle.clay_field.specs.Field.{product}
use Rattle.clay_field.proofs.FieldLaws.{product_add_left, product_add_right, product_zero, one_product}
use Rattle.clay_grid.specs.Shape.{Shape, column_count}
use Rattle.clay_model.specs.Sums.{sum_below}
use Rattle.code_laws.specs.Columns.{first_parity}
use Rattle.code_laws.proofs.Pieces.{place_below}
use Rattle.generator_matrix.specs.Generated.{factor_at, IsLastGenerator}
use Rattle.generator_matrix.specs.declared.column.ColumnFactors.{ColumnFactors}
use Rattle.generator_matrix.specs.Columns.{AddUp, IsColumn, AreColumns, AddsColumn, IsColumnForm, EndsColumn, row_byte, all_rows, both_rows}

pub xor_left_comm : (a b c : ℕ) → bit_xor a (bit_xor b c) ≡ bit_xor b (bit_xor a c)
xor_left_comm a b c = sym (xor_assoc a b c) ∙ ap (λ x. bit_xor x c) (xor_comm a b) ∙ xor_assoc b a c

pub zero_xor : (b : ℕ) → bit_xor 0 b ≡ b
zero_xor b = xor_comm 0 b ∙ xor_zero_r b

pub xor_again : (a b : ℕ) → bit_xor a (bit_xor a b) ≡ b
xor_again a b = sym (xor_assoc a a b) ∙ ap (λ x. bit_xor x b) (xor_self a) ∙ zero_xor b

-- ---- sums in another order

pub swap : (a b c d : ℕ) → bit_xor (bit_xor a b) (bit_xor c d) ≡ bit_xor (bit_xor a c) (bit_xor b d)
swap a b c d = simp (xor_assoc, xor_comm, xor_left_comm)

-- a sum of four more terms
abbrev four_more : ℕ → ℕ → ℕ → ℕ → ℕ → ℕ
four_more s p0 p1 p2 p3 = bit_xor (bit_xor (bit_xor (bit_xor s p0) p1) p2) p3

-- two such sums together
pub two_sums : (s t p0 p1 p2 p3 r0 r1 r2 r3 : ℕ)
    → bit_xor (four_more s p0 p1 p2 p3) (four_more t r0 r1 r2 r3)
    ≡ four_more (bit_xor s t) (bit_xor p0 r0) (bit_xor p1 r1) (bit_xor p2 r2) (bit_xor p3 r3)
two_sums s t p0 p1 p2 p3 r0 r1 r2 r3 =
    swap (bit_xor (bit_xor (bit_xor s p0) p1) p2) p3 (bit_xor (bit_xor (bit_xor t r0) r1) r2) r3
    ∙ ap (λ x. bit_xor x (bit_xor p3 r3)) (swap (bit_xor (bit_xor s p0) p1) p2 (bit_xor (bit_xor t r0) r1) r2
    ∙ ap (λ x. bit_xor x (bit_xor p2 r2)) (swap (bit_xor s p0) p1 (bit_xor t r0) r1 ∙ ap (λ x. bit_xor x (bit_xor p1 r1)) (swap s p0 t r0)))

grouped : (s u0 u1 u2 u3 : ℕ) → bit_xor s (bit_xor (bit_xor u0 u2) (bit_xor u1 u3)) ≡ four_more s u0 u1 u2 u3
grouped s u0 u1 u2 u3 = simp (xor_assoc, xor_comm, xor_left_comm)

odd_grouped : (s u1 u3 v0 v1 v2 v3 : ℕ)
    → bit_xor (bit_xor s (bit_xor u1 u3)) (bit_xor (bit_xor v0 v2) (bit_xor v1 v3)) ≡ four_more s v0 (bit_xor u1 v1) v2 (bit_xor u3 v3)
odd_grouped s u1 u3 v0 v1 v2 v3 = simp (xor_assoc, xor_comm, xor_left_comm)

high_grouped : (s u2 u3 v0 v1 v2 v3 : ℕ)
    → bit_xor (bit_xor s (bit_xor u2 u3)) (bit_xor (bit_xor v0 v2) (bit_xor v1 v3)) ≡ four_more s v0 v1 (bit_xor u2 v2) (bit_xor u3 v3)
high_grouped s u2 u3 v0 v1 v2 v3 = simp (xor_assoc, xor_comm, xor_left_comm)

last_grouped : (s u3 k0 k1 k2 k3 t1 t3 r2 r3 : ℕ)
    → bit_xor (bit_xor (bit_xor (bit_xor s u3) (bit_xor (bit_xor k0 k2) (bit_xor k1 k3))) (bit_xor t1 t3)) (bit_xor r2 r3)
    ≡ four_more s k0 (bit_xor t1 k1) (bit_xor r2 k2) (bit_xor (bit_xor u3 (bit_xor t3 r3)) k3)
last_grouped s u3 k0 k1 k2 k3 t1 t3 r2 r3 = simp (xor_assoc, xor_comm, xor_left_comm)

grouped_four : (p0 p1 p2 p3 : ℕ) → bit_xor (bit_xor p0 p2) (bit_xor p1 p3) ≡ bit_xor (bit_xor (bit_xor p0 p1) p2) p3
grouped_four p0 p1 p2 p3 = simp (xor_assoc, xor_comm, xor_left_comm)

-- the sums back from their column form
ended_first : (s0 s1 s2 s3 : ℕ)
    → bit_xor (bit_xor (bit_xor (bit_xor s0 s2) (bit_xor s1 s3)) (bit_xor (bit_xor s1 s3) s3)) (bit_xor s2 s3) ≡ s0
ended_first s0 s1 s2 s3 = simp (xor_assoc, xor_comm, xor_left_comm, xor_self, xor_again, xor_zero_r, zero_xor)

ended_one : (s t : ℕ) → bit_xor (bit_xor s t) t ≡ s
ended_one s t = xor_assoc s t t ∙ ap (bit_xor s) (xor_self t) ∙ xor_zero_r s

four_zeros : (s : ℕ) → four_more s 0 0 0 0 ≡ s
four_zeros s = simp (xor_zero_r)

-- ---- the products of a node

module _ (factors : List ℕ) (node odd high last : ℕ) (adds : AddUp factors node odd high last) (u : ℕ) where
  abbrev own : ℕ → ℕ
  own e = product (factor_at factors 4 node e) u

  all_of_node : u < 2 ^ 8 → bit_xor (bit_xor (own 0) (own 2)) (bit_xor (own 1) (own 3)) ≡ u
  all_of_node byte =
      grouped_four (own 0) (own 1) (own 2) (own 3)
      ∙ sym (product_add_left (bit_xor (bit_xor (factor_at factors 4 node 0) (factor_at factors 4 node 1)) (factor_at factors 4 node 2)) (factor_at factors 4 node 3) u
      ∙ ap (λ x. bit_xor x (own 3)) (product_add_left (bit_xor (factor_at factors 4 node 0) (factor_at factors 4 node 1)) (factor_at factors 4 node 2) u
      ∙ ap (λ x. bit_xor x (own 2)) (product_add_left (factor_at factors 4 node 0) (factor_at factors 4 node 1) u)))
      ∙ ap (λ f. product f u) adds.all
      ∙ one_product u byte

  odd_of_node : bit_xor (own 1) (own 3) ≡ product odd u
  odd_of_node = sym (product_add_left (factor_at factors 4 node 1) (factor_at factors 4 node 3) u) ∙ ap (λ f. product f u) adds.odd_rows

  high_of_node : bit_xor (own 2) (own 3) ≡ product high u
  high_of_node = sym (product_add_left (factor_at factors 4 node 2) (factor_at factors 4 node 3) u) ∙ ap (λ f. product f u) adds.high_rows

  last_of_node : own 3 ≡ product last u
  last_of_node = ap (λ f. product f u) adds.last_row

-- a factor that is one more
pub one_more : (c u : ℕ) → u < 2 ^ 8 → product (bit_xor 1 c) u ≡ bit_xor u (product c u)
one_more c u byte = product_add_left 1 c u ∙ ap (λ x. bit_xor x (product c u)) (one_product u byte)

-- a factor of all four values
of_all : (c u0 u1 u2 u3 : ℕ) → product c (bit_xor (bit_xor u0 u2) (bit_xor u1 u3)) ≡ bit_xor (bit_xor (product c u0) (product c u2)) (bit_xor (product c u1) (product c u3))
of_all c u0 u1 u2 u3 =
    product_add_right c (bit_xor u0 u2) (bit_xor u1 u3)
    ∙ (λ i. bit_xor (product_add_right c u0 u2 i) (product_add_right c u1 u3 i))

-- ---- a column that is added

module _ (factors : List ℕ) (y : ℕ) (f : ColumnFactors) (column : IsColumn factors y f) (u0 u1 u2 u3 : ℕ)
    (b0 : u0 < 2 ^ 8) (b1 : u1 < 2 ^ 8) (b2 : u2 < 2 ^ 8) (b3 : u3 < 2 ^ 8) (sum : ℕ → ℕ) where
  -- what each node adds to the sum of unknown node e
  abbrev t0 : ℕ → ℕ
  t0 e = product (factor_at factors 4 (y * 4) e) u0

  abbrev t1 : ℕ → ℕ
  t1 e = product (factor_at factors 4 (y * 4 + 1) e) u1

  abbrev t2 : ℕ → ℕ
  t2 e = product (factor_at factors 4 (y * 4 + 2) e) u2

  abbrev t3 : ℕ → ℕ
  t3 e = product (factor_at factors 4 (y * 4 + 3) e) u3

  -- that sum with the column
  abbrev more : ℕ → ℕ
  more e = four_more (sum e) (t0 e) (t1 e) (t2 e) (t3 e)

  two_more : (e v : ℕ) → bit_xor (more e) (more v) ≡ four_more (bit_xor (sum e) (sum v)) (bit_xor (t0 e) (t0 v)) (bit_xor (t1 e) (t1 v)) (bit_xor (t2 e) (t2 v)) (bit_xor (t3 e) (t3 v))
  two_more e v = two_sums (sum e) (sum v) (t0 e) (t1 e) (t2 e) (t3 e) (t0 v) (t1 v) (t2 v) (t3 v)

  pub all_more : bit_xor (bit_xor (bit_xor (sum 0) (sum 2)) (bit_xor (sum 1) (sum 3))) (bit_xor (bit_xor u0 u2) (bit_xor u1 u3)) ≡ bit_xor (bit_xor (more 0) (more 2)) (bit_xor (more 1) (more 3))
  all_more =
      let before : ℕ = bit_xor (bit_xor (sum 0) (sum 2)) (bit_xor (sum 1) (sum 3)) in
      grouped before u0 u1 u2 u3
      ∙ sym ((λ i. bit_xor (two_more 0 2 i) (two_more 1 3 i))
      ∙ two_sums (bit_xor (sum 0) (sum 2)) (bit_xor (sum 1) (sum 3))
      (bit_xor (t0 0) (t0 2)) (bit_xor (t1 0) (t1 2)) (bit_xor (t2 0) (t2 2)) (bit_xor (t3 0) (t3 2))
      (bit_xor (t0 1) (t0 3)) (bit_xor (t1 1) (t1 3)) (bit_xor (t2 1) (t2 3)) (bit_xor (t3 1) (t3 3))
      ∙ (λ i. four_more before
      (all_of_node factors (y * 4) _ _ _ column.first u0 b0 i)
      (all_of_node factors (y * 4 + 1) _ _ _ column.second u1 b1 i)
      (all_of_node factors (y * 4 + 2) _ _ _ column.third u2 b2 i)
      (all_of_node factors (y * 4 + 3) _ _ _ column.fourth u3 b3 i)))

  pub odd_more : bit_xor (bit_xor (bit_xor (sum 1) (sum 3)) (bit_xor u1 u3)) (product f.sigma (bit_xor (bit_xor u0 u2) (bit_xor u1 u3))) ≡ bit_xor (more 1) (more 3)
  odd_more =
      let before : ℕ = bit_xor (sum 1) (sum 3) in
      ap (bit_xor (bit_xor before (bit_xor u1 u3))) (of_all f.sigma u0 u1 u2 u3)
      ∙ odd_grouped before u1 u3 (product f.sigma u0) (product f.sigma u1) (product f.sigma u2) (product f.sigma u3)
      ∙ sym (two_more 1 3
      ∙ (λ i. four_more before
      (odd_of_node factors (y * 4) _ _ _ column.first u0 i)
      ((odd_of_node factors (y * 4 + 1) _ _ _ column.second u1 ∙ one_more f.sigma u1 b1) i)
      (odd_of_node factors (y * 4 + 2) _ _ _ column.third u2 i)
      ((odd_of_node factors (y * 4 + 3) _ _ _ column.fourth u3 ∙ one_more f.sigma u3 b3) i)))

  pub high_more : bit_xor (bit_xor (bit_xor (sum 2) (sum 3)) (bit_xor u2 u3)) (product f.tau (bit_xor (bit_xor u0 u2) (bit_xor u1 u3))) ≡ bit_xor (more 2) (more 3)
  high_more =
      let before : ℕ = bit_xor (sum 2) (sum 3) in
      ap (bit_xor (bit_xor before (bit_xor u2 u3))) (of_all f.tau u0 u1 u2 u3)
      ∙ high_grouped before u2 u3 (product f.tau u0) (product f.tau u1) (product f.tau u2) (product f.tau u3)
      ∙ sym (two_more 2 3
      ∙ (λ i. four_more before
      (high_of_node factors (y * 4) _ _ _ column.first u0 i)
      (high_of_node factors (y * 4 + 1) _ _ _ column.second u1 i)
      ((high_of_node factors (y * 4 + 2) _ _ _ column.third u2 ∙ one_more f.tau u2 b2) i)
      ((high_of_node factors (y * 4 + 3) _ _ _ column.fourth u3 ∙ one_more f.tau u3 b3) i)))

  pub last_more : bit_xor (bit_xor (bit_xor (bit_xor (sum 3) u3) (product f.kappa (bit_xor (bit_xor u0 u2) (bit_xor u1 u3)))) (product f.tau (bit_xor u1 u3))) (product f.rho (bit_xor u2 u3)) ≡ more 3
  last_more =
      (λ i. bit_xor (bit_xor (bit_xor (bit_xor (sum 3) u3) (of_all f.kappa u0 u1 u2 u3 i)) (product_add_right f.tau u1 u3 i)) (product_add_right f.rho u2 u3 i))
      ∙ last_grouped (sum 3) u3 (product f.kappa u0) (product f.kappa u1) (product f.kappa u2) (product f.kappa u3)
      (product f.tau u1) (product f.tau u3) (product f.rho u2) (product f.rho u3)
      ∙ sym (λ i. four_more (sum 3)
      (last_of_node factors (y * 4) _ _ _ column.first u0 i)
      ((last_of_node factors (y * 4 + 1) _ _ _ column.second u1 ∙ product_add_left f.tau f.kappa u1) i)
      ((last_of_node factors (y * 4 + 2) _ _ _ column.third u2 ∙ product_add_left f.rho f.kappa u2) i)
      ((last_of_node factors (y * 4 + 3) _ _ _ column.fourth u3
      ∙ product_add_left (bit_xor 1 (bit_xor f.tau f.rho)) f.kappa u3
      ∙ ap (λ x. bit_xor x (product f.kappa u3)) (one_more (bit_xor f.tau f.rho) u3 b3 ∙ ap (bit_xor u3) (product_add_left f.tau f.rho u3))) i))

-- ---- rows

below_four : (P : ℕ → Type 0) → P 0 → P 1 → P 2 → P 3 → (n : ℕ) → n < 4 → P n
below_four P p0 p1 p2 p3 n h = elim (cases_eq n 0) [
  | inl e ↦ subst P (sym e) p0
  | inr n0 ↦ elim (cases_eq n 1) [
    | inl e ↦ subst P (sym e) p1
    | inr n1 ↦ elim (cases_eq n 2) [
      | inl e ↦ subst P (sym e) p2
      | inr n2 ↦ let e : n ≡ 3 = omega (arith, n0, n1, n2) in subst P (sym e) p3
    ]
  ]
]

sum_below-next : (n : ℕ) (f : ℕ → ℕ) → bit_xor (sum_below n f) (f n) ≡ sum_below (n + 1) f
sum_below-next n f = let next : suc n ≡ n + 1 = omega arith in ap (λ k. sum_below k f) next

-- the next four terms of a sum
sum_below-four : (y : ℕ) (f : ℕ → ℕ) → four_more (sum_below (y * 4) f) (f (y * 4)) (f (y * 4 + 1)) (f (y * 4 + 2)) (f (y * 4 + 3)) ≡ sum_below ((y + 1) * 4) f
sum_below-four y f =
    let n : ℕ = y * 4 in
    let two : n + 1 + 1 ≡ n + 2 = omega arith in
    let three : n + 2 + 1 ≡ n + 3 = omega arith in
    let end : n + 3 + 1 ≡ (y + 1) * 4 = omega arith in
    (λ i. bit_xor (bit_xor (bit_xor (sum_below-next n f i) (f (n + 1))) (f (n + 2))) (f (n + 3)))
    ∙ (λ i. bit_xor (bit_xor (sum_below-next (n + 1) f i) (f (n + 2))) (f (n + 3)))
    ∙ ap (λ k. bit_xor (bit_xor (sum_below k f) (f (n + 2))) (f (n + 3))) two
    ∙ ap (λ x. bit_xor x (f (n + 3))) (sum_below-next (n + 2) f)
    ∙ ap (λ k. bit_xor (sum_below k f) (f (n + 3))) three
    ∙ sum_below-next (n + 3) f
    ∙ ap (λ k. sum_below k f) end

-- the sum of byte b of unknown node e over the known nodes below count, of which value has the bytes
abbrev pub known_sum : List ℕ → (ℕ → ℕ → ℕ) → ℕ → ℕ → ℕ → ℕ
known_sum factors value count e b = sum_below count (λ i. product (factor_at factors 4 i e) (value i b))

module _ (len : ℕ) (factors : List ℕ) (value : ℕ → ℕ → ℕ) where
  -- rows of zeros are the column form of no sums
  pub column_begun : (rows : List ℕ) → length rows ≡ 4 * len → rows ≡ replicate (length rows) 0 → IsColumnForm len (known_sum factors value 0) rows
  column_begun rows long empty =
      let zero_at : (x b : ℕ) → x < 4 → b < len → row_byte len rows x b ≡ 0 = λ x b hx hb.
      ap (λ l. get_or l (x * len + b) 0) empty
      ∙ get_or-replicate (length rows) (x * len + b) 0 0 (subst (λ l. x * len + b < l) (sym long) (place_below x 4 len b hx hb)) in
      record {
        all = λ b h. zero_at 0 b (omega arith) h;
        odd = λ b h. zero_at 1 b (omega arith) h;
        high = λ b h. zero_at 2 b (omega arith) h;
        last = λ b h. zero_at 3 b (omega arith) h;
      }

  -- one column more
  pub column_more : (y : ℕ) (f : ColumnFactors) (values before after : List ℕ) → IsColumn factors y f
      → ((x b : ℕ) → x < 4 → b < len → row_byte len values x b ≡ value (y * 4 + x) b)
      → ((p : ℕ) → get_or values p 0 < 2 ^ 8)
      → AddsColumn len f values before after
      → IsColumnForm len (known_sum factors value (y * 4)) before → IsColumnForm len (known_sum factors value ((y + 1) * 4)) after
  column_more y f values before after column held bytes adds form =
      let first : y * 4 + 0 ≡ y * 4 = omega arith in
      let u : ℕ → ℕ → ℕ = λ x b. row_byte len values x b in
      let v0 : (b : ℕ) → b < len → u 0 b ≡ value (y * 4) b = λ b h. held 0 b (omega arith) h ∙ ap (λ i. value i b) first in
      let v1 : (b : ℕ) → b < len → u 1 b ≡ value (y * 4 + 1) b = λ b h. held 1 b (omega arith) h in
      let v2 : (b : ℕ) → b < len → u 2 b ≡ value (y * 4 + 2) b = λ b h. held 2 b (omega arith) h in
      let v3 : (b : ℕ) → b < len → u 3 b ≡ value (y * 4 + 3) b = λ b h. held 3 b (omega arith) h in
      let sum : ℕ → ℕ → ℕ = λ b e. known_sum factors value (y * 4) e b in
      let next : (e b : ℕ) → b < len
      → four_more (sum b e) (product (factor_at factors 4 (y * 4) e) (u 0 b)) (product (factor_at factors 4 (y * 4 + 1) e) (u 1 b))
      (product (factor_at factors 4 (y * 4 + 2) e) (u 2 b)) (product (factor_at factors 4 (y * 4 + 3) e) (u 3 b))
      ≡ known_sum factors value ((y + 1) * 4) e b = λ e b h.
      (λ i. four_more (sum b e) (product (factor_at factors 4 (y * 4) e) (v0 b h i)) (product (factor_at factors 4 (y * 4 + 1) e) (v1 b h i))
      (product (factor_at factors 4 (y * 4 + 2) e) (v2 b h i)) (product (factor_at factors 4 (y * 4 + 3) e) (v3 b h i)))
      ∙ sum_below-four y (λ i. product (factor_at factors 4 i e) (value i b)) in
      record {
        all = λ b h.
            adds.all b h
            ∙ ap (λ x. bit_xor x (all_rows len values b)) (form.all b h)
            ∙ all_more factors y f column (u 0 b) (u 1 b) (u 2 b) (u 3 b) (bytes _) (bytes _) (bytes _) (bytes _) (sum b)
            ∙ (λ i. bit_xor (bit_xor (next 0 b h i) (next 2 b h i)) (bit_xor (next 1 b h i) (next 3 b h i)));
        odd = λ b h.
            adds.odd b h
            ∙ ap (λ x. bit_xor (bit_xor x (both_rows len values 1 3 b)) (product f.sigma (all_rows len values b))) (form.odd b h)
            ∙ odd_more factors y f column (u 0 b) (u 1 b) (u 2 b) (u 3 b) (bytes _) (bytes _) (bytes _) (bytes _) (sum b)
            ∙ (λ i. bit_xor (next 1 b h i) (next 3 b h i));
        high = λ b h.
            adds.high b h
            ∙ ap (λ x. bit_xor (bit_xor x (both_rows len values 2 3 b)) (product f.tau (all_rows len values b))) (form.high b h)
            ∙ high_more factors y f column (u 0 b) (u 1 b) (u 2 b) (u 3 b) (bytes _) (bytes _) (bytes _) (bytes _) (sum b)
            ∙ (λ i. bit_xor (next 2 b h i) (next 3 b h i));
        last = λ b h.
            adds.last b h
            ∙ ap (λ x. bit_xor
            (bit_xor (bit_xor (bit_xor x (row_byte len values 3 b)) (product f.kappa (all_rows len values b))) (product f.tau (both_rows len values 1 3 b)))
            (product f.rho (both_rows len values 2 3 b))) (form.last b h)
            ∙ last_more factors y f column (u 0 b) (u 1 b) (u 2 b) (u 3 b) (bytes _) (bytes _) (bytes _) (bytes _) (sum b)
            ∙ next 3 b h;
      }

  -- a column without values is left out
  nothing_more : (y : ℕ) → ((x b : ℕ) → x < 4 → value (y * 4 + x) b ≡ 0) → (e b : ℕ) → known_sum factors value (y * 4) e b ≡ known_sum factors value ((y + 1) * 4) e b
  nothing_more y none e b =
      let first : y * 4 + 0 ≡ y * 4 = omega arith in
      let s : ℕ = known_sum factors value (y * 4) e b in
      let term : ℕ → ℕ = λ i. product (factor_at factors 4 i e) (value i b) in
      let nothing : (x : ℕ) → x < 4 → term (y * 4 + x) ≡ 0 = λ x h. ap (product (factor_at factors 4 (y * 4 + x) e)) (none x b h) ∙ product_zero (factor_at factors 4 (y * 4 + x) e) in
      let none0 : term (y * 4) ≡ 0 = subst (λ n. term n ≡ 0) first (nothing 0 (omega arith)) in
      let none1 : term (y * 4 + 1) ≡ 0 = nothing 1 (omega arith) in
      let none2 : term (y * 4 + 2) ≡ 0 = nothing 2 (omega arith) in
      let none3 : term (y * 4 + 3) ≡ 0 = nothing 3 (omega arith) in
      sym ((λ i. four_more s (none0 i) (none1 i) (none2 i) (none3 i)) ∙ four_zeros s) ∙ sum_below-four y term

  pub column_skipped : (y : ℕ) (rows : List ℕ) → ((x b : ℕ) → x < 4 → value (y * 4 + x) b ≡ 0)
      → IsColumnForm len (known_sum factors value (y * 4)) rows → IsColumnForm len (known_sum factors value ((y + 1) * 4)) rows
  column_skipped y rows none form =
      let same = nothing_more y none in
      record {
        all = λ b h. form.all b h ∙ (λ i. bit_xor (bit_xor (same 0 b i) (same 2 b i)) (bit_xor (same 1 b i) (same 3 b i)));
        odd = λ b h. form.odd b h ∙ (λ i. bit_xor (same 1 b i) (same 3 b i));
        high = λ b h. form.high b h ∙ (λ i. bit_xor (same 2 b i) (same 3 b i));
        last = λ b h. form.last b h ∙ same 3 b;
      }

  -- the sums out of their column form
  pub column_ended : (count : ℕ) (before after : List ℕ) → IsColumnForm len (known_sum factors value count) before → EndsColumn len before after
      → (e b : ℕ) → e < 4 → b < len → row_byte len after e b ≡ known_sum factors value count e b
  column_ended count before after form ends e b he hb =
      let s : ℕ → ℕ = λ v. known_sum factors value count v b in
      let P : ℕ → Type 0 = λ v. row_byte len after v b ≡ s v in
      let at0 : P 0 = ends.first b hb
      ∙ (λ i. bit_xor (bit_xor (form.all b hb i) (bit_xor (form.odd b hb i) (form.last b hb i))) (form.high b hb i))
      ∙ ended_first (s 0) (s 1) (s 2) (s 3) in
      let at1 : P 1 = ends.second b hb ∙ (λ i. bit_xor (form.odd b hb i) (form.last b hb i)) ∙ ended_one (s 1) (s 3) in
      let at2 : P 2 = ends.third b hb ∙ (λ i. bit_xor (form.high b hb i) (form.last b hb i)) ∙ ended_one (s 2) (s 3) in
      let at3 : P 3 = ends.fourth b hb ∙ form.last b hb in
      below_four P at0 at1 at2 at3 e he

-- ---- the columns of the nodes

pub record CountsColumns (g : Shape) (nodes count : ℕ) : Type 0 where
  pub four : g.parity_count ≡ 4
  pub nodes_are : nodes ≡ count * 4

-- the columns before the last one
pub last_columns : (g : Shape) (m : ℕ) (factors : List ℕ) (columns : List ColumnFactors) → AreColumns m factors columns → 0 < length columns → IsLastGenerator g m factors
    → CountsColumns g (first_parity g) (length columns)
last_columns g m factors columns are some gen =
    let four : g.parity_count ≡ 4 = sym gen.count ∙ are.four some in
    let places : first_parity g * 4 ≡ length columns * 16 = ap (λ p. first_parity g * p) (sym four) ∙ sym gen.long ∙ are.long some in
    record { four = four; nodes_are = omega arith }

pub before_last : (g : Shape) (count : ℕ) → CountsColumns g (first_parity g) count → column_count g - 1 ≡ count
before_last g count are =
    let grid : first_parity g ≡ 4 * column_count g - 4 = λ i. are.four i * column_count g - are.four i in
    let nodes = are.nodes_are in
    omega arith
