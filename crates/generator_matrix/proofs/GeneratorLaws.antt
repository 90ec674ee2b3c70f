-- Values that a fixed matrix gives have the sums of the values that they are made from.
-- A known node's factor in an unknown one's value is the product of its distances from the other unknown nodes, over that of the unknown
-- node's own (lagrange_factor). Values whose sums are a node's powers exist (solution). With each point's distances from all points but
-- one they have the node's powers times its own such distances as sums, by an induction on the points (weighed_sums; one distance more is
-- shifted_sums). By then the terms of all other points are zero, so the values are these quotients (lagrange_sums), without a
-- polynomial's coefficients. Sums are linear, so whatever the known values are, the values that the matrix makes of them have their sums
-- (Generates). In decoding, values with the sums of the present ones are those of any codeword that agrees (erased_values_solved), so no
-- step after the matrix speaks of sums.
use Rattle.std.proofs.Common.{◌≡◌, ℕ, zero, suc, ◌+◌, ◌*◌, ◌/◌, ◌%◌, ◌^◌, ◌<◌, ◌≤◌, List, length, get_or, refl, inl, inr, subst, sym, ap, ◌∙◌, arith, bit_xor}
use Rattle.std.proofs.lemmas.Nat.{mod_below, div_below, mul-add-lt, div-mul-add, mod-mul-add}
use Rattle.std.proofs.lemmas.Bool.{cases_lt}
use Rattle.std.proofs.Math.Nat.{mul_comm}
use Rattle.clay_field.specs.Field.{product, power_of}
use Rattle.clay_field.proofs.FieldLaws.{product_assoc, product_comm}
use Rattle.clay_model.specs.Sums.{sum_below, weighted_sum}
use Rattle.clay_model.proofs.SumLaws.{sum_below_same, sum_below-xor, sum_below-product, sum_below-zero}
use Rattle.clay_model.specs.Points.{AreDistinct, sum_over}
use Rattle.generator_matrix.specs.Distances.{lagrange_factor}
use Rattle.generator_matrix.specs.Generated.{factor_at, generated, Generates}
use Rattle.generator_matrix.proofs.DistanceLaws.{lagrange_sums}

-- a place of the matrix by columns, in the one by rows, of which each has w values for n nodes and more
pub turned_below : (m n w p : ℕ) → n ≤ w → p < m * n → p % m * w + p / m < m * w
turned_below m n w p wide h =
    let some : 0 < m = elim (cases_lt 0 m) [
      | inl some_rows ↦ some_rows
      | inr none ↦
          let zero_rows : m ≡ 0 = omega arith in
          let empty : m * n ≡ 0 * n = ap (λ x. x * n) zero_rows in
          absurd (omega arith)
    ] in
    let turn : m * n ≡ n * m = mul_comm m n in
    let row : p % m < m = mod_below p m some in
    let column : p / m < n = div_below p m n some (omega arith) in
    let inside = mul-add-lt (p % m) w (p / m) m row (omega arith) in
    let back : w * m ≡ m * w = mul_comm w m in
    omega arith

sum_below-swap : (n m : ℕ) (h : ℕ → ℕ → ℕ) → sum_below n (λ j. sum_below m (h j)) ≡ sum_below m (λ i. sum_below n (λ j. h j i))
sum_below-swap zero m h = sym (sum_below-zero m (λ i. 0) (λ i l. refl))
sum_below-swap (suc n) m h =
    ap (λ x. bit_xor x (sum_below m (h n))) (sum_below-swap n m h)
    ∙ sym (sum_below-xor m (λ i. sum_below n (λ j. h j i)) (h n))

-- where each column of the matrix has the sums of its node, the generated values have those of the known ones
pub generated_sums : (unknown known factors : List ℕ)
    → ((i j : ℕ) → i < length known → j < length unknown → sum_over unknown (factor_at factors (length unknown) i) j ≡ power_of (get_or known i 0) j)
    → Generates unknown known factors
generated_sums unknown known factors each f j hj =
    let m = length unknown in
    let n = length known in
    let p : ℕ → ℕ = λ e. power_of (get_or unknown e 0) j in
    let term : ℕ → ℕ → ℕ = λ e i. product (p e) (product (factor_at factors m i e) (f i)) in
    sum_below_same m _ (λ e. sum_below n (term e)) (λ e h. sym (sum_below-product n (p e) (λ i. product (factor_at factors m i e) (f i))))
    ∙ sum_below-swap m n term
    ∙ sum_below_same n _ (λ i. product (power_of (get_or known i 0) j) (f i))
    (λ i h.
    sum_below_same m (λ e. term e i) (λ e. product (f i) (product (p e) (factor_at factors m i e)))
    (λ e l. sym (product_assoc (p e) (factor_at factors m i e) (f i)) ∙ product_comm (product (p e) (factor_at factors m i e)) (f i))
    ∙ sum_below-product m (f i) (λ e. product (p e) (factor_at factors m i e))
    ∙ product_comm (f i) (sum_over unknown (factor_at factors m i) j)
    ∙ ap (λ x. product x (f i)) (each i j h hj))

-- the matrix of the factors by distances, of which each row has those of all nodes and of zeros behind them, turned
pub turned_generates : (unknown known nodes values factors : List ℕ) → AreDistinct unknown → ((e : ℕ) → get_or unknown e 0 < 2 ^ 8)
    → length known ≤ length nodes → ((i : ℕ) → i < length known → get_or nodes i 0 ≡ get_or known i 0)
    → ((p : ℕ) → p < length unknown * length nodes → get_or values p 0 ≡ lagrange_factor unknown (p / length nodes) (get_or nodes (p % length nodes) 0))
    → ((p : ℕ) → p < length unknown * length known → get_or factors p 0 ≡ get_or values (p % length unknown * length nodes + p / length unknown) 0)
    → Generates unknown known factors
turned_generates unknown known nodes values factors distinct bytes wide same made turned =
    let m = length unknown in
    let n = length known in
    let w = length nodes in
    generated_sums unknown known factors (λ i j hi hj.
    lagrange_sums unknown (get_or known i 0) (factor_at factors m i) distinct bytes
    (λ e h.
    let place = mul-add-lt i m e n hi h in
    let inside = mul-add-lt e w i m h (omega arith) in
    let turn : w * m ≡ m * w = mul_comm w m in
    let within : i < w = omega arith in
    turned (i * m + e) (omega arith)
    ∙ (λ t. get_or values (mod-mul-add i m e h t * w + div-mul-add i m e h t) 0)
    ∙ made (e * w + i) (omega arith)
    ∙ (λ t. lagrange_factor unknown (div-mul-add e w i within t) (get_or nodes (mod-mul-add e w i within t) 0))
    ∙ ap (lagrange_factor unknown e) (same i hi))
    j hj)

-- the law at the last column
pub last_generates : (first m : ℕ) (unknown known factors : List ℕ) → length unknown ≡ m → length known ≡ first
    → ((e : ℕ) → e < m → get_or unknown e 0 ≡ first + e) → ((i : ℕ) → i < first → get_or known i 0 ≡ 0 + i)
    → Generates unknown known factors → (f : ℕ → ℕ) (j : ℕ) → j < m
    → sum_below m (λ e. product (power_of (first + e) j) (generated factors m first f e)) ≡ weighted_sum first f j
last_generates first m unknown known factors um kn unknowns knowns generates f j hj =
    sum_below_same m _ (λ e. product (power_of (get_or unknown e 0) j) (generated factors (length unknown) (length known) f e))
    (λ e h i. product (power_of (sym (unknowns e h) i) j) (generated factors (sym um i) (sym kn i) f e))
    ∙ ap (λ c. sum_below c (λ e. product (power_of (get_or unknown e 0) j) (generated factors (length unknown) (length known) f e))) (sym um)
    ∙ generates f j (subst (λ c. j < c) (sym um) hj)
    ∙ ap (λ c. sum_below c (λ i. product (power_of (get_or known i 0) j) (f i))) kn
    ∙ sum_below_same first _ (λ i. product (power_of i j) (f i)) (λ i h. ap (λ p. product (power_of p j) (f i)) (knowns i h ∙ omega arith))

-- the law where all nodes are known
pub all_generates : (n : ℕ) (unknown known factors : List ℕ) → length known ≡ n → ((i : ℕ) → i < n → get_or known i 0 ≡ 0 + i)
    → Generates unknown known factors → (f : ℕ → ℕ) (j : ℕ) → j < length unknown
    → sum_over unknown (generated factors (length unknown) n f) j ≡ weighted_sum n f j
all_generates n unknown known factors long knowns generates f j hj =
    ap (λ c. sum_over unknown (generated factors (length unknown) c f) j) (sym long)
    ∙ generates f j hj
    ∙ ap (λ c. sum_below c (λ i. product (power_of (get_or known i 0) j) (f i))) long
    ∙ sum_below_same n _ (λ i. product (power_of i j) (f i)) (λ i h. ap (λ p. product (power_of p j) (f i)) (knowns i h ∙ omega arith))
