-- A code whose last column has the uncoupled values that the weighted sums ask for.
use Rattle.std.proofs.Common.{◌≡◌, ℕ, zero, suc, subst, ◌+◌, ◌*◌, ◌/◌, ◌%◌, ◌^◌, ◌<◌, cond, nat_lt, eqb, List, length, get_or, set, sym, ap, ◌∙◌, inl, inr, arith, bit_xor, get_or-set_same}
use Rattle.std.proofs.lemmas.Bool.{cases_eq, cond-true, cond-false, lt-ltb, le-ltb, eq-eqb, ne_eqb}
use Rattle.std.proofs.lemmas.Nat.{mod_below, div-mul-add, mod-mul-add}
use Rattle.std.proofs.lemmas.List.{set-set, set-get_or}
use Rattle.std.proofs.Math.Nat.{mul_comm}
use lib.Bits.{xor_assoc, xor_self, xor_zero_r}
use Rattle.clay_field.specs.Field.{product, power_of, quotient}
use Rattle.clay_field.proofs.FieldLaws.{product_zero}
use Rattle.clay_grid.specs.Layers.{IsLayer}
use Rattle.clay_model.specs.Sums.{sum_below, weighted_sum}
use Rattle.clay_model.specs.Coupling.{node_at, uncoupled, HasZeroSums}
use Rattle.clay_model.specs.Pairs.{AreUncoupled}
use Rattle.clay_model.proofs.SumLaws.{sum_below_same, sum_below-zero}
use Rattle.clay_model.proofs.PairLaws.{AreUncoupled-coupled}
use Rattle.clay_model.proofs.Unique.{uncoupled_alone, uncoupled_paired, row_of, node_below}
use Rattle.clay_grid.proofs.LayerLaws.{IsLayer-set}

pub sum_below-add : (a b : ℕ) (f : ℕ → ℕ) → sum_below (a + b) f ≡ bit_xor (sum_below a f) (sum_below b (λ e. f (a + e)))
sum_below-add a zero f =
    let e : a + 0 ≡ a = omega arith in
    ap (λ n. sum_below n f) e ∙ sym (xor_zero_r (sum_below a f))
sum_below-add a (suc b) f =
    let e : a + suc b ≡ suc (a + b) = omega arith in
    ap (λ n. sum_below n f) e
    ∙ ap (λ v. bit_xor v (f (a + b))) (sum_below-add a b f)
    ∙ xor_assoc (sum_below a f) (sum_below b (λ e. f (a + e))) (f (a + b))

-- the coupled value of row x of column s, from the uncoupled values of that column
abbrev pub coupled_row : ℕ → (ℕ → List ℕ → ℕ) → ℕ → List ℕ → ℕ
coupled_row s u x z = cond (eqb (get_or z s 0) x) (u x z) (quotient (bit_xor (u x z) (product 2 (u (get_or z s 0) (set z s x)))) 5)

-- the uncoupled values of the columns below s, where the others are left out
abbrev pub below_column : ℕ → ℕ → (ℕ → List ℕ → ℕ) → List ℕ → ℕ → ℕ
below_column q s d z i = cond (nat_lt i (q * s)) (uncoupled q d (i % q) (i / q) z) 0

-- a code c whose columns below s are those of d, and whose last column s has the uncoupled values u
pub record IsFilled (q s t m : ℕ) (d u c : ℕ → List ℕ → ℕ) : Type 0 where
  pub rows : 0 < q
  pub columns : t ≡ suc s
  pub bytes : (x : ℕ) (z : List ℕ) → u x z < 2 ^ 8
  pub before : (i : ℕ) (z : List ℕ) → i < q * s → IsLayer q t z → c i z ≡ d i z
  pub last : (x : ℕ) (z : List ℕ) → x < q → IsLayer q t z → c (node_at q x s) z ≡ coupled_row s u x z
  pub solved : (z : List ℕ) (j : ℕ) → IsLayer q t z → j < m
      → sum_below q (λ e. product (power_of (q * s + e) j) (u e z)) ≡ weighted_sum (q * t) (below_column q s d z) j

module _ (q s t m : ℕ) (d u c : ℕ → List ℕ → ℕ) (f : IsFilled q s t m d u c) where
  uncoupled_before : (x y : ℕ) (z : List ℕ) → x < q → y < s → IsLayer q t z → uncoupled q c x y z ≡ uncoupled q d x y z
  uncoupled_before x y z hx hy layer =
      let within : y < t = omega (arith, f.columns) in
      let digit : get_or z y 0 < q = layer.digits y within in
      let own : c (node_at q x y) z ≡ d (node_at q x y) z = f.before (node_at q x y) z (node_below q s x y hx hy) layer in
      let partner : c (node_at q (get_or z y 0) y) (set z y x) ≡ d (node_at q (get_or z y 0) y) (set z y x) =
      f.before (node_at q (get_or z y 0) y) (set z y x) (node_below q s (get_or z y 0) y digit hy) (IsLayer-set q t z y x hx within layer) in
      λ i. cond (eqb (get_or z y 0) x) (own i) (bit_xor (own i) (product 2 (partner i)))

  uncoupled_last : (x : ℕ) (z : List ℕ) → x < q → IsLayer q t z → uncoupled q c x s z ≡ u x z
  uncoupled_last x z hx layer =
      let e : ℕ = get_or z s 0 in
      let column : s < t = omega (arith, f.columns) in
      let he : e < q = layer.digits s column in
      let within : s < length z = subst (λ n. s < n) (sym layer.long) column in
      let digit : get_or (set z s x) s 0 ≡ x = get_or-set_same z s x 0 within in
      let back : set (set z s x) s e ≡ z = set-set z s x e ∙ set-get_or z s 0 in
      elim (cases_eq e x) [
        | inl same ↦ uncoupled_alone q c x s z same ∙ f.last x z hx layer ∙ cond-true _ _ _ (eq-eqb e x same)
        | inr other ↦
            let own : c (node_at q x s) z ≡ quotient (bit_xor (u x z) (product 2 (u e (set z s x)))) 5 =
            f.last x z hx layer ∙ cond-false _ _ _ (ne_eqb e x other) in
            let partner : c (node_at q e s) (set z s x) ≡ quotient (bit_xor (u e (set z s x)) (product 2 (u x z))) 5 =
            f.last e (set z s x) he (IsLayer-set q t z s x hx column layer)
            ∙ cond-false _ _ _ (ne_eqb (get_or (set z s x) s 0) e (λ k. other (sym k ∙ digit)))
            ∙ (λ i. quotient (bit_xor (u e (set z s x)) (product 2 (u (digit i) (back i)))) 5) in
            let pair : AreUncoupled (c (node_at q x s) z) (c (node_at q e s) (set z s x)) (u x z) (u e (set z s x)) =
            AreUncoupled-coupled (c (node_at q x s) z) (c (node_at q e s) (set z s x)) (u x z) (u e (set z s x)) (f.bytes x z) (f.bytes e (set z s x)) (record { own = own; partner = partner }) in
            uncoupled_paired q c x s z other ∙ sym pair.own
      ]

  before_node : (z : List ℕ) (i : ℕ) → IsLayer q t z → i < q * s → uncoupled q c (i % q) (i / q) z ≡ below_column q s d z i
  before_node z i layer low =
      uncoupled_before (i % q) (i / q) z (mod_below i q f.rows) (row_of q s i f.rows low) layer
      ∙ sym (cond-true (nat_lt i (q * s)) (uncoupled q d (i % q) (i / q) z) 0 (lt-ltb i (q * s) low))

  last_node : (z : List ℕ) (e : ℕ) → IsLayer q t z → e < q → uncoupled q c ((q * s + e) % q) ((q * s + e) / q) z ≡ u e z
  last_node z e layer h =
      let turned : q * s + e ≡ s * q + e = ap (λ n. n + e) (mul_comm q s) in
      (λ i. uncoupled q c ((ap (λ n. n % q) turned ∙ mod-mul-add s q e h) i) ((ap (λ n. n / q) turned ∙ div-mul-add s q e h) i) z)
      ∙ uncoupled_last e z h layer

  -- its weighted sums are zero
  pub filled_sums : HasZeroSums q t m c
  filled_sums z layer j h =
      let whole : q * t ≡ q * s + q = ap (λ n. q * n) f.columns ∙ omega arith in
      let g : ℕ → ℕ = λ i. product (power_of i j) (uncoupled q c (i % q) (i / q) z) in
      let k : ℕ → ℕ = λ i. product (power_of i j) (below_column q s d z i) in
      let a : ℕ = sum_below (q * s) k in
      let b : ℕ = sum_below q (λ e. product (power_of (q * s + e) j) (u e z)) in
      let front : sum_below (q * s) g ≡ a = sum_below_same (q * s) g k (λ i l. ap (product (power_of i j)) (before_node z i layer l)) in
      let back : sum_below q (λ e. g (q * s + e)) ≡ b =
      sum_below_same q (λ e. g (q * s + e)) (λ e. product (power_of (q * s + e) j) (u e z)) (λ e l. ap (product (power_of (q * s + e) j)) (last_node z e layer l)) in
      let nothing : sum_below q (λ e. k (q * s + e)) ≡ 0 =
      sum_below-zero q (λ e. k (q * s + e)) (λ e l.
      ap (product (power_of (q * s + e) j)) (cond-false (nat_lt (q * s + e) (q * s)) (uncoupled q d ((q * s + e) % q) ((q * s + e) / q) z) 0 (le-ltb (q * s + e) (q * s) (omega arith)))
      ∙ product_zero (power_of (q * s + e) j)) in
      let sums : weighted_sum (q * t) (below_column q s d z) j ≡ a =
      ap (λ n. sum_below n k) whole ∙ sum_below-add (q * s) q k ∙ ap (bit_xor a) nothing ∙ xor_zero_r a in
      ap (λ n. sum_below n g) whole
      ∙ sum_below-add (q * s) q g
      ∙ (λ i. bit_xor (front i) (back i))
      ∙ ap (bit_xor a) (f.solved z j layer h ∙ sums)
      ∙ xor_self a
