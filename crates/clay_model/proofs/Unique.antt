-- Two codes that agree at all but m nodes agree.
-- Values that are nonzero at no more than M nodes and whose first M weighted sums are zero are zero: an induction on the last node with
-- (i + n) f(i) in place of f(i). Codewords follow by an induction on the score of layers, and then for chunks, counting past the virtual
-- nodes. No polynomials are used.
use Rattle.std.proofs.Common.{◌≡◌, ◌≢◌, ℕ, zero, suc, subst, ◌*◌, ◌/◌, ◌%◌, ◌^◌, ◌<◌, ◌≤◌, Bool, true, false, List, length, get_or, set, refl, sym, ap, ◌∙◌, inl, inr, arith, lit<, bit_xor, get_or-set_same, get_or-set_other}
use Rattle.std.proofs.lemmas.Bool.{cases_eq, cases_Bool, eq-eqb, ne_eqb}
use Rattle.std.proofs.lemmas.Nat.{xor_lt, mod_below, div_below, mul-add-lt, div-mul-add, mod-mul-add, div-add-mod'}
use Rattle.std.proofs.lemmas.List.{set-set, set-get_or}
use Rattle.std.proofs.Math.Nat.{mul_comm}
use lib.Bits.{xor_self, xor_zero_r}
use Rattle.clay_field.specs.Field.{product, power_of, sum_of_copies, remainder}
use Rattle.clay_field.proofs.Additive.{xor_swap}
use Rattle.clay_field.proofs.FieldLaws.{product_lt, product_assoc, product_zero, one_product, product_add_left, product_add_right}
use Rattle.clay_field.proofs.Inverses.{zero_factor}
use Rattle.clay_model.specs.Coupling.{node_at, uncoupled, HasZeroSums}
use Rattle.clay_grid.specs.Layers.{IsLayer}
use Rattle.clay_grid.proofs.LayerLaws.{IsLayer-set}
use Rattle.clay_grid.specs.Score.{count_below}
use Rattle.clay_grid.proofs.Counting.{count_below_same}
use Rattle.clay_model.proofs.SumLaws.{one_if, equal_from_sum, sum_below_same, sum_below-xor, IsBalanced, all_zero}

-- ---- the vertices of a pair

pub uncoupled_alone : (q : ℕ) (c : ℕ → List ℕ → ℕ) (x y : ℕ) (z : List ℕ) → get_or z y 0 ≡ x → uncoupled q c x y z ≡ c (node_at q x y) z
uncoupled_alone q c x y z same = rw (eq-eqb (get_or z y 0) x same) refl

pub uncoupled_paired : (q : ℕ) (c : ℕ → List ℕ → ℕ) (x y : ℕ) (z : List ℕ) → get_or z y 0 ≢ x → uncoupled q c x y z ≡ bit_xor (c (node_at q x y) z) (product 2 (c (node_at q (get_or z y 0) y) (set z y x)))
uncoupled_paired q c x y z other = rw (ne_eqb (get_or z y 0) x other) refl

pub uncoupled_partner : (q : ℕ) (c : ℕ → List ℕ → ℕ) (x y : ℕ) (z : List ℕ) → y < length z → get_or z y 0 ≢ x → uncoupled q c (get_or z y 0) y (set z y x) ≡ bit_xor (c (node_at q (get_or z y 0) y) (set z y x)) (product 2 (c (node_at q x y) z))
uncoupled_partner q c x y z within other =
    let digit : get_or (set z y x) y 0 ≡ x = get_or-set_same z y x 0 within in
    let back : set (set z y x) y (get_or z y 0) ≡ z = set-set z y x (get_or z y 0) ∙ set-get_or z y 0 in
    uncoupled_paired q c (get_or z y 0) y (set z y x) (λ e. other (sym e ∙ digit))
    ∙ (λ i. bit_xor (c (node_at q (get_or z y 0) y) (set z y x)) (product 2 (c (node_at q (digit i) y) (back i))))

-- ---- the score of a layer

abbrev pub score : ℕ → ℕ → (ℕ → Bool) → List ℕ → ℕ
score q t erased z = count_below t (λ y. erased (node_at q (get_or z y 0) y))

-- one place fewer passes
count_below_less : (n y : ℕ) (f g : ℕ → Bool) → y < n → f y ≡ false → g y ≡ true → ((i : ℕ) → i ≢ y → f i ≡ g i) → suc (count_below n f) ≡ count_below n g
count_below_less zero y f g h ff gt each = absurd (omega arith)
count_below_less (suc n) y f g h ff gt each =
    elim (cases_eq y n) [
      | inl same ↦
          let rest : count_below n f ≡ count_below n g = count_below_same n f g (λ i l. each i (λ e. omega arith)) in
          let low : one_if (f n) ≡ 0 = ap one_if (ap f (sym same) ∙ ff) in
          let high : one_if (g n) ≡ 1 = ap one_if (ap g (sym same) ∙ gt) in
          omega arith
      | inr other ↦
          let rest : suc (count_below n f) ≡ count_below n g = count_below_less n y f g (omega (arith, other)) ff gt each in
          let last : one_if (f n) ≡ one_if (g n) = ap one_if (each n (λ e. other (sym e))) in
          omega arith
    ]

pub score_of_partner : (q t : ℕ) (erased : ℕ → Bool) (x y : ℕ) (z : List ℕ) → y < t → length z ≡ t → erased (node_at q x y) ≡ false → erased (node_at q (get_or z y 0) y) ≡ true → suc (score q t erased (set z y x)) ≡ score q t erased z
score_of_partner q t erased x y z hy long present missing =
    count_below_less t y (λ v. erased (node_at q (get_or (set z y x) v 0) v)) (λ v. erased (node_at q (get_or z v 0) v)) hy
    (ap (λ d. erased (node_at q d y)) (get_or-set_same z y x 0 (subst (λ n. y < n) (sym long) hy)) ∙ present)
    missing
    (λ v other. ap (λ d. erased (node_at q d v)) (get_or-set_other z y v x 0 other))

-- ---- a code that is zero at all but m nodes is zero

-- what is known of a code: its bytes, its sums, and that it is zero at the nodes that are not erased
pub record IsNull (q t m : ℕ) (erased : ℕ → Bool) (c : ℕ → List ℕ → ℕ) : Type 0 where
  pub bytes : (i : ℕ) (z : List ℕ) → c i z < 2 ^ 8
  pub present : (i : ℕ) (z : List ℕ) → i < q * t → IsLayer q t z → erased i ≡ false → c i z ≡ 0
  pub sums : HasZeroSums q t m c
  pub few : count_below (q * t) erased ≤ m
  pub small : q * t ≤ 2 ^ 8
  pub rows : 0 < q

two_times_zero : (a b : ℕ) → a ≡ 0 → b ≡ 0 → bit_xor a (product 2 b) ≡ 0
two_times_zero a b p q = (λ i. bit_xor (p i) (product 2 (q i))) ∙ product_zero 2

pub row_of : (q t i : ℕ) → 0 < q → i < q * t → i / q < t
row_of q t i hq h = div_below i q t hq (subst (λ n. i < n) (mul_comm q t) h)

pub node_below : (q t x y : ℕ) → x < q → y < t → node_at q x y < q * t
node_below q t x y hx hy = mul-add-lt y q x t hy hx

pub uncoupled_byte : (q : ℕ) (c : ℕ → List ℕ → ℕ) → ((i : ℕ) (z : List ℕ) → c i z < 2 ^ 8) → (x y : ℕ) (z : List ℕ) → uncoupled q c x y z < 2 ^ 8
uncoupled_byte q c bytes x y z =
    elim (cases_eq (get_or z y 0) x) [
      | inl same ↦ subst (λ v. v < 2 ^ 8) (sym (uncoupled_alone q c x y z same)) (bytes (node_at q x y) z)
      | inr other ↦ subst (λ v. v < 2 ^ 8) (sym (uncoupled_paired q c x y z other))
          (xor_lt 8 _ _ (bytes (node_at q x y) z) (product_lt 2 (c (node_at q (get_or z y 0) y) (set z y x))))
    ]

-- at a node that is not erased, where the layers of a lower score are zero
present_zero : (q t m : ℕ) (erased : ℕ → Bool) (c : ℕ → List ℕ → ℕ) → IsNull q t m erased c → (z : List ℕ) → IsLayer q t z
    → ((w : List ℕ) → IsLayer q t w → score q t erased w < score q t erased z → (x y : ℕ) → x < q → y < t → uncoupled q c x y w ≡ 0)
    → (x y : ℕ) → x < q → y < t → erased (node_at q x y) ≡ false → uncoupled q c x y z ≡ 0
present_zero q t m erased c null z layer lower x y hx hy here =
    let own : c (node_at q x y) z ≡ 0 = null.present (node_at q x y) z (node_below q t x y hx hy) layer here in
    let d : ℕ = get_or z y 0 in
    let hd : d < q = layer.digits y hy in
    let w : List ℕ = set z y x in
    let other_layer : IsLayer q t w = IsLayer-set q t z y x hx hy layer in
    elim (cases_eq d x) [
      | inl same ↦ uncoupled_alone q c x y z same ∙ own
      | inr other ↦
          let partner : c (node_at q d y) w ≡ 0 =
          elim (cases_Bool (erased (node_at q d y))) [
            | inl missing ↦
                let less : suc (score q t erased w) ≡ score q t erased z = score_of_partner q t erased x y z hy layer.long here missing in
                sym (xor_zero_r (c (node_at q d y) w))
                ∙ ap (bit_xor (c (node_at q d y) w)) (sym (ap (product 2) own ∙ product_zero 2))
                ∙ sym (uncoupled_partner q c x y z (subst (λ n. y < n) (sym layer.long) hy) other)
                ∙ lower w other_layer (omega (arith, less)) d y hd hy
            | inr there ↦ null.present (node_at q d y) w (node_below q t d y hd hy) other_layer there
          ] in
          uncoupled_paired q c x y z other ∙ two_times_zero _ _ own partner
    ]

-- each uncoupled value of a layer of score below s
layers_zero : (s q t m : ℕ) (erased : ℕ → Bool) (c : ℕ → List ℕ → ℕ) → IsNull q t m erased c
    → (z : List ℕ) → IsLayer q t z → score q t erased z < s → (x y : ℕ) → x < q → y < t → uncoupled q c x y z ≡ 0
layers_zero zero q t m erased c null z layer low x y hx hy = absurd (omega arith)
layers_zero (suc s) q t m erased c null z layer low x y hx hy =
    let lower = present_zero q t m erased c null z layer (λ w l h. layers_zero s q t m erased c null w l (omega arith)) in
    let f : ℕ → ℕ = λ i. uncoupled q c (i % q) (i / q) z in
    let balanced : IsBalanced (q * t) m erased f = record {
      bytes = λ i. uncoupled_byte q c null.bytes (i % q) (i / q) z;
      elsewhere = λ i h out. lower (i % q) (i / q) (mod_below i q null.rows) (row_of q t i null.rows h) (ap erased (div-add-mod' i q) ∙ out);
      sums = λ j h. null.sums z layer j h;
    } in
    let zero_here : f (node_at q x y) ≡ 0 = all_zero (q * t) m erased f null.small null.few balanced (node_at q x y) (node_below q t x y hx hy) in
    (λ i. uncoupled q c (sym (mod-mul-add y q x hx) i) (sym (div-mul-add y q x hx) i) z) ∙ zero_here

coupled_zero : (q : ℕ) (c : ℕ → List ℕ → ℕ) (x y : ℕ) (z : List ℕ) → y < length z → ((i : ℕ) (w : List ℕ) → c i w < 2 ^ 8)
    → uncoupled q c x y z ≡ 0 → uncoupled q c (get_or z y 0) y (set z y x) ≡ 0 → c (node_at q x y) z ≡ 0
unfolding product remainder sum_of_copies
coupled_zero q c x y z within bytes first second =
    elim (cases_eq (get_or z y 0) x) [
      | inl same ↦ sym (uncoupled_alone q c x y z same) ∙ first
      | inr other ↦
          let a : ℕ = c (node_at q x y) z in
          let b : ℕ = c (node_at q (get_or z y 0) y) (set z y x) in
          let a_is : a ≡ product 2 b = equal_from_sum a (product 2 b) (sym (uncoupled_paired q c x y z other) ∙ first) in
          let five : product 5 b ≡ 0 =
          product_add_left 1 4 b
          ∙ (λ i. bit_xor (one_product b (bytes (node_at q (get_or z y 0) y) (set z y x)) i) (product_assoc 2 2 b i))
          ∙ ap (λ v. bit_xor b (product 2 v)) (sym a_is)
          ∙ sym (uncoupled_partner q c x y z within other)
          ∙ second in
          let b_zero : b ≡ 0 = zero_factor 5 b (lit< tt) (bytes (node_at q (get_or z y 0) y) (set z y x)) (λ e. omega arith) five in
          a_is ∙ ap (product 2) b_zero ∙ product_zero 2
    ]

-- A code that is zero at all but m nodes is zero.
pub null_code : (q t m : ℕ) (erased : ℕ → Bool) (c : ℕ → List ℕ → ℕ) → IsNull q t m erased c
    → (x y : ℕ) (z : List ℕ) → x < q → y < t → IsLayer q t z → c (node_at q x y) z ≡ 0
null_code q t m erased c null x y z hx hy layer =
    let each = layers_zero (suc (score q t erased z)) q t m erased c null in
    let high : (w : List ℕ) → IsLayer q t w → (u v : ℕ) → u < q → v < t → uncoupled q c u v w ≡ 0 =
    λ w l u v hu hv. layers_zero (suc (score q t erased w)) q t m erased c null w l (omega arith) u v hu hv in
    coupled_zero q c x y z (subst (λ n. y < n) (sym layer.long) hy) null.bytes
    (high z layer x y hx hy)
    (high (set z y x) (IsLayer-set q t z y x hx hy layer) (get_or z y 0) y (layer.digits y hy) hy)

-- ---- the difference of two codes

uncoupled-xor : (q : ℕ) (a b : ℕ → List ℕ → ℕ) (x y : ℕ) (z : List ℕ)
    → uncoupled q (λ i w. bit_xor (a i w) (b i w)) x y z ≡ bit_xor (uncoupled q a x y z) (uncoupled q b x y z)
uncoupled-xor q a b x y z =
    elim (cases_eq (get_or z y 0) x) [
      | inl same ↦ uncoupled_alone q (λ i w. bit_xor (a i w) (b i w)) x y z same ∙ sym (λ i. bit_xor (uncoupled_alone q a x y z same i) (uncoupled_alone q b x y z same i))
      | inr other ↦
          let n : ℕ = node_at q x y in
          let p : ℕ = node_at q (get_or z y 0) y in
          let w : List ℕ = set z y x in
          uncoupled_paired q (λ i w. bit_xor (a i w) (b i w)) x y z other
          ∙ ap (bit_xor (bit_xor (a n z) (b n z))) (product_add_right 2 (a p w) (b p w))
          ∙ xor_swap (a n z) (b n z) (product 2 (a p w)) (product 2 (b p w))
          ∙ sym (λ i. bit_xor (uncoupled_paired q a x y z other i) (uncoupled_paired q b x y z other i))
    ]

-- Two codes whose weighted sums are zero and that agree at all but m nodes agree everywhere.
pub same_codes : (q t m : ℕ) (erased : ℕ → Bool) (a b : ℕ → List ℕ → ℕ) → 0 < q → q * t ≤ 2 ^ 8 → count_below (q * t) erased ≤ m
    → ((i : ℕ) (z : List ℕ) → a i z < 2 ^ 8) → ((i : ℕ) (z : List ℕ) → b i z < 2 ^ 8)
    → HasZeroSums q t m a → HasZeroSums q t m b
    → ((i : ℕ) (z : List ℕ) → i < q * t → IsLayer q t z → erased i ≡ false → a i z ≡ b i z)
    → (x y : ℕ) (z : List ℕ) → x < q → y < t → IsLayer q t z → a (node_at q x y) z ≡ b (node_at q x y) z
same_codes q t m erased a b rows small few abytes bbytes asums bsums agree x y z hx hy layer =
    let c : ℕ → List ℕ → ℕ = λ i w. bit_xor (a i w) (b i w) in
    let null : IsNull q t m erased c = record {
      bytes = λ i w. xor_lt 8 (a i w) (b i w) (abytes i w) (bbytes i w);
      present = λ i w h l here. ap (λ v. bit_xor v (b i w)) (agree i w h l here) ∙ xor_self (b i w);
      sums = λ w l j h.
          sum_below_same (q * t) _ (λ i. bit_xor (product (power_of i j) (uncoupled q a (i % q) (i / q) w)) (product (power_of i j) (uncoupled q b (i % q) (i / q) w)))
          (λ i k. ap (product (power_of i j)) (uncoupled-xor q a b (i % q) (i / q) w)
          ∙ product_add_right (power_of i j) (uncoupled q a (i % q) (i / q) w) (uncoupled q b (i % q) (i / q) w))
          ∙ sum_below-xor (q * t) (λ i. product (power_of i j) (uncoupled q a (i % q) (i / q) w)) (λ i. product (power_of i j) (uncoupled q b (i % q) (i / q) w))
          ∙ (λ k. bit_xor (asums w l j h k) (bsums w l j h k));
      few = few;
      small = small;
      rows = rows;
    } in
    equal_from_sum (a (node_at q x y) z) (b (node_at q x y) z) (null_code q t m erased c null x y z hx hy layer)
