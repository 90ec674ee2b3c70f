-- Any values at the nodes that are known in the layers of which one digit is given are those of a code: the lost node's values follow
-- from these layers alone, and the code that has both is filled up elsewhere.
use Rattle.std.proofs.Common.{◌≡◌, ◌≢◌, ℕ, zero, suc, subst, ◌*◌, ◌/◌, ◌%◌, ◌^◌, ◌<◌, ◌≤◌, Bool, false, cond, eqb, List, length, get_or, set, refl, sym, ap, ◌∙◌, inl, inr, arith, lit<, bit_xor, get_or-set_same, get_or-set_other}
use Rattle.std.proofs.lemmas.Bool.{cases_eq, cases_Bool, cond-true, cond-false, cond_both, eq-eqb, ne_eqb}
use Rattle.std.proofs.lemmas.Nat.{xor_comm, xor_lt, mod_below, div-mul-add, mod-mul-add, div-add-mod'}
use Rattle.std.proofs.lemmas.List.{set-set, set-get_or}
use lib.Bits.{xor_assoc, xor_self, xor_zero_r}
use Rattle.clay_field.specs.Field.{product, power_of, quotient, inverse_of}
use Rattle.clay_field.proofs.FieldLaws.{product_lt, product_comm, one_product, product_add_right}
use Rattle.clay_field.proofs.Inverses.{product-inverse_of}
use Rattle.clay_grid.specs.Layers.{IsLayer}
use Rattle.clay_grid.specs.Score.{count_below}
use Rattle.clay_grid.proofs.LayerLaws.{IsLayer-set}
use Rattle.clay_model.specs.Sums.{weighted_sum}
use Rattle.clay_model.specs.Coupling.{node_at, uncoupled, HasZeroSums}
use Rattle.clay_model.specs.Pairs.{AreUncoupled}
use Rattle.clay_model.proofs.SumLaws.{equal_from_sum, sum_below_same, sum_below-xor, product_swap, all_zero}
use Rattle.clay_model.proofs.PairLaws.{AreCoupled-uncoupled}
use Rattle.clay_model.proofs.Unique.{score, score_of_partner, uncoupled_alone, uncoupled_paired, uncoupled_partner, uncoupled_byte, row_of, node_below}
use Rattle.clay_model.specs.Erased.{erased_below}
use Rattle.code_laws.proofs.Nodes.{length-erased_below}
use Rattle.clay_aloof.specs.Filled.{Fills}
use Rattle.clay_aloof.proofs.Filled.{codes_filled}

-- ---- bytes

cancelled : (a b : ℕ) → bit_xor (bit_xor a b) b ≡ a
cancelled a b = xor_assoc a b b ∙ ap (bit_xor a) (xor_self b) ∙ xor_zero_r a

-- a sum less its second part
cancelled_second : (a b : ℕ) → bit_xor a (bit_xor b a) ≡ b
cancelled_second a b = xor_comm a (bit_xor b a) ∙ cancelled b a

double_half : (a : ℕ) → a < 2 ^ 8 → product 2 (quotient a 2) ≡ a
double_half a h =
    product_swap 2 a (inverse_of 2)
    ∙ ap (product a) (product-inverse_of 2 (lit< tt) (λ e. omega arith))
    ∙ product_comm a 1
    ∙ one_product a h

-- values with zero sums that are equal at all but m nodes are equal
same_values : (n m : ℕ) (erased : List Bool) (a b : ℕ → ℕ) → n ≤ 2 ^ 8 → length (erased_below erased n) ≡ m → ((i : ℕ) → a i < 2 ^ 8) → ((i : ℕ) → b i < 2 ^ 8)
    → ((j : ℕ) → j < m → weighted_sum n a j ≡ 0) → ((j : ℕ) → j < m → weighted_sum n b j ≡ 0)
    → ((i : ℕ) → i < n → get_or erased i false ≡ false → a i ≡ b i) → (i : ℕ) → i < n → a i ≡ b i
same_values n m erased a b small count abytes bbytes asums bsums same i h =
    let few : count_below n (λ i. get_or erased i false) ≤ m = subst (λ c. c ≤ m) (length-erased_below erased n) (omega (arith, count)) in
    equal_from_sum (a i) (b i)
    (all_zero n m (λ i. get_or erased i false) (λ i. bit_xor (a i) (b i)) small few (record {
      bytes = λ i. xor_lt 8 (a i) (b i) (abytes i) (bbytes i);
      elsewhere = λ i l there. ap (λ v. bit_xor v (b i)) (same i l there) ∙ xor_self (b i);
      sums = λ j l.
          sum_below_same n _ (λ i. bit_xor (product (power_of i j) (a i)) (product (power_of i j) (b i))) (λ i k. product_add_right (power_of i j) (a i) (b i))
          ∙ sum_below-xor n (λ i. product (power_of i j) (a i)) (λ i. product (power_of i j) (b i))
          ∙ (λ k. bit_xor (asums j l k) (bsums j l k));
    }) i h)

-- ---- the code

-- what is known of the nodes: those that are solved in the layers whose digit y0 is x0, and as many others that are filled up afterwards; p
-- has the values of the nodes that are not solved, and of the lost node's column
pub record IsExtendable (q t m x0 y0 : ℕ) (solved filled : List Bool) (p : ℕ → List ℕ → ℕ) : Type 0 where
  pub rows : 0 < q
  pub small : q * t ≤ 2 ^ 8
  pub row : x0 < q
  pub column : y0 < t
  pub bytes : (i : ℕ) (z : List ℕ) → p i z < 2 ^ 8
  pub solved_count : length (erased_below solved (q * t)) ≡ m
  pub filled_count : length (erased_below filled (q * t)) ≡ m
  pub lost_kept : get_or filled (node_at q x0 y0) false ≡ false
  pub known : (x y : ℕ) → x < q → y < t → y ≢ y0 → get_or filled (node_at q x y) false ≡ false → get_or solved (node_at q x y) false ≡ false

-- a code with these values
pub record Extends (q t m x0 y0 : ℕ) (solved filled : List Bool) (p c : ℕ → List ℕ → ℕ) : Type 0 where
  pub bytes : (i : ℕ) (z : List ℕ) → c i z < 2 ^ 8
  pub sums : HasZeroSums q t m c
  pub kept : (i : ℕ) (z : List ℕ) → get_or filled i false ≡ false → i ≢ node_at q x0 y0 → c i z ≡ p i z
  pub in_column : (x : ℕ) (z : List ℕ) → x < q → x ≢ x0 → IsLayer q t z → get_or z y0 0 ≡ x0 → c (node_at q x y0) z ≡ p (node_at q x y0) z
  pub elsewhere : (x y : ℕ) (z : List ℕ) → x < q → y < t → y ≢ y0 → get_or solved (node_at q x y) false ≡ false → IsLayer q t z → get_or z y0 0 ≡ x0
      → c (node_at q x y) z ≡ p (node_at q x y) z

module _ (q t m x0 y0 : ℕ) (solved filled : List Bool) (p : ℕ → List ℕ → ℕ) (e : IsExtendable q t m x0 y0 solved filled p) where
  abbrev lost : ℕ
  lost = node_at q x0 y0

  -- a code with the values that are known in the given layers, but for those of the lost node's column
  first : (c : ℕ → List ℕ → ℕ) × Fills q t m solved p c
  first = codes_filled q t m solved p e.rows e.small e.solved_count e.bytes

  c : ℕ → List ℕ → ℕ
  c = first.0

  -- the lost node's values: those of the first code in the given layers, and in the others what its column has in the given ones
  lost_value : List ℕ → ℕ
  lost_value z =
      cond (eqb (get_or z y0 0) x0) (c lost z)
      (quotient (bit_xor (uncoupled q c (get_or z y0 0) y0 (set z y0 x0)) (p (node_at q (get_or z y0 0) y0) (set z y0 x0))) 2)

  target : ℕ → List ℕ → ℕ
  target i z = cond (eqb i lost) (lost_value z) (p i z)

  c_bytes : (i : ℕ) (z : List ℕ) → c i z < 2 ^ 8
  unfolding c
  c_bytes i z = first.1.bytes i z

  target_bytes : (i : ℕ) (z : List ℕ) → target i z < 2 ^ 8
  unfolding target lost_value
  target_bytes i z =
      cond_both (eqb i lost) (lost_value z) (p i z) (λ v. v < 2 ^ 8)
      (λ same. cond_both (eqb (get_or z y0 0) x0) (c lost z) _ (λ v. v < 2 ^ 8) (λ own. c_bytes lost z)
      (λ other. product_lt (bit_xor (uncoupled q c (get_or z y0 0) y0 (set z y0 x0)) (p (node_at q (get_or z y0 0) y0) (set z y0 x0))) (inverse_of 2)))
      (λ other. e.bytes i z)

  second : (c : ℕ → List ℕ → ℕ) × Fills q t m filled target c
  second = codes_filled q t m filled target e.rows e.small e.filled_count target_bytes

  d : ℕ → List ℕ → ℕ
  d = second.0

  d_bytes : (i : ℕ) (z : List ℕ) → d i z < 2 ^ 8
  unfolding d
  d_bytes i z = second.1.bytes i z

  d_kept : (i : ℕ) (z : List ℕ) → get_or filled i false ≡ false → i ≢ lost → d i z ≡ p i z
  unfolding d target
  d_kept i z there other = second.1.agrees i z there ∙ cond-false (eqb i lost) (lost_value z) (p i z) (ne_eqb i lost other)

  d_lost : (z : List ℕ) → d lost z ≡ lost_value z
  unfolding d target
  d_lost z = second.1.agrees lost z e.lost_kept ∙ cond-true (eqb lost lost) (lost_value z) (p lost z) (eq-eqb lost lost refl)

  c_known : (i : ℕ) (z : List ℕ) → get_or solved i false ≡ false → c i z ≡ p i z
  unfolding c
  c_known i z there = first.1.agrees i z there

  -- a node of another column
  other_node : (x y : ℕ) → x < q → y ≢ y0 → node_at q x y ≢ lost
  other_node x y hx other same =
      other (sym (div-mul-add y q x hx) ∙ ap (λ v. v / q) same ∙ div-mul-add y0 q x0 e.row)

  -- another node of the lost node's column
  other_row : (x : ℕ) → x < q → x ≢ x0 → node_at q x y0 ≢ lost
  other_row x hx other same =
      other (sym (mod-mul-add y0 q x hx) ∙ ap (λ v. v % q) same ∙ mod-mul-add y0 q x0 e.row)

  -- ---- the lost node's column in a layer that is given

  lost_alone : (z : List ℕ) → get_or z y0 0 ≡ x0 → d lost z ≡ c lost z
  unfolding lost_value
  lost_alone z given = d_lost z ∙ cond-true (eqb (get_or z y0 0) x0) (c lost z) _ (eq-eqb (get_or z y0 0) x0 given)

  lost_crossed : (x : ℕ) (z : List ℕ) → IsLayer q t z → get_or z y0 0 ≡ x0 → x ≢ x0
      → d lost (set z y0 x) ≡ quotient (bit_xor (uncoupled q c x y0 z) (p (node_at q x y0) z)) 2
  unfolding lost_value
  lost_crossed x z layer given other =
      let w : List ℕ = set z y0 x in
      let digit : get_or w y0 0 ≡ x = get_or-set_same z y0 x 0 (subst (λ n. y0 < n) (sym layer.long) e.column) in
      let back : set w y0 x0 ≡ z = set-set z y0 x x0 ∙ ap (set z y0) (sym given) ∙ set-get_or z y0 0 in
      d_lost w
      ∙ cond-false (eqb (get_or w y0 0) x0) (c lost w) _ (ne_eqb (get_or w y0 0) x0 (λ same. other (sym digit ∙ same)))
      ∙ (λ k. quotient (bit_xor (uncoupled q c (digit k) y0 (back k)) (p (node_at q (digit k) y0) (back k))) 2)

  column_value : (x : ℕ) (z : List ℕ) → x < q → IsLayer q t z → get_or z y0 0 ≡ x0 → x ≢ x0
      → uncoupled q d x y0 z ≡ bit_xor (d (node_at q x y0) z) (bit_xor (uncoupled q c x y0 z) (p (node_at q x y0) z))
  column_value x z hx layer given other =
      let n : ℕ = node_at q x y0 in
      let v : ℕ = bit_xor (uncoupled q c x y0 z) (p n z) in
      let byte : v < 2 ^ 8 = xor_lt 8 (uncoupled q c x y0 z) (p n z) (uncoupled_byte q c c_bytes x y0 z) (e.bytes n z) in
      uncoupled_paired q d x y0 z (λ same. other (sym same ∙ given))
      ∙ ap (λ r. bit_xor (d n z) (product 2 (d (node_at q r y0) (set z y0 x)))) given
      ∙ ap (λ u. bit_xor (d n z) (product 2 u)) (lost_crossed x z layer given other)
      ∙ ap (bit_xor (d n z)) (double_half v byte)

  -- ---- the layers that are given are those of the first code

  abbrev score_in : List ℕ → ℕ
  score_in z = score q t (λ i. get_or filled i false) z

  abbrev SameBelow : List ℕ → Type 0
  SameBelow z =
      (w : List ℕ) → IsLayer q t w → get_or w y0 0 ≡ x0 → score_in w < score_in z → (x y : ℕ) → x < q → y < t → uncoupled q d x y w ≡ uncoupled q c x y w

  -- a node of another column that is not filled up has the first code's value
  known_same : (x y : ℕ) (z : List ℕ) → x < q → y < t → y ≢ y0 → get_or filled (node_at q x y) false ≡ false → d (node_at q x y) z ≡ c (node_at q x y) z
  known_same x y z hx hy other there =
      d_kept (node_at q x y) z there (other_node x y hx other) ∙ sym (c_known (node_at q x y) z (e.known x y hx hy other there))

  moved_given : (x y : ℕ) (z : List ℕ) → y ≢ y0 → get_or z y0 0 ≡ x0 → get_or (set z y x) y0 0 ≡ x0
  moved_given x y z other given = get_or-set_other z y y0 x 0 (λ same. other (sym same)) ∙ given

  -- the partner of such a node too, where the layers of a lower score are the first code's
  partner_same : (x y : ℕ) (z : List ℕ) → IsLayer q t z → get_or z y0 0 ≡ x0 → SameBelow z → x < q → y < t → y ≢ y0 → get_or z y 0 ≢ x → get_or filled (node_at q x y) false ≡ false
      → d (node_at q (get_or z y 0) y) (set z y x) ≡ c (node_at q (get_or z y 0) y) (set z y x)
  partner_same x y z layer given lower hx hy other differ there =
      let r : ℕ = get_or z y 0 in
      let w : List ℕ = set z y x in
      let n : ℕ = node_at q r y in
      let within : y < length z = subst (λ l. y < l) (sym layer.long) hy in
      let own : d (node_at q x y) z ≡ c (node_at q x y) z = known_same x y z hx hy other there in
      elim (cases_Bool (get_or filled n false)) [
        | inl gone ↦
            let less : suc (score_in w) ≡ score_in z = score_of_partner q t (λ i. get_or filled i false) x y z hy layer.long there gone in
            let same : uncoupled q d r y w ≡ uncoupled q c r y w =
            lower w (IsLayer-set q t z y x hx hy layer) (moved_given x y z other given) (omega (arith, less)) r y (layer.digits y hy) hy in
            sym (cancelled (d n w) (product 2 (d (node_at q x y) z)))
            ∙ (λ k. bit_xor ((sym (uncoupled_partner q d x y z within differ) ∙ same ∙ uncoupled_partner q c x y z within differ) k) (product 2 (own k)))
            ∙ cancelled (c n w) (product 2 (c (node_at q x y) z))
        | inr kept ↦ known_same r y w (layer.digits y hy) hy other kept
      ]

  present_same : (z : List ℕ) → IsLayer q t z → get_or z y0 0 ≡ x0 → SameBelow z
      → (x y : ℕ) → x < q → y < t → get_or filled (node_at q x y) false ≡ false → uncoupled q d x y z ≡ uncoupled q c x y z
  present_same z layer given lower x y hx hy there =
      elim (cases_eq y y0) [
        | inl own ↦
            let here : get_or filled (node_at q x y0) false ≡ false = ap (λ v. get_or filled (node_at q x v) false) (sym own) ∙ there in
            let in_column : uncoupled q d x y0 z ≡ uncoupled q c x y0 z =
            elim (cases_eq x x0) [
              | inl same ↦
                  let alone : uncoupled q d x0 y0 z ≡ uncoupled q c x0 y0 z =
                  uncoupled_alone q d x0 y0 z given ∙ lost_alone z given ∙ sym (uncoupled_alone q c x0 y0 z given) in
                  ap (λ v. uncoupled q d v y0 z) same ∙ alone ∙ ap (λ v. uncoupled q c v y0 z) (sym same)
              | inr other ↦
                  let n : ℕ = node_at q x y0 in
                  column_value x z hx layer given other
                  ∙ ap (λ v. bit_xor v (bit_xor (uncoupled q c x y0 z) (p n z))) (d_kept n z here (other_row x hx other))
                  ∙ cancelled_second (p n z) (uncoupled q c x y0 z)
            ] in
            ap (λ v. uncoupled q d x v z) own ∙ in_column ∙ ap (λ v. uncoupled q c x v z) (sym own)
        | inr other ↦
            let same : d (node_at q x y) z ≡ c (node_at q x y) z = known_same x y z hx hy other there in
            elim (cases_eq (get_or z y 0) x) [
              | inl alone ↦ uncoupled_alone q d x y z alone ∙ same ∙ sym (uncoupled_alone q c x y z alone)
              | inr differ ↦
                  uncoupled_paired q d x y z differ
                  ∙ (λ k. bit_xor (same k) (product 2 (partner_same x y z layer given lower hx hy other differ there k)))
                  ∙ sym (uncoupled_paired q c x y z differ)
            ]
      ]

  -- each layer that is given, of a score below s
  layers_same : (s : ℕ) (z : List ℕ) → IsLayer q t z → get_or z y0 0 ≡ x0 → score_in z < s → (x y : ℕ) → x < q → y < t → uncoupled q d x y z ≡ uncoupled q c x y z
  unfolding c d
  layers_same zero z layer given low x y hx hy = absurd (omega arith)
  layers_same (suc s) z layer given low x y hx hy =
      let lower : SameBelow z = λ w l g h u v hu hv. layers_same s w l g (omega arith) u v hu hv in
      let f : ℕ → ℕ = λ i. uncoupled q d (i % q) (i / q) z in
      let g : ℕ → ℕ = λ i. uncoupled q c (i % q) (i / q) z in
      let all : f (node_at q x y) ≡ g (node_at q x y) =
      same_values (q * t) m filled f g e.small e.filled_count
      (λ i. uncoupled_byte q d d_bytes (i % q) (i / q) z) (λ i. uncoupled_byte q c c_bytes (i % q) (i / q) z)
      (λ j h. second.1.sums z layer j h) (λ j h. first.1.sums z layer j h)
      (λ i h there. present_same z layer given lower (i % q) (i / q) (mod_below i q e.rows) (row_of q t i e.rows h) (ap (λ v. get_or filled v false) (div-add-mod' i q) ∙ there))
      (node_at q x y) (node_below q t x y hx hy) in
      (λ k. uncoupled q d (sym (mod-mul-add y q x hx) k) (sym (div-mul-add y q x hx) k) z)
      ∙ all
      ∙ (λ k. uncoupled q c (mod-mul-add y q x hx k) (div-mul-add y q x hx k) z)

  given_same : (z : List ℕ) → IsLayer q t z → get_or z y0 0 ≡ x0 → (x y : ℕ) → x < q → y < t → uncoupled q d x y z ≡ uncoupled q c x y z
  given_same z layer given x y hx hy = layers_same (suc (score_in z)) z layer given (omega arith) x y hx hy

  -- ---- so the code has what is known

  column_known : (x : ℕ) (z : List ℕ) → x < q → x ≢ x0 → IsLayer q t z → get_or z y0 0 ≡ x0 → d (node_at q x y0) z ≡ p (node_at q x y0) z
  column_known x z hx other layer given =
      let n : ℕ = node_at q x y0 in
      let u : ℕ = uncoupled q c x y0 z in
      let v : ℕ = bit_xor u (p n z) in
      sym (cancelled (d n z) v)
      ∙ ap (λ w. bit_xor w v) (sym (column_value x z hx layer given other) ∙ given_same z layer given x y0 hx e.column)
      ∙ ap (bit_xor u) (xor_comm u (p n z))
      ∙ cancelled_second u (p n z)

  pair_of : (b : ℕ → List ℕ → ℕ) (x y : ℕ) (z : List ℕ) → y < length z → get_or z y 0 ≢ x
      → AreUncoupled (b (node_at q x y) z) (b (node_at q (get_or z y 0) y) (set z y x)) (uncoupled q b x y z) (uncoupled q b (get_or z y 0) y (set z y x))
  pair_of b x y z within differ = record { own = uncoupled_paired q b x y z differ; partner = uncoupled_partner q b x y z within differ }

  elsewhere_known : (x y : ℕ) (z : List ℕ) → x < q → y < t → y ≢ y0 → get_or solved (node_at q x y) false ≡ false → IsLayer q t z → get_or z y0 0 ≡ x0
      → d (node_at q x y) z ≡ p (node_at q x y) z
  elsewhere_known x y z hx hy other there layer given =
      let n : ℕ = node_at q x y in
      let r : ℕ = get_or z y 0 in
      let w : List ℕ = set z y x in
      let within : y < length z = subst (λ l. y < l) (sym layer.long) hy in
      let own : uncoupled q d x y z ≡ uncoupled q c x y z = given_same z layer given x y hx hy in
      let same : d n z ≡ c n z =
      elim (cases_eq r x) [
        | inl alone ↦ sym (uncoupled_alone q d x y z alone) ∙ own ∙ uncoupled_alone q c x y z alone
        | inr differ ↦
            let its : uncoupled q d r y w ≡ uncoupled q c r y w =
            given_same w (IsLayer-set q t z y x hx hy layer) (moved_given x y z other given) r y (layer.digits y hy) hy in
            (AreCoupled-uncoupled (d n z) (d (node_at q r y) w) (uncoupled q d x y z) (uncoupled q d r y w) (d_bytes n z) (d_bytes (node_at q r y) w) (pair_of d x y z within differ)).own
            ∙ (λ k. quotient (bit_xor (own k) (product 2 (its k))) 5)
            ∙ sym (AreCoupled-uncoupled (c n z) (c (node_at q r y) w) (uncoupled q c x y z) (uncoupled q c r y w) (c_bytes n z) (c_bytes (node_at q r y) w) (pair_of c x y z within differ)).own
      ] in
      same ∙ c_known n z there

  d_sums : HasZeroSums q t m d
  unfolding d
  d_sums = second.1.sums

pub extended : (q t m x0 y0 : ℕ) (solved filled : List Bool) (p : ℕ → List ℕ → ℕ) → IsExtendable q t m x0 y0 solved filled p
    → (c : ℕ → List ℕ → ℕ) × Extends q t m x0 y0 solved filled p c
extended q t m x0 y0 solved filled p e = (
  d q t m x0 y0 solved filled p e,
  record {
    bytes = d_bytes q t m x0 y0 solved filled p e;
    sums = d_sums q t m x0 y0 solved filled p e;
    kept = d_kept q t m x0 y0 solved filled p e;
    in_column = column_known q t m x0 y0 solved filled p e;
    elsewhere = elsewhere_known q t m x0 y0 solved filled p e;
  },
)
