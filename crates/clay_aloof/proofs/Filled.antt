-- Any values at all but m nodes are those of a code of which the first m sums are zero: its layers are filled by rising score.
use Rattle.std.proofs.Common.{◌≡◌, ◌≢◌, ℕ, zero, suc, subst, ◌+◌, ◌*◌, ◌/◌, ◌%◌, ◌^◌, ◌<◌, ◌≤◌, Bool, true, false, cond, eqb, List, [], ◌∷◌, ◌++◌, length, get_or, set, refl, sym, ap, ◌∙◌, inl, inr, arith, lit<, bit_xor, get_or-set_same}
use Rattle.std.proofs.lemmas.Bool.{cases_eq, cases_lt, cases_Bool, cond-true, cond-false, cond_both, eq-eqb, ne_eqb}
use Rattle.std.proofs.lemmas.Nat.{xor_comm, xor_lt, mod_below, mul-add-lt, div-mul-add, mod-mul-add, div-add-mod'}
use Rattle.std.proofs.lemmas.List.{set-set, set-get_or, length_push, get_or_push, get_or_append_left}
use lib.Bits.{xor_assoc, xor_self, xor_zero_r}
use Rattle.clay_field.specs.Field.{product, power_of, quotient, inverse_of}
use Rattle.clay_field.proofs.FieldLaws.{product_lt, product_add_right}
use Rattle.clay_grid.specs.Layers.{IsLayer}
use Rattle.clay_grid.proofs.LayerLaws.{IsLayer-set}
use Rattle.clay_model.specs.Sums.{sum_below, weighted_sum}
use Rattle.clay_model.specs.Coupling.{node_at, uncoupled}
use Rattle.clay_model.proofs.SumLaws.{sum_below_same}
use Rattle.clay_model.proofs.PairLaws.{one_and_four, AreUncoupled-coupled}
use Rattle.clay_model.proofs.Unique.{score, score_of_partner, uncoupled_alone, uncoupled_paired, row_of}
use Rattle.clay_model.specs.Points.{AreDistinct, sum_over}
use Rattle.clay_model.specs.Erased.{erased_below, present}
use Rattle.code_laws.proofs.ErasedNodes.{erased_rise, AreDistinct-erased, sums_make_up}
use Rattle.code_laws.proofs.PointSums.{AreApart, Solves, solution}
use Rattle.clay_aloof.specs.Filled.{CodesAreFilled}

-- ---- the erased nodes as points

-- the place of a number in a list
abbrev pub place_in : List ℕ → ℕ → ℕ
place_in [] i = 0
place_in (x ∷ xs) i = cond (eqb x i) 0 (suc (place_in xs i))

pub place_in-at : (xs : List ℕ) (e : ℕ) → AreDistinct xs → e < length xs → place_in xs (get_or xs e 0) ≡ e
place_in-at [] e apart h = absurd (omega arith)
place_in-at (x ∷ xs) zero apart h = cond-true (eqb x x) 0 (suc (place_in xs x)) (eq-eqb x x refl)
place_in-at (x ∷ xs) (suc e) apart h =
    let v : ℕ = get_or xs e 0 in
    cond-false (eqb x v) 0 (suc (place_in xs v)) (ne_eqb x v (apart 0 (suc e) (omega arith) h))
    ∙ ap suc (place_in-at xs e (λ a b l hb. apart (suc a) (suc b) (omega arith) (omega arith)) (omega arith))

erased_at_points : (erased : List Bool) (n e : ℕ) → e < length (erased_below erased n) → get_or erased (get_or (erased_below erased n) e 0) false ≡ true
erased_at_points erased zero e h = absurd (omega arith)
erased_at_points erased (suc n) e h =
    let before : List ℕ = erased_below erased n in
    elim (cases_Bool (get_or erased n false)) [
      | inl gone ↦
          let list : erased_below erased (suc n) ≡ before ++ n ∷ [] = cond-true (get_or erased n false) (before ++ n ∷ []) before gone in
          let long : length (erased_below erased (suc n)) ≡ length before + 1 = ap length list ∙ length_push before n in
          elim (cases_lt e (length before)) [
            | inl early ↦
                ap (λ l. get_or erased (get_or l e 0) false) list
                ∙ ap (λ v. get_or erased v false) (get_or_append_left before (n ∷ []) 0 e early)
                ∙ erased_at_points erased n e early
            | inr last ↦
                let here : e ≡ length before = omega arith in
                ap (λ l. get_or erased (get_or l e 0) false) list
                ∙ ap (λ v. get_or erased v false) (get_or_push before n 0 e (sym here))
                ∙ gone
          ]
      | inr there ↦
          let list : erased_below erased (suc n) ≡ before = cond-false (get_or erased n false) (before ++ n ∷ []) before there in
          ap (λ l. get_or erased (get_or l e 0) false) list ∙ erased_at_points erased n e (subst (λ l. e < length l) list h)
    ]

pub sum_byte : (n : ℕ) (f : ℕ → ℕ) → ((e : ℕ) → f e < 2 ^ 8) → sum_below n f < 2 ^ 8
sum_byte zero f each = lit< tt
sum_byte (suc n) f each = xor_lt 8 (sum_below n f) (f n) (sum_byte n f each) (each n)

cancelled : (a b : ℕ) → bit_xor (bit_xor a b) b ≡ a
cancelled a b = xor_assoc a b b ∙ ap (bit_xor a) (xor_self b) ∙ xor_zero_r a

-- ---- one layer

module _ (n : ℕ) (erased : List Bool) (small : n ≤ 2 ^ 8) where
  abbrev points : List ℕ
  points = erased_below erased n

  apart : AreApart (λ e. get_or points e 0) (length points)
  apart = record {
    bytes = λ e h. let b = (erased_rise erased n).below e h in omega arith;
    apart = AreDistinct-erased erased n;
  }

  solve : (h : ℕ → ℕ) → (f : ℕ → ℕ) × Solves (λ e. get_or points e 0) (length points) (weighted_sum n (present erased h)) f
  solve h = solution (λ e. get_or points e 0) (length points) (weighted_sum n (present erased h)) apart
      (λ j. sum_byte n (λ i. product (power_of i j) (present erased h i)) (λ i. product_lt (power_of i j) (present erased h i)))

  -- the values h at the nodes that are not erased, with those at the erased ones that make the sums zero
  fill : (ℕ → ℕ) → ℕ → ℕ
  fill h i = cond (get_or erased i false) ((solve h).0 (place_in points i)) (h i)

  fill-present : (h : ℕ → ℕ) (i : ℕ) → get_or erased i false ≡ false → fill h i ≡ h i
  unfolding fill
  fill-present h i there = cond-false (get_or erased i false) ((solve h).0 (place_in points i)) (h i) there

  fill-byte : (h : ℕ → ℕ) → ((i : ℕ) → h i < 2 ^ 8) → (i : ℕ) → fill h i < 2 ^ 8
  unfolding fill
  fill-byte h each i = cond_both (get_or erased i false) ((solve h).0 (place_in points i)) (h i) (λ v. v < 2 ^ 8) (λ e. (solve h).1.bytes (place_in points i)) (λ e. each i)

  fill-point : (h : ℕ → ℕ) (e : ℕ) → e < length points → fill h (get_or points e 0) ≡ (solve h).0 e
  unfolding fill
  fill-point h e within =
      let i : ℕ = get_or points e 0 in
      cond-true (get_or erased i false) ((solve h).0 (place_in points i)) (h i) (erased_at_points erased n e within)
      ∙ ap (solve h).0 (place_in-at points e (AreDistinct-erased erased n) within)

  fill-sums : (h : ℕ → ℕ) (j : ℕ) → j < length points → weighted_sum n (fill h) j ≡ 0
  fill-sums h j hj =
      let s : ℕ = weighted_sum n (present erased h) j in
      let same : (i : ℕ) → present erased (fill h) i ≡ present erased h i =
      λ i. elim (cases_Bool (get_or erased i false)) [
        | inl gone ↦ cond-true (get_or erased i false) 0 (fill h i) gone ∙ sym (cond-true (get_or erased i false) 0 (h i) gone)
        | inr there ↦ cond-false (get_or erased i false) 0 (fill h i) there ∙ fill-present h i there ∙ sym (cond-false (get_or erased i false) 0 (h i) there)
      ] in
      let at_points : sum_over points (λ e. fill h (get_or points e 0)) j ≡ s =
      sum_below_same (length points) (λ e. product (power_of (get_or points e 0) j) (fill h (get_or points e 0))) (λ e. product (power_of (get_or points e 0) j) ((solve h).0 e))
      (λ e l. ap (product (power_of (get_or points e 0) j)) (fill-point h e l))
      ∙ (solve h).1.weighted j hj in
      let elsewhere : weighted_sum n (present erased (fill h)) j ≡ s =
      sum_below_same n (λ i. product (power_of i j) (present erased (fill h) i)) (λ i. product (power_of i j) (present erased h i)) (λ i l. ap (product (power_of i j)) (same i)) in
      sums_make_up erased n (fill h) j ∙ (λ k. bit_xor (at_points k) (elsewhere k)) ∙ xor_self s

-- ---- all layers

module _ (q t : ℕ) (erased : List Bool) (d : ℕ → List ℕ → ℕ) (rows : 0 < q) (small : q * t ≤ 2 ^ 8) (dbytes : (i : ℕ) (z : List ℕ) → d i z < 2 ^ 8) where
  abbrev gone_at : ℕ → Bool
  gone_at i = get_or erased i false

  -- the node and the layer of the partner
  abbrev other : ℕ → List ℕ → ℕ
  other i z = node_at q (get_or z (i / q) 0) (i / q)

  abbrev moved : ℕ → List ℕ → List ℕ
  moved i z = set z (i / q) (i % q)

  -- the uncoupled value of a node that is not erased, where u has those of the erased ones
  known_at : (List ℕ → ℕ → ℕ) → List ℕ → ℕ → ℕ
  known_at u z i =
      cond (eqb (get_or z (i / q) 0) (i % q)) (d i z)
      (cond (gone_at (other i z)) (bit_xor (product 5 (d i z)) (product 2 (u (moved i z) (other i z)))) (bit_xor (d i z) (product 2 (d (other i z) (moved i z)))))

  -- the uncoupled values where the layers of a score below s are filled
  stage : ℕ → List ℕ → ℕ → ℕ
  stage zero z i = 0
  stage (suc s) z i = fill (q * t) erased small (known_at (stage s) z) i

  abbrev score_in : List ℕ → ℕ
  score_in z = score q t gone_at z

  value : List ℕ → ℕ → ℕ
  value z i = stage (suc (score_in z)) z i

  code : ℕ → List ℕ → ℕ
  code i z =
      cond (gone_at i)
      (cond (eqb (get_or z (i / q) 0) (i % q)) (value z i)
      (cond (gone_at (other i z)) (quotient (bit_xor (value z i) (product 2 (value (moved i z) (other i z)))) 5) (bit_xor (value z i) (product 2 (d (other i z) (moved i z))))))
      (d i z)

  -- bytes

  known_byte : (u : List ℕ → ℕ → ℕ) (z : List ℕ) (i : ℕ) → known_at u z i < 2 ^ 8
  unfolding known_at
  known_byte u z i =
      cond_both (eqb (get_or z (i / q) 0) (i % q)) (d i z) _ (λ v. v < 2 ^ 8) (λ e. dbytes i z)
      (λ e. cond_both (gone_at (other i z)) _ _ (λ v. v < 2 ^ 8)
      (λ f. xor_lt 8 (product 5 (d i z)) (product 2 (u (moved i z) (other i z))) (product_lt 5 (d i z)) (product_lt 2 (u (moved i z) (other i z))))
      (λ f. xor_lt 8 (d i z) (product 2 (d (other i z) (moved i z))) (dbytes i z) (product_lt 2 (d (other i z) (moved i z)))))

  value_byte : (z : List ℕ) (i : ℕ) → value z i < 2 ^ 8
  unfolding value stage
  value_byte z i = fill-byte (q * t) erased small (known_at (stage (score_in z)) z) (known_byte (stage (score_in z)) z) i

  code_byte : (i : ℕ) (z : List ℕ) → code i z < 2 ^ 8
  unfolding code
  code_byte i z =
      cond_both (gone_at i) _ (d i z) (λ v. v < 2 ^ 8)
      (λ e. cond_both (eqb (get_or z (i / q) 0) (i % q)) (value z i) _ (λ v. v < 2 ^ 8) (λ f. value_byte z i)
      (λ f. cond_both (gone_at (other i z)) _ _ (λ v. v < 2 ^ 8)
      (λ g. product_lt (bit_xor (value z i) (product 2 (value (moved i z) (other i z)))) (inverse_of 5))
      (λ g. xor_lt 8 (value z i) (product 2 (d (other i z) (moved i z))) (value_byte z i) (product_lt 2 (d (other i z) (moved i z))))))
      (λ e. dbytes i z)

  -- the partner's partner

  module _ (i : ℕ) (z : List ℕ) (hi : i < q * t) (layer : IsLayer q t z) where
    column : i / q < t
    column = row_of q t i rows hi

    within : i / q < length z
    within = subst (λ n. i / q < n) (sym layer.long) column

    digit : get_or z (i / q) 0 < q
    digit = layer.digits (i / q) column

    moved_layer : IsLayer q t (moved i z)
    moved_layer = IsLayer-set q t z (i / q) (i % q) (mod_below i q rows) column layer

    other_below : other i z < q * t
    other_below = mul-add-lt' (i / q) q (get_or z (i / q) 0) t column digit
      where
        mul-add-lt' : (a b c e : ℕ) → a < e → c < b → a * b + c < b * e
        mul-add-lt' a b c e h l = let p = mul-add-lt a b c e h l in omega arith

    other_row : other i z % q ≡ get_or z (i / q) 0
    other_row = mod-mul-add (i / q) q (get_or z (i / q) 0) digit

    other_column : other i z / q ≡ i / q
    other_column = div-mul-add (i / q) q (get_or z (i / q) 0) digit

    own_digit : get_or (moved i z) (i / q) 0 ≡ i % q
    own_digit = get_or-set_same z (i / q) (i % q) 0 within

    other_back : other (other i z) (moved i z) ≡ i
    other_back = (λ k. node_at q (get_or (moved i z) (other_column k) 0) (other_column k)) ∙ ap (λ x. node_at q x (i / q)) own_digit ∙ div-add-mod' i q

    moved_back : moved (other i z) (moved i z) ≡ z
    moved_back = (λ k. set (moved i z) (other_column k) (other_row k)) ∙ set-set z (i / q) (i % q) (get_or z (i / q) 0) ∙ set-get_or z (i / q) 0

    apart_back : get_or z (i / q) 0 ≢ i % q → get_or (moved i z) (other i z / q) 0 ≢ other i z % q
    apart_back paired same = paired (sym other_row ∙ sym same ∙ ap (λ y. get_or (moved i z) y 0) other_column ∙ own_digit)

  -- the values of the code, case by case

  code_present : (i : ℕ) (z : List ℕ) → gone_at i ≡ false → code i z ≡ d i z
  unfolding code
  code_present i z there = cond-false (gone_at i) _ (d i z) there

  code_alone : (i : ℕ) (z : List ℕ) → gone_at i ≡ true → get_or z (i / q) 0 ≡ i % q → code i z ≡ value z i
  unfolding code
  code_alone i z gone same = cond-true (gone_at i) _ (d i z) gone ∙ cond-true (eqb (get_or z (i / q) 0) (i % q)) (value z i) _ (eq-eqb (get_or z (i / q) 0) (i % q) same)

  code_both : (i : ℕ) (z : List ℕ) → gone_at i ≡ true → get_or z (i / q) 0 ≢ i % q → gone_at (other i z) ≡ true
      → code i z ≡ quotient (bit_xor (value z i) (product 2 (value (moved i z) (other i z)))) 5
  unfolding code
  code_both i z gone paired too =
      cond-true (gone_at i) _ (d i z) gone
      ∙ cond-false (eqb (get_or z (i / q) 0) (i % q)) (value z i) _ (ne_eqb (get_or z (i / q) 0) (i % q) paired)
      ∙ cond-true (gone_at (other i z)) _ _ too

  code_one : (i : ℕ) (z : List ℕ) → gone_at i ≡ true → get_or z (i / q) 0 ≢ i % q → gone_at (other i z) ≡ false
      → code i z ≡ bit_xor (value z i) (product 2 (d (other i z) (moved i z)))
  unfolding code
  code_one i z gone paired there =
      cond-true (gone_at i) _ (d i z) gone
      ∙ cond-false (eqb (get_or z (i / q) 0) (i % q)) (value z i) _ (ne_eqb (get_or z (i / q) 0) (i % q) paired)
      ∙ cond-false (gone_at (other i z)) _ _ there

  value_known : (i : ℕ) (z : List ℕ) → gone_at i ≡ false → value z i ≡ known_at (stage (score_in z)) z i
  unfolding value stage
  value_known i z there = fill-present (q * t) erased small (known_at (stage (score_in z)) z) i there

  value_alone : (i : ℕ) (z : List ℕ) → gone_at i ≡ false → get_or z (i / q) 0 ≡ i % q → value z i ≡ d i z
  unfolding known_at
  value_alone i z there same = value_known i z there ∙ cond-true (eqb (get_or z (i / q) 0) (i % q)) (d i z) _ (eq-eqb (get_or z (i / q) 0) (i % q) same)

  value_pair : (i : ℕ) (z : List ℕ) → gone_at i ≡ false → get_or z (i / q) 0 ≢ i % q → gone_at (other i z) ≡ false
      → value z i ≡ bit_xor (d i z) (product 2 (d (other i z) (moved i z)))
  unfolding known_at
  value_pair i z there paired too =
      value_known i z there
      ∙ cond-false (eqb (get_or z (i / q) 0) (i % q)) (d i z) _ (ne_eqb (get_or z (i / q) 0) (i % q) paired)
      ∙ cond-false (gone_at (other i z)) _ _ too

  -- the partner's layer is filled before
  value_earlier : (i : ℕ) (z : List ℕ) → i < q * t → IsLayer q t z → gone_at i ≡ false → gone_at (other i z) ≡ true
      → stage (score_in z) (moved i z) (other i z) ≡ value (moved i z) (other i z)
  unfolding value
  value_earlier i z hi layer there gone =
      let own : gone_at (node_at q (i % q) (i / q)) ≡ false = ap gone_at (div-add-mod' i q) ∙ there in
      let less : suc (score_in (moved i z)) ≡ score_in z = score_of_partner q t gone_at (i % q) (i / q) z (column i z hi layer) layer.long own gone in
      ap (λ s. stage s (moved i z) (other i z)) (sym less)

  value_lower : (i : ℕ) (z : List ℕ) → i < q * t → IsLayer q t z → gone_at i ≡ false → get_or z (i / q) 0 ≢ i % q → gone_at (other i z) ≡ true
      → value z i ≡ bit_xor (product 5 (d i z)) (product 2 (value (moved i z) (other i z)))
  unfolding known_at
  value_lower i z hi layer there paired gone =
      value_known i z there
      ∙ cond-false (eqb (get_or z (i / q) 0) (i % q)) (d i z) _ (ne_eqb (get_or z (i / q) 0) (i % q) paired)
      ∙ cond-true (gone_at (other i z)) _ _ gone
      ∙ ap (λ v. bit_xor (product 5 (d i z)) (product 2 v)) (value_earlier i z hi layer there gone)

  -- the code's uncoupled values

  alone : (i : ℕ) (z : List ℕ) → get_or z (i / q) 0 ≡ i % q → code i z ≡ value z i
  alone i z same =
      elim (cases_Bool (gone_at i)) [
        | inl gone ↦ code_alone i z gone same
        | inr there ↦ code_present i z there ∙ sym (value_alone i z there same)
      ]

  paired : (i : ℕ) (z : List ℕ) → i < q * t → IsLayer q t z → get_or z (i / q) 0 ≢ i % q → bit_xor (code i z) (product 2 (code (other i z) (moved i z))) ≡ value z i
  paired i z hi layer differ =
      let o : ℕ = other i z in
      let w : List ℕ = moved i z in
      let back : get_or w (o / q) 0 ≢ o % q = apart_back i z hi layer differ in
      let node : other o w ≡ i = other_back i z hi layer in
      let layer_is : moved o w ≡ z = moved_back i z hi layer in
      elim (cases_Bool (gone_at i)) [
        | inl gone ↦ elim (cases_Bool (gone_at o)) [
          | inl both ↦
              let own : code i z ≡ quotient (bit_xor (value z i) (product 2 (value w o))) 5 = code_both i z gone differ both in
              let its : code o w ≡ quotient (bit_xor (value w o) (product 2 (value z i))) 5 =
              code_both o w both back (ap gone_at node ∙ gone) ∙ (λ k. quotient (bit_xor (value w o) (product 2 (value (layer_is k) (node k)))) 5) in
              sym (AreUncoupled-coupled (code i z) (code o w) (value z i) (value w o) (value_byte z i) (value_byte w o) (record { own = own; partner = its })).own
          | inr one ↦
              let e : ℕ = product 2 (d o w) in
              (λ k. bit_xor (code_one i z gone differ one k) (product 2 (code_present o w one k))) ∙ cancelled (value z i) e
        ]
        | inr there ↦ elim (cases_Bool (gone_at o)) [
          | inl one ↦
              let a : ℕ = d i z in
              let v : ℕ = value w o in
              let its : code o w ≡ bit_xor v (product 2 a) = code_one o w one back (ap gone_at node ∙ there) ∙ (λ k. bit_xor v (product 2 (d (node k) (layer_is k)))) in
              (λ k. bit_xor (code_present i z there k) (product 2 (its k)))
              ∙ ap (bit_xor a) (product_add_right 2 v (product 2 a))
              ∙ swapped a (product 2 v) (product 2 (product 2 a))
              ∙ ap (λ x. bit_xor x (product 2 v)) (one_and_four a (dbytes i z))
              ∙ sym (value_lower i z hi layer there differ one)
          | inr none ↦
              (λ k. bit_xor (code_present i z there k) (product 2 (code_present o w none k))) ∙ sym (value_pair i z there differ none)
        ]
      ]
    where
      swapped : (a b c : ℕ) → bit_xor a (bit_xor b c) ≡ bit_xor (bit_xor a c) b
      swapped a b c = ap (bit_xor a) (xor_comm b c) ∙ sym (xor_assoc a c b)

  uncoupled_is : (i : ℕ) (z : List ℕ) → i < q * t → IsLayer q t z → uncoupled q code (i % q) (i / q) z ≡ value z i
  uncoupled_is i z hi layer =
      let whole : node_at q (i % q) (i / q) ≡ i = div-add-mod' i q in
      elim (cases_eq (get_or z (i / q) 0) (i % q)) [
        | inl same ↦ uncoupled_alone q code (i % q) (i / q) z same ∙ ap (λ n. code n z) whole ∙ alone i z same
        | inr differ ↦
            uncoupled_paired q code (i % q) (i / q) z differ
            ∙ ap (λ n. bit_xor (code n z) (product 2 (code (other i z) (moved i z)))) whole
            ∙ paired i z hi layer differ
      ]

  value_sums : (z : List ℕ) (j : ℕ) → j < length (erased_below erased (q * t)) → weighted_sum (q * t) (value z) j ≡ 0
  unfolding value stage
  value_sums z j hj = fill-sums (q * t) erased small (known_at (stage (score_in z)) z) j hj

  code_sums : (z : List ℕ) → IsLayer q t z → (j : ℕ) → j < length (erased_below erased (q * t)) → weighted_sum (q * t) (λ i. uncoupled q code (i % q) (i / q) z) j ≡ 0
  code_sums z layer j hj =
      sum_below_same (q * t) _ (λ i. product (power_of i j) (value z i)) (λ i hi. ap (product (power_of i j)) (uncoupled_is i z hi layer))
      ∙ value_sums z j hj

pub codes_filled : CodesAreFilled
codes_filled q t m erased d rows small count dbytes = (
  code q t erased d rows small dbytes,
  record {
    bytes = code_byte q t erased d rows small dbytes;
    sums = λ z layer j hj. code_sums q t erased d rows small dbytes z layer j (subst (λ n. j < n) (sym count) hj);
    agrees = λ i z there. code_present q t erased d rows small dbytes i z there;
  },
)
