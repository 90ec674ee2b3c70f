-- Which subchunks are pieces, and how many nodes a layer leaves unknown.
use Rattle.std.proofs.Common.{◌≡◌, ◌≢◌, ℕ, zero, suc, subst, ◌+◌, ◌-◌, ◌*◌, ◌/◌, ◌%◌, ◌<◌, ◌≤◌, Bool, true, false, cond, not, ◌&&◌, ◌||◌, eqb, length, get_or, set, refl, sym, ap, ◌∙◌, inl, inr, arith}
use Rattle.std.proofs.lemmas.Bool.{cases_eq, cases_Bool, eq-eqb, ne_eqb, true≢false, cond-true, cond-false, cond_both, and_from, or_left, or_right, not_from_false, eqb-true}
use Rattle.std.proofs.lemmas.Nat.{mod_below, div_below, div-mul-add, mod-mul-add, div-add-mod'}
use Rattle.std.proofs.lemmas.List.{set-set, set-get_or, get_or-set_same}
use Rattle.std.proofs.Math.Nat.{mul_comm, mod-eq_of_lt}
use Rattle.clay_grid.specs.Shape.{Shape, row_count, column_count, node_count, layer_count}
use Rattle.clay_grid.specs.Layers.{layer_of, index_of, IsLayer}
use Rattle.clay_grid.specs.Limits.{IsGeometry}
use Rattle.clay_grid.specs.Score.{count_below}
use Rattle.clay_grid.proofs.Counting.{count_below_same, count_below_digit, count_below_one}
use Rattle.clay_grid.proofs.LayerLaws.{IsLayer-digits_of, IsLayer-set, index_of-lt, index_of-digits_of, digits_of-index_of}
use Rattle.clay_model.proofs.SumLaws.{one_if}
use Rattle.clay_model.proofs.Unique.{row_of, node_below}
use Rattle.clay_model.specs.Partners.{ArePartners}
use Rattle.lost_layers.specs.LostLayers.{is_wanted, layer_with, partner_node, partner_layer, lost_node, lost_column, is_unpaired, is_solved, unpaired_node, further_node, is_unknown}
use Rattle.lost_layers.specs.LostPieces.{is_made, is_piece}
use Rattle.lost_layers.specs.declared.run.LostRun.{LostRun}

-- ---- a layer with another digit

pub some_rows : (g : Shape) → IsGeometry g → 0 < row_count g
some_rows g geometry = let some = geometry.limits.parity_chunks.0 in omega arith

module _ (g : Shape) (rows : 0 < row_count g) where
  is_layer : (n : ℕ) → IsLayer (row_count g) (column_count g) (layer_of g n)
  is_layer n = IsLayer-digits_of (row_count g) (column_count g) n rows

  long : (n y : ℕ) → y < column_count g → y < length (layer_of g n)
  long n y h = subst (λ t. y < t) (sym (is_layer n).long) h

  pub digit_below : (n y : ℕ) → y < column_count g → get_or (layer_of g n) y 0 < row_count g
  digit_below n y h = (is_layer n).digits y h

  pub layer_of-layer_with : (n y x : ℕ) → y < column_count g → x < row_count g → layer_of g (layer_with g n y x) ≡ set (layer_of g n) y x
  layer_of-layer_with n y x hy hx = digits_of-index_of (row_count g) (column_count g) (set (layer_of g n) y x) rows (IsLayer-set (row_count g) (column_count g) (layer_of g n) y x hx hy (is_layer n))

  pub layer_with-below : (n y x : ℕ) → y < column_count g → x < row_count g → layer_with g n y x < layer_count g
  layer_with-below n y x hy hx = index_of-lt (row_count g) (column_count g) (set (layer_of g n) y x) (IsLayer-set (row_count g) (column_count g) (layer_of g n) y x hx hy (is_layer n))

  pub layer_with-own : (n y x : ℕ) → n < layer_count g → get_or (layer_of g n) y 0 ≡ x → layer_with g n y x ≡ n
  layer_with-own n y x h digit =
      ap (λ d. index_of (row_count g) (set (layer_of g n) y d)) (sym digit)
      ∙ ap (index_of (row_count g)) (set-get_or (layer_of g n) y 0)
      ∙ index_of-digits_of (row_count g) (column_count g) n rows h

  pub digit-layer_with : (n y x : ℕ) → y < column_count g → x < row_count g → get_or (layer_of g (layer_with g n y x)) y 0 ≡ x
  digit-layer_with n y x hy hx = ap (λ l. get_or l y 0) (layer_of-layer_with n y x hy hx) ∙ get_or-set_same (layer_of g n) y x 0 (long n y hy)

  pub layer_with-twice : (n y x v : ℕ) → y < column_count g → x < row_count g → layer_with g (layer_with g n y x) y v ≡ layer_with g n y v
  layer_with-twice n y x v hy hx =
      ap (λ l. index_of (row_count g) (set l y v)) (layer_of-layer_with n y x hy hx) ∙ ap (index_of (row_count g)) (set-set (layer_of g n) y x v)

  -- ---- partners

  pub column_of : (i : ℕ) → i < node_count g → i / row_count g < column_count g
  column_of i h = row_of (row_count g) (column_count g) i rows h

  pub are_partners : (i n : ℕ) → i < node_count g → ArePartners g i n (partner_node g i n) (partner_layer g i n)
  are_partners i n h = record {
    rows = rows;
    node = h;
    node_is = refl;
    layer_is = layer_of-layer_with n (i / row_count g) (i % row_count g) (column_of i h) (mod_below i (row_count g) rows);
  }

  pub partner_column : (i n : ℕ) → i < node_count g → partner_node g i n / row_count g ≡ i / row_count g
  partner_column i n h = div-mul-add (i / row_count g) (row_count g) (get_or (layer_of g n) (i / row_count g) 0) (digit_below n (i / row_count g) (column_of i h))

  pub partner_row : (i n : ℕ) → i < node_count g → partner_node g i n % row_count g ≡ get_or (layer_of g n) (i / row_count g) 0
  partner_row i n h = mod-mul-add (i / row_count g) (row_count g) (get_or (layer_of g n) (i / row_count g) 0) (digit_below n (i / row_count g) (column_of i h))

  pub partner_inside : (i n : ℕ) → i < node_count g → partner_node g i n < node_count g
  partner_inside i n h = node_below (row_count g) (column_count g) (get_or (layer_of g n) (i / row_count g) 0) (i / row_count g) (digit_below n (i / row_count g) (column_of i h)) (column_of i h)

  pub partner_below : (i n : ℕ) → i < node_count g → partner_layer g i n < layer_count g
  partner_below i n h = layer_with-below n (i / row_count g) (i % row_count g) (column_of i h) (mod_below i (row_count g) rows)

  -- the partner's partner
  pub partner_node_back : (i n : ℕ) → i < node_count g → partner_node g (partner_node g i n) (partner_layer g i n) ≡ i
  partner_node_back i n h =
      (λ k. partner_column i n h k * row_count g + get_or (layer_of g (partner_layer g i n)) (partner_column i n h k) 0)
      ∙ ap (λ d. i / row_count g * row_count g + d) (digit-layer_with n (i / row_count g) (i % row_count g) (column_of i h) (mod_below i (row_count g) rows))
      ∙ div-add-mod' i (row_count g)

  pub partner_layer_back : (i n : ℕ) → i < node_count g → n < layer_count g → partner_layer g (partner_node g i n) (partner_layer g i n) ≡ n
  partner_layer_back i n h below =
      (λ k. layer_with g (partner_layer g i n) (partner_column i n h k) (partner_row i n h k))
      ∙ layer_with-twice n (i / row_count g) (i % row_count g) (get_or (layer_of g n) (i / row_count g) 0) (column_of i h) (mod_below i (row_count g) rows)
      ∙ layer_with-own n (i / row_count g) (get_or (layer_of g n) (i / row_count g) 0) below refl

-- ---- unknown nodes

-- the lost node isn't the unpaired one of its column where it is paired
unpaired_alone : (g : Shape) (run : LostRun) (n : ℕ) → lost_node g run ≡ unpaired_node g (lost_column g run) n → is_unpaired g run n ≡ true
unpaired_alone g run n same =
    let q : ℕ = row_count g in
    let node : ℕ = lost_node g run in
    let split : node / q * q + node % q ≡ node = div-add-mod' node q in
    eq-eqb (get_or (layer_of g n) (lost_column g run) 0) (node % q) (omega (arith, split, same))

pub lost_unknown : (g : Shape) (run : LostRun) (n : ℕ) → is_unknown g run n (lost_node g run) ≡ true
lost_unknown g run n =
    let node : ℕ = lost_node g run in
    let y : ℕ = lost_column g run in
    let last : ℕ = column_count g - 1 in
    elim (cases_Bool (is_unpaired g run n)) [
      | inl alone ↦ cond-true (is_unpaired g run n) _ _ alone ∙ eq-eqb (node / row_count g) y refl
      | inr paired ↦
          cond-false (is_unpaired g run n) _ _ paired
          ∙ elim (cases_eq (suc y) (column_count g)) [
            | inl same ↦
                let there : y ≡ last = omega arith in
                let apart : node ≢ unpaired_node g last n = λ e. true≢false (sym (unpaired_alone g run n (e ∙ ap (λ v. unpaired_node g v n) (sym there))) ∙ paired) in
                or_left (eqb (node / row_count g) last && not (eqb node (unpaired_node g last n))) (eqb node (further_node g run n))
                (and_from (eqb (node / row_count g) last) (not (eqb node (unpaired_node g last n))) (eq-eqb y last there)
                (not_from_false (eqb node (unpaired_node g last n)) (ne_eqb node (unpaired_node g last n) apart)))
            | inr other ↦
                or_right (eqb (node / row_count g) last && not (eqb node (unpaired_node g last n))) (eqb node (further_node g run n))
                (eq-eqb node (further_node g run n) (sym (cond-false (eqb (suc y) (column_count g)) _ node (ne_eqb (suc y) (column_count g) other))))
          ]
    ]

pub known_other : (g : Shape) (run : LostRun) (n i : ℕ) → is_unknown g run n i ≡ false → i ≢ lost_node g run
known_other g run n i known same = true≢false (sym (lost_unknown g run n) ∙ ap (is_unknown g run n) (sym same) ∙ known)

-- the lost node isn't the partner of a known one either
pub known_partner : (g : Shape) (run : LostRun) (n i : ℕ) → 0 < row_count g → i < node_count g → is_unknown g run n i ≡ false → partner_node g i n ≢ lost_node g run
known_partner g run n i rows h known same =
    let column : i / row_count g ≡ lost_column g run = sym (partner_column g rows i n h) ∙ ap (λ j. j / row_count g) same in
    let digit : get_or (layer_of g n) (lost_column g run) 0 ≡ lost_node g run % row_count g =
    ap (λ y. get_or (layer_of g n) y 0) (sym column) ∙ sym (partner_row g rows i n h) ∙ ap (λ j. j % row_count g) same in
    let alone : is_unpaired g run n ≡ true = eq-eqb _ _ digit in
    true≢false (sym (cond-true (is_unpaired g run n) (eqb (i / row_count g) (lost_column g run)) _ alone ∙ eq-eqb (i / row_count g) (lost_column g run) column) ∙ known)

-- ---- pieces

third : (a b c : Bool) → c ≡ true → (a || b || c) ≡ true
third a b c h = or_right (a || b) c h

pub made_known : (g : Shape) (run : LostRun) (n i : ℕ) → is_solved g run n ≡ true → is_unknown g run n i ≡ false → is_made g run i n ≡ true
made_known g run n i solved known = and_from (is_solved g run n) (not (is_unknown g run n i)) solved (not_from_false (is_unknown g run n i) known)

pub own_piece : (g : Shape) (run : LostRun) (n i : ℕ) → is_solved g run n ≡ true → is_unknown g run n i ≡ false → is_piece g run i n ≡ true
own_piece g run n i solved known =
    and_from (not (eqb i (lost_node g run))) _ (not_from_false (eqb i (lost_node g run)) (ne_eqb i (lost_node g run) (known_other g run n i known)))
    (or_left (is_made g run i n || is_made g run (partner_node g i n) (partner_layer g i n)) _ (or_left (is_made g run i n) _ (made_known g run n i solved known)))

pub partner_piece : (g : Shape) (run : LostRun) (n i : ℕ) → 0 < row_count g → i < node_count g → n < layer_count g → is_solved g run n ≡ true → is_unknown g run n i ≡ false
    → is_piece g run (partner_node g i n) (partner_layer g i n) ≡ true
partner_piece g run n i rows h below solved known =
    let j : ℕ = partner_node g i n in
    let p : ℕ = partner_layer g i n in
    let back : is_made g run (partner_node g j p) (partner_layer g j p) ≡ is_made g run i n =
    λ k. is_made g run (partner_node_back g rows i n h k) (partner_layer_back g rows i n h below k) in
    and_from (not (eqb j (lost_node g run))) _ (not_from_false (eqb j (lost_node g run)) (ne_eqb j (lost_node g run) (known_partner g run n i rows h known)))
    (or_left (is_made g run j p || is_made g run (partner_node g j p) (partner_layer g j p)) _
    (or_right (is_made g run j p) (is_made g run (partner_node g j p) (partner_layer g j p)) (back ∙ made_known g run n i solved known)))

-- the partner of a wanted subchunk
pub mate_piece : (g : Shape) (run : LostRun) (z : ℕ) → 0 < row_count g → lost_node g run < node_count g → z < layer_count g → is_wanted run z ≡ true → partner_node g (lost_node g run) z ≢ lost_node g run
    → is_piece g run (partner_node g (lost_node g run) z) (partner_layer g (lost_node g run) z) ≡ true
mate_piece g run z rows inside below wanted apart =
    let node : ℕ = lost_node g run in
    let j : ℕ = partner_node g node z in
    let p : ℕ = partner_layer g node z in
    and_from (not (eqb j node)) _ (not_from_false (eqb j node) (ne_eqb j node apart))
    (third (is_made g run j p) (is_made g run (partner_node g j p) (partner_layer g j p)) (eqb (partner_node g j p) node && is_wanted run (partner_layer g j p))
    (and_from (eqb (partner_node g j p) node) (is_wanted run (partner_layer g j p))
    (eq-eqb (partner_node g j p) node (partner_node_back g rows node z inside))
    (ap (is_wanted run) (partner_layer_back g rows node z inside below) ∙ wanted)))

-- ---- how many nodes are unknown

-- four tests, of which two pass no oftener at any number
pub count_below_pairs : (n : ℕ) (a b c d : ℕ → Bool) → ((i : ℕ) → i < n → cond (a i) 1 0 + cond (b i) 1 0 ≤ cond (c i) 1 0 + cond (d i) 1 0)
    → count_below n a + count_below n b ≤ count_below n c + count_below n d
count_below_pairs zero a b c d each = omega arith
count_below_pairs (suc n) a b c d each =
    let rest = count_below_pairs n a b c d (λ i h. each i (omega arith)) in
    let last = each n (omega arith) in
    omega (arith, rest, last)

pub count_below_point : (n d : ℕ) → d < n → count_below n (λ i. eqb d i) ≡ 1
count_below_point n d h = count_below_one n d (λ i. true) h

pub count_below_at_most : (n d : ℕ) → count_below n (λ i. eqb d i) ≤ 1
count_below_at_most zero d = omega arith
count_below_at_most (suc n) d =
    elim (cases_eq d n) [
      | inl same ↦
          let rest : count_below n (λ i. eqb d i) ≡ 0 = none n d (omega (arith, same)) in
          let last : one_if (eqb d n) ≤ 1 = cond_both (eqb d n) 1 0 (λ v. v ≤ 1) (λ e. omega arith) (λ e. omega arith) in
          omega (arith, rest, last)
      | inr other ↦
          let rest = count_below_at_most n d in
          let last : one_if (eqb d n) ≡ 0 = ap one_if (ne_eqb d n other) in
          omega (arith, rest, last)
    ]
  where
    none : (m e : ℕ) → m ≤ e → count_below m (λ i. eqb e i) ≡ 0
    none zero e h = refl
    none (suc m) e h =
        let rest = none m e (omega arith) in
        let last : one_if (eqb e m) ≡ 0 = ap one_if (ne_eqb e m (λ s. omega arith)) in
        omega (arith, rest, last)

-- at one number: in the column and not the partner, or the spare
one_moved : (column mate spare : Bool) → (mate ≡ true → column ≡ true) → cond ((column && not mate) || spare) 1 0 + cond mate 1 0 ≤ cond column 1 0 + cond spare 1 0
one_moved true true true h = omega arith
one_moved true true false h = omega arith
one_moved true false true h = omega arith
one_moved true false false h = omega arith
one_moved false true spare h = absurd (true≢false (sym (h refl)))
one_moved false false true h = omega arith
one_moved false false false h = omega arith

pub eqb_turned : (a b : ℕ) → eqb a b ≡ eqb b a
eqb_turned a b = elim (cases_eq a b) [
  | inl same ↦ eq-eqb a b same ∙ sym (eq-eqb b a (sym same))
  | inr other ↦ ne_eqb a b other ∙ sym (ne_eqb b a (λ e. other (sym e)))
]

-- the nodes of a column
pub column_count_is : (q t y : ℕ) → 0 < q → y < t → count_below (q * t) (λ i. eqb (i / q) y) ≡ q
column_count_is q t y rows h =
    let whole : q * t ≡ 1 * (t * q) = omega arith in
    let once : 1 * q ≡ q = omega arith in
    count_below_same (q * t) (λ i. eqb (i / q) y) (λ i. eqb (i / q % t) y)
    (λ i l. ap (λ v. eqb v y) (sym (mod-eq_of_lt (div_below i q t rows (subst (λ v. i < v) (mul_comm q t) l)))))
    ∙ ap (λ v. count_below v (λ i. eqb (i / q % t) y)) whole
    ∙ count_below_digit t q y 1 rows h
    ∙ once

pub unknown_few : (g : Shape) (run : LostRun) (n : ℕ) → IsGeometry g → lost_node g run < node_count g → count_below (node_count g) (is_unknown g run n) ≤ g.parity_count
unknown_few g run n geometry inside =
    let rows : 0 < row_count g = some_rows g geometry in
    let q : ℕ = row_count g in
    let t : ℕ = column_count g in
    let node : ℕ = lost_node g run in
    let y : ℕ = lost_column g run in
    let last : ℕ = t - 1 in
    let some : 0 < t = omega (arith, geometry.columns.0) in
    let alone : ℕ = unpaired_node g last n in
    let more : ℕ = further_node g run n in
    let digit : get_or (layer_of g n) last 0 < q = digit_below g rows n last (omega (arith, some)) in
    elim (cases_Bool (is_unpaired g run n)) [
      | inl unpaired ↦
          let column : count_below (q * t) (λ i. eqb (i / q) y) ≡ q = column_count_is q t y rows (column_of g rows node inside) in
          let same : count_below (q * t) (is_unknown g run n) ≡ q =
          count_below_same (q * t) (is_unknown g run n) (λ i. eqb (i / q) y) (λ i h. cond-true (is_unpaired g run n) _ _ unpaired) ∙ column in
          omega (arith, same)
      | inr paired ↦
          let column : count_below (q * t) (λ i. eqb (i / q) last) ≡ q = column_count_is q t last rows (omega (arith, some)) in
          let other : ℕ → Bool = λ i. (eqb (i / q) last && not (eqb i alone)) || eqb i more in
          let same : count_below (q * t) (is_unknown g run n) ≡ count_below (q * t) other =
          count_below_same (q * t) (is_unknown g run n) other (λ i h. cond-false (is_unpaired g run n) _ _ paired) in
          let moved = count_below_pairs (q * t) other (λ i. eqb alone i) (λ i. eqb (i / q) last) (λ i. eqb more i) (λ i h.
          subst (λ b. cond ((eqb (i / q) last && not (eqb i alone)) || eqb i more) 1 0 + cond b 1 0 ≤ cond (eqb (i / q) last) 1 0 + cond (eqb more i) 1 0) (eqb_turned i alone)
          (subst (λ b. cond ((eqb (i / q) last && not (eqb i alone)) || eqb i more) 1 0 + cond (eqb i alone) 1 0 ≤ cond (eqb (i / q) last) 1 0 + cond b 1 0) (eqb_turned i more)
          (one_moved (eqb (i / q) last) (eqb i alone) (eqb i more) (λ e. eq-eqb (i / q) last (ap (λ v. v / q) (eqb-true i alone e) ∙ div-mul-add last q (get_or (layer_of g n) last 0) digit))))) in
          let one : count_below (q * t) (λ i. eqb alone i) ≡ 1 = count_below_point (q * t) alone (node_below q t (get_or (layer_of g n) last 0) last digit (omega (arith, some))) in
          let most : count_below (q * t) (λ i. eqb more i) ≤ 1 = count_below_at_most (q * t) more in
          omega (arith, same, moved, one, most, column)
    ]
