-- How many of a node's subchunks are read for one layer.
use Rattle.std.proofs.Common.{◌≡◌, ◌≢◌, ℕ, zero, suc, ◌+◌, ◌*◌, ◌/◌, ◌%◌, ◌<◌, ◌≤◌, Bool, true, false, not, ◌&&◌, ◌||◌, eqb, ltb, get_or, refl, sym, ap, ◌∙◌, inl, inr, arith}
use Rattle.std.proofs.lemmas.Bool.{cases_eq, cases_lt, eq-eqb, ne_eqb, eqb-true, lt-ltb, le-ltb, true≢false, cond-true, false_from_ne_true, and_right, and_left}
use Rattle.std.proofs.lemmas.Nat.{mod_below, div-add-mod'}
use Rattle.clay_grid.specs.Shape.{Shape, row_count, column_count, node_count, layer_count}
use Rattle.clay_grid.specs.Layers.{layer_of}
use Rattle.clay_grid.specs.Limits.{IsGeometry}
use Rattle.clay_grid.specs.Score.{count_below}
use Rattle.clay_grid.proofs.Counting.{count_below_same, count_below_false}
use Rattle.clay_model.proofs.SumLaws.{one_if}
use Rattle.code_laws.proofs.Column.{node_inside}
use Rattle.lost_layers.specs.LostLayers.{IsLostRun, is_wanted, layer_with, partner_node, partner_layer, lost_node, is_unknown}
use Rattle.lost_layers.specs.LostPieces.{is_made, is_piece}
use Rattle.lost_layers.specs.declared.run.LostRun.{LostRun}
use Rattle.lost_layers.proofs.PieceLaws.{some_rows, digit_below, layer_with-below, layer_with-own, digit-layer_with, layer_with-twice, column_of, lost_unknown, count_below_point, eqb_turned}
use Rattle.lost_layers.proofs.Determining.{wanted_between, between_wanted}

-- node i's value in the run's first layer is known
abbrev pub is_known : Shape → LostRun → ℕ → Bool
is_known g run i = not (is_unknown g run run.from i)

abbrev pub is_known_or_lost : Shape → LostRun → ℕ → Bool
is_known_or_lost g run i = is_known g run i || eqb i (lost_node g run)

-- ---- counts

pub count_below_sum : (n : ℕ) (a b c : ℕ → Bool) → ((i : ℕ) → i < n → one_if (a i) ≡ one_if (b i) + one_if (c i)) → count_below n a ≡ count_below n b + count_below n c
count_below_sum zero a b c each = refl
count_below_sum (suc n) a b c each =
    let rest = count_below_sum n a b c (λ i h. each i (omega arith)) in
    let last = each n (omega arith) in
    omega (arith, rest, last)

-- one number, if it passes
count_below_if : (n w : ℕ) (passes : Bool) → w < n → count_below n (λ i. eqb w i && passes) ≡ one_if passes
count_below_if n w true h = count_below_same n (λ i. eqb w i && true) (λ i. eqb w i) (λ i l. and_true (eqb w i)) ∙ count_below_point n w h
  where
    and_true : (b : Bool) → (b && true) ≡ b
    and_true true = refl
    and_true false = refl
count_below_if n w false h = count_below_same n (λ i. eqb w i && false) (λ i. false) (λ i l. and_right (eqb w i) false refl) ∙ count_below_false n

one_more_digit : (d k : ℕ) (same w : Bool) (G : ℕ → Bool) → (d ≡ k → same ≡ w) → (d ≢ k → w ≡ false)
    → one_if ((same && ltb d (suc k)) && G d) ≡ one_if ((same && ltb d k) && G d) + one_if (w && G k)
one_more_digit d k same w G here there =
    elim (cases_eq d k) [
      | inl equal ↦
          let low : ltb d (suc k) ≡ true = lt-ltb d (suc k) (omega (arith, equal)) in
          let high : ltb d k ≡ false = le-ltb d k (omega (arith, equal)) in
          rw (low, high, here equal, equal) (last w (G k))
      | inr other ↦
          let still : ltb d (suc k) ≡ ltb d k = elim (cases_lt d k) [
            | inl less ↦ lt-ltb d (suc k) (omega arith) ∙ sym (lt-ltb d k less)
            | inr more ↦ le-ltb d (suc k) (omega (arith, more, other)) ∙ sym (le-ltb d k more)
          ] in
          rw (still, there other) (none ((same && ltb d k) && G d))
    ]
  where
    last : (w p : Bool) → one_if ((w && true) && p) ≡ one_if ((w && false) && p) + one_if (w && p)
    last true true = refl
    last true false = refl
    last false p = refl

    none : (b : Bool) → one_if b ≡ one_if b + one_if false
    none true = refl
    none false = refl

-- the layers that are layer z but for a digit, by that digit
fibre_below : (g : Shape) (z v x k : ℕ) (G : ℕ → Bool) → 0 < row_count g → v < column_count g → z < layer_count g → get_or (layer_of g z) v 0 ≡ x → x < row_count g → k ≤ row_count g
    → count_below (layer_count g) (λ n. (eqb (layer_with g n v x) z && ltb (get_or (layer_of g n) v 0) k) && G (get_or (layer_of g n) v 0)) ≡ count_below k G
fibre_below g z v x zero G rows hv hz digit hx hk =
    count_below_same (layer_count g) _ (λ n. false) (λ n h. and_left (eqb (layer_with g n v x) z && ltb (get_or (layer_of g n) v 0) 0) (G (get_or (layer_of g n) v 0))
    (and_right (eqb (layer_with g n v x) z) (ltb (get_or (layer_of g n) v 0) 0) (le-ltb (get_or (layer_of g n) v 0) 0 (omega arith))))
    ∙ count_below_false (layer_count g)
fibre_below g z v x (suc k) G rows hv hz digit hx hk =
    let L : ℕ = layer_count g in
    let w : ℕ = layer_with g z v k in
    let less : k < row_count g = omega arith in
    let rest = fibre_below g z v x k G rows hv hz digit hx (omega arith) in
    let split =
    count_below_sum L (λ n. (eqb (layer_with g n v x) z && ltb (get_or (layer_of g n) v 0) (suc k)) && G (get_or (layer_of g n) v 0))
    (λ n. (eqb (layer_with g n v x) z && ltb (get_or (layer_of g n) v 0) k) && G (get_or (layer_of g n) v 0)) (λ n. eqb w n && G k)
    (λ n h. one_more_digit (get_or (layer_of g n) v 0) k (eqb (layer_with g n v x) z) (eqb w n) G
    (λ here. elim (cases_eq (layer_with g n v x) z) [
      | inl same ↦
          let is : w ≡ n = ap (λ u. layer_with g u v k) (sym same) ∙ layer_with-twice g rows n v x k hv hx ∙ layer_with-own g rows n v k h here in
          eq-eqb (layer_with g n v x) z same ∙ sym (eq-eqb w n is)
      | inr other ↦
          ne_eqb (layer_with g n v x) z other
          ∙ sym (ne_eqb w n (λ is. other (ap (λ u. layer_with g u v x) (sym is) ∙ layer_with-twice g rows z v k x hv less ∙ layer_with-own g rows z v x hz digit)))
    ])
    (λ there. ne_eqb w n (λ is. there (ap (λ u. get_or (layer_of g u) v 0) (sym is) ∙ digit-layer_with g rows z v k hv less)))) in
    let one : count_below L (λ n. eqb w n && G k) ≡ one_if (G k) = count_below_if L w (G k) (layer_with-below g rows z v k hv less) in
    omega (arith, rest, split, one)

fibre : (g : Shape) (z v x : ℕ) (G : ℕ → Bool) → 0 < row_count g → v < column_count g → z < layer_count g → get_or (layer_of g z) v 0 ≡ x → x < row_count g
    → count_below (layer_count g) (λ n. eqb (layer_with g n v x) z && G (get_or (layer_of g n) v 0)) ≡ count_below (row_count g) G
fibre g z v x G rows hv hz digit hx =
    count_below_same (layer_count g) _ (λ n. (eqb (layer_with g n v x) z && ltb (get_or (layer_of g n) v 0) (row_count g)) && G (get_or (layer_of g n) v 0))
    (λ n h. ap (λ b. b && G (get_or (layer_of g n) v 0)) (sym (with_true (eqb (layer_with g n v x) z) (ltb (get_or (layer_of g n) v 0) (row_count g)) (lt-ltb (get_or (layer_of g n) v 0) (row_count g) (digit_below g rows n v hv)))))
    ∙ fibre_below g z v x (row_count g) G rows hv hz digit hx (omega arith)
  where
    with_true : (a b : Bool) → b ≡ true → (a && b) ≡ a
    with_true true b h = h
    with_true false b h = refl

-- ---- a node's subchunks

joined : (a f k l : Bool) → ((a || (f && k)) || (l && f)) ≡ (a || (f && (k || l)))
joined true f k l = refl
joined false true true l = refl
joined false true false true = refl
joined false true false false = refl
joined false false k true = refl
joined false false k false = refl

module _ (g : Shape) (run : LostRun) (geometry : IsGeometry g) (fits : IsLostRun g run) (lone : run.to ≡ suc run.from) where
  rows : 0 < row_count g
  rows = some_rows g geometry

  first_below : run.from < layer_count g
  first_below = let top = fits.layers in omega (arith, lone, top)

  inside : lost_node g run < node_count g
  inside = node_inside g run.lost geometry fits.chunk

  made_is : (i n : ℕ) → is_made g run i n ≡ (eqb n run.from && is_known g run i)
  made_is i n =
      ap (λ b. b && not (is_unknown g run n i)) (cond-true (eqb run.to (suc run.from)) (eqb n run.from) _ (eq-eqb run.to (suc run.from) lone))
      ∙ elim (cases_eq n run.from) [
        | inl same ↦ ap (λ v. eqb n run.from && not (is_unknown g run v i)) same
        | inr other ↦ and_left (eqb n run.from) (not (is_unknown g run n i)) (ne_eqb n run.from other) ∙ sym (and_left (eqb n run.from) (is_known g run i) (ne_eqb n run.from other))
      ]

  wanted_is : (n : ℕ) → is_wanted run n ≡ eqb n run.from
  wanted_is n = elim (cases_eq n run.from) [
    | inl same ↦ between_wanted run n (omega (arith, same)) (omega (arith, same, lone)) ∙ sym (eq-eqb n run.from same)
    | inr other ↦
        false_from_ne_true (is_wanted run n) (λ wanted. let between = wanted_between run n wanted in other (omega (arith, lone, between.0, between.1)))
        ∙ sym (ne_eqb n run.from other)
  ]

  pub piece_is : (i n : ℕ) → is_piece g run i n ≡ (not (eqb i (lost_node g run)) && ((eqb n run.from && is_known g run i) || (eqb (partner_layer g i n) run.from && is_known_or_lost g run (partner_node g i n))))
  piece_is i n =
      let j : ℕ = partner_node g i n in
      let p : ℕ = partner_layer g i n in
      (λ k. not (eqb i (lost_node g run)) && (made_is i n k || made_is j p k || (eqb j (lost_node g run) && wanted_is p k)))
      ∙ ap (λ b. not (eqb i (lost_node g run)) && b) (joined (eqb n run.from && is_known g run i) (eqb p run.from) (is_known g run j) (eqb j (lost_node g run)))

  -- a node that is paired in the layer
  pub paired_count : (i : ℕ) → i < node_count g → get_or (layer_of g run.from) (i / row_count g) 0 ≢ i % row_count g → count_below (layer_count g) (is_piece g run i) ≡ one_if (is_known g run i)
  paired_count i h paired =
      let elsewhere : (n : ℕ) → eqb (partner_layer g i n) run.from ≡ false =
      λ n. ne_eqb (partner_layer g i n) run.from
      (λ same. paired (ap (λ u. get_or (layer_of g u) (i / row_count g) 0) (sym same)
      ∙ digit-layer_with g rows n (i / row_count g) (i % row_count g) (column_of g rows i h) (mod_below i (row_count g) rows))) in
      count_below_same (layer_count g) (is_piece g run i) (λ n. eqb run.from n && is_known g run i)
      (λ n l. piece_is i n
      ∙ (λ k. not (eqb i (lost_node g run)) && ((eqb n run.from && is_known g run i) || (elsewhere n k && is_known_or_lost g run (partner_node g i n))))
      ∙ rest (eqb i (lost_node g run)) (eqb n run.from) (is_known g run i) (λ known. ne_eqb i (lost_node g run) (λ e. true≢false (sym known ∙ lost_hidden i e)))
      ∙ ap (λ b. b && is_known g run i) (eqb_turned n run.from))
      ∙ count_below_if (layer_count g) run.from (is_known g run i) first_below
    where
      lost_hidden : (i : ℕ) → i ≡ lost_node g run → is_known g run i ≡ false
      lost_hidden i e = ap (λ v. not (is_unknown g run run.from v)) e ∙ ap not (lost_unknown g run run.from)

      rest : (l e k : Bool) → (k ≡ true → l ≡ false) → (not l && ((e && k) || false)) ≡ (e && k)
      rest true true true apart = ap (λ b. not b && true) (apart refl)
      rest true true false apart = refl
      rest true false true apart = refl
      rest true false false apart = refl
      rest false true true apart = refl
      rest false true false apart = refl
      rest false false true apart = refl
      rest false false false apart = refl

  -- a node that is unpaired in the layer, and not the lost one
  pub unpaired_count : (i : ℕ) → i < node_count g → i ≢ lost_node g run → get_or (layer_of g run.from) (i / row_count g) 0 ≡ i % row_count g
      → count_below (layer_count g) (is_piece g run i) ≡ count_below (row_count g) (λ d. is_known_or_lost g run (i / row_count g * row_count g + d))
  unpaired_count i h other digit =
      let v : ℕ = i / row_count g in
      let x : ℕ = i % row_count g in
      let hv : v < column_count g = column_of g rows i h in
      let hx : x < row_count g = mod_below i (row_count g) rows in
      let lost : eqb i (lost_node g run) ≡ false = ne_eqb i (lost_node g run) other in
      count_below_same (layer_count g) (is_piece g run i) (λ n. eqb (layer_with g n v x) run.from && is_known_or_lost g run (v * row_count g + get_or (layer_of g n) v 0))
      (λ n l. piece_is i n ∙ (λ k. not (lost k) && ((eqb n run.from && is_known g run i) || (eqb (partner_layer g i n) run.from && is_known_or_lost g run (partner_node g i n))))
      ∙ both (eqb n run.from) (is_known g run i) (eqb (partner_layer g i n) run.from) (is_known_or_lost g run (partner_node g i n))
      (λ e. let same : n ≡ run.from = eqb-true n run.from e in
      eq-eqb (partner_layer g i n) run.from (ap (λ u. layer_with g u v x) same ∙ layer_with-own g rows run.from v x first_below digit))
      (λ e known. let same : n ≡ run.from = eqb-true n run.from e in
      let back : partner_node g i n ≡ i = ap (λ u. v * row_count g + get_or (layer_of g u) v 0) same ∙ ap (λ d. v * row_count g + d) digit ∙ div_mod i in
      ap (is_known_or_lost g run) back ∙ ap (λ b. b || eqb i (lost_node g run)) known))
      ∙ fibre g run.from v x (λ d. is_known_or_lost g run (v * row_count g + d)) rows hv first_below digit hx
    where
      div_mod : (i : ℕ) → i / row_count g * row_count g + i % row_count g ≡ i
      div_mod i = div-add-mod' i (row_count g)

      both : (e k f s : Bool) → (e ≡ true → f ≡ true) → (e ≡ true → k ≡ true → s ≡ true) → (not false && ((e && k) || (f && s))) ≡ (f && s)
      both true true f s hf hs = sym (λ i. hf refl i && hs refl refl i)
      both true false f s hf hs = refl
      both false k f s hf hs = refl
