-- Which layers serve, and which are solved.
use Rattle.std.proofs.Common.{◌≡◌, ◌≢◌, ℕ, zero, suc, subst, ◌+◌, ◌-◌, ◌*◌, ◌/◌, ◌%◌, ◌<◌, Bool, true, false, not, ◌&&◌, ◌||◌, eqb, get_or, refl, sym, ap, ◌∙◌, inl, inr, arith}
use Rattle.std.proofs.lemmas.Bool.{cases_eq, cases_Bool, eq-eqb, ne_eqb, eqb-true, true≢false, and_from, and_parts, or_cases, or_left, or_right, not_from_false}
use Rattle.std.proofs.lemmas.Nat.{mod_below, div-add-mod'}
use Rattle.std.proofs.lemmas.List.{get_or-set_other}
use Rattle.clay_grid.specs.Shape.{row_count, column_count, node_count}
use Rattle.clay_grid.specs.Layers.{layer_of}
use Rattle.clay_grid.specs.Score.{count_below}
use Rattle.clay_grid.proofs.Counting.{count_below_same, count_below_false}
use Rattle.clay_model.proofs.SumLaws.{one_if}
use Rattle.lost_layers.specs.LostLayers.{is_wanted, unpaired_node, partner_node, partner_layer, lost_node}
use Rattle.lost_layers.proofs.PieceLaws.{digit-layer_with, layer_of-layer_with, column_of}
use Rattle.lost_layers.proofs.Determining.{count_below_some, wanted_between}
use Rattle.lost_layers.specs.Erased.{Erased, is_unknown}
use Rattle.lost_layers.specs.ErasedLayers.{digit_serves, serves, mate, takes_own, is_solved_for, is_solved}

-- ---- counts

pub none_passes : (n : ℕ) (f : ℕ → Bool) → count_below n f ≡ 0 → (i : ℕ) → i < n → f i ≡ false
none_passes zero f h i l = absurd (omega arith)
none_passes (suc n) f h i l =
    elim (cases_Bool (f i)) [
      | inr fails ↦ fails
      | inl passes ↦
          let some : 0 < count_below (suc n) f = count_below_some (suc n) i f l passes in
          absurd (omega (arith, h, some))
    ]

pub some_passes : (n : ℕ) (f : ℕ → Bool) → 0 < count_below n f → (i : ℕ) × (i < n) × (f i ≡ true)
some_passes zero f h = absurd (omega arith)
some_passes (suc n) f h =
    elim (cases_Bool (f n)) [
      | inl passes ↦ (n, omega arith, passes)
      | inr fails ↦
          let last : one_if (f n) ≡ 0 = ap one_if fails in
          let rest = some_passes n f (omega (arith, h, last)) in
          (rest.0, omega (arith, rest.1), rest.2)
    ]

-- ---- a layer that serves

module _ (e : Erased) where
  pub each_serves : (z n : ℕ) → serves e z n ≡ true → (y : ℕ) → y < column_count e.g → digit_serves e z n y ≡ true
  each_serves z n h y hy =
      not-true' (digit_serves e z n y) (none_passes (column_count e.g) (λ y. not (digit_serves e z n y)) (eqb-true _ 0 h) y hy)
    where
      not-true' : (b : Bool) → not b ≡ false → b ≡ true
      not-true' true h = refl
      not-true' false h = absurd (true≢false h)

  pub all_serve : (z n : ℕ) → ((y : ℕ) → y < column_count e.g → digit_serves e z n y ≡ true) → serves e z n ≡ true
  all_serve z n each =
      eq-eqb (count_below (column_count e.g) (λ y. not (digit_serves e z n y))) 0
      (count_below_same (column_count e.g) (λ y. not (digit_serves e z n y)) (λ y. false) (λ y h. ap not (each y h)) ∙ count_below_false (column_count e.g))

  -- a digit that doesn't serve
  pub one_fails : (z n y : ℕ) → y < column_count e.g → digit_serves e z n y ≡ false → serves e z n ≡ false
  one_fails z n y hy fails =
      elim (cases_Bool (serves e z n)) [
        | inr not_all ↦ not_all
        | inl all ↦ absurd (true≢false (sym (each_serves z n all y hy) ∙ fails))
      ]

  pub serves_itself : (z : ℕ) → serves e z z ≡ true
  serves_itself z = all_serve z z (λ y h. or_left (eqb (get_or (layer_of e.g z) y 0) (get_or (layer_of e.g z) y 0)) _ (eq-eqb (get_or (layer_of e.g z) y 0) _ refl))

  module _ (rows : 0 < row_count e.g) (n i : ℕ) (inside : i < node_count e.g) (known : is_unknown e i ≡ false) (unknown : is_unknown e (partner_node e.g i n) ≡ true) where
    column : i / row_count e.g < column_count e.g
    column = column_of e.g rows i inside

    row : i % row_count e.g < row_count e.g
    row = mod_below i (row_count e.g) rows

    digit : get_or (layer_of e.g (partner_layer e.g i n)) (i / row_count e.g) 0 ≡ i % row_count e.g
    digit = digit-layer_with e.g rows n (i / row_count e.g) (i % row_count e.g) column row

    here : unpaired_node e.g (i / row_count e.g) (partner_layer e.g i n) ≡ i
    here = ap (λ d. i / row_count e.g * row_count e.g + d) digit ∙ div-add-mod' i (row_count e.g)

    elsewhere : (v : ℕ) → v ≢ i / row_count e.g → get_or (layer_of e.g (partner_layer e.g i n)) v 0 ≡ get_or (layer_of e.g n) v 0
    elsewhere v other =
        ap (λ l. get_or l v 0) (layer_of-layer_with e.g rows n (i / row_count e.g) (i % row_count e.g) column row)
        ∙ get_or-set_other (layer_of e.g n) (i / row_count e.g) v (i % row_count e.g) 0 other

    -- z's digit of the node's column names an unknown node
    named : (z : ℕ) → digit_serves e z n (i / row_count e.g) ≡ true → is_unknown e (unpaired_node e.g (i / row_count e.g) z) ≡ true
    named z served =
        elim (or_cases (eqb (get_or (layer_of e.g n) (i / row_count e.g) 0) (get_or (layer_of e.g z) (i / row_count e.g) 0)) _ served) [
          | inl same ↦ ap (λ d. is_unknown e (i / row_count e.g * row_count e.g + d)) (sym (eqb-true _ _ same)) ∙ unknown
          | inr both ↦ (and_parts (is_unknown e (unpaired_node e.g (i / row_count e.g) z)) _ both).0
        ]

    -- the layer of an unknown partner of a known node serves too
    pub partner_serves : (z : ℕ) → serves e z n ≡ true → serves e z (partner_layer e.g i n) ≡ true
    partner_serves z served =
        all_serve z (partner_layer e.g i n) (λ v hv. elim (cases_eq v (i / row_count e.g)) [
          | inl same ↦
              subst (λ v. digit_serves e z (partner_layer e.g i n) v ≡ true) (sym same)
              (or_right (eqb (get_or (layer_of e.g (partner_layer e.g i n)) (i / row_count e.g) 0) (get_or (layer_of e.g z) (i / row_count e.g) 0)) _
              (and_from (is_unknown e (unpaired_node e.g (i / row_count e.g) z)) (not (is_unknown e (unpaired_node e.g (i / row_count e.g) (partner_layer e.g i n))))
              (named z (each_serves z n served (i / row_count e.g) column))
              (not_from_false (is_unknown e (unpaired_node e.g (i / row_count e.g) (partner_layer e.g i n))) (ap (is_unknown e) here ∙ known))))
          | inr other ↦
              (λ k. eqb (elsewhere v other k) (get_or (layer_of e.g z) v 0)
              || (is_unknown e (unpaired_node e.g v z) && not (is_unknown e (v * row_count e.g + elsewhere v other k))))
              ∙ each_serves z n served v hv
        ])

    pub partner_solved : is_solved e n ≡ true → is_solved e (partner_layer e.g i n) ≡ true
    partner_solved solved =
        let count : ℕ = e.run.to - e.run.from in
        let some : 0 < count_below count (λ d. is_solved_for e (e.run.from + d) n) = nonzero count (λ d. is_solved_for e (e.run.from + d) n) solved in
        let found = some_passes count (λ d. is_solved_for e (e.run.from + d) n) some in
        let z : ℕ = e.run.from + found.0 in
        counted count (λ d. is_solved_for e (e.run.from + d) (partner_layer e.g i n)) found.0 found.1
        (elim (or_cases (takes_own e z && serves e z n) _ found.2) [
          | inl own ↦
              let both = and_parts (takes_own e z) (serves e z n) own in
              or_left (takes_own e z && serves e z (partner_layer e.g i n)) _ (and_from (takes_own e z) (serves e z (partner_layer e.g i n)) both.0 (partner_serves z both.1))
          | inr theirs ↦
              let u : ℕ = partner_layer e.g (lost_node e.g e.run) z in
              let both = and_parts (is_unknown e (mate e z)) (serves e u n) theirs in
              or_right (takes_own e z && serves e z (partner_layer e.g i n)) _
              (and_from (is_unknown e (mate e z)) (serves e u (partner_layer e.g i n)) both.0 (partner_serves u both.1))
        ])
      where
        nonzero : (n : ℕ) (f : ℕ → Bool) → not (eqb (count_below n f) 0) ≡ true → 0 < count_below n f
        nonzero n f h = elim (cases_eq (count_below n f) 0) [
          | inl none ↦ absurd (true≢false (sym h ∙ ap not (eq-eqb (count_below n f) 0 none)))
          | inr some ↦ omega (arith, some)
        ]

        counted : (n : ℕ) (f : ℕ → Bool) (i : ℕ) → i < n → f i ≡ true → not (eqb (count_below n f) 0) ≡ true
        counted n f i h passes =
            let some : 0 < count_below n f = count_below_some n i f h passes in
            not_from_false (eqb (count_below n f) 0) (ne_eqb (count_below n f) 0 (λ none. omega (arith, none, some)))

  -- what is solved for the layer at a place of the run is solved
  pub solved_at : (n d : ℕ) → d < e.run.to - e.run.from → is_solved_for e (e.run.from + d) n ≡ true → is_solved e n ≡ true
  solved_at n d h solved =
      let count : ℕ = e.run.to - e.run.from in
      let some : 0 < count_below count (λ d. is_solved_for e (e.run.from + d) n) = count_below_some count d (λ d. is_solved_for e (e.run.from + d) n) h solved in
      not_from_false (eqb (count_below count (λ d. is_solved_for e (e.run.from + d) n)) 0)
      (ne_eqb (count_below count (λ d. is_solved_for e (e.run.from + d) n)) 0 (λ none. omega (arith, none, some)))

  -- what is solved for a wanted layer is solved
  pub solved_for : (z n : ℕ) → is_wanted e.run z ≡ true → is_solved_for e z n ≡ true → is_solved e n ≡ true
  solved_for z n wanted solved =
      let between = wanted_between e.run z wanted in
      let at : e.run.from + (z - e.run.from) ≡ z = omega (arith, between.0) in
      solved_at n (z - e.run.from) (omega (arith, between.0, between.1)) (ap (λ v. is_solved_for e v n) at ∙ solved)

  pub own_solved : (z : ℕ) → is_wanted e.run z ≡ true → takes_own e z ≡ true → is_solved e z ≡ true
  own_solved z wanted own = solved_for z z wanted (or_left (takes_own e z && serves e z z) _ (and_from (takes_own e z) (serves e z z) own (serves_itself z)))

  pub mate_solved : (z : ℕ) → is_wanted e.run z ≡ true → is_unknown e (mate e z) ≡ true → is_solved e (partner_layer e.g (lost_node e.g e.run) z) ≡ true
  mate_solved z wanted unknown =
      let u : ℕ = partner_layer e.g (lost_node e.g e.run) z in
      solved_for z u wanted (or_right (takes_own e z && serves e z u) _ (and_from (is_unknown e (mate e z)) (serves e u u) unknown (serves_itself u)))
