-- Which nodes' values are known in the layer that is solved for one layer, and how many.
use Rattle.std.proofs.Common.{◌≡◌, ◌≢◌, ℕ, suc, subst, ◌+◌, ◌-◌, ◌*◌, ◌/◌, ◌%◌, ◌<◌, ◌≤◌, Bool, true, false, not, ◌&&◌, ◌||◌, eqb, get_or, refl, sym, ap, ◌∙◌, inl, inr, arith}
use Rattle.std.proofs.lemmas.Bool.{cases_eq, cases_Bool, eq-eqb, ne_eqb, eqb-true, true≢false, cond-true, cond-false, cond_both, and_right, and_left, not_from_false, or_from}
use Rattle.std.proofs.Math.Nat.{mul_comm}
use Rattle.code_laws.proofs.Pieces.{piece_fits}
use Rattle.std.proofs.lemmas.Nat.{div-mul-add, mod-mul-add, div-add-mod'}
use Rattle.clay_grid.specs.Shape.{Shape, row_count, column_count, node_count}
use Rattle.clay_grid.specs.Layers.{layer_of}
use Rattle.clay_grid.specs.Limits.{IsGeometry}
use Rattle.clay_grid.specs.Score.{count_below}
use Rattle.clay_grid.proofs.Counting.{count_below_same, count_below_true}
use Rattle.clay_model.proofs.SumLaws.{one_if}
use Rattle.clay_model.proofs.Unique.{node_below}
use Rattle.code_laws.proofs.Column.{node_inside}
use Rattle.lost_layers.specs.LostLayers.{IsLostRun, unpaired_node, lost_node, lost_column, is_unpaired, further_node, is_unknown}
use Rattle.lost_layers.specs.declared.run.LostRun.{LostRun}
use Rattle.lost_layers.proofs.PieceLaws.{some_rows, digit_below, column_of, lost_unknown, count_below_point, column_count_is, eqb_turned}
use Rattle.lost_layers.proofs.NodeCounts.{is_known, is_known_or_lost, count_below_sum}

-- ---- how many nodes are known

small_quotient : (m q : ℕ) → m < q → m / q ≡ 0
small_quotient m q h = let own : 0 * q + m ≡ m = omega arith in ap (λ v. v / q) (sym own) ∙ div-mul-add 0 q m h

-- a number of the first column is in no later one
first_column : (v q d m : ℕ) → m < q → v * q + d ≡ m → v ≡ 0
first_column v q d m h is =
    elim (cases_eq v 0) [
      | inl same ↦ same
      | inr other ↦ let fits : 0 * q + q ≤ v * q = piece_fits 0 v q (omega (arith, other)) in absurd (omega (arith, h, is, fits))
    ]

-- the further node stands below the others, isn't one of the last column's paired ones, and is paired itself
record IsFurther (g : Shape) (run : LostRun) : Type 0 where
  inside : further_node g run run.from < node_count g
  apart : (eqb (further_node g run run.from / row_count g) (column_count g - 1) && not (eqb (further_node g run run.from) (unpaired_node g (column_count g - 1) run.from))) ≡ false
  paired : (v : ℕ) → v < column_count g → unpaired_node g v run.from ≢ further_node g run run.from

module _ (g : Shape) (run : LostRun) (geometry : IsGeometry g) (fits : IsLostRun g run) where
  some : 0 < row_count g
  some = some_rows g geometry

  within : lost_node g run < node_count g
  within = node_inside g run.lost geometry fits.chunk

  is_further : is_unpaired g run run.from ≡ false → IsFurther g run
  is_further paired =
      let q : ℕ = row_count g in
      let t : ℕ = column_count g in
      let z : ℕ = run.from in
      let node : ℕ = lost_node g run in
      let more : ℕ = further_node g run z in
      let two : 2 ≤ q = geometry.limits.parity_chunks.0 in
      let columns : 2 ≤ t = geometry.columns.0 in
      let digit : ℕ = get_or (layer_of g z) 0 0 in
      elim (cases_eq (suc (lost_column g run)) t) [
        | inl same ↦
            let is : more ≡ (one_if (eqb digit 0)) = cond-true (eqb (suc (lost_column g run)) t) _ node (eq-eqb (suc (lost_column g run)) t same) in
            let low : more ≤ 1 = subst (λ m. m ≤ 1) (sym is) (cond_both (eqb digit 0) 1 0 (λ m. m ≤ 1) (λ e. omega arith) (λ e. omega arith)) in
            let zero_or : more ≢ digit = λ e. elim (cases_eq digit 0) [
              | inl none ↦ let one : more ≡ 1 = is ∙ cond-true (eqb digit 0) 1 0 (eq-eqb digit 0 none) in omega (arith, e, none, one)
              | inr other ↦ let zero_is : more ≡ 0 = is ∙ cond-false (eqb digit 0) 1 0 (ne_eqb digit 0 other) in other (sym e ∙ zero_is)
            ] in
            let column : more / q ≡ 0 = small_quotient more q (omega (arith, low, two)) in
            record {
              inside = subst (λ v. more < v) (mul_comm t q) (let fits : 0 * q + q ≤ t * q = piece_fits 0 t q (omega (arith, columns)) in omega (arith, fits, low, two));
              apart = and_left (eqb (more / q) (t - 1)) _ (ne_eqb (more / q) (t - 1) (λ e. omega (arith, e, column, columns)));
              paired = λ v hv e.
                  let first : v ≡ 0 = first_column v q (get_or (layer_of g z) v 0) more (omega (arith, low, two)) e in
                  let value : unpaired_node g v z ≡ digit = ap (λ u. unpaired_node g u z) first ∙ (let none : 0 * q + digit ≡ digit = omega arith in none) in
                  zero_or (sym e ∙ value);
            }
        | inr other ↦
            let is : more ≡ node = cond-false (eqb (suc (lost_column g run)) t) _ node (ne_eqb (suc (lost_column g run)) t other) in
            record {
              inside = subst (λ v. v < node_count g) (sym is) within;
              apart = and_left (eqb (more / q) (t - 1)) _ (ne_eqb (more / q) (t - 1) (λ e. let y_is : lost_column g run ≡ t - 1 = ap (λ v. v / q) (sym is) ∙ e in other (omega (arith, y_is, columns))));
              paired = λ v hv e.
                  let small : get_or (layer_of g z) v 0 < q = digit_below g some z v hv in
                  let column : node / q ≡ v = ap (λ u. u / q) (sym (e ∙ is)) ∙ div-mul-add v q (get_or (layer_of g z) v 0) small in
                  let row : node % q ≡ get_or (layer_of g z) v 0 = ap (λ u. u % q) (sym (e ∙ is)) ∙ mod-mul-add v q (get_or (layer_of g z) v 0) small in
                  true≢false (sym (eq-eqb (get_or (layer_of g z) (node / q) 0) (node % q) (ap (λ y. get_or (layer_of g z) y 0) column ∙ sym row)) ∙ paired);
            }
      ]

  -- an unpaired node that isn't the lost one is known
  pub unpaired_known : (v : ℕ) → v < column_count g → unpaired_node g v run.from ≢ lost_node g run → is_known g run (unpaired_node g v run.from) ≡ true
  unpaired_known v hv other =
      let q : ℕ = row_count g in
      let z : ℕ = run.from in
      let last : ℕ = column_count g - 1 in
      let node : ℕ = lost_node g run in
      let u : ℕ = unpaired_node g v z in
      let small : get_or (layer_of g z) v 0 < q = digit_below g some z v hv in
      let column : u / q ≡ v = div-mul-add v q (get_or (layer_of g z) v 0) small in
      not_from_false (is_unknown g run z u) (elim (cases_Bool (is_unpaired g run z)) [
        | inl alone ↦
            cond-true (is_unpaired g run z) _ _ alone
            ∙ ne_eqb (u / q) (lost_column g run) (λ e.
            let y_is : v ≡ lost_column g run = sym column ∙ e in
            let digit : get_or (layer_of g z) (lost_column g run) 0 ≡ node % q = eqb-true (get_or (layer_of g z) (lost_column g run) 0) (node % q) alone in
            other (ap (λ y. unpaired_node g y z) y_is ∙ ap (λ d. lost_column g run * q + d) digit ∙ div-add-mod' node q))
        | inr paired ↦
            let further = is_further paired in
            cond-false (is_unpaired g run z) _ _ paired
            ∙ or_from (eqb (u / q) last && not (eqb u (unpaired_node g last z))) (eqb u (further_node g run z))
            (elim (cases_eq v last) [
              | inl same ↦ and_right (eqb (u / q) last) _ (ap not (eq-eqb u (unpaired_node g last z) (ap (λ y. unpaired_node g y z) same)))
              | inr apart ↦ and_left (eqb (u / q) last) _ (ne_eqb (u / q) last (λ e. apart (sym column ∙ e)))
            ])
            (ne_eqb u (further_node g run z) (further.paired v hv))
      ])

  unknown_count : count_below (node_count g) (is_unknown g run run.from) ≡ row_count g
  unknown_count =
      let q : ℕ = row_count g in
      let t : ℕ = column_count g in
      let z : ℕ = run.from in
      let last : ℕ = t - 1 in
      let alone : ℕ = unpaired_node g last z in
      let more : ℕ = further_node g run z in
      let columns : 2 ≤ t = geometry.columns.0 in
      let top : last < t = omega (arith, columns) in
      elim (cases_Bool (is_unpaired g run z)) [
        | inl unpaired ↦
            count_below_same (q * t) (is_unknown g run z) (λ i. eqb (i / q) (lost_column g run)) (λ i h. cond-true (is_unpaired g run z) _ _ unpaired)
            ∙ column_count_is q t (lost_column g run) some (column_of g some (lost_node g run) within)
        | inr paired ↦
            let further = is_further paired in
            let small : get_or (layer_of g z) last 0 < q = digit_below g some z last top in
            let same : count_below (q * t) (is_unknown g run z) ≡ count_below (q * t) (λ i. (eqb (i / q) last && not (eqb i alone)) || eqb i more) =
            count_below_same (q * t) (is_unknown g run z) (λ i. (eqb (i / q) last && not (eqb i alone)) || eqb i more) (λ i h. cond-false (is_unpaired g run z) _ _ paired) in
            let parts = count_below_sum (q * t) (λ i. (eqb (i / q) last && not (eqb i alone)) || eqb i more) (λ i. eqb (i / q) last && not (eqb i alone)) (λ i. eqb more i)
            (λ i h. subst (λ b. one_if ((eqb (i / q) last && not (eqb i alone)) || eqb i more) ≡ one_if (eqb (i / q) last && not (eqb i alone)) + one_if b) (eqb_turned i more)
            (either (eqb (i / q) last && not (eqb i alone)) (eqb i more) (λ e. ap (λ v. eqb (v / q) last && not (eqb v alone)) (eqb-true i more e) ∙ further.apart))) in
            let column = count_below_sum (q * t) (λ i. eqb (i / q) last) (λ i. eqb (i / q) last && not (eqb i alone)) (λ i. eqb alone i)
            (λ i h. subst (λ b. one_if (eqb (i / q) last) ≡ one_if (eqb (i / q) last && not (eqb i alone)) + one_if b) (eqb_turned i alone)
            (without (eqb (i / q) last) (eqb i alone) (λ e. eq-eqb (i / q) last (ap (λ v. v / q) (eqb-true i alone e) ∙ div-mul-add last q (get_or (layer_of g z) last 0) small)))) in
            let whole : count_below (q * t) (λ i. eqb (i / q) last) ≡ q = column_count_is q t last some top in
            let one : count_below (q * t) (λ i. eqb alone i) ≡ 1 = count_below_point (q * t) alone (node_below q t (get_or (layer_of g z) last 0) last small top) in
            let another : count_below (q * t) (λ i. eqb more i) ≡ 1 = count_below_point (q * t) more further.inside in
            omega (arith, same, parts, column, whole, one, another)
      ]
    where
      either : (a b : Bool) → (b ≡ true → a ≡ false) → one_if (a || b) ≡ one_if a + one_if b
      either true true h = absurd (true≢false (h refl))
      either true false h = refl
      either false true h = refl
      either false false h = refl

      without : (a b : Bool) → (b ≡ true → a ≡ true) → one_if a ≡ one_if (a && not b) + one_if b
      without true true h = refl
      without true false h = refl
      without false true h = absurd (true≢false (sym (h refl)))
      without false false h = refl

  pub known_count : count_below (node_count g) (is_known g run) + row_count g ≡ node_count g
  known_count =
      let all : count_below (node_count g) (λ i. true) ≡ node_count g = count_below_true (node_count g) in
      let parts = count_below_sum (node_count g) (λ i. true) (is_known g run) (is_unknown g run run.from) (λ i h. one_of (is_unknown g run run.from i)) in
      let unknown = unknown_count in
      omega (arith, all, parts, unknown)
    where
      one_of : (b : Bool) → one_if true ≡ one_if (not b) + one_if b
      one_of true = refl
      one_of false = refl

  pub known_or_lost_count : count_below (node_count g) (is_known_or_lost g run) ≡ count_below (node_count g) (is_known g run) + 1
  known_or_lost_count =
      let node : ℕ = lost_node g run in
      let one : count_below (node_count g) (λ i. eqb node i) ≡ 1 = count_below_point (node_count g) node within in
      let parts = count_below_sum (node_count g) (is_known_or_lost g run) (is_known g run) (λ i. eqb node i)
      (λ i h. subst (λ b. one_if (is_known g run i || eqb i node) ≡ one_if (is_known g run i) + one_if b) (eqb_turned i node)
      (apart (is_known g run i) (eqb i node) (λ e. ap (is_known g run) (eqb-true i node e) ∙ ap not (lost_unknown g run run.from)))) in
      omega (arith, one, parts)
    where
      apart : (a b : Bool) → (b ≡ true → a ≡ false) → one_if (a || b) ≡ one_if a + one_if b
      apart true true h = absurd (true≢false (h refl))
      apart true false h = refl
      apart false true h = refl
      apart false false h = refl
