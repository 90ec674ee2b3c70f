use Rattle.std.proofs.Common.{◌≡◌, ℕ, ◌/◌, ◌%◌, Bool, eqb, [], get_or, filter, sym, ap, ◌∙◌, arith}
use Rattle.std.specs.List.{range_with_len}
use Rattle.std.proofs.lemmas.Bool.{eq-eqb, ne_eqb}
use Rattle.clay_grid.specs.Shape.{row_count, layer_count}
use Rattle.clay_grid.specs.Layers.{layer_of}
use Rattle.clay_grid.proofs.Rising.{filter_pass, filter_fail}
use Rattle.clay_aloof.specs.Shape.{grid_of, node_of, rows_of}
use Rattle.clay_aloof.proofs.lost_chunk.aloof_layers.Goals as goal
use Rattle.clay_aloof.proofs.lost_chunk.aloof_layers.Goals.{then-digit-x+in_ok-push, else-digit-x}

pub loop-z-preserved : goal.loop-z-preserved
loop-z-preserved c =
    let test : ℕ → Bool = λ z. eqb (get_or (layer_of c.grid-grid.result z) c.place-x.result.1 0) c.place-x.result.0 in
    elim c.if-digit-x.branch [
      | then-digit-x+in_ok-push w ↦
          filter_pass test c.loop-z.z [] c.loop-z.layers.items _ (ap (λ v. v.items) w.layers-is ∙ w.in_ok-push.ensures.items) c.loop-z.invariant (eq-eqb _ _ (sym c.digit.ensures.value ∙ w.if-digit-x.true))
      | else-digit-x w ↦
          ap (λ v. v.items) w.layers-is ∙ filter_fail test c.loop-z.z [] c.loop-z.layers.items c.loop-z.invariant (ne_eqb _ _ (λ e. w.if-digit-x.false (c.digit.ensures.value ∙ e)))
    ]

pub returns : goal.returns
returns c =
    let g = c.args.g in
    let grid : c.grid-grid.result ≡ grid_of g = c.grid-grid.ensures.value in
    let ended : c.loop-z.z ≡ c.alpha-z-end.result = omega (arith, c.loop-z-test.false, c.loop-z.auto.z-end) in
    let all : c.loop-z.z ≡ layer_count (grid_of g) = ended ∙ c.alpha-z-end.ensures.value ∙ ap layer_count grid in
    let row : c.place-x.result.0 ≡ node_of g c.args.lost % rows_of g = c.place-x.ensures.row ∙ (λ k. c.node_of_chunk-node.ensures.value k % row_count (grid k)) in
    let column : c.place-x.result.1 ≡ node_of g c.args.lost / rows_of g = c.place-x.ensures.column ∙ (λ k. c.node_of_chunk-node.ensures.value k / row_count (grid k)) in
    c.loop-z.invariant ∙ (λ k. filter (λ z. eqb (get_or (layer_of (grid k) z) (column k) 0) (row k)) (range_with_len 0 (all k)))
