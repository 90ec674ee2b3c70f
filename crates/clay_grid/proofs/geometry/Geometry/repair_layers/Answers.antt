use Rattle.std.proofs.Common.{◌≡◌, ℕ, ◌*◌, Bool, eqb, [], length, get_or, filter, sym, ap, ◌∙◌, arith}
use Rattle.std.specs.List.{range_with_len}
use Rattle.std.proofs.lemmas.Bool.{eq-eqb, ne_eqb}
use Rattle.clay_grid.specs.Shape.{row_count, layer_count}
use Rattle.clay_grid.specs.Layers.{layer_of}
use Rattle.clay_grid.proofs.Rising.{filter_pass, filter_fail}
use Rattle.clay_grid.proofs.RepairLaws.{length-layers_with_digit}
use Rattle.clay_grid.proofs.geometry.Geometry.repair_layers.Goals as goal
use Rattle.clay_grid.proofs.geometry.Geometry.repair_layers.Goals.{then-digit-x+in_ok-push, else-digit-x}

pub loop-z-preserved : goal.loop-z-preserved
loop-z-preserved c =
    let test : ℕ → Bool = λ z. eqb (get_or (layer_of c.args.self.now z) c.place-x.result.1 0) c.place-x.result.0 in
    elim c.if-digit-x.branch [
      | then-digit-x+in_ok-push w ↦
          filter_pass test c.loop-z.z [] c.loop-z.layers.items _ (ap (λ v. v.items) w.layers-is ∙ w.in_ok-push.ensures.items) c.loop-z.invariant (eq-eqb _ _ (sym c.digit.ensures.value ∙ w.if-digit-x.true))
      | else-digit-x w ↦
          ap (λ v. v.items) w.layers-is ∙ filter_fail test c.loop-z.z [] c.loop-z.layers.items c.loop-z.invariant (ne_eqb _ _ (λ e. w.if-digit-x.false (c.digit.ensures.value ∙ e)))
    ]

pub returns-clause-count : goal.returns-clause-count
returns-clause-count c =
    let all : c.loop-z.z ≡ layer_count c.args.self.now = omega (arith, c.loop-z-test.false, c.loop-z.auto.z-end, c.alpha-z-end.ensures.value) in
    ap (λ n. n * row_count c.args.self.now) (c.loop-z.layers.ok.0 ∙ ap length (c.loop-z.invariant ∙ ap (λ n. filter (λ z. eqb (get_or (layer_of c.args.self.now z) c.place-x.result.1 0) c.place-x.result.0) (range_with_len 0 n)) all))
    ∙ length-layers_with_digit c.args.self.now c.place-x.result.1 c.place-x.result.0 c.place-x.ensures.in_columns c.place-x.ensures.in_rows
