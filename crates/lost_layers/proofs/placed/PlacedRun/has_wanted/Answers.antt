use Rattle.std.proofs.Common.{◌≡◌, ℕ, ◌<◌, true, sym, ap, ◌∙◌, arith}
use Rattle.std.proofs.lemmas.Bool.{ne_eqb, not_from_false}
use Rattle.clay_grid.specs.Shape.{row_count}
use Rattle.clay_grid.specs.Score.{count_below}
use Rattle.lost_layers.specs.LostLayers.{is_wanted, layer_with, lost_column}
use Rattle.lost_layers.proofs.Determining.{count_below_some}
use Rattle.lost_layers.proofs.placed.PlacedRun.has_wanted.Goals as goal

pub returns-then-is_wanted : goal.returns-then-is_wanted
returns-then-is_wanted c =
    let g = c.args.self.now.g in
    let run = c.args.self.now.run in
    let x : ℕ = c.loop-x.x in
    let number : c.partner.result.z ≡ layer_with g c.args.layer (lost_column g run) x =
    c.partner.ensures.number ∙ ap (λ y. layer_with g c.args.layer y x) c.requires.placed.column in
    let wanted : is_wanted run (layer_with g c.args.layer (lost_column g run) x) ≡ true =
    ap (is_wanted run) (sym number) ∙ sym c.is_wanted.ensures ∙ c.if-is_wanted.true in
    let some : 0 < count_below (row_count g) (λ x. is_wanted run (layer_with g c.args.layer (lost_column g run) x)) =
    count_below_some (row_count g) x (λ x. is_wanted run (layer_with g c.args.layer (lost_column g run) x)) (omega (arith, c.loop-x-test.true, c.loop-x.auto.x-end, c.q-x-end.ensures.value)) wanted in
    sym (not_from_false _ (ne_eqb (count_below (row_count g) (λ x. is_wanted run (layer_with g c.args.layer (lost_column g run) x))) 0 (λ e. omega (arith, e, some))))
