use Rattle.std.proofs.Common.{◌≡◌, ◌/◌, ◌%◌, ℕ, sym, subst, ◌∙◌}
use Rattle.std.proofs.lemmas.Result.{IfOk-weaker}
use Rattle.clay_grid.specs.Shape.{row_count}
use Rattle.clay_grid.specs.Score.{IsByScore}
use Rattle.clay_aloof.specs.Shape.{rows_of, grid_of, node_of}
use Rattle.clay_aloof.specs.Rebuilt.{kept_layers}
use Rattle.clay_aloof.specs.Ordered.{AreKept}
use Rattle.clay_aloof.proofs.Parts.{are_kept}
use Rattle.clay_aloof.proofs.lost_chunk.given_layers.Goals as goal

pub returns : goal.returns
returns c =
    let g = c.args.g in
    let lost : ℕ = c.args.lost in
    let grid : c.grid-grid.result ≡ grid_of g = c.grid-grid.ensures.value in
    let erased = c.args.erased.now in
    let order : IsByScore (grid_of g) erased c.in_ok-order.order.items = subst (λ s. IsByScore s erased c.in_ok-order.order.items) grid c.in_ok-order.ensures in
    let row : c.place-x.result.0 ≡ node_of g lost % rows_of g = c.place-x.ensures.row ∙ (λ k. c.node_of_chunk.ensures.value k % row_count (grid k)) in
    let column : c.place-x.result.1 ≡ node_of g lost / rows_of g = c.place-x.ensures.column ∙ (λ k. c.node_of_chunk.ensures.value k / row_count (grid k)) in
    IfOk-weaker c.ordered_layers.result (λ v. v.items ≡ kept_layers c.grid-grid.result c.place-x.result.0 c.place-x.result.1 c.deref.result.now) (λ v. AreKept g lost erased v.items)
    (λ v is. subst (AreKept g lost erased) (sym (is ∙ (λ k. kept_layers (grid k) (row k) (column k) (c.deref.ensures.value k)))) (are_kept g lost erased c.in_ok-order.order.items order))
    c.ordered_layers.ensures
