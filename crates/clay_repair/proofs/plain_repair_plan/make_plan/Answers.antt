use Rattle.std.proofs.Common.{◌≡◌, ◌*◌, ◌/◌, ◌%◌, ◌≤◌, length, replicate, sym, subst, ap, ◌∙◌, arith}
use Rattle.std.proofs.lemmas.List.FromFn.{length-range_with_len}
use Rattle.clay_grid.specs.Shape.{row_count}
use Rattle.clay_model.specs.Points.{AreDistinct}
use Rattle.code_laws.proofs.ColumnPoints.{AreDistinct-range}
use Rattle.clay_repair.proofs.plain_repair_plan.make_plan.Goals as goal

pub new-requires-clause-few : goal.new-requires-clause-few
new-requires-clause-few c =
    let first = c.place-row.result.1 * row_count c.args.g in
    let count : length c.deref.result.now ≡ row_count c.args.g =
    ap length (c.deref.ensures.value ∙ c.in_ok-points.ensures) ∙ length-range_with_len first (row_count c.args.g) in
    let most : row_count c.args.g ≤ 8 = c.w.ensures.geometry.limits.parity_chunks.1 in
    omega (arith, count, most)

pub new-requires-clause-distinct : goal.new-requires-clause-distinct
new-requires-clause-distinct c =
    subst AreDistinct (sym (c.deref.ensures.value ∙ c.in_ok-points.ensures)) (AreDistinct-range (c.place-row.result.1 * row_count c.args.g) (row_count c.args.g))

pub returns-clause-plan : goal.returns-clause-plan
returns-clause-plan c = record {
  geometry = c.w.ensures.geometry;
  chunk = c.requires;
  row = c.place-row.ensures.row ∙ ap (λ n. n % row_count c.args.g) c.node_of_chunk.ensures.value;
  column = c.place-row.ensures.column ∙ ap (λ n. n / row_count c.args.g) c.node_of_chunk.ensures.value;
  nodes = c.in_ok-erased.ensures.len;
  erased_are = c.in_ok-erased.ensures.value;
  points = c.in_ok-solver.ensures ∙ c.deref.ensures.value ∙ c.in_ok-points.ensures;
  layers = c.in_ok-layers.ensures.layers;
  empty = c.in_ok-zeros.ensures ∙ ap (λ n. replicate n 0) c.w.ensures.value;
}
