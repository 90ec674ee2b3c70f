use Rattle.std.proofs.Common.{◌≡◌, ◌*◌, ◌≤◌, length, sym, subst, ap, ◌∙◌, arith}
use Rattle.std.proofs.lemmas.List.FromFn.{length-range_with_len}
use Rattle.std.specs.Prelude.{IfOk}
use Rattle.clay_grid.specs.Shape.{row_count}
use Rattle.clay_model.specs.Points.{AreDistinct}
use Rattle.code_laws.proofs.ColumnPoints.{AreDistinct-range}
use Rattle.generator_matrix.specs.Generated.{IsGeneratorOf}
use Rattle.lane_repair.proofs.repair_plan.column_generator.Goals as goal

pub generator_of-requires-clause-few : goal.generator_of-requires-clause-few
generator_of-requires-clause-few c =
    let first = c.args.column * row_count c.args.g in
    let count : length c.deref.result.now ≡ row_count c.args.g =
    ap length (c.deref.ensures.value ∙ c.in_ok-points.ensures) ∙ length-range_with_len first (row_count c.args.g) in
    let most : row_count c.args.g ≤ 8 = c.requires.geometry.limits.parity_chunks.1 in
    omega (arith, count, most)

pub generator_of-requires-clause-distinct : goal.generator_of-requires-clause-distinct
generator_of-requires-clause-distinct c =
    subst AreDistinct (sym (c.deref.ensures.value ∙ c.in_ok-points.ensures)) (AreDistinct-range (c.args.column * row_count c.args.g) (row_count c.args.g))

pub returns : goal.returns
returns c =
    subst (λ points. IfOk c.generator_of.result (λ made. IsGeneratorOf c.args.g points made.unknown made.each)) (c.deref.ensures.value ∙ c.in_ok-points.ensures) c.generator_of.ensures
