use Rattle.std.proofs.Common.{◌≡◌, ◌<◌, ◌≤◌, length, replicate, sym, subst, ap, ◌∙◌, arith}
use Rattle.clay_grid.specs.Shape.{node_count}
use Rattle.clay_grid.specs.Limits.{IsGeometry}
use Rattle.clay_grid.specs.Score.{IsByScore}
use Rattle.clay_model.specs.Erased.{erased_below}
use Rattle.clay_model.specs.Points.{AreDistinct}
use Rattle.code_laws.proofs.ErasedNodes.{AreDistinct-erased}
use Rattle.generator_matrix.specs.Generated.{IsGeneratorOf}
use Rattle.lane_repair.specs.Views.{pieces_of}
use Rattle.clay_lanes.proofs.Shown.{few_gone}
use Rattle.clay_lanes.proofs.recovery_plan.plan_of.Goals as goal

pub generator_of-requires-clause-few : goal.generator_of-requires-clause-few
generator_of-requires-clause-few c =
    let g = c.args.g in
    let geometry : IsGeometry g = c.w.ensures.geometry in
    let rows : 0 < g.parity_count = let some = geometry.limits.parity_chunks.0 in omega arith in
    let few = few_gone g (pieces_of c.args.have) c.in_ok-zeros.zeros c.in_ok-erased.erased.items rows c.requires.count c.in_ok-erased.ensures.value c.requires.few in
    let most : g.parity_count ≤ 8 = geometry.limits.parity_chunks.1 in
    let points_are : c.deref-2.result.now ≡ erased_below c.in_ok-erased.erased.items (node_count g) =
    c.deref-2.ensures.value ∙ c.in_ok-points.ensures
    ∙ (λ k. erased_below (c.deref.ensures.value k) (length (c.deref.ensures.value k)))
    ∙ ap (erased_below c.in_ok-erased.erased.items) c.in_ok-erased.ensures.len in
    subst (λ l. length l ≤ 8) (sym points_are) (omega arith)

pub generator_of-requires-clause-distinct : goal.generator_of-requires-clause-distinct
generator_of-requires-clause-distinct c =
    let g = c.args.g in
    let points_are : c.deref-2.result.now ≡ erased_below c.in_ok-erased.erased.items (node_count g) =
    c.deref-2.ensures.value ∙ c.in_ok-points.ensures
    ∙ (λ k. erased_below (c.deref.ensures.value k) (length (c.deref.ensures.value k)))
    ∙ ap (erased_below c.in_ok-erased.erased.items) c.in_ok-erased.ensures.len in
    subst AreDistinct (sym points_are) (AreDistinct-erased c.in_ok-erased.erased.items (node_count g))

pub returns : goal.returns
returns c =
    let g = c.args.g in
    let rows : 0 < g.parity_count = let some = c.w.ensures.geometry.limits.parity_chunks.0 in omega arith in
    let few = few_gone g (pieces_of c.args.have) c.in_ok-zeros.zeros c.in_ok-erased.erased.items rows c.requires.count c.in_ok-erased.ensures.value c.requires.few in
    let points : c.in_ok-points.points.items ≡ erased_below c.in_ok-erased.erased.items (node_count g) = c.in_ok-points.ensures
    ∙ (λ k. erased_below (c.deref.ensures.value k) (length (c.deref.ensures.value k)))
    ∙ ap (erased_below c.in_ok-erased.erased.items) c.in_ok-erased.ensures.len in
    record {
      geometry = c.w.ensures.geometry;
      few = subst (λ l. length l ≤ g.parity_count) (sym points) few;
      nodes = c.in_ok-erased.ensures.len;
      erased_are = c.in_ok-erased.ensures.value;
      points_are = points;
      generator = subst (λ p. IsGeneratorOf g p c.in_ok-generator.generator.unknown c.in_ok-generator.generator.each) c.deref-2.ensures.value c.in_ok-generator.ensures;
      order = subst (λ e. IsByScore g e c.in_ok-layers.layers.items) c.deref-3.ensures.value c.in_ok-layers.ensures;
      empty = c.in_ok-zeros.ensures ∙ ap (λ n. replicate n 0) c.w.ensures.value;
      fifths = c.fifths.ensures;
    }
