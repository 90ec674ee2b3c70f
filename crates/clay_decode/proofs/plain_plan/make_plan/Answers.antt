use Rattle.std.proofs.Common.{◌≡◌, ◌<◌, ◌≤◌, length, replicate, sym, subst, ap, ◌∙◌, arith}
use Rattle.clay_grid.specs.Shape.{node_count}
use Rattle.clay_grid.specs.Limits.{IsGeometry}
use Rattle.clay_grid.specs.Score.{IsByScore}
use Rattle.clay_model.specs.Erased.{erased_below}
use Rattle.clay_model.specs.Points.{AreDistinct}
use Rattle.code_laws.proofs.ErasedNodes.{AreDistinct-erased}
use Rattle.code_laws.proofs.Nodes.{few_points}
use Rattle.clay_decode.proofs.plain_plan.make_plan.Goals as goal

points_are : (c : goal.After-deref-2) → c.deref-2.result.now ≡ erased_below c.in_ok-erased.erased.items (node_count c.args.g)
points_are c =
    c.deref-2.ensures.value
    ∙ c.in_ok-points.ensures
    ∙ (λ k. erased_below (c.deref.ensures.value k) (length (c.deref.ensures.value k)))
    ∙ ap (erased_below c.in_ok-erased.erased.items) c.in_ok-erased.ensures.len

pub new-requires-clause-few : goal.new-requires-clause-few
new-requires-clause-few c =
    let g = c.args.g in
    let geometry : IsGeometry g = c.w.ensures.geometry in
    let rows : 0 < g.parity_count = let some = geometry.limits.parity_chunks.0 in omega arith in
    let few = few_points g c.args.have.now c.in_ok-erased.erased.items rows c.requires.count c.in_ok-erased.ensures.value c.requires.few in
    let most : g.parity_count ≤ 8 = geometry.limits.parity_chunks.1 in
    subst (λ l. length l ≤ 8) (sym (points_are c)) (omega arith)

pub new-requires-clause-distinct : goal.new-requires-clause-distinct
new-requires-clause-distinct c =
    subst AreDistinct (sym (points_are c)) (AreDistinct-erased c.in_ok-erased.erased.items (node_count c.args.g))

pub returns : goal.returns
returns c =
    let g = c.args.g in
    let rows : 0 < g.parity_count = let some = c.w.ensures.geometry.limits.parity_chunks.0 in omega arith in
    let few = few_points g c.args.have.now c.in_ok-erased.erased.items rows c.requires.count c.in_ok-erased.ensures.value c.requires.few in
    let points : c.in_ok-points.points.items ≡ erased_below c.in_ok-erased.erased.items (node_count g) = c.in_ok-points.ensures
    ∙ (λ k. erased_below (c.deref.ensures.value k) (length (c.deref.ensures.value k)))
    ∙ ap (erased_below c.in_ok-erased.erased.items) c.in_ok-erased.ensures.len in
    record {
      geometry = c.w.ensures.geometry;
      left = c.requires;
      few = subst (λ l. length l ≤ g.parity_count) (sym points) few;
      nodes = c.in_ok-erased.ensures.len;
      erased_are = c.in_ok-erased.ensures.value;
      points_are = points;
      solver = c.in_ok-solver.ensures ∙ c.deref-2.ensures.value;
      order = subst (λ e. IsByScore g e c.in_ok-layers.layers.items) c.deref-3.ensures.value c.in_ok-layers.ensures;
      empty = c.in_ok-zeros.ensures ∙ ap (λ n. replicate n 0) c.w.ensures.value;
    }
