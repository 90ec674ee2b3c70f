use Rattle.std.proofs.Common.{◌≡◌, ℕ, ◌≤◌, length, replicate, refl, sym, subst, ap, ◌∙◌, arith}
use Rattle.clay_grid.specs.Shape.{node_count}
use Rattle.clay_model.specs.Erased.{erased_below}
use Rattle.clay_model.specs.Points.{AreDistinct}
use Rattle.generator_matrix.specs.Generated.{IsGeneratorOf}
use Rattle.code_laws.proofs.ErasedNodes.{AreDistinct-erased}
use Rattle.code_laws.proofs.Column.{node_inside}
use Rattle.lost_read.proofs.ReadLaws.{few_points, unknown_same}
use Rattle.lost_read.proofs.read_plan.ReadPlan.new.Goals as goal

at_most_eight : (n m : ℕ) → n ≤ m → m ≤ 8 → n ≤ 8
at_most_eight n m h l = omega arith

pub generator_of-requires-clause-few : goal.generator_of-requires-clause-few
generator_of-requires-clause-few c =
    let placed = c.args.placed in
    let nodes = c.in_ok-erased.erased.items in
    let points_are : c.in_ok-points.points.items ≡ erased_below nodes (node_count placed.g) =
    c.in_ok-points.ensures ∙ (λ k. erased_below (c.deref.ensures.value k) (length (c.deref.ensures.value k))) ∙ ap (erased_below nodes) c.in_ok-erased.ensures.len in
    let few : length (erased_below nodes (node_count placed.g)) ≤ placed.g.parity_count =
    few_points placed.g placed.run c.layer_for.result nodes c.requires.placed.geometry (node_inside placed.g placed.run.lost c.requires.placed.geometry c.requires.placed.run.chunk) c.in_ok-erased.ensures.value in
    subst (λ l. length l ≤ 8) (sym (c.deref-2.ensures.value ∙ points_are))
    (at_most_eight (length (erased_below nodes (node_count placed.g))) placed.g.parity_count few c.requires.placed.geometry.limits.parity_chunks.1)

pub generator_of-requires-clause-distinct : goal.generator_of-requires-clause-distinct
generator_of-requires-clause-distinct c =
    let placed = c.args.placed in
    let nodes = c.in_ok-erased.erased.items in
    let points_are : c.in_ok-points.points.items ≡ erased_below nodes (node_count placed.g) =
    c.in_ok-points.ensures ∙ (λ k. erased_below (c.deref.ensures.value k) (length (c.deref.ensures.value k))) ∙ ap (erased_below nodes) c.in_ok-erased.ensures.len in
    subst AreDistinct (sym (c.deref-2.ensures.value ∙ points_are)) (AreDistinct-erased nodes (node_count placed.g))

pub returns : goal.returns
returns c =
    let placed = c.args.placed in
    let gen = c.in_ok-generator.generator in (
      record {
        placed_is = c.requires.placed;
        places_long = c.in_ok-places.ensures.len;
        places_are = c.in_ok-places.ensures.places;
        nodes = c.in_ok-erased.ensures.len;
        erased_are = λ n i solved h. c.in_ok-erased.ensures.value i h ∙ unknown_same placed.g placed.run c.layer_for.result n i c.layer_for.ensures.solved solved;
        few =
            subst (λ l. length l ≤ placed.g.parity_count)
            (sym (c.in_ok-points.ensures
            ∙ (λ k. erased_below (c.deref.ensures.value k) (length (c.deref.ensures.value k)))
            ∙ ap (erased_below c.in_ok-erased.erased.items) c.in_ok-erased.ensures.len))
            (few_points placed.g placed.run c.layer_for.result c.in_ok-erased.erased.items c.requires.placed.geometry
            (node_inside placed.g placed.run.lost c.requires.placed.geometry c.requires.placed.run.chunk) c.in_ok-erased.ensures.value);
        points_are =
            c.in_ok-points.ensures
            ∙ (λ k. erased_below (c.deref.ensures.value k) (length (c.deref.ensures.value k)))
            ∙ ap (erased_below c.in_ok-erased.erased.items) c.in_ok-erased.ensures.len;
        generates = subst (λ l. IsGeneratorOf placed.g l gen.unknown gen.each) c.deref-2.ensures.value c.in_ok-generator.ensures;
        empty = c.in_ok-zeros.ensures ∙ ap (λ n. replicate {A = ℕ} n 0) c.w.ensures.value;
        halves_are = c.halves.ensures;
      },
      refl,
    )
