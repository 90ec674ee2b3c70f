use Rattle.std.proofs.Common.{◌≡◌, ℕ, ◌≤◌, List, length, replicate, sym, subst, ap, ◌∙◌, arith}
use Rattle.clay_grid.specs.Shape.{node_count}
use Rattle.clay_model.specs.Erased.{erased_below}
use Rattle.clay_model.specs.Points.{AreDistinct}
use Rattle.generator_matrix.specs.Generated.{IsGeneratorOf}
use Rattle.code_laws.proofs.ErasedNodes.{AreDistinct-erased}
use Rattle.lost_read.specs.Plan.{AreSubchunks, HasPlaces}
use Rattle.lost_layers.specs.ErasedRuns.{solved_of}
use Rattle.lost_read.proofs.MissingReadLaws.{are_subchunks, few_points}
use Rattle.lost_read.proofs.missing_plan.MissingReadPlan.new.Goals as goal

pub places_of-requires : goal.places_of-requires
places_of-requires c =
    let e = solved_of c.args.run.now in
    subst (AreSubchunks e.g) (sym c.requires.list) (are_subchunks e)

at_most_eight : (n m : ℕ) → n ≤ m → m ≤ 8 → n ≤ 8
at_most_eight n m h l = omega arith

pub generator_of-requires-clause-few : goal.generator_of-requires-clause-few
generator_of-requires-clause-few c =
    let e = solved_of c.args.run.now in
    let points : c.in_ok-points.points.items ≡ erased_below e.unknown (node_count e.g) = c.in_ok-points.ensures ∙ ap (erased_below e.unknown) c.requires.run.unknown in
    subst (λ (l : List ℕ). length l ≤ 8) (sym (c.deref.ensures.value ∙ points))
    (at_most_eight (length (erased_below e.unknown (node_count e.g))) e.g.parity_count (few_points e c.requires.run.erased) c.requires.run.placed.geometry.limits.parity_chunks.1)

pub generator_of-requires-clause-distinct : goal.generator_of-requires-clause-distinct
generator_of-requires-clause-distinct c =
    let e = solved_of c.args.run.now in
    let points : c.in_ok-points.points.items ≡ erased_below e.unknown (node_count e.g) = c.in_ok-points.ensures ∙ ap (erased_below e.unknown) c.requires.run.unknown in
    subst AreDistinct (sym (c.deref.ensures.value ∙ points)) (AreDistinct-erased e.unknown (node_count e.g))

pub returns : goal.returns
returns c =
    let e = solved_of c.args.run.now in
    let gen = c.in_ok-generator.generator in
    let points : c.in_ok-points.points.items ≡ erased_below e.unknown (node_count e.g) = c.in_ok-points.ensures ∙ ap (erased_below e.unknown) c.requires.run.unknown in
    record {
      places_long = c.in_ok-places.ensures.len;
      places_are = subst (λ l. HasPlaces e.g l (length l) c.in_ok-places.places.items) c.requires.list c.in_ok-places.ensures.places;
      few = subst (λ (l : List ℕ). length l ≤ e.g.parity_count) (sym points) (few_points e c.requires.run.erased);
      points_are = points;
      generates = subst (λ l. IsGeneratorOf e.g l gen.unknown gen.each) c.deref.ensures.value c.in_ok-generator.ensures;
      by_score = c.in_ok-order.ensures;
      ranks_are = c.in_ok-ranks.ensures;
      empty = c.in_ok-zeros.ensures ∙ ap (λ n. replicate {A = ℕ} n 0) c.w.ensures.value;
      halves_are = c.halves.ensures;
      fifths_are = c.fifths.ensures;
    }
