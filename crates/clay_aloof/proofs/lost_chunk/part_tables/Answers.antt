use Rattle.std.proofs.Common.{◌≡◌, ◌<◌, ◌≤◌, get_or, length, replicate, sym, subst, ap, ◌∙◌, arith}
use Rattle.clay_grid.specs.Shape.{Shape, layer_count}
use Rattle.clay_aloof.specs.Shape.{grid_of}
use Rattle.clay_aloof.specs.Repair.{aloof_layers_of}
use Rattle.clay_aloof.specs.Solved.{HasPlaces}
use Rattle.clay_aloof.proofs.Put.{layers_few}
use Rattle.clay_aloof.proofs.Parts.{given_at, given_rising}
use Rattle.clay_aloof.proofs.lost_chunk.part_tables.Goals as goal

pub places_of-requires-clause-in_layers : goal.places_of-requires-clause-in_layers
places_of-requires-clause-in_layers c = λ i h.
    let layers : c.deref.result.now ≡ aloof_layers_of c.args.g c.args.lost = c.deref.ensures.value ∙ c.in_ok-layers.ensures in
    subst (λ s. get_or c.deref.result.now i 0 < layer_count s) (sym c.grid-grid.ensures.value)
    (subst (λ l. get_or l i 0 < layer_count (grid_of c.args.g)) (sym layers) (given_at c.args.g c.args.lost i (subst (λ l. i < length l) layers h)).0)

pub places_of-requires-clause-apart : goal.places_of-requires-clause-apart
places_of-requires-clause-apart c = λ i j h l same.
    let layers : c.deref.result.now ≡ aloof_layers_of c.args.g c.args.lost = c.deref.ensures.value ∙ c.in_ok-layers.ensures in
    let less : get_or c.deref.result.now i 0 < get_or c.deref.result.now j 0 =
    subst (λ v. get_or v i 0 < get_or v j 0) (sym layers) (given_rising c.args.g c.args.lost i j h (subst (λ v. j < length v) layers l)) in
    omega (arith, less, same)

pub places_of-requires-clause-few : goal.places_of-requires-clause-few
places_of-requires-clause-few c =
    let layers : c.deref.result.now ≡ aloof_layers_of c.args.g c.args.lost = c.deref.ensures.value ∙ c.in_ok-layers.ensures in
    subst (λ s. length c.deref.result.now ≤ layer_count s) (sym c.grid-grid.ensures.value)
    (subst (λ l. length l ≤ layer_count (grid_of c.args.g)) (sym layers) (layers_few c.args.g c.args.lost c.grid-grid.ensures.geometry c.requires))

pub returns : goal.returns
returns c =
    let g = c.args.g in
    let grid = c.grid-grid.ensures.value in
    let layers : c.deref.result.now ≡ aloof_layers_of g c.args.lost = c.deref.ensures.value ∙ c.in_ok-layers.ensures in
    record {
      aloof = c.grid-grid.ensures.geometry;
      nodes = c.in_ok-chunks.ensures.len;
      entries = c.in_ok-chunks.ensures.value;
      layers = c.in_ok-places.ensures.len ∙ ap layer_count grid;
      placed_are = subst (λ l. HasPlaces l (length l) c.in_ok-places.places.items) layers c.in_ok-places.ensures.places;
      empty = c.in_ok-zeros.ensures ∙ ap (λ n. replicate n 0) (c.w.ensures.value ∙ ap (λ (s : Shape). s.width) grid);
    }
