use Rattle.std.proofs.Common.{◌≡◌, ◌≢◌, ℕ, ◌<◌, ◌≤◌, length, get_or, sym, subst, ap, ◌∙◌, refl}
use Rattle.clay_grid.specs.Shape.{node_count, layer_count}
use Rattle.clay_model.specs.Erased.{erased_below}
use Rattle.clay_model.specs.Points.{AreDistinct}
use Rattle.code_laws.proofs.ErasedNodes.{AreDistinct-erased}
use Rattle.generator_matrix.specs.Generated.{IsGeneratorOf}
use Rattle.clay_aloof.specs.Solved.{HasPlaces}
use Rattle.clay_aloof.proofs.Layer.{other_layer, few_below}
use Rattle.clay_aloof.proofs.layer_solving.plan_of.Goals as goal

pub places_of-requires-clause-in_layers : goal.places_of-requires-clause-in_layers
places_of-requires-clause-in_layers c =
    subst (λ l. (i : ℕ) → i < length l → get_or l i 0 < layer_count c.args.g) (sym c.deref-2.ensures.value) c.requires.only_layers

pub places_of-requires-clause-apart : goal.places_of-requires-clause-apart
places_of-requires-clause-apart c =
    subst (λ l. (i j : ℕ) → i < j → j < length l → get_or l i 0 ≢ get_or l j 0) (sym c.deref-2.ensures.value)
    (other_layer c.args.g c.args.erased.items c.args.layers.items c.requires.rising)

pub places_of-requires-clause-few : goal.places_of-requires-clause-few
places_of-requires-clause-few c =
    subst (λ l. length l ≤ layer_count c.args.g) (sym c.deref-2.ensures.value)
    (few_below (layer_count c.args.g) c.args.layers.items (other_layer c.args.g c.args.erased.items c.args.layers.items c.requires.rising) c.requires.only_layers)

points_are : (c : goal.After-deref-3) → c.in_ok-points.points.items ≡ erased_below c.args.erased.items (node_count c.args.g)
points_are c =
    c.in_ok-points.ensures
    ∙ (λ k. erased_below (c.deref.ensures.value k) (length (c.deref.ensures.value k)))
    ∙ ap (erased_below c.args.erased.items) c.requires.nodes

pub generator_of-requires-clause-few : goal.generator_of-requires-clause-few
generator_of-requires-clause-few c = subst (λ l. length l ≤ 8) (sym (c.deref-3.ensures.value ∙ points_are c)) c.requires.few

pub generator_of-requires-clause-distinct : goal.generator_of-requires-clause-distinct
generator_of-requires-clause-distinct c =
    subst AreDistinct (sym (c.deref-3.ensures.value ∙ points_are c)) (AreDistinct-erased c.args.erased.items (node_count c.args.g))

pub returns : goal.returns
returns c =
    let g = c.args.g in
    let made = c.in_ok-generator.generator in
    let erased = c.args.erased.items in
    let layers = c.args.layers.items in
    let points : c.in_ok-points.points.items ≡ erased_below erased (node_count g) =
    c.in_ok-points.ensures
    ∙ (λ k. erased_below (c.deref.ensures.value k) (length (c.deref.ensures.value k)))
    ∙ ap (erased_below erased) c.requires.nodes in
    record {
      sound = record {
        geometry = c.requires.geometry;
        few = subst (λ l. length l ≤ 8) (sym points) c.requires.few;
        nodes = c.requires.nodes;
        points_are = points;
        generator = subst (λ p. IsGeneratorOf g p made.unknown made.each) c.deref-3.ensures.value c.in_ok-generator.ensures;
        rising = c.requires.rising;
        only_layers = c.requires.only_layers;
        few_layers = few_below (layer_count g) layers (other_layer g erased layers c.requires.rising) c.requires.only_layers;
        tables = c.in_ok-partners.ensures;
        slot_count = c.in_ok-slots.ensures.len;
        slots = subst (λ l. HasPlaces l (length l) c.in_ok-slots.slots.items) c.deref-2.ensures.value c.in_ok-slots.ensures.places;
        partners = c.requires.partners;
      };
      erased_are = refl;
      layers_are = refl;
    }
