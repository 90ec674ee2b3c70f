use Rattle.std.proofs.Common.{◌<◌, ◌+◌, ℕ, List, [], ◌∷◌, ◌++◌, length, get_or, take, sym, subst, ap, ◌∙◌, arith}
use Rattle.std.proofs.lemmas.List.{take_more}
use Rattle.clay_grid.specs.Shape.{layer_count}
use Rattle.clay_aloof.specs.Shape.{grid_of}
use Rattle.clay_aloof.proofs.Parts.{given_at}
use Rattle.share_format.specs.Blocks.{block_length}
use Rattle.share_mends.specs.Places.{places_in}
use Rattle.share_mends.proofs.SpanLemmas.{plain_ranges, layer_more}
use Rattle.share_mends.proofs.spans.block_spans.Goals as goal

pub layer_span-next-requires : goal.layer_span-next-requires
layer_span-next-requires c =
    let a = c.args.geometry in
    let i : ℕ = c.loop-layer.layer-index in
    let less : i < length c.args.layers.now = omega (arith, c.loop-layer-test.true) in
    let P : List ℕ → Type 0 = λ l. i < length l → get_or l i 0 < layer_count (grid_of a) in
    subst P (sym c.requires.layers) (λ h. (given_at a c.args.lost i h).0) less

pub loop-layer-preserved : goal.loop-layer-preserved
loop-layer-preserved c =
    let a = c.args.geometry in
    let inv = c.loop-layer.invariant in
    let i : ℕ = c.loop-layer.layer-index in
    let layers : List ℕ = c.args.layers.now in
    let less : i < length layers = omega (arith, c.loop-layer-test.true) in
    let next = c.layer_span-next.result in
    let after = c.in_ok-last.ensures in
    record {
      places = λ place.
          after.places place
          ∙ layer_more a place (c.loop-layer.spans.items ++ c.loop-layer.last ∷ []) next (take i layers) (get_or layers i 0) (inv.places place) c.layer_span-next.ensures.start
          c.layer_span-next.ensures.size
          ∙ ap (λ l. places_in (plain_ranges a place l)) (sym (take_more layers i 0 less));
      within = after.within (block_length a) inv.last inv.within;
      last = omega (arith, after.end, c.layer_span-next.ensures.within);
      bounded = omega (arith, after.end, c.layer_span-next.ensures.bounded);
    }
