use Rattle.std.proofs.Common.{◌≡◌, ◌<◌, replicate, sym, subst, ap, ◌∙◌}
use Rattle.clay_grid.specs.Shape.{Shape, layer_count}
use Rattle.clay_aloof.specs.Shape.{grid_of}
use Rattle.clay_aloof.proofs.aloof_chunks.stripe_tables.Goals as goal

pub returns : goal.returns
returns c =
    let grid = c.grid-grid.ensures.value in
    let layers : c.alpha.result ≡ layer_count (grid_of c.args.g) = c.alpha.ensures.value ∙ ap layer_count grid in
    record {
      aloof = c.grid-grid.ensures.geometry;
      nodes = c.in_ok-chunks.ensures.len;
      entries = c.in_ok-chunks.ensures.value;
      layers = c.in_ok-places.ensures.len ∙ layers;
      placed_are = λ n h. c.in_ok-places.ensures.value n (subst (λ l. n < l) (sym layers) h);
      empty = c.in_ok-zeros.ensures ∙ ap (λ n. replicate n 0) (c.w.ensures.value ∙ ap (λ (s : Shape). s.width) grid);
    }
