use Rattle.std.proofs.Common.{◌≡◌, ◌*◌, refl, ap, ◌∙◌}
use Rattle.std.proofs.lemmas.Bool.{false≢true}
use Rattle.clay_grid.specs.Shape.{layer_count}
use Rattle.clay_aloof.specs.Shape.{grid_of}
use Rattle.share_format.proofs.Fronts.{front_made, entry_kept, zeros_kept, zeros_behind}
use Rattle.share_format.proofs.share_block.is_front.Goals as goal

pub returns-then-not-has_sums : goal.returns-then-not-has_sums
returns-then-not-has_sums c = (
  (λ right. absurd (false≢true right)),
  (λ is. c.if-not-has_sums.ensures.1 (entry_kept c.args.g c.args.chunk.now c.args.front.now is)),
)

pub returns : goal.returns
returns c =
    let g = c.args.g in
    let chunk = c.args.chunk.now in
    let front = c.args.front.now in
    let layers : c.alpha.result ≡ layer_count (grid_of g) = c.alpha.ensures.value ∙ ap layer_count c.grid.ensures.value in
    let none = zeros_behind g front (8 * c.alpha.result) (ap (λ n. 8 * n) layers) c.requires.front in (
      (λ right. front_made g chunk front (c.if-not-has_sums.ensures.0 refl) (none.0 (c.are_zeros.ensures.0 right))),
      (λ is. c.are_zeros.ensures.1 (none.1 (zeros_kept g chunk front is))),
    )
