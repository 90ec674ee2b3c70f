use Rattle.std.proofs.Common.{get_or, length, false, ap, ◌∙◌}
use Rattle.clay_grid.specs.Shape.{node_count}
use Rattle.clay_model.specs.Erased.{erased_below}
use Rattle.clay_aloof.specs.Shape.{grid_of}
use Rattle.clay_aloof.proofs.aloof_chunks.parity_plan.Goals as goal

pub returns : goal.returns
returns c =
    let whole = c.in_ok-plan.ensures in
    record {
      aloof = whole.aloof;
      sound = whole.sound;
      count = ap length whole.sound.points_are ∙ ap (λ l. length (erased_below l (node_count (grid_of c.args.g)))) whole.erased_are ∙ c.in_ok-erased.ensures.count;
      erased_are = λ i h. ap (λ l. get_or l i false) whole.erased_are ∙ c.in_ok-erased.ensures.value i h;
      all = whole.all;
    }
