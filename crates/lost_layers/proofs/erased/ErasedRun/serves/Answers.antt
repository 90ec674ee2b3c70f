use Rattle.std.proofs.Common.{◌≡◌, ◌<◌, false, sym, ◌∙◌, arith}
use Rattle.clay_grid.specs.Shape.{column_count}
use Rattle.lost_layers.specs.ErasedLayers.{digit_serves}
use Rattle.lost_layers.specs.ErasedRuns.{erased_of}
use Rattle.lost_layers.proofs.ErasedServing.{one_fails}
use Rattle.lost_layers.proofs.erased.ErasedRun.serves.Goals as goal

pub returns-then-not-digit_serves : goal.returns-then-not-digit_serves
returns-then-not-digit_serves c =
    let e = erased_of c.args.self.now in
    let fails : digit_serves e c.args.wanted c.args.layer c.loop-column.column ≡ false = sym c.digit_serves.ensures ∙ c.if-not-digit_serves.true in
    let within : c.loop-column.column < column_count e.g = omega (arith, c.loop-column-test.true, c.loop-column.auto.column-end, c.t-column-end.ensures.value) in
    sym (one_fails e c.args.wanted c.args.layer c.loop-column.column within fails)
