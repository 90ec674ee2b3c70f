use Rattle.std.proofs.Common.{◌≡◌, ℕ, ◌<◌, true, get_or}
use Rattle.lost_layers.specs.ErasedLayers.{is_solved}
use Rattle.lost_read.specs.MissingReadings.{run_of}
use Rattle.lost_read.specs.Values.{HoldsLayerIn}
use Rattle.lost_read.proofs.missing_reading.Reading.solve.Given as goal

abbrev pub invariant-loop-layer : goal.invariant-loop-layer
invariant-loop-layer l =
    (k : ℕ) → k < l.layer-index → is_solved (run_of l.self) (get_or l.self.plan.now.order.items k 0) ≡ true → HoldsLayerIn l.self (get_or l.self.plan.now.order.items k 0) l.values
