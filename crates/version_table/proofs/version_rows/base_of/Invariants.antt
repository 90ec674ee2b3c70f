use Rattle.std.proofs.Common.{◌≡◌, ◌≤◌, ◌-◌, length, drop, find, nat_eq}
use Rattle.store_core.specs.Directory.{Pin}
use Rattle.version_table.proofs.version_rows.base_of.Given as goal

abbrev pub invariant-loop-at : goal.invariant-loop-at
invariant-loop-at l = (l.at ≤ length l.pins) × (find (λ (pin : Pin). nat_eq l.stripe pin.stripe) l.pins ≡ find (λ (pin : Pin). nat_eq l.stripe pin.stripe) (drop l.at l.pins))

abbrev pub decreases-loop-at : goal.decreases-loop-at
decreases-loop-at l = length l.pins - l.at
