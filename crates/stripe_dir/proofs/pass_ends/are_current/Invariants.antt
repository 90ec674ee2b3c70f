use Rattle.std.proofs.Common.{◌≡◌, ◌≤◌, ◌-◌, length, drop, slice_get}
use Rattle.std.specs.List.{list_all}
use Rattle.store_core.specs.Directory.{Pin}
use Rattle.store_core.specs.Lookups.{holds_standing, is_current_standing}
use Rattle.stripe_dir.proofs.pass_ends.are_current.Given as goal

abbrev pub invariant-loop-at : goal.invariant-loop-at
invariant-loop-at l =
    (l.at ≤ length l.pins)
    × (list_all (λ (pin : Pin). holds_standing is_current_standing (slice_get l.versions.listed pin.version)) l.pins ≡ list_all (λ (pin : Pin). holds_standing is_current_standing (slice_get l.versions.listed pin.version)) (drop l.at l.pins))

abbrev pub decreases-loop-at : goal.decreases-loop-at
decreases-loop-at l = length l.pins - l.at
