use Rattle.std.proofs.Common.{ℕ, ◌+◌, ◌<◌, ◌^◌, length, get_or}
use Rattle.store_core.specs.Directory.{Pin}
use Rattle.version_table.proofs.versions.Versions.can_pin.Given as goal

abbrev pub invariant-loop-pin : goal.invariant-loop-pin
invariant-loop-pin l = (k : ℕ) (d : Pin) → k < l.pin-index → get_or l.self.pins (get_or l.pins k d).version 0 + length l.pins < 2 ^ 64
