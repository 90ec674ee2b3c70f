use Rattle.std.proofs.Common.{◌≡◌, take}
use Rattle.version_table.specs.Counts.{unpinned}
use Rattle.version_table.proofs.versions.Versions.unpin_all.Given as goal

abbrev pub invariant-loop-pin : goal.invariant-loop-pin
invariant-loop-pin l = (l.self.listed ≡ l.fn.self.listed) × (l.self.pins ≡ unpinned (take l.pin-index l.pins) l.fn.self.pins)
