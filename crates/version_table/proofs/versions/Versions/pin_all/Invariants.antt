use Rattle.std.proofs.Common.{◌≡◌, ◌+◌, ◌-◌, ◌<◌, ◌^◌, take, length, get_or, All}
use Rattle.store_core.specs.Directory.{Pin}
use Rattle.version_table.specs.Counts.{pinned_more}
use Rattle.version_table.proofs.versions.Versions.pin_all.Given as goal

abbrev pub invariant-loop-pin : goal.invariant-loop-pin
invariant-loop-pin l = record {
  listed : l.self.listed ≡ l.fn.self.listed;
  pins : l.self.pins ≡ pinned_more (take l.pin-index l.pins) l.fn.self.pins;
  fits : All (λ (pin : Pin). get_or l.self.pins pin.version 0 + (length l.pins - l.pin-index) < 2 ^ 64) l.pins;
}
