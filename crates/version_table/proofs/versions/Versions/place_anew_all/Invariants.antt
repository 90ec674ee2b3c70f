use Rattle.std.proofs.Common.{◌≡◌, take}
use Rattle.version_table.specs.TableSteps.{placed_anew_by}
use Rattle.version_table.proofs.versions.Versions.place_anew_all.Given as goal

abbrev pub invariant-loop-pin : goal.invariant-loop-pin
invariant-loop-pin l = (l.self.listed ≡ placed_anew_by l.server l.epoch (take l.pin-index l.pins) l.fn.self.listed) × (l.self.pins ≡ l.fn.self.pins)
