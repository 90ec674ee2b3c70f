use Rattle.std.proofs.Common.{◌≡◌, take}
use Rattle.store_core.specs.Look.{set_standing}
use Rattle.store_core.specs.Directory.{Standing as CoreStanding}
use Rattle.version_table.proofs.versions.Versions.supersede_all.Given as goal

abbrev pub invariant-loop-number : goal.invariant-loop-number
invariant-loop-number l = (l.self.listed ≡ set_standing CoreStanding.Superseded (take l.number-index l.numbers) l.fn.self.listed) × (l.self.pins ≡ l.fn.self.pins)
