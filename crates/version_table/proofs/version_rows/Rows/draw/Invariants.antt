use Rattle.std.proofs.Common.{◌≡◌, ◌+◌, ◌≤◌, ◌++◌, map}
use Rattle.std.specs.List.{range_with_len}
use Rattle.version_table.specs.Told.{entry_drawn}
use Rattle.version_table.specs.Rows.{unswept_count}
use Rattle.version_table.specs.TableSteps.{base_version}
use Rattle.version_table.proofs.version_rows.Rows.draw.Given as goal

abbrev pub invariant-loop-i : goal.invariant-loop-i
invariant-loop-i l = record {
  entries : l.self.entries ≡ l.fn.self.entries ++ map (λ stripe. entry_drawn l.actor l.number stripe (base_version l.pins stripe)) (range_with_len l.first l.i);
  room : l.fn.self.room ≤ l.self.room + l.i;
  unswept : unswept_count l.self.entries ≡ unswept_count l.fn.self.entries + l.i;
}
