use Rattle.std.proofs.Common.{◌≡◌, ◌≤◌, ◌-◌, ◌++◌, take, length}
use Rattle.file_bytes.specs.Places.{placed_from}
use Rattle.file_bytes.proofs.positions.write_all_at.Given as goal

abbrev pub invariant-pieces : goal.invariant-pieces
invariant-pieces g l = record {
  within : l.done ≤ length l.bytes;
  put : g.K.SinkAt.put l.sink ≡ g.K.SinkAt.put l.fn.sink ++ placed_from l.fn.at (take l.done l.bytes);
  steady : g.K.SinkAt.faults l.sink ≡ g.K.SinkAt.faults l.fn.sink;
}

abbrev pub decreases-pieces : goal.decreases-pieces
decreases-pieces g l = length l.bytes - l.done
