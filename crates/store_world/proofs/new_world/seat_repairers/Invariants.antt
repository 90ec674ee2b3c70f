use Rattle.std.proofs.Common.{◌≡◌, ◌≤◌, ℕ, length, drop, slice_get, Some, vec_capacity}
use Rattle.actors.specs.Callers.{CallerOf}
use Rattle.store_world.specs.First.{IsFirstRepairer}
use Rattle.store_world.proofs.new_world.seat_repairers.Given as goal

abbrev pub invariant-loop-part : goal.invariant-loop-part
invariant-loop-part l = record {
  seats : l.seats.items ≡ drop l.part-index l.fn.seats.items;
  count : length l.repairers.items ≡ l.part-index;
  each : (i : ℕ) (repairer : CallerOf) → slice_get l.repairers.items i ≡ Some repairer → IsFirstRepairer l.script l.book i repairer;
  room : length l.script.repairers ≤ vec_capacity l.repairers;
}
