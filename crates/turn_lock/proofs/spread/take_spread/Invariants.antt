use Rattle.std.proofs.Common.{◌≡◌, ◌≤◌, length, vec_capacity}
use Rattle.turn_lock.specs.Piles.{items_of}
use Rattle.turn_lock.proofs.Gathering.{AreTaken}
use Rattle.turn_lock.proofs.spread.take_spread.Given as goal

abbrev pub invariant-loop-next : goal.invariant-loop-next
invariant-loop-next g l = record {
  taken : AreTaken (items_of l.fn.piles.items) (items_of l.piles.items) l.count l.next l.values.items;
  count : length l.values.items ≡ l.next;
  room : l.count ≤ vec_capacity l.values;
}
