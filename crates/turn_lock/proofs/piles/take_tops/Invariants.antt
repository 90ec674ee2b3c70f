use Rattle.std.proofs.Common.{◌≡◌, ◌≤◌, length, vec_capacity}
use Rattle.turn_lock.specs.Piles.{items_of}
use Rattle.turn_lock.proofs.Piling.{IsTaking}
use Rattle.turn_lock.proofs.piles.take_tops.Given as goal

abbrev pub invariant-loop-place : goal.invariant-loop-place
invariant-loop-place g l = record {
  taking : IsTaking l.place (items_of l.fn.piles.items) (items_of l.piles.items) l.tops.items;
  count : length l.piles.items ≡ l.place-end;
  room : l.place-end ≤ vec_capacity l.tops;
}
