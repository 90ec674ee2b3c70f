use Rattle.std.proofs.Common.{◌≡◌, ◌-◌, ◌≤◌, length, reverse, vec_capacity}
use Rattle.turn_lock.specs.Piles.{items_of}
use Rattle.turn_lock.proofs.Emptying.{AreFirst, AreOutFrom}
use Rattle.turn_lock.proofs.taking_out.take_out_each.Given as goal

abbrev pub ghost-take_at : goal.ghost-take_at
ghost-take_at g a = g.identity a.place

-- the locks from a place on are emptied
abbrev pub invariant-loop-done : goal.invariant-loop-done
invariant-loop-done g l = record {
  first : AreFirst (length l.locks - l.done) (items_of l.fn.rows.items) (items_of l.rows.items);
  count : length l.values.items ≡ l.done;
  room : length l.locks ≤ vec_capacity l.values;
  out : AreOutFrom g.T.Historied.fixed_part g.T.Historied.stands_for g.identity (items_of l.fn.rows.items) (length l.locks - l.done) (reverse l.values.items);
}
