use Rattle.std.proofs.Common.{◌≡◌, ◌+◌, length}
use mathlib.Core.List.{IsPrefix}
use Rattle.turn_lock.proofs.Joining.{IsJoining}
use Rattle.turn_lock.proofs.joined.join_all.Given as goal

-- the turns that are left are the first ones, and the others are joined
abbrev pub invariant-loop-left : goal.invariant-loop-left
invariant-loop-left g l = record {
  joining : IsJoining l.lock g.identity l.fn.turns.items (length l.turns.items) l.all;
  first : IsPrefix l.turns.items l.fn.turns.items;
  count : l._left + length l.turns.items ≡ l._left-end;
}
