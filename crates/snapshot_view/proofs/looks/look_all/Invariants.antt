use Rattle.std.proofs.Common.{◌≡◌, ◌-◌, ◌≤◌, length, vec_capacity}
use Rattle.snapshot_view.specs.Tickets.{OthersAgree}
use Rattle.snapshot_view.specs.LookSteps.{AreLooked}
use Rattle.snapshot_view.proofs.looks.look_all.Given as goal

-- the looks at the first objects were made
abbrev pub invariant-loop-at : goal.invariant-loop-at
invariant-loop-at l = record {
  at : length l.kept.items ≡ l.at;
  within : l.at ≤ length l.names;
  looked : AreLooked l.number l.fn.directory l.directory l.fn.tickets l.tickets l.kept.items;
  others : OthersAgree l.fn.tickets l.fn.directory.core l.directory.core;
  count : length l.tickets ≡ length l.fn.tickets;
  capacity : vec_capacity l.kept ≡ vec_capacity l.fn.kept;
}

abbrev pub decreases-loop-at : goal.decreases-loop-at
decreases-loop-at l = length l.names - l.at
