use Rattle.std.proofs.Common.{◌≡◌, ◌-◌, ◌+◌, ◌≤◌, [], length, map, take, drop, All, vec_len, vec_capacity}
use Rattle.store_map.specs.declared.actor.Point.{Point}
use Rattle.call_steps.specs.TokenAfter.{IsSeated}
use Rattle.snapshot_view.specs.Tickets.{AgreesWithAll, AreOfSame, OthersAgree}
use Rattle.snapshot_view.specs.Releasing.{end_all}
use Rattle.snapshot_view.proofs.release.end_passes.Given as goal

-- the first passes were ended
abbrev pub invariant-loop-at : goal.invariant-loop-at
invariant-loop-at l = record {
  ends : record { directory = l.directory.core; tokens = take l.at l.tickets; reaps = map (λ (point : Point). point.0) l.points.items }
      ≡ end_all l.number (record { directory = l.fn.directory.core; tokens = []; reaps = map (λ (point : Point). point.0) l.fn.points.items }) (take l.at l.fn.tickets);
  rest : drop l.at l.tickets ≡ drop l.at l.fn.tickets;
  count : length l.tickets ≡ length l.fn.tickets;
  actors : AreOfSame l.fn.tickets l.tickets;
  seated : All IsSeated (take l.at l.tickets);
  others : OthersAgree l.fn.tickets l.fn.directory.core l.directory.core;
  within : l.at ≤ l.count;
  agrees : AgreesWithAll l.directory.core l.tickets;
  len : vec_len l.points ≤ vec_len l.fn.points + l.at;
  capacity : vec_capacity l.points ≡ vec_capacity l.fn.points;
  book : l.directory.book ≡ l.fn.directory.book;
  stamps : l.directory.stamps ≡ l.fn.directory.stamps;
}

abbrev pub decreases-loop-at : goal.decreases-loop-at
decreases-loop-at l = l.count - l.at
