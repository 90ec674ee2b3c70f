use Rattle.std.specs.Prelude.{◌≡◌, ◌+◌, ◌-◌, ◌≤◌, drop}
use Rattle.std.specs.List.{prefix_len}
use Rattle.session_store.specs.LostStripes.{is_beside}
use Rattle.session_store.proofs.lost_stripes.end_of_stripe.Given as goal

abbrev pub invariant-loop-end : goal.invariant-loop-end
invariant-loop-end l = record {
  from : l.fn.start ≤ l.end;
  so_far : prefix_len (is_beside l.chunk) (drop l.fn.start l.fn.lost) ≡ (l.end - l.fn.start) + prefix_len (is_beside l.chunk) (drop l.end l.fn.lost);
}
