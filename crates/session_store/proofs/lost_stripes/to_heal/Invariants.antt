use Rattle.std.specs.Prelude.{◌≡◌, ◌≤◌, ◌-◌, nat_le, length, map, filter, take, drop}
use Rattle.session_rules.specs.AloneHeals.{rebuild_of}
use Rattle.session_store.specs.LostStripes.{beside}
use Rattle.session_store.proofs.Together.{AreOthers}
use Rattle.session_store.proofs.lost_stripes.to_heal.Given as goal

abbrev pub invariant-loop-start : goal.invariant-loop-start
invariant-loop-start l = record {
  within : l.start ≤ length l.fn.lost;
  others : AreOthers (take l.start l.fn.lost) (drop l.start l.fn.lost);
  chosen : l.chunks.items ≡ map rebuild_of (filter (λ chunk. nat_le (beside l.fn.lost chunk) l.fn.parts.places.book.geometry.parity_count) (take l.start l.fn.lost));
}

abbrev pub decreases-loop-start : goal.decreases-loop-start
decreases-loop-start l = length l.fn.lost - l.start
