use Rattle.std.proofs.Common.{◌≡◌, All, map, length}
use Rattle.std.specs.Vec.Iter.{into_iter_items}
use Rattle.gather_parts.specs.Wanted.{wanted_of, IsPinned}
use Rattle.gather_parts.specs.Steps.{next_of}
use Rattle.gather_parts.proofs.part_bounds.next_gather.Given as goal

abbrev pub invariant-loop-seen : goal.invariant-loop-seen
invariant-loop-seen l = record {
  pinned : All (IsPinned l.opening) (into_iter_items l.left);
  same : next_of l.geometry (map (wanted_of l.geometry l.start l.end) (into_iter_items l.left))
      ≡ next_of l.geometry (map (wanted_of l.geometry l.start l.end) (into_iter_items l.fn.left));
}

abbrev pub decreases-loop-seen : goal.decreases-loop-seen
decreases-loop-seen l = length (into_iter_items l.left)
