use Rattle.std.specs.Prelude.{◌≡◌, ◌≤◌, ◌++◌, length, map, vec_capacity}
use Rattle.std.specs.Vec.Iter.{into_iter_items}
use Rattle.store_scrub.specs.Lost.{lost_in}
use Rattle.session_store.proofs.scrubs.listed.Given as goal

-- those that came have their places, and those that are still to come have room
abbrev pub invariant-loop-chunk : goal.invariant-loop-chunk
invariant-loop-chunk l = record {
  done : l.lost.items ≡ map lost_in l.yielded;
  all : l.fn.scrubbed.items ≡ l.yielded ++ into_iter_items l.chunk-iterator;
  room : length l.fn.scrubbed.items ≤ vec_capacity l.lost;
}
