use Rattle.std.specs.Prelude.{◌≡◌, ◌≤◌, ◌++◌, length, map, vec_capacity}
use Rattle.std.specs.Vec.Iter.{into_iter_items}
use Rattle.store_run.proofs.ended.unbox.Given as goal

-- those that came have their places, and those that are still to come have room
abbrev pub invariant-loop-held : goal.invariant-loop-held
invariant-loop-held l = record {
  done : l.servers.items ≡ map (λ held. held.server) l.yielded;
  all : l.fn.boxes.items ≡ l.yielded ++ into_iter_items l.held-iterator;
  room : length l.fn.boxes.items ≤ vec_capacity l.servers;
}
