use Rattle.std.proofs.Common.{◌≡◌, ◌+◌, ◌≤◌, vec_capacity, vec_len}
use Rattle.store_run.proofs.Collecting.{AreApart}
use Rattle.store_run.proofs.left_workers.into_piles.Given as goal

abbrev pub invariant-loop-made : goal.invariant-loop-made
invariant-loop-made l = record {
  apart : AreApart l.fn.workers.items l.workers.items l.piles.items;
  count : vec_len l.workers + l._made ≡ vec_len l.fn.workers;
  len : vec_len l.piles ≡ l._made;
  room : vec_len l.fn.workers ≤ vec_capacity l.piles;
}
