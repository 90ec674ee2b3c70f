use Rattle.std.proofs.Common.{◌≡◌, ◌+◌, ◌++◌, take, vec_len, vec_capacity}
use Rattle.stripe_stamps.proofs.sealing.add_copies.Given as goal

abbrev pub invariant-loop-stamp : goal.invariant-loop-stamp
invariant-loop-stamp l = record {
  items : l.listed.items ≡ l.fn.listed.items ++ take l.stamp-index l.fresh;
  len : vec_len l.listed ≡ vec_len l.fn.listed + l.stamp-index;
  room : vec_capacity l.listed ≡ vec_capacity l.fn.listed;
}
