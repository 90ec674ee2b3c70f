use Rattle.std.proofs.Common.{◌≡◌, ℕ, length, None, slice_index_or}
use Rattle.share_run.proofs.share_names.ShareNames.none.Given as goal

abbrev pub invariant-loop : goal.invariant-loop
invariant-loop l = record {
  count : length l.names.items ≡ l.counter;
  none : (i : ℕ) → slice_index_or l.names.items i None ≡ None;
}
