use Rattle.std.proofs.Common.{◌≡◌, ◌<◌, ℕ, None, slice_index_or}
use Rattle.share_run.proofs.share_names.ShareNames.first.Given as goal

abbrev pub invariant-loop-held : goal.invariant-loop-held
invariant-loop-held l = (i : ℕ) → i < l.held-index → slice_index_or l.fn.self.names.items i None ≡ None
