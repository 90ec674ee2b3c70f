use Rattle.std.proofs.Common.{◌-◌, ◌≤◌, vec_len}
use Rattle.clay_shares.proofs.folder.fit_count.Given as goal

abbrev pub invariant-shares : goal.invariant-shares
invariant-shares g l = vec_len l.sources ≤ l.wanted

abbrev pub decreases-shares : goal.decreases-shares
decreases-shares g l = l.wanted - vec_len l.sources
