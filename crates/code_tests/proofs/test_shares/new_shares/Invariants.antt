use Rattle.std.proofs.Common.{◌≡◌, ◌-◌, ◌≤◌, [], vec_len}
use Rattle.std.specs.Prelude.{All}
use Rattle.code_tests.proofs.test_shares.new_shares.Given as goal

abbrev pub invariant-shares : goal.invariant-shares
invariant-shares g l = record {
  few : vec_len l.shares ≤ l.count - 1;
  empty : All (λ share. share.put ≡ []) l.shares.items;
}

abbrev pub decreases-shares : goal.decreases-shares
decreases-shares g l = l.count - vec_len l.shares
