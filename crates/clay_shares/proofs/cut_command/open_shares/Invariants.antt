use Rattle.std.proofs.Common.{◌≡◌, ◌-◌, ◌≤◌, [], vec_len, vec_capacity}
use Rattle.std.specs.Prelude.{All}
use Rattle.clay_shares.proofs.cut_command.open_shares.Given as goal

abbrev pub invariant-sinks : goal.invariant-sinks
invariant-sinks g l = record {
  few : vec_len l.sinks ≤ l.wanted;
  room : l.wanted ≤ vec_capacity l.sinks;
  empty : All (λ sink. sink.put ≡ []) l.sinks.items;
}

abbrev pub decreases-sinks : goal.decreases-sinks
decreases-sinks g l = l.wanted - vec_len l.sinks
