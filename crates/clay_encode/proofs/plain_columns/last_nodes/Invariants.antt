use Rattle.std.proofs.Common.{◌≡◌, ℕ, ◌<◌, length, get_or, false, not, nat_lt}
use Rattle.clay_encode.proofs.plain_columns.last_nodes.Given as goal

abbrev pub invariant-loop-i : goal.invariant-loop-i
invariant-loop-i l = (length l.nodes.items ≡ l.i) × ((k : ℕ) → k < l.i → get_or l.nodes.items k false ≡ not (nat_lt k l.first))
