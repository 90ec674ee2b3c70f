use Rattle.std.proofs.Common.{◌≡◌, ℕ, ◌+◌, ◌<◌, length, get_or}
use Rattle.clay_encode.proofs.plain_columns.last_points.Given as goal

abbrev pub invariant-loop-x : goal.invariant-loop-x
invariant-loop-x l = (length l.points.items ≡ l.x) × ((e : ℕ) → e < l.x → get_or l.points.items e 0 ≡ l.first + e)
