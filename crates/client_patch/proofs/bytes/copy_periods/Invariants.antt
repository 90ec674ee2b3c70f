use Rattle.std.proofs.Common.{◌≡◌, ℕ, ◌+◌, ◌*◌, ◌%◌, ◌<◌, get_or, length}
use Rattle.client_patch.proofs.bytes.copy_periods.Given as goal

abbrev pub invariant-loop-block : goal.invariant-loop-block
invariant-loop-block l = (i : ℕ) → i < l.block * 256 → i < length l.piece → get_or l.piece i 0 ≡ (l.first + (l.skipped + i)) % 256
