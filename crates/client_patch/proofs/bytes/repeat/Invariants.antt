use Rattle.std.proofs.Common.{◌≡◌, ℕ, ◌<◌, get_or}
use Rattle.client_patch.proofs.bytes.repeat.Given as goal

abbrev pub invariant-loop-byte : goal.invariant-loop-byte
invariant-loop-byte l = (i : ℕ) → i < l.byte-index → get_or l.piece i 0 ≡ l.value
