use Rattle.std.proofs.Common.{◌≡◌, ℕ, ◌+◌, ◌%◌, ◌<◌, get_or}
use Rattle.client_patch.proofs.bytes.count_from.Given as goal

abbrev pub invariant-loop-byte : goal.invariant-loop-byte
invariant-loop-byte l =
    (l.next ≡ (l.first + l.byte-index) % 256) × ((i : ℕ) → i < l.byte-index → get_or l.piece i 0 ≡ (l.first + i) % 256)
