use Rattle.std.proofs.Common.{◌≡◌, ℕ, ◌+◌, ◌%◌, ◌<◌, get_or}
use Rattle.store_map.proofs.content.count_up.Given as goal

abbrev pub invariant-loop-byte : goal.invariant-loop-byte
invariant-loop-byte l =
    (l.next ≡ (l.first + l.byte-index) % 256) × ((i : ℕ) → i < l.byte-index → get_or l.bytes i 0 ≡ (l.first + i) % 256)
