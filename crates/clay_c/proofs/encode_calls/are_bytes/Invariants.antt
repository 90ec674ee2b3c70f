use Rattle.std.proofs.Common.{ℕ, ◌^◌, ◌<◌, List, [], Bor, map, get_or}
use Rattle.clay_c.proofs.encode_calls.are_bytes.Given as goal

abbrev pub invariant-loop-slice : goal.invariant-loop-slice
invariant-loop-slice l = (c : ℕ) → c < l.slice-index → (p : ℕ) → get_or (get_or (map (λ (slice : Bor (List ℕ)). slice.now) l.slices) c []) p 0 < 2 ^ 8
