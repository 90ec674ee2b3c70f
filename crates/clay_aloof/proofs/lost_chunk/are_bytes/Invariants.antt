use Rattle.std.proofs.Common.{◌≡◌, ℕ, ◌^◌, ◌<◌, List, get_or, Some, None}
use Rattle.lane_repair.specs.Views.{pieces_of}
use Rattle.clay_aloof.proofs.lost_chunk.are_bytes.Given as goal

abbrev pub invariant-loop-c : goal.invariant-loop-c
invariant-loop-c l = (c : ℕ) (piece : List ℕ) → c < l.c → get_or (pieces_of l.parts) c None ≡ Some piece → (i : ℕ) → get_or piece i 0 < 2 ^ 8
