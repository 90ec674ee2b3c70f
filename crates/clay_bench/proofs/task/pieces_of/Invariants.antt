use Rattle.std.proofs.Common.{◌≡◌, ℕ, ◌<◌, length, get_or, None, is_none}
use Rattle.clay_model.specs.Left.{AreLong}
use Rattle.clay_bench.specs.Tasks.{piece_length, IsGone}
use Rattle.clay_bench.proofs.task.pieces_of.Given as goal

abbrev pub invariant-loop-c : goal.invariant-loop-c
invariant-loop-c l = record {
  count : length l.pieces.items ≡ l.c;
  lengths : AreLong (piece_length l.fn.task l.fn.g) l.pieces.items;
  gone : (i : ℕ) → i < l.c → IsGone l.fn.task i (is_none (get_or l.pieces.items i None));
}
