use Rattle.std.proofs.Common.{◌≡◌, ◌≢◌, ℕ, ◌+◌, ◌*◌, ◌<◌, get_or}
use Rattle.clay_par.proofs.scores.place_rows.Given as goal

abbrev pub invariant-loop-i : goal.invariant-loop-i
invariant-loop-i l = record {
  placed : (i o : ℕ) → i < l.i → o < l.part → get_or l.solved (get_or l.layers i 0 * l.part + o) 0 ≡ get_or l.rows (i * l.part + o) 0;
  kept : (z o : ℕ) → o < l.part → ((i : ℕ) → i < l.i → get_or l.layers i 0 ≢ z) → get_or l.solved (z * l.part + o) 0 ≡ get_or l.fn.solved (z * l.part + o) 0;
}
