use Rattle.std.proofs.Common.{◌≡◌, ℕ, ◌<◌, length, get_or, eqb, false}
use Rattle.clay_c.proofs.recover_calls.missing_marks.Given as goal

abbrev pub invariant-loop-mark : goal.invariant-loop-mark
invariant-loop-mark l = (length l.missing.items ≡ l.mark-index) × ((c : ℕ) → c < l.mark-index → get_or l.missing.items c false ≡ eqb (get_or l.present c 0) 0)
