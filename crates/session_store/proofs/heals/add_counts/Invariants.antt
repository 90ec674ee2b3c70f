use Rattle.std.specs.Prelude.{◌≡◌, ◌++◌, take, drop}
use Rattle.session_store.specs.Healing.{added_low}
use Rattle.session_store.proofs.heals.add_counts.Given as goal

abbrev pub invariant-loop-i : goal.invariant-loop-i
invariant-loop-i l = l.taken ≡ added_low (take l.i l.fn.taken) (take l.i l.fn.takes) ++ drop l.i l.fn.taken
