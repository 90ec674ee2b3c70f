use Rattle.std.proofs.Common.{◌≡◌, length}
use Rattle.clay_shares.proofs.mend_command.good_marks.Given as goal

abbrev pub invariant-loop-source : goal.invariant-loop-source
invariant-loop-source g l = length l.marks.items ≡ l.source-index
