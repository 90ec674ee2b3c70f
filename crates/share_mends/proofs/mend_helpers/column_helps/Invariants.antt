use Rattle.share_mends.specs.Column.{HasColumn}
use Rattle.share_mends.proofs.mend_helpers.column_helps.Given as goal

abbrev pub invariant-loop-c : goal.invariant-loop-c
invariant-loop-c l = HasColumn l.geometry l.lost l.marks l.c
