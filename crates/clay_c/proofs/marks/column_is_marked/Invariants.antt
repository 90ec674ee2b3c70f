use Rattle.clay_c.specs.Helpers.{HasMarks}
use Rattle.clay_c.proofs.marks.column_is_marked.Given as goal

abbrev pub invariant-loop-c : goal.invariant-loop-c
invariant-loop-c l = HasMarks l.g l.lost l.marks l.c
