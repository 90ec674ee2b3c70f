use Rattle.std.proofs.Common.{◌≡◌}
use Rattle.clay_c.specs.Apart.{data_marks}
use Rattle.clay_c.proofs.encode_calls.marks_of_data.Given as goal

abbrev pub invariant-loop-c : goal.invariant-loop-c
invariant-loop-c l = l.marks.items ≡ data_marks l.fn.g l.c
