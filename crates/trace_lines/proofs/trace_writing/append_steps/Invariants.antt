use Rattle.std.proofs.Common.{◌≡◌, ◌++◌, take}
use Rattle.trace_lines.specs.Lines.{lines_of}
use Rattle.trace_lines.proofs.trace_writing.append_steps.Given as goal

abbrev pub invariant-loop-number : goal.invariant-loop-number
invariant-loop-number l = l.out.items ≡ l.initial.out.items ++ lines_of (take l.number l.steps)
