use Rattle.std.proofs.Common.{◌≡◌, ◌++◌, take, map}
use Rattle.hist_tables.proofs.lines_of_calls.push_calls.Given as goal

abbrev pub invariant-loop-line : goal.invariant-loop-line
invariant-loop-line g l = l.calls.items ≡ l.initial.calls.items ++ map g.L.NamesCall.call (take l.line-index l.lines)
