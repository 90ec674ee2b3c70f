use Rattle.std.proofs.Common.{◌≡◌, filter, take}
use Rattle.thread_laws.specs.Threaded.{is_line}
use Rattle.store_run.proofs.seating.operator_lines.Given as goal

-- the lines among the tokens so far
abbrev pub invariant-loop-token : goal.invariant-loop-token
invariant-loop-token l = l.lines.items ≡ filter is_line (take l.token-index l.script.schedule)
