use Rattle.std.proofs.Common.{◌≡◌, ℕ, ◌++◌, take}
use Rattle.store_core.specs.Shown.{take_line}
use Rattle.call_steps.specs.CallerCalls.{ended_of}
use Rattle.world_lines.specs.Names.{name_by}
use Rattle.world_lines.proofs.Numbered.{lines_of}
use Rattle.world_lines.proofs.lines_of_takes.push_ended.Given as goal

abbrev pub invariant-loop-number : goal.invariant-loop-number
invariant-loop-number l =
    (servers : ℕ) → l.lines ≡ l.initial.lines ++ lines_of (ended_of servers) (λ number ended. take_line (name_by l.fn.role l.fn.actor number) ended.takes) (take l.number l.caller.ended.items)
