use Rattle.std.proofs.Common.{◌≡◌, ℕ, ◌++◌, take}
use Rattle.store_core.specs.Outcomes.{result_of}
use Rattle.store_core.specs.Shown.{repair_line}
use Rattle.call_steps.specs.CallerCalls.{ended_of}
use Rattle.world_lines.proofs.Numbered.{lines_of}
use Rattle.world_lines.proofs.refused.push_repairer.Given as goal

abbrev pub invariant-loop-number : goal.invariant-loop-number
invariant-loop-number l =
    (servers : ℕ) → l.lines ≡ l.initial.lines ++ lines_of (ended_of servers) (λ number ended. repair_line (record { repairer = l.fn.actor; number = number }) (result_of ended.outcome)) (take l.number l.repairer.ended.items)
