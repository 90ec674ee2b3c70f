use Rattle.std.proofs.Common.{◌≡◌, ℕ, ◌++◌, take}
use Rattle.store_core.specs.Outcomes.{cause_of}
use Rattle.store_core.specs.Shown.{refused_line}
use Rattle.call_steps.specs.CallerCalls.{ended_of}
use Rattle.world_lines.proofs.Numbered.{lines_of}
use Rattle.world_lines.proofs.refused.push_client.Given as goal

abbrev pub invariant-loop-number : goal.invariant-loop-number
invariant-loop-number l =
    (servers : ℕ) → l.lines ≡ l.initial.lines ++ lines_of (ended_of servers) (λ number ended. refused_line (record { client = l.fn.actor; number = number }) (cause_of ended.outcome)) (take l.number l.client.ended.items)
