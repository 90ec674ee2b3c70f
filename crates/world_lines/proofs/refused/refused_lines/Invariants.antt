use Rattle.std.proofs.Common.{◌≡◌, ℕ, ◌++◌, [], take}
use Rattle.store_core.specs.Outcomes.{cause_of}
use Rattle.store_core.specs.Shown.{lines_of_ended, refused_line}
use Rattle.call_steps.specs.CallerCalls.{calling_at}
use Rattle.world_lines.proofs.Numbered.{lines_of}
use Rattle.world_lines.proofs.refused.refused_lines.Given as goal

abbrev pub invariant-loop-i : goal.invariant-loop-i
invariant-loop-i l =
    (servers : ℕ) → l.lines ≡ [] ++ lines_of (calling_at servers) (λ i. lines_of_ended (λ number ended. refused_line (record { client = i; number = number }) (cause_of ended.outcome))) (take l.i l.clients)
