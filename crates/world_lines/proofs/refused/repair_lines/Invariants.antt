use Rattle.std.proofs.Common.{◌≡◌, ℕ, ◌++◌, [], take}
use Rattle.store_core.specs.Outcomes.{result_of}
use Rattle.store_core.specs.Shown.{lines_of_ended, repair_line}
use Rattle.call_steps.specs.CallerCalls.{calling_at}
use Rattle.world_lines.proofs.Numbered.{lines_of}
use Rattle.world_lines.proofs.refused.repair_lines.Given as goal

abbrev pub invariant-loop-i : goal.invariant-loop-i
invariant-loop-i l =
    (servers : ℕ) → l.lines ≡ [] ++ lines_of (calling_at servers) (λ i. lines_of_ended (λ number ended. repair_line (record { repairer = i; number = number }) (result_of ended.outcome))) (take l.i l.repairers)
