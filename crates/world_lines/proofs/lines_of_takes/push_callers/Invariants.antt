use Rattle.std.proofs.Common.{◌≡◌, ℕ, ◌++◌, take}
use Rattle.store_core.specs.Shown.{take_lines}
use Rattle.call_steps.specs.CallerCalls.{calling_at}
use Rattle.world_lines.specs.Names.{name_by}
use Rattle.world_lines.proofs.Numbered.{lines_of}
use Rattle.world_lines.proofs.lines_of_takes.push_callers.Given as goal

abbrev pub invariant-loop-i : goal.invariant-loop-i
invariant-loop-i l =
    (servers : ℕ) → l.lines ≡ l.initial.lines ++ lines_of (calling_at servers) (λ i. take_lines (name_by l.fn.role i)) (take l.i l.callers)
