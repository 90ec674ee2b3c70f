-- The line of a step, and those of all steps of a run.
use Rattle.std.specs.Prelude.{ℕ, List, ◌++◌, codes, decimal}
use Rattle.std.specs.List.{flat_map, enumerate_from}
use Rattle.call_steps.specs.declared.step_made.Step.{Step}
use Rattle.trace_lines.specs.Words.{caller_text, shortage_text, act_text}
use Rattle.trace_lines.specs.Answers.{answer_text}

-- S NUMBER CALL
abbrev pub step_start : ℕ → Step → List ℕ
step_start number step =
    codes "S " ++ decimal number ++ codes " " ++ caller_text step.who step.number ++ shortage_text step.short ++ codes " "

-- PLACE ACT = ANSWER
abbrev pub step_end : Step → List ℕ
step_end step = act_text step.act ++ codes " = " ++ answer_text step.answer

-- S NUMBER CALL PLACE ACT = ANSWER
abbrev pub step_line : ℕ → Step → List ℕ
step_line number step = step_start number step ++ step_end step ++ codes "\n"

-- the lines of all, numbered from 0
abbrev pub lines_of : List Step → List ℕ
lines_of steps = flat_map (λ entry. step_line entry.0 entry.1) (enumerate_from 0 steps)
