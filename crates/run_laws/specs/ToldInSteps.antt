-- What a call is told step by step, from its first step on.
use Rattle.std.specs.Prelude.{ℕ, List, [], ◌∷◌, fold, ⊤}
use Rattle.clay_grid.specs.Shape.{Shape}
use Rattle.store_core.specs.Told.{Told}
use Rattle.store_core.specs.Act.{Act}
use Rattle.run_laws.specs.Answers.{Answers}
use Rattle.run_laws.specs.AnswersByKind.{FitsKind}
use Rattle.store_core.specs.Bounds.{touched_count}
use Rattle.run_laws.specs.CallLeft.{pin_bound}
use Rattle.store_core.specs.NextAct.{Job, next_act}
use Rattle.store_core.specs.Tell.{tell}

-- the call has not ended
abbrev pub HasStep : Act → Type 0
HasStep (Act.Finish outcome) = ⊥
HasStep act = ⊤

-- what a call may be told next, by what is kept of its answers: an answer to its act, or that memory was wanting, in the coding before the act too
abbrev pub IsToldNext : Shape → ℕ → ℕ → Job → List Told → Told → Type 0
IsToldNext g max tries job told Told.Short = HasStep (next_act g tries job told)
IsToldNext g max tries job told answer =
    Answers (pin_bound g max job.note) (touched_count g job.note) (next_act g tries job told) answer × FitsKind job.note.kind answer

-- further answers, one after another
abbrev pub AreToldSince : Shape → ℕ → ℕ → Job → List Told → List Told → Type 0
AreToldSince g max tries job told [] = ⊤
AreToldSince g max tries job told (answer ∷ more) = IsToldNext g max tries job told answer × AreToldSince g max tries job (tell g job told answer) more

-- all answers of a call so far, where an object has at most max bytes
abbrev pub AreTold : Shape → ℕ → ℕ → Job → List Told → Type 0
AreTold g max tries job answers = AreToldSince g max tries job [] answers

-- what the call does after all its answers
abbrev pub act_after : Shape → ℕ → Job → List Told → Act
act_after g tries job answers = next_act g tries job (fold (tell g job) [] answers)
