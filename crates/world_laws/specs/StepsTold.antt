-- Which step of the program a step of the store's definitions is.
use Rattle.std.specs.Prelude.{◌≡◌, ⊤, false, List, [], ◌∷◌, Some}
use Rattle.store_core.specs.Told.{Told}
use Rattle.history_laws.specs.Trace.{Made}
use Rattle.call_steps.specs.Acts.{act_by}
use Rattle.call_steps.specs.Answers.{directory_answer, server_told}
use Rattle.call_steps.specs.declared.step_made.StepAnswer.{StepAnswer}
use Rattle.call_steps.specs.declared.step_made.StepAnswer.TheVariants as answer
use Rattle.call_steps.specs.declared.step_made.Step.{Step}

-- an answer is this one, without the lists that it has
abbrev pub IsAnswer : StepAnswer → Told → Type 0
IsAnswer (answer.Directory told) of = directory_answer of ≡ Some told
IsAnswer (answer.Server told) of = server_told told ≡ of

-- a step is this one
pub record IsStep (step : Step) (made : Made) : Type 0 where
  pub who : step.who ≡ made.who
  pub number : step.number ≡ made.number
  pub short : step.short ≡ made.short
  pub act : step.act ≡ act_by made.act false
  pub answer : IsAnswer step.answer made.answer

-- and so are all of them, one after the other
abbrev pub AreSteps : List Step → List Made → Type 0
AreSteps [] [] = ⊤
AreSteps (step ∷ steps) (made ∷ more) = IsStep step made × AreSteps steps more
AreSteps steps made = ⊥
