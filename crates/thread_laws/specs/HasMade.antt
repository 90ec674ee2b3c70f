-- What a call and its turn have after a step under a lock.
use Rattle.std.specs.Prelude.{◌≡◌, ℕ, ◌<◌, List, [], ◌∷◌, ◌++◌}
use mathlib.Core.List.{IsPrefix}
use Rattle.clay_grid.specs.Shape.{Shape}
use Rattle.store_core.specs.Bounds.{touched_count}
use Rattle.store_core.specs.NextAct.{Job}
use Rattle.store_core.specs.Step.{after_answer}
use Rattle.store_core.specs.Told.{Told}
use Rattle.store_core.specs.Work.{Calling}
use Rattle.run_laws.specs.Answers.{Answers}
use Rattle.run_laws.specs.CallLeft.{pin_bound}
use Rattle.run_laws.specs.StepLaws.{HasTarget}
use Rattle.thread_laws.specs.MadeSteps.{MadeStep}
use Rattle.version_seal.specs.Entry.{StampOf}
use Rattle.call_steps.specs.CallOf.{CallOf, act_of, heard}
use Rattle.call_steps.specs.Stands.{Stands}
use Rattle.call_steps.specs.After.{StandsAfter}
use Rattle.turn_lock.specs.History.{entries_of}
use Rattle.thread_laws.specs.CallEntries.{made_by}
use Rattle.thread_laws.specs.Noted.{Noted, token_by}

-- whatever actor the call stood for, its new value stands for that actor after the answer to its act
abbrev pub HearsAsActor : CallOf → Told → CallOf → Type 0
HearsAsActor before answer after =
    (g : Shape) (tries : ℕ) (job : Job) (actor : Calling) → Stands g tries job actor before →
    StandsAfter g tries job actor (after_answer g tries job actor.told (act_of before) answer actor) after

-- whatever actor the call stood for, such an act may have the answer, where an object has at most so many bytes
abbrev pub AnswersAsActor : ℕ → CallOf → Told → Type 0
AnswersAsActor max before answer =
    (g : Shape) (tries : ℕ) (job : Job) (actor : Calling) → Stands g tries job actor before → HasTarget g job →
    Answers (pin_bound g max job.note) (touched_count g job.note) (act_of before) answer

-- under a number there is one entry more, of the call's step, made after the last one of its actor; and the call has heard the answer
pub record HasMadeAtServer (number last : ℕ) (seen now : List (ℕ × MadeStep)) (before after : CallOf) : Type 0 where
  pub answer : Told
  pub moment : ℕ
  pub above : last < moment
  pub goes : IsPrefix seen now
  pub more : entries_of number now ≡ entries_of number seen ++ (number, made_by before after.step answer moment) ∷ []
  pub call : after ≡ heard before (act_of before) answer after.step after.due
  pub hears : HearsAsActor before answer after
  pub fits : (max : ℕ) → AnswersAsActor max before answer

-- so it is at the directory, where an object has at most so many bytes, and the step may draw stamps and changes the ticket
pub record HasMadeAtDirectory (number last max : ℕ) (seen now : List (ℕ × Noted)) (before after : CallOf) : Type 0 where
  pub answer : Told
  pub moment : ℕ
  pub drawn : List StampOf
  pub above : last < moment
  pub goes : IsPrefix seen now
  pub more : entries_of number now ≡ entries_of number seen ++ (number, record { made = made_by before after.step answer moment; drawn = drawn }) ∷ []
  pub call :
      after
      ≡ record (heard before (act_of before) answer after.step after.due) { token = token_by (act_of before) (made_by before after.step answer moment) before.token }
  pub hears : HearsAsActor before answer after
  pub fits : AnswersAsActor max before answer
