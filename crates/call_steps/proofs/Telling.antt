-- What a call needs is the place of what it does next; and what it is told by its step.
use Rattle.std.proofs.Common.{◌≡◌, ℕ, Bool, true, false, List, Some, refl, sym, ap, ◌∙◌, true≢false}
use Rattle.clay_grid.specs.Shape.{Shape}
use Rattle.store_core.specs.Told.{Told}
use Rattle.store_core.specs.Act.{Act, DirectoryStep, ServerStep}
use Rattle.store_core.specs.Directory.{Directory}
use Rattle.store_core.specs.AtDirectory.{at_directory}
use Rattle.store_core.specs.NextAct.{Job}
use Rattle.store_core.specs.Server.{Server, at_server}
use Rattle.store_core.specs.Tokens.{actor_of}
use Rattle.run_laws.specs.State.{State}
use Rattle.run_laws.specs.StateActs.{act_at}
use Rattle.call_steps.specs.Ends.{is_ending}
use Rattle.call_steps.specs.CallOf.{CallOf, act_of}
use Rattle.call_steps.specs.Steps.{need_by}
use Rattle.call_steps.specs.Acts.{act_by, need_for, ActsTellNeeds}
use Rattle.call_steps.specs.declared.answer.DirectoryAnswer.{DirectoryAnswer}
use Rattle.call_steps.specs.declared.answer.ServerAnswer.{ServerAnswer}
use Rattle.call_steps.specs.Answers.{directory_answer, server_told}
use Rattle.call_steps.specs.Hearing.{told_there_by, told_here_by, told_there, told_here}

needs_by : (act : Act) (due : Bool) → need_for (act_by act due) ≡ need_by act due
needs_by (Act.Finish outcome) due = refl
needs_by (Act.AtDirectory step) true = refl
needs_by (Act.AtDirectory step) false = refl
needs_by (Act.AtServer server step) true = refl
needs_by (Act.AtServer server step) false = refl

pub acts_tell_needs : ActsTellNeeds
acts_tell_needs c = needs_by (act_of c) c.due

-- what a call is told, by what it is known to be
pub there : (before c : CallOf) (d : Directory) (short : Bool) (told : Told) (answer : DirectoryAnswer) → before ≡ c → told ≡ told_there short before d
    → directory_answer told ≡ Some answer → directory_answer (told_there short c d) ≡ Some answer
there before c d short told answer is heard tells = ap (λ (x : CallOf). directory_answer (told_there short x d)) (sym is) ∙ ap directory_answer (sym heard) ∙ tells

pub here : (before c : CallOf) (s : Server) (short : Bool) (told : Told) (answer : ServerAnswer) → before ≡ c → told ≡ told_here short before s
    → server_told answer ≡ told → server_told answer ≡ told_here short c s
here before c s short told answer is heard tells = tells ∙ heard ∙ ap (λ (x : CallOf). told_here short x s) is

-- by its act
pub by_act_there : (c : CallOf) (d after : Directory) (short : Bool) (step : DirectoryStep) (told : Told) → act_of c ≡ Act.AtDirectory step
    → (after, told) ≡ at_directory short (actor_of c.token) c.number step d → told ≡ told_there short c d
by_act_there c d after short step told act made = ap (λ (r : Directory × Told). r.1) made ∙ ap (λ a. told_there_by a short c d) (sym act)

pub by_act_here : (c : CallOf) (s after : Server) (short : Bool) (server : ℕ) (step : ServerStep) (told : Told) → act_of c ≡ Act.AtServer server step
    → (after, told) ≡ at_server short step s → told ≡ told_here short c s
by_act_here c s after short server step told act made = ap (λ (r : Server × Told). r.1) made ∙ ap (λ a. told_here_by a short s) (sym act)

-- a call whose pass is to be ended ends it
ends_by : (g : Shape) (tries : ℕ) (job : Job) (pairs : List (ℕ × ℕ)) (at : State) → is_ending at ≡ true
    → act_at g tries job pairs at ≡ Act.AtDirectory DirectoryStep.End
ends_by g tries job pairs (State.Ending outcome) ending = refl
ends_by g tries job pairs at ending = absurd (true≢false (sym ending))

pub ends_there : (c : CallOf) → is_ending c.state.at ≡ true → act_of c ≡ Act.AtDirectory DirectoryStep.End
ends_there c ending = ends_by c.book.geometry c.tries c.job c.state.pairs c.state.at ending

pub end_tells : (before c : CallOf) (d after : Directory) (told : Told) (answer : DirectoryAnswer) → before ≡ c → is_ending c.state.at ≡ true
    → (after, told) ≡ at_directory false (actor_of before.token) before.number DirectoryStep.End d → directory_answer told ≡ Some answer
    → directory_answer (told_there false c d) ≡ Some answer
end_tells before c d after told answer is ending made tells =
    there before c d false told answer is
    (by_act_there before d after false DirectoryStep.End told (ends_there before (ap (λ (x : CallOf). is_ending x.state.at) is ∙ ending)) made) tells
