-- What an answer leaves of the machine and of its actor.
use Rattle.std.proofs.Common.{◌≡◌, ℕ, ◌+◌, Bool, List, [], ◌∷◌, ◌++◌, replicate, refl, sym, ap, subst, ◌∙◌}
use Rattle.clay_grid.specs.Shape.{Shape, chunk_count}
use Rattle.store_core.specs.Told.{Told}
use Rattle.store_core.specs.Act.{Act}
use Rattle.store_core.specs.NextAct.{Job, next_act}
use Rattle.store_core.specs.Tell.{tell}
use Rattle.store_core.specs.Step.{take_from, ended_by, after_answer}
use Rattle.store_core.specs.Work.{Calling}
use Rattle.store_core.specs.Agreement.{ActorToken}
use Rattle.run_laws.specs.States.{open_call}
use Rattle.run_laws.specs.CallAfter.{state_of}
use Rattle.run_laws.specs.CallLaws.{next_call}
use Rattle.run_laws.specs.FitLaws.{Fits}
use Rattle.run_laws.proofs.States.{states_resume}
use Rattle.call_steps.specs.CallOf.{CallOf, act_of, state_told, heard}
use Rattle.call_steps.specs.Stands.{Stands}
use Rattle.call_steps.specs.After.{StandsAfterBy, StandsAfter}
use Rattle.call_steps.proofs.Acts.{acts_now}

module _ (g : Shape) (tries : ℕ) (job : Job) (actor : Calling) (told : List Told) (c : CallOf) (stands : Stands g tries job (record actor { told = told }) c) where
  -- where it stands after an answer
  pub state_heard : (answer : Told) → Fits job.note.kind (next_act g tries job told) answer
      → state_told c answer ≡ open_call g (state_of g job (tell g job told answer))
  state_heard answer fits =
      let shown : state_told c answer ≡ next_call g job (open_call g (state_of g job told)) answer = λ i. next_call (stands.shape i) (stands.job i) (stands.state i) answer in
      shown ∙ sym (states_resume g tries job told answer fits)

  module _ (act : Act) (answer : Told) (short due : Bool) (token : ActorToken) where
    -- the machine's new value, and its actor before it is known whether the call has ended
    abbrev pub c_heard : CallOf
    c_heard = record (heard c act answer short due) { token = token }

    abbrev pub actor_heard : Calling
    actor_heard = record { ended = actor.ended; told = tell g job told answer; takes = take_from act answer actor.takes; steps = actor.steps + 1 }

    stands_heard : Fits job.note.kind (next_act g tries job told) answer → Stands g tries job actor_heard c_heard
    stands_heard fits =
        record {
          shape = stands.shape;
          tries = stands.tries;
          job = stands.job;
          number = stands.number;
          state = state_heard answer fits;
          takes = ap (take_from act answer) stands.takes;
        }

    -- by what is next
    ends_or_goes_on : Stands g tries job actor_heard c_heard → (next : Act) → StandsAfterBy next g tries job actor (ended_by next (chunk_count g) actor_heard) c_heard
    ends_or_goes_on now (Act.Finish outcome) =
        λ i. record { ended = actor.ended ++ record { outcome = outcome; takes = sym now.takes i } ∷ []; told = []; takes = replicate (chunk_count g) 0; steps = 0 }
    ends_or_goes_on now (Act.AtDirectory step) = record { stands = now; ended = refl; steps = refl }
    ends_or_goes_on now (Act.AtServer server step) = record { stands = now; ended = refl; steps = refl }

    -- so the machine's new value stands for what is left of the actor
    pub hears : Fits job.note.kind (next_act g tries job told) answer → StandsAfter g tries job actor (after_answer g tries job told act answer actor) c_heard
    hears fits =
        let now : Stands g tries job actor_heard c_heard = stands_heard fits in
        subst (λ (next : Act). StandsAfterBy (act_of c_heard) g tries job actor (ended_by next (chunk_count g) actor_heard) c_heard)
        (sym (acts_now g tries job actor_heard c_heard now))
        (ends_or_goes_on now (act_of c_heard))
