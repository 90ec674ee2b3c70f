-- The act of a machine that stands for its actor is the actor's.
use Rattle.std.proofs.Common.{◌≡◌, ℕ, List, [], ◌∷◌, refl, sym, ap, ◌∙◌}
use Rattle.clay_grid.specs.Shape.{Shape}
use Rattle.store_core.specs.Told.{Told}
use Rattle.store_core.specs.Act.{Act}
use Rattle.store_core.specs.Gathering.{Part}
use Rattle.store_core.specs.NextAct.{Job, next_act}
use Rattle.store_core.specs.Work.{Calling}
use Rattle.run_laws.specs.Stage.{Aim, Stage}
use Rattle.run_laws.specs.Stages.{first_stage}
use Rattle.run_laws.specs.State.{Sequel, State, CallState}
use Rattle.run_laws.specs.States.{stage_state, open_parts, open_state, open_call}
use Rattle.run_laws.specs.CallAfter.{state_of}
use Rattle.run_laws.specs.StateActs.{sequel_act, stage_act, parts_act, act_at, act_of_state}
use Rattle.run_laws.proofs.Acts.{acts_resume}
use Rattle.call_steps.specs.CallOf.{CallOf, act_of}
use Rattle.call_steps.specs.Stands.{Stands}
use Rattle.call_steps.specs.StandLaws.{FirstsStand}

-- ---- a gathering that was told nothing yet has the act of its first question
module _ (g : Shape) (tries : ℕ) (job : Job) (pairs : List (ℕ × ℕ)) where
  after_acts : (after : Sequel) → act_at g tries job pairs (open_parts g [] after) ≡ sequel_act after
  after_acts (Sequel.Serve point) = refl
  after_acts Sequel.Draw = refl
  after_acts (Sequel.Confirm seen target) = refl

  stage_acts : (bytes : State) (act : Act) (aim : Aim) (parts : List Part) (after : Sequel) (stage : Stage) → act_at g tries job pairs bytes ≡ act
      → act_at g tries job pairs (stage_state bytes aim parts after stage) ≡ stage_act g act aim stage
  stage_acts bytes act aim parts after (Stage.Asks asking) e = refl
  stage_acts bytes act aim parts after Stage.HasBytes e = e
  stage_acts bytes act aim parts after (Stage.TooMany missing) e = refl
  stage_acts bytes act aim parts after Stage.AtTarget e = refl
  stage_acts bytes act aim parts after (Stage.TargetAway downs) e = refl
  stage_acts bytes act aim parts after Stage.Short e = refl

  parts_acts : (parts : List Part) (after : Sequel) → act_at g tries job pairs (open_parts g parts after) ≡ parts_act g parts after
  parts_acts [] after = after_acts after
  parts_acts (part ∷ parts) after =
      stage_acts (open_parts g parts after) (parts_act g parts after) (Aim.Range part) parts after (first_stage g (Aim.Range part)) (parts_acts parts after)

  pub opened_acts : (at : State) → act_at g tries job pairs (open_state g at) ≡ act_at g tries job pairs at
  opened_acts (State.Parts part parts after) = parts_acts (part ∷ parts) after
  opened_acts (State.Chunk seen target) = refl
  opened_acts at = refl

-- ---- so a machine makes its actor's acts
pub acts_now : (g : Shape) (tries : ℕ) (job : Job) (actor : Calling) (c : CallOf) → Stands g tries job actor c → next_act g tries job actor.told ≡ act_of c
acts_now g tries job actor c stands =
    let s : CallState = state_of g job actor.told in
    let shown : act_of c ≡ act_of_state g tries job (open_call g s) = λ i. act_of_state (stands.shape i) (stands.tries i) (stands.job i) (stands.state i) in
    sym (shown ∙ opened_acts g tries job s.pairs s.at ∙ acts_resume g tries job actor.told)

-- ---- and a first machine stands for its actor
pub firsts_stand : FirstsStand
firsts_stand g tries job actor c first between =
    record {
      shape = first.shape;
      tries = first.tries;
      job = first.job;
      number = first.number;
      state = first.state ∙ ap (λ (told : List Told). open_call g (state_of g job told)) (sym between.told);
      takes = first.takes ∙ sym between.takes;
    }
