-- Tries are counted of writes alone.
use Rattle.std.proofs.Common.{◌≡◌, ℕ, Bool, ◌&&◌, List, [], ◌∷◌, refl, ap, ◌∙◌, if◌then◌else◌}
use Rattle.clay_grid.specs.Shape.{Shape}
use Rattle.store_map.specs.declared.actor.Actor.{Actor}
use Rattle.store_core.specs.Act.{Act}
use Rattle.store_core.specs.ActPlace.{is_in_pass}
use Rattle.store_core.specs.NextAct.{Job}
use Rattle.store_core.specs.Note.{Kind}
use Rattle.store_core.specs.Step.{Shortage}
use Rattle.store_core.specs.Told.{Told}
use Rattle.run_laws.specs.State.{State, CallState}
use Rattle.run_laws.specs.StateActs.{start_act, act_at, act_of_state}
use Rattle.run_laws.specs.CallLaws.{next_call}
use Rattle.session_rules.specs.Alone.{AtWork}
use Rattle.session_rules.specs.Wants.{may_code, after_coding, wanting_by, wanting_step, wanting_steps}

-- a call that isn't a write
abbrev pub NoWrite : Kind → Type 0
NoWrite Kind.Write = ⊥
NoWrite kind = Unit {0}

module _ (g : Shape) (a b : ℕ) (who : Actor) (number : ℕ) (job : Job) (other : NoWrite job.note.kind) where
  starts : (kind : Kind) (pairs : List (ℕ × ℕ)) → NoWrite kind → start_act kind a job pairs ≡ start_act kind b job pairs
  starts Kind.Put pairs h = refl
  starts Kind.Write pairs h = absurd h
  starts Kind.Get pairs h = refl
  starts Kind.ReadAt pairs h = refl
  starts Kind.Stat pairs h = refl
  starts Kind.Delete pairs h = refl
  starts Kind.Rebuild pairs h = refl

  acts_at : (pairs : List (ℕ × ℕ)) (at : State) → act_at g a job pairs at ≡ act_at g b job pairs at
  acts_at pairs State.Start = starts job.note.kind pairs other
  acts_at pairs (State.Parts part parts after) = refl
  acts_at pairs (State.Chunk seen target) = refl
  acts_at pairs (State.Gather aim asking parts after) = refl
  acts_at pairs State.Drawing = refl
  acts_at pairs (State.Preparing stripe version server servers row later placed versions) = refl
  acts_at pairs (State.Committing versions placed) = refl
  acts_at pairs (State.Committed versions) = refl
  acts_at pairs (State.Settling point place places) = refl
  acts_at pairs (State.Confirming seen target) = refl
  acts_at pairs (State.Installing seen target) = refl
  acts_at pairs (State.Placing target epoch) = refl
  acts_at pairs (State.Ending outcome) = refl
  acts_at pairs (State.Finished outcome) = refl

  pub same_act : (c : CallState) → act_of_state g a job c ≡ act_of_state g b job c
  same_act c = acts_at c.pairs c.at

  same_coding : (wanting : Bool) (c : CallState) → after_coding g a who number job wanting c ≡ after_coding g b who number job wanting c
  same_coding wanting c = ap (λ act. let now : CallState = if wanting && may_code c.at && is_in_pass act then next_call g job c Told.Short else c in now) (same_act c)

  same_made : (short : Bool) (act : Act) (w : AtWork) → wanting_by g a who number job short act w ≡ wanting_by g b who number job short act w
  same_made short (Act.Finish outcome) w = refl
  same_made short (Act.AtDirectory step) w = refl
  same_made short (Act.AtServer server step) w = refl

  same_step : (shortage : Shortage) (w : AtWork) → wanting_step g a who number job shortage w ≡ wanting_step g b who number job shortage w
  same_step shortage w =
      (λ i. let c : CallState = same_coding shortage.coding w.call i in wanting_by g a who number job shortage.step (act_of_state g a job c) (record { call = c; places = w.places }))
      ∙ (let c : CallState = after_coding g b who number job shortage.coding w.call in
      ap (λ act. wanting_by g a who number job shortage.step act (record { call = c; places = w.places })) (same_act c)
      ∙ same_made shortage.step (act_of_state g b job c) (record { call = c; places = w.places }))

  pub same_steps : (shortages : List Shortage) (w : AtWork) → wanting_steps g a who number job shortages w ≡ wanting_steps g b who number job shortages w
  same_steps [] w = refl
  same_steps (shortage ∷ shortages) w = ap (wanting_steps g a who number job shortages) (same_step shortage w) ∙ same_steps shortages (wanting_step g b who number job shortage w)
