-- A machine that makes its steps alone does what the definitions say of a call that runs alone.
use Rattle.std.specs.Prelude.{◌≡◌, ℕ, suc, Bool, true, false, List, [], ◌∷◌, ◌++◌, replicate, Some}
use Rattle.std.specs.List.{slice_get}
use Rattle.clay_grid.specs.Shape.{Shape, chunk_count}
use Rattle.store_map.specs.declared.actor.Actor.{Actor}
use Rattle.store_core.specs.Lists.{change_at}
use Rattle.store_core.specs.Act.{Act, Outcome}
use Rattle.store_core.specs.Directory.{Directory}
use Rattle.store_core.specs.NextAct.{Job}
use Rattle.store_core.specs.Server.{Server}
use Rattle.store_core.specs.Step.{Shortage, Places}
use Rattle.run_laws.specs.State.{first_state}
use Rattle.run_laws.specs.StateActs.{act_of_state}
use Rattle.session_rules.specs.Alone.{EndsAs}
use Rattle.session_rules.specs.Takes.{takes_in}
use Rattle.session_rules.specs.Wants.{wanting_steps}
use Rattle.call_steps.specs.declared.need.Need.TheVariants as need
use Rattle.call_steps.specs.CallOf.{CallOf, act_of}
use Rattle.call_steps.specs.Steps.{need_of, coded, LeadsTo, LeadsToAtServer, IsDueInPass, IsUndueOncePlaced}
use Rattle.session_store.specs.AtWork.{IsOf, HasRun, HasRunAmply, first_at}

-- of a call with this number, by this actor, with so many tries
module _ (g : Shape) (tries : ℕ) (who : Actor) (number : ℕ) (job : Job) where
  -- a machine before its first step has made none
  pub record Begins (p : Places) (c : CallOf) : Type 0 where
    pub run : HasRun g tries who number job [] p c p
    pub amply : HasRunAmply g tries who number job 0 p c p

  -- a coding is no step; in it memory was wanting or not
  pub record CodingsStay : Type 0 where
    pub run :
        (shortages : List Shortage) (before now : Places) (c : CallOf) (wanting : Bool) → c.due ≡ true → IsDueInPass c → IsUndueOncePlaced c →
        HasRun g tries who number job shortages before c now → HasRun g tries who number job shortages before (coded wanting c) now
    pub amply :
        (made : ℕ) (before now : Places) (c : CallOf) →
        HasRunAmply g tries who number job made before c now → HasRunAmply g tries who number job made before (coded false c) now

  -- a step that leads to these places is one step more, with ample memory or without
  pub record StepsTo (before now : Places) (c : CallOf) (later : Places) (after : CallOf) : Type 0 where
    pub run :
        (shortages : List Shortage) → HasRun g tries who number job shortages before c now →
        HasRun g tries who number job (shortages ++ record { coding = c.coding; step = after.step } ∷ []) before after later
    pub amply :
        (made : ℕ) → after.step ≡ false → HasRunAmply g tries who number job made before c now →
        HasRunAmply g tries who number job (suc made) before after later

  -- at the directory, and at a server that is there
  pub record StepsAreMade : Type 0 where
    pub directory :
        (before now : Places) (c after : CallOf) (d : Directory) → need_of c ≡ need.Directory → LeadsTo c now.directory after d →
        StepsTo before now c (record now { directory = d }) after
    pub server :
        (before now : Places) (c after : CallOf) (server : ℕ) (s later : Server) → need_of c ≡ need.Server server →
        slice_get now.servers server ≡ Some s → LeadsToAtServer c s after later →
        StepsTo before now c (record now { servers = change_at server (λ _. later) now.servers }) after

  -- a machine that is over has made its call's steps, and took what they took
  pub record Ends : Type 0 where
    pub run :
        (shortages : List Shortage) (before now : Places) (c : CallOf) (outcome : Outcome) → act_of c ≡ Act.Finish outcome → c.coding ≡ false →
        HasRun g tries who number job shortages before c now →
        (act_of_state g tries job (wanting_steps g tries who number job shortages (first_at before)).call ≡ Act.Finish outcome)
        × ((wanting_steps g tries who number job shortages (first_at before)).places ≡ now)
    pub amply :
        (made : ℕ) (before now : Places) (c : CallOf) (outcome : Outcome) → act_of c ≡ Act.Finish outcome →
        HasRunAmply g tries who number job made before c now →
        (ends : EndsAs g tries who number job before outcome now)
        × (takes_in g tries who number job ends.made (first_at before) (replicate (chunk_count g) 0) ≡ c.takes)

-- so it is of every call
pub record CallsRunAlone : Type 0 where
  pub begins :
      (g : Shape) (tries : ℕ) (who : Actor) (number : ℕ) (job : Job) (p : Places) (c : CallOf) → IsOf g tries who number job c →
      c.state ≡ first_state → c.takes ≡ replicate (chunk_count g) 0 → c.coding ≡ false → Begins g tries who number job p c
  pub codings : (g : Shape) (tries : ℕ) (who : Actor) (number : ℕ) (job : Job) → CodingsStay g tries who number job
  pub steps : (g : Shape) (tries : ℕ) (who : Actor) (number : ℕ) (job : Job) → StepsAreMade g tries who number job
  pub ends : (g : Shape) (tries : ℕ) (who : Actor) (number : ℕ) (job : Job) → Ends g tries who number job
