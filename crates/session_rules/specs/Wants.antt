-- A call that runs alone while memory may be wanting.
use Rattle.std.specs.Prelude.{◌≡◌, ◌<◌, ◌&&◌, ℕ, Bool, true, false, List, [], ◌∷◌, if◌then◌else◌}
use Rattle.clay_grid.specs.Shape.{Shape, stripe_length}
use Rattle.store_map.specs.declared.actor.Actor.{Actor}
use Rattle.store_map.specs.declared.call.Call.{Call}
use Rattle.store_map.specs.declared.call.Rebuild.{Rebuild as RebuildCall}
use Rattle.store_core.specs.Told.{Told}
use Rattle.store_core.specs.Note.{note_of, note_of_rebuild}
use Rattle.store_core.specs.Act.{Act, Outcome}
use Rattle.store_core.specs.ActPlace.{is_in_pass}
use Rattle.store_core.specs.NextAct.{Job, job_of, rebuild_job}
use Rattle.store_core.specs.Conditions.{MayBegin, IsOfClient, IsOfRepairer}
use Rattle.store_core.specs.Step.{Shortage, Places, at_places}
use Rattle.run_laws.specs.State.{CallState, first_state}
use Rattle.run_laws.specs.State.{State as CallAt}
use Rattle.run_laws.specs.StateActs.{act_of_state}
use Rattle.run_laws.specs.CallLaws.{next_call}
use Rattle.session_rules.specs.State.{State}
use Rattle.session_rules.specs.Alone.{AtWork}
use Rattle.session_rules.specs.Seen.{IsSeenAs, IsQuiet}
use Rattle.session_rules.specs.Sweeps.{KeepsPinned}
use Rattle.session_rules.specs.Quiet.{AreSwept}

-- a rebuild that has placed its chunk codes nothing more
abbrev pub may_code : CallAt → Bool
may_code (CallAt.Placing target epoch) = false
may_code at = true

-- of a call with this number, by this actor, with so many tries
module _ (g : Shape) (tries : ℕ) (who : Actor) (number : ℕ) (job : Job) where
  -- want of memory in the coding before a step counts only where the call codes and has a pass
  abbrev pub after_coding : Bool → CallState → CallState
  after_coding wanting call = if wanting && may_code call.at && is_in_pass (act_of_state g tries job call) then next_call g job call Told.Short else call

  -- a step by its act, with memory or without; a call that is over makes none
  abbrev pub wanting_by : Bool → Act → AtWork → AtWork
  wanting_by short (Act.Finish outcome) w = w
  wanting_by short act w =
      let after : Places × Told = at_places short who number act w.places in record { call = next_call g job w.call after.1; places = after.0 }

  -- its next step
  abbrev pub wanting_step : Shortage → AtWork → AtWork
  wanting_step shortage w =
      let call : CallState = after_coding shortage.coding w.call in wanting_by shortage.step (act_of_state g tries job call) (record { call = call; places = w.places })

  -- a step for each of some shortages
  abbrev pub wanting_steps : List Shortage → AtWork → AtWork
  wanting_steps [] w = w
  wanting_steps (shortage ∷ shortages) w = wanting_steps shortages (wanting_step shortage w)

-- a call that ends for want of memory, wherever it was wanting, leaves places that are seen as the state before it
pub record WantsAreUnseen : Type 0 where
  -- of a client
  pub calls :
      (g : Shape) (max tries : ℕ) (stands : List ℕ) (p : Places) (s : State) (who : Actor) (number : ℕ) (call : Call) (shortages : List Shortage) →
      0 < stripe_length g → IsSeenAs g max stands p s → MayBegin p.directory who number → IsOfClient who (note_of call) →
      act_of_state g tries (job_of call) (wanting_steps g tries who number (job_of call) shortages (record { call = first_state; places = p })).call ≡ Act.Finish Outcome.NoMemory →
      IsSeenAs g max stands (wanting_steps g tries who number (job_of call) shortages (record { call = first_state; places = p })).places s
  -- of a repairer
  pub rebuilds :
      (g : Shape) (max tries : ℕ) (stands : List ℕ) (p : Places) (s : State) (who : Actor) (number : ℕ) (call : RebuildCall) (shortages : List Shortage) →
      0 < stripe_length g → IsSeenAs g max stands p s → MayBegin p.directory who number → IsOfRepairer who (note_of_rebuild call) →
      act_of_state g tries (rebuild_job call) (wanting_steps g tries who number (rebuild_job call) shortages (record { call = first_state; places = p })).call ≡ Act.Finish Outcome.NoMemory →
      IsSeenAs g max stands (wanting_steps g tries who number (rebuild_job call) shortages (record { call = first_state; places = p })).places s

-- after a call that ended so the sweeper makes quiet places of quiet ones, seen as the same state
pub record WantsAreSwept : Type 0 where
  -- of a client
  pub calls :
      (g : Shape) (max tries : ℕ) (stands : List ℕ) (p : Places) (s : State) (who : Actor) (number : ℕ) (call : Call) (shortages : List Shortage) →
      0 < stripe_length g → IsSeenAs g max stands p s → KeepsPinned stands p s → IsQuiet stands p s → MayBegin p.directory who number → IsOfClient who (note_of call) →
      act_of_state g tries (job_of call) (wanting_steps g tries who number (job_of call) shortages (record { call = first_state; places = p })).call ≡ Act.Finish Outcome.NoMemory →
      AreSwept g max stands (wanting_steps g tries who number (job_of call) shortages (record { call = first_state; places = p })).places s
  -- of a repairer
  pub rebuilds :
      (g : Shape) (max tries : ℕ) (stands : List ℕ) (p : Places) (s : State) (who : Actor) (number : ℕ) (call : RebuildCall) (shortages : List Shortage) →
      0 < stripe_length g → IsSeenAs g max stands p s → KeepsPinned stands p s → IsQuiet stands p s → MayBegin p.directory who number → IsOfRepairer who (note_of_rebuild call) →
      act_of_state g tries (rebuild_job call) (wanting_steps g tries who number (rebuild_job call) shortages (record { call = first_state; places = p })).call ≡ Act.Finish Outcome.NoMemory →
      AreSwept g max stands (wanting_steps g tries who number (rebuild_job call) shortages (record { call = first_state; places = p })).places s
