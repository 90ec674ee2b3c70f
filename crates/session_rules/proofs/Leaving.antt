-- What each step of some actor leaves of a directory is left by its calls, by rebuilds one after another, and by the sweeper.
use Rattle.std.proofs.Common.{ℕ, zero, suc, ◌+◌, Bool, false, List, [], ◌∷◌, replicate, slice_get, sym, ap, subst, ◌∙◌}
use Rattle.clay_grid.specs.Shape.{Shape, chunk_count}
use Rattle.store_map.specs.declared.actor.Actor.{Actor}
use Rattle.store_map.specs.declared.actor.Actor.TheVariants as actor
use Rattle.store_core.specs.Act.{Act, DirectoryStep, Outcome}
use Rattle.store_core.specs.NextAct.{Job, rebuild_job}
use Rattle.store_core.specs.AtDirectory.{at_directory}
use Rattle.store_core.specs.Directory.{Directory}
use Rattle.store_core.specs.Step.{Shortage, Places, at_places}
use Rattle.store_core.specs.Sweep.{next_sweep}
use Rattle.run_laws.specs.State.{CallState, first_state}
use Rattle.run_laws.specs.StateActs.{act_of_state}
use Rattle.session_rules.specs.declared.session_answer.LostChunk.{LostChunk}
use Rattle.session_rules.specs.Alone.{AtWork, EndsAs, Sweeping, sweep, sweeps}
use Rattle.session_rules.specs.AloneHeals.{rebuild_of, AreRebuilt}
use Rattle.session_rules.specs.Wants.{after_coding, wanting_by, wanting_step, wanting_steps}
use Rattle.session_rules.proofs.Wants.{same_directory}
use Rattle.session_rules.proofs.CallLeft.{none_short, ample}

-- each step at the directory keeps it
abbrev pub IsKeptBy : (Directory → Type 0) → Actor → Type 0
IsKeptBy P who = (short : Bool) (number : ℕ) (step : DirectoryStep) (d : Directory) → P d → P (at_directory short who number step d).0

-- whatever they keep is kept from one directory to another
abbrev pub IsReachedBy : Actor → Directory → Directory → Type 1
IsReachedBy who before after = (P : Directory → Type 0) → IsKeptBy P who → P before → P after

module _ (P : Directory → Type 0) (who : Actor) (keeps : IsKeptBy P who) where
  pub act_leaves : (short : Bool) (number : ℕ) (act : Act) (p : Places) → P p.directory → P (at_places short who number act p).0.directory
  act_leaves short number (Act.AtDirectory step) p its = keeps short number step p.directory its
  act_leaves short number (Act.AtServer server step) p its = subst P (sym (same_directory short server step p (slice_get p.servers server))) its
  act_leaves short number (Act.Finish outcome) p its = its

  -- a call
  module _ (g : Shape) (tries number : ℕ) (job : Job) where
    step_leaves : (short : Bool) (act : Act) (w : AtWork) → P w.places.directory → P (wanting_by g tries who number job short act w).places.directory
    step_leaves short (Act.AtDirectory step) w its = act_leaves short number (Act.AtDirectory step) w.places its
    step_leaves short (Act.AtServer server step) w its = act_leaves short number (Act.AtServer server step) w.places its
    step_leaves short (Act.Finish outcome) w its = its

    pub steps_leave : (shortages : List Shortage) (w : AtWork) → P w.places.directory → P (wanting_steps g tries who number job shortages w).places.directory
    steps_leave [] w its = its
    steps_leave (shortage ∷ shortages) w its =
        let call : CallState = after_coding g tries who number job shortage.coding w.call in
        steps_leave shortages (wanting_step g tries who number job shortage w) (step_leaves shortage.step (act_of_state g tries job call) (record { call = call; places = w.places }) its)

    pub call_leaves : (before after : Places) (outcome : Outcome) → EndsAs g tries who number job before outcome after → P before.directory → P after.directory
    call_leaves before after outcome ends its =
        subst (λ (p : Places). P p.directory) (ap (λ (w : AtWork). w.places) (sym (ample g tries who number job ends.made (record { call = first_state; places = before }))) ∙ ends.leaves)
        (steps_leave (replicate ends.made none_short) (record { call = first_state; places = before }) its)

  -- a repairer's calls one after another
  pub rebuilds_leave : (g : Shape) (tries : ℕ) (chunks : List LostChunk) (number : ℕ) (before after : Places) → AreRebuilt g tries who number chunks before after → P before.directory → P after.directory
  rebuilds_leave g tries [] number before after same its = subst (λ (p : Places). P p.directory) same its
  rebuilds_leave g tries (chunk ∷ chunks) number before after (between, ends, rest) its =
      rebuilds_leave g tries chunks (number + 1) between after rest (call_leaves g tries number (rebuild_job (rebuild_of chunk)) before between Outcome.Rebuilt ends its)

-- the sweeper
pub sweeps_leave : (P : Directory → Type 0) → IsKeptBy P actor.Sweeper → (g : Shape) (made : ℕ) (w : Sweeping) → P w.places.directory → P (sweeps g made w).places.directory
sweeps_leave P keeps g zero w its = its
sweeps_leave P keeps g (suc made) w its =
    sweeps_leave P keeps g made (sweep g w) (act_leaves P actor.Sweeper keeps false 0 (next_sweep (chunk_count g) w.sweeper) w.places its)
