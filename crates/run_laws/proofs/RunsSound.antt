-- Each step of a run keeps what every core keeps, the directory sound and the actors ready.
use Rattle.std.proofs.Common.{◌≡◌, ℕ, ◌<◌, false, nat_lt, List, [], ◌∷◌, length, drop, map, replicate, Option, None, Some, refl, sym, ap, subst, ◌∙◌, inl, inr}
use Rattle.std.proofs.lemmas.Bool.{cond_both}
use Rattle.std.proofs.lemmas.List.Elements.{All-nil}
use Rattle.std.specs.List.{slice_get}
use Rattle.clay_grid.specs.Shape.{chunk_count, stripe_length}
use Rattle.store_map.specs.Limits.{size_of, tries_of}
use Rattle.store_map.specs.declared.actor.Actor.{Actor}
use Rattle.store_map.specs.declared.actor.Actor.TheVariants as actor
use Rattle.store_map.specs.declared.call.Call.{Call}
use Rattle.store_map.specs.declared.call.Call.TheVariants as call
use Rattle.store_map.specs.declared.script.ClientPart.{ClientPart}
use Rattle.store_map.specs.declared.script.RepairPart.{RepairPart}
use Rattle.store_map.specs.declared.script.Script.{Script}
use Rattle.store_core.specs.Act.{Act, DirectoryStep, ServerStep}
use Rattle.store_core.specs.Conditions.{MayStep}
use Rattle.store_core.specs.Core.{Core, first_core}
use Rattle.store_core.specs.Directory.{Directory}
use Rattle.store_core.specs.NextAct.{Job, job_of, rebuild_job}
use Rattle.store_core.specs.Run.{Run, first_shortage, places_in, after_client, after_repairer, client_step, repairer_step, sweeper_step, operator_step}
use Rattle.store_core.specs.Server.{Server}
use Rattle.store_core.specs.Sound.{IsSound}
use Rattle.store_core.specs.Step.{Places, at_places, at_server_there}
use Rattle.store_core.specs.CallStep.{step_of}
use Rattle.store_core.specs.Sweep.{Sweeper, next_sweep}
use Rattle.store_core.specs.Work.{Work, Calling, new_calling, client_work, repairer_work}
use Rattle.run_laws.proofs.CallActs.{IsOfClients}
use Rattle.run_laws.proofs.MaySteps.{FitsActor}
use Rattle.run_laws.proofs.OwnPasses.{passes_stand, nothing_done}
use Rattle.run_laws.proofs.Passes.{IsOthersStep}
use Rattle.run_laws.proofs.Readies.{NotLater, OnlyReaped}
use Rattle.run_laws.proofs.ReadyActors.{ActorReady, StaysReady, stays_ready, stands_ready, GroupReady, IsFit, SoundStep, group_sound}
use Rattle.run_laws.proofs.Runs.{Keeps, CanRun, Progress, fit_places, client_progress, repairer_progress, IsOperatorAct, operator_keeps, sweeper_keeps}
use Rattle.run_laws.proofs.Scripts.{Mapped, mapped, replicated, first_keeps}
use Rattle.run_laws.proofs.SoundSteps.{steps_keep_sound}

-- what a core of a run has
pub record RunKeeps (script : Script) (core : Core) : Type 0 where
  pub keeps : Keeps script core
  pub sound : IsSound core.directory
  pub clients : GroupReady script actor.Client (client_work script) core.clients core.directory
  pub repairers : GroupReady script actor.Repairer (repairer_work script) core.repairers core.directory

-- ---- the calls of a script fit their actors
-- a call that is no rebuild is a client's
fit_call : (i : ℕ) (of : Call) → FitsActor (actor.Client i) (job_of of).note
fit_call i (call.Put name content) = inr (inr ((λ e. subst IsOfClients e tt), refl))
fit_call i (call.Write name offset content) = inl refl
fit_call i (call.Get name) = inr (inr ((λ e. subst IsOfClients e tt), refl))
fit_call i (call.ReadAt name offset count) = inr (inl refl)
fit_call i (call.Stat name) = inr (inr ((λ e. subst IsOfClients e tt), refl))
fit_call i (call.Delete name) = inr (inr ((λ e. subst IsOfClients e tt), refl))

module _ (script : Script) where
  -- a client's work
  client_of : ClientPart → Work
  client_of part = record { jobs = map job_of part.calls; leave = part.leave }

  -- a repairer's work
  repairer_of : RepairPart → Work
  repairer_of part = record { jobs = map rebuild_job part.calls; leave = part.leave }

  -- all calls of clients do
  pub fit_clients : IsFit script actor.Client (client_work script)
  unfolding client_of
  fit_clients i work is_work k job is_job =
      let part : Mapped client_of script.clients i work = mapped client_of script.clients i work is_work in
      let jobs : map job_of part.source.calls ≡ work.jobs = ap (λ (w : Work). w.jobs) part.is_image in
      let one : Mapped job_of part.source.calls k job = mapped job_of part.source.calls k job (ap (λ (js : List Job). slice_get js k) jobs ∙ is_job) in
      subst (λ (j : Job). FitsActor (actor.Client i) j.note) one.is_image (fit_call i one.source)

  -- and of repairers
  pub fit_repairers : IsFit script actor.Repairer (repairer_work script)
  unfolding repairer_of
  fit_repairers i work is_work k job is_job =
      let part : Mapped repairer_of script.repairers i work = mapped repairer_of script.repairers i work is_work in
      let jobs : map rebuild_job part.source.calls ≡ work.jobs = ap (λ (w : Work). w.jobs) part.is_image in
      let one : Mapped rebuild_job part.source.calls k job = mapped rebuild_job part.source.calls k job (ap (λ (js : List Job). slice_get js k) jobs ∙ is_job) in
      subst (λ (j : Job). FitsActor (actor.Repairer i) j.note) one.is_image refl

-- ---- a step of a client or a repairer
-- what every core keeps, after a step or none
pub progress_keeps : (script : Script) {idle : Type 0} (before after : Run) → Keeps script before.core → Progress script before after idle → Keeps script after.core
progress_keeps script before after keeps (inl lowers) = lowers.keeps
progress_keeps script before after keeps (inr same) = subst (λ (r : Run). Keeps script r.core) (sym same.0) keeps

module _ (script : Script) (can : CanRun script) (run : Run) (kept : RunKeeps script run.core) where
  -- all actors of a kind of which none made the step
  others_ready : (who_of : ℕ → Actor) (works : List Work) (callings : List Calling) (after : Directory) → ((j : ℕ) → StaysReady (who_of j) run.core.directory after)
      → GroupReady script who_of works callings run.core.directory → GroupReady script who_of works callings after
  others_ready who_of works callings after stays ready j work calling is_work is_calling =
      stays_ready script.geometry (tries_of script) (who_of j) (drop (length calling.ended) work.jobs) calling run.core.directory after (stays j) (ready j work calling is_work is_calling)

  -- a client's step, if there is one
  client_done : (i : ℕ) (after : Option (Places × Calling)) → Keeps script (after_client i run after).core → SoundStep script actor.Client (client_work script) i run.core.clients (places_in run.core) after
      → RunKeeps script (after_client i run after).core
  client_done i None keeps step = kept
  client_done i (Some after) keeps step =
      record {
        keeps = keeps;
        sound = step.sound;
        clients = step.ready;
        repairers = others_ready actor.Repairer (repairer_work script) run.core.repairers after.0.directory (λ j. step.others (actor.Repairer j) refl) kept.repairers;
      }

  -- a client's step
  pub client_kept : (i : ℕ) → RunKeeps script (client_step script i run).core
  client_kept i =
      client_done i (step_of script (first_shortage run.shortages) (actor.Client i) (slice_get (client_work script) i) (slice_get run.core.clients i) (places_in run.core))
      (progress_keeps script run (client_step script i run) kept.keeps (client_progress script can run kept.keeps kept.sound i))
      (group_sound script actor.Client (client_work script) can.clients (fit_clients script) can.some run.core.clients (places_in run.core) (fit_places script run.core kept.keeps kept.sound)
      kept.sound kept.keeps.clients kept.clients i (first_shortage run.shortages))

  -- a repairer's step, if there is one
  repairer_done : (i : ℕ) (after : Option (Places × Calling)) → Keeps script (after_repairer i run after).core
      → SoundStep script actor.Repairer (repairer_work script) i run.core.repairers (places_in run.core) after → RunKeeps script (after_repairer i run after).core
  repairer_done i None keeps step = kept
  repairer_done i (Some after) keeps step =
      record {
        keeps = keeps;
        sound = step.sound;
        clients = others_ready actor.Client (client_work script) run.core.clients after.0.directory (λ j. step.others (actor.Client j) refl) kept.clients;
        repairers = step.ready;
      }

  -- a repairer's step
  pub repairer_kept : (i : ℕ) → RunKeeps script (repairer_step script i run).core
  repairer_kept i =
      repairer_done i (step_of script (first_shortage run.shortages) (actor.Repairer i) (slice_get (repairer_work script) i) (slice_get run.core.repairers i) (places_in run.core))
      (progress_keeps script run (repairer_step script i run) kept.keeps (repairer_progress script can run kept.keeps kept.sound i))
      (group_sound script actor.Repairer (repairer_work script) can.repairers (fit_repairers script) can.some run.core.repairers (places_in run.core) (fit_places script run.core kept.keeps kept.sound)
      kept.sound kept.keeps.repairers kept.repairers i (first_shortage run.shortages))

  -- ---- a step of the sweeper or the operator
  -- it keeps the directory sound and leaves each call what it has
  record Stood (after : Directory) : Type 0 where
    stood_sound : IsSound after
    stays : (who : Actor) → StaysReady who run.core.directory after

  -- their steps have no condition
  others_may : (who : Actor) (step : DirectoryStep) → IsOthersStep step → MayStep run.core.directory who 0 step
  others_may who DirectoryStep.NextGarbage other = tt
  others_may who (DirectoryStep.Swept version) other = tt
  others_may who (DirectoryStep.Reap reaped) other = tt
  others_may who step other = absurd other

  -- nothing was done
  as_it_was : Stood run.core.directory
  as_it_was = record { stood_sound = kept.sound; stays = λ who. stands_ready who run.core.directory run.core.directory (nothing_done run.core.directory) }

  -- a step at a server
  server_stood : (server : ℕ) (step : ServerStep) (found : Option Server) → Stood (at_server_there false server step (places_in run.core) found).0.directory
  server_stood server step None = as_it_was
  server_stood server step (Some s) = as_it_was

  -- any of their steps
  stood : (who : Actor) (act : Act) → IsOperatorAct act → Stood (at_places false who 0 act (places_in run.core)).0.directory
  stood who (Act.AtDirectory step) other =
      record {
        stood_sound = steps_keep_sound.step false who 0 step run.core.directory (subst (λ s. 0 < stripe_length s) (sym kept.keeps.shape) can.some) kept.sound (others_may who step other);
        stays = λ actor. stands_ready actor run.core.directory (at_places false who 0 (Act.AtDirectory step) (places_in run.core)).0.directory (passes_stand who 0 step run.core.directory other);
      }
  stood who (Act.AtServer server step) other = server_stood server step (slice_get run.core.servers server)
  stood who (Act.Finish outcome) other = absurd other

  -- a step of the operator
  pub operator_kept : (act : Act) → IsOperatorAct act → RunKeeps script (operator_step act run).core
  operator_kept act other =
      let after : Places = (at_places false actor.Operator 0 act (places_in run.core)).0 in
      let now : Stood after.directory = stood actor.Operator act other in
      record {
        keeps = operator_keeps script run.core kept.keeps kept.sound act other;
        sound = now.stood_sound;
        clients = others_ready actor.Client (client_work script) run.core.clients after.directory (λ j. now.stays (actor.Client j)) kept.clients;
        repairers = others_ready actor.Repairer (repairer_work script) run.core.repairers after.directory (λ j. now.stays (actor.Repairer j)) kept.repairers;
      }

  -- the sweeper makes such steps alone
  sweeps : (n : ℕ) (sweeper : Sweeper) → IsOperatorAct (next_sweep n sweeper)
  sweeps n Sweeper.Idle = tt
  sweeps n (Sweeper.Sweeping version server) =
      cond_both {A = Act} (nat_lt server n) (Act.AtServer server (ServerStep.Discard version)) (Act.AtDirectory (DirectoryStep.Swept version)) IsOperatorAct (λ _. tt) (λ _. tt)

  -- a step of the sweeper
  pub sweeper_kept : RunKeeps script (sweeper_step script run).core
  sweeper_kept =
      let act : Act = next_sweep (chunk_count script.geometry) run.core.sweeper in
      let after : Places = (at_places false actor.Sweeper 0 act (places_in run.core)).0 in
      let now : Stood after.directory = stood actor.Sweeper act (sweeps (chunk_count script.geometry) run.core.sweeper) in
      record {
        keeps = sweeper_keeps script run.core kept.keeps kept.sound;
        sound = now.stood_sound;
        clients = others_ready actor.Client (client_work script) run.core.clients after.directory (λ j. now.stays (actor.Client j)) kept.clients;
        repairers = others_ready actor.Repairer (repairer_work script) run.core.repairers after.directory (λ j. now.stays (actor.Repairer j)) kept.repairers;
      }

-- ---- where a run begins
module _ (script : Script) (can : CanRun script) where
  -- an actor before its first call
  abbrev fresh : Calling
  fresh = new_calling (chunk_count script.geometry)

  -- it is ready
  new_ready : (who : Actor) (jobs : List Job) → ActorReady script.geometry (tries_of script) who jobs fresh (first_core script).directory
  new_ready who [] = tt
  new_ready who (job ∷ later) = record { numbers = All-nil (NotLater who 0); reaps = λ _. All-nil (OnlyReaped who 0); none_told = λ _. refl; pass = tt }

  -- so are all
  all_new : (who_of : ℕ → Actor) (works : List Work) (count : ℕ) → GroupReady script who_of works (replicate count fresh) (first_core script).directory
  all_new who_of works count i work calling is_work is_calling =
      subst (λ (c : Calling). ActorReady script.geometry (tries_of script) (who_of i) (drop (length c.ended) work.jobs) c (first_core script).directory)
      (replicated count i fresh calling is_calling) (new_ready (who_of i) work.jobs)

  -- the store before the first step
  pub first_kept : RunKeeps script (first_core script)
  first_kept =
      record {
        keeps = first_keeps script can.tried;
        sound = steps_keep_sound.first script.geometry (size_of script);
        clients = all_new actor.Client (client_work script) (length script.clients);
        repairers = all_new actor.Repairer (repairer_work script) (length script.repairers);
      }
