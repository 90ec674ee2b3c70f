-- What each step that may be made keeps is kept in every run of a script.
use Rattle.std.proofs.Common.{◌≡◌, ℕ, suc, ◌<◌, Bool, true, false, nat_lt, List, ◌∷◌, length, map, drop, get_or, Option, None, Some, option_and_then, refl, sym, ap, subst, ◌∙◌}
use Rattle.std.proofs.lemmas.Bool.{cond_both}
use Rattle.std.specs.List.{slice_get}
use Rattle.clay_grid.specs.Shape.{chunk_count, stripe_length}
use Rattle.store_map.specs.Limits.{size_of, tries_of}
use Rattle.store_map.specs.declared.actor.Actor.{Actor}
use Rattle.store_map.specs.declared.actor.Actor.TheVariants as actor
use Rattle.store_map.specs.declared.actor.Token.{Token}
use Rattle.store_map.specs.declared.actor.Token.TheVariants as token
use Rattle.store_map.specs.declared.script.ClientPart.{ClientPart}
use Rattle.store_map.specs.declared.script.Script.{Script}
use Rattle.store_core.specs.Told.{Told}
use Rattle.store_core.specs.Note.{Note}
use Rattle.store_core.specs.Act.{Act, DirectoryStep, ServerStep}
use Rattle.store_core.specs.ActPlace.{is_in_pass}
use Rattle.store_core.specs.Calls.{IsNoteOf, IsOfCall}
use Rattle.store_core.specs.CallStep.{job_step, step_if, step_of}
use Rattle.store_core.specs.Conditions.{IsOfClient, MayStep}
use Rattle.store_core.specs.Core.{Core, first_core}
use Rattle.store_core.specs.Directory.{Directory, new_directory}
use Rattle.store_core.specs.History.{call_of}
use Rattle.store_core.specs.NextAct.{Job, next_act, job_of}
use Rattle.store_core.specs.AtDirectory.{at_directory}
use Rattle.store_core.specs.Run.{Run, first_shortage, places_in, after_client, after_repairer, client_step, repairer_step, sweeper_step, operator_step}
use Rattle.store_core.specs.Schedule.{run_core}
use Rattle.store_core.specs.Server.{Server}
use Rattle.store_core.specs.Sound.{IsSound}
use Rattle.store_core.specs.Step.{Shortage, Places, at_server_there, at_places, told_first, actor_step}
use Rattle.store_core.specs.Sweep.{Sweeper, next_sweep}
use Rattle.store_core.specs.Work.{Work, Calling, client_work, repairer_work, has_step}
use Rattle.run_laws.specs.StepLaws.{HasTarget}
use Rattle.run_laws.proofs.Passes.{IsOthersStep}
use Rattle.run_laws.proofs.ActAnswers.{FitPlaces}
use Rattle.run_laws.proofs.ActorSteps.{InWork, CallKept, ToldFirst, first_told}
use Rattle.run_laws.proofs.CallActs.{ActOfKind, acts_of_kind}
use Rattle.run_laws.proofs.Groups.{drop_here, GroupKept, IsGroup}
use Rattle.run_laws.proofs.Invariants.{IsAllowed, tokens_hold}
use Rattle.run_laws.proofs.MaySteps.{FitsActor, may_step}
use Rattle.run_laws.proofs.Phases.{phase_of, rank}
use Rattle.run_laws.proofs.Proper.{HasTry, IsProper, acts_proper}
use Rattle.run_laws.proofs.Readies.{drawn_count, Ready}
use Rattle.run_laws.proofs.ReadyActors.{ActorReady, GroupReady, IsFit, short_ready}
use Rattle.run_laws.proofs.Runs.{CanRun, fit_places, IsOperatorAct}
use Rattle.run_laws.proofs.RunsSound.{RunKeeps, fit_clients, fit_repairers, client_kept, repairer_kept, sweeper_kept, operator_kept, first_kept}
use Rattle.run_laws.proofs.Scripts.{Mapped, mapped}
use Rattle.run_laws.proofs.ToldVersions.{versions_told}

-- what each step at a sound directory keeps that may be made, where a look is of its call
pub record StepsKeep (script : Script) (P : Directory → Type 0) : Type 0 where
  pub first : P (new_directory script.geometry (size_of script))
  pub step :
      (short : Bool) (who : Actor) (number : ℕ) (step : DirectoryStep) (d : Directory) → 0 < stripe_length d.shape → IsSound d → P d → MayStep d who number step → IsOfCall (call_of script) who number step
      → P (at_directory short who number step d).0

module _ (script : Script) (P : Directory → Type 0) (steps : StepsKeep script P) where
  -- ---- a step of a call
  -- a step at a server leaves the directory
  server_keeps : (short : Bool) (server : ℕ) (step : ServerStep) (places : Places) (found : Option Server) → P places.directory → P (at_server_there short server step places found).0.directory
  server_keeps short server step places None h = h
  server_keeps short server step places (Some s) h = h

  -- a look of a call
  abbrev pub LooksAs : Actor → ℕ → Note → Type 0
  LooksAs who number note = IsOfClient who note → IsNoteOf (call_of script) who number note

  -- so its steps are
  is_of_call : (who : Actor) (number : ℕ) (job : Job) (room : Type 0) (step : DirectoryStep) (d : Directory) → LooksAs who number job.note → IsProper script.geometry job room (Act.AtDirectory step) → MayStep d who number step
      → IsOfCall (call_of script) who number step
  is_of_call who number job room (DirectoryStep.Look note) d looks proper may =
      let client : IsOfClient who note = may.1 in
      subst (IsNoteOf (call_of script) who number) (sym proper.0) (looks (subst (IsOfClient who) proper.0 client))
  is_of_call who number job room step d looks proper may = tt

  module _ (some : 0 < stripe_length script.geometry) (who : Actor) (job : Job) (target : HasTarget script.geometry job) (fits : FitsActor who job.note) (calling : Calling) (places : Places)
      (fit : FitPlaces script.geometry (size_of script) places) (sound : IsSound places.directory) (work : InWork script.geometry (size_of script) (tries_of script) job who calling places.directory)
      (ready : Ready (drawn_count script.geometry job.note) who (length calling.ended) (rank (phase_of (next_act script.geometry (tries_of script) job calling.told))) (versions_told calling.told) places.directory)
      (looks : LooksAs who (length calling.ended) job.note) (holds : P places.directory) where
    -- an actor's step keeps it
    actor_keeps : (shortages : Shortage) → P (actor_step script.geometry (tries_of script) shortages who job calling places).0.directory
    actor_keeps shortages = by (next_act script.geometry (tries_of script) job first) refl (acts_proper script.geometry (tries_of script) job target first) (acts_of_kind script.geometry (tries_of script) job target first)
      where
        has_one : Bool
        has_one = is_in_pass (next_act script.geometry (tries_of script) job calling.told)

        first : List Told
        first = told_first shortages.coding has_one script.geometry job calling.told

        first_is : ToldFirst script.geometry (size_of script) (tries_of script) job who calling.told first places.directory
        first_is = first_told script.geometry (size_of script) (tries_of script) job target who calling.told places.directory work.stands shortages.coding has_one refl

        first_ready : Ready (drawn_count script.geometry job.note) who (length calling.ended) (rank (phase_of (next_act script.geometry (tries_of script) job first))) (versions_told first) places.directory
        first_ready = short_ready script.geometry (tries_of script) job target who (length calling.ended) calling.told places.directory shortages.coding has_one ready

        by : (act : Act) → next_act script.geometry (tries_of script) job first ≡ act → IsProper script.geometry job (HasTry job.note.kind (tries_of script) first) act → ActOfKind script.geometry job.note.kind act
            → P (at_places shortages.step who (length calling.ended) act places).0.directory
        by (Act.AtDirectory step) e proper of_kind =
            let may : MayStep places.directory who (length calling.ended) step =
            may_step script.geometry (tries_of script) job target who fits (length calling.ended) first places.directory fit.shape first_is.stands first_ready step e proper of_kind in
            steps.step shortages.step who (length calling.ended) step places.directory (subst (λ s. 0 < stripe_length s) (sym fit.shape) some) sound holds may
            (is_of_call who (length calling.ended) job (HasTry job.note.kind (tries_of script) first) step places.directory looks proper may)
        by (Act.AtServer server step) e proper of_kind = server_keeps shortages.step server step places (slice_get places.servers server) holds
        by (Act.Finish outcome) e proper of_kind = holds

  -- ---- a step of one of a kind's actors
  abbrev Kept : Option (Places × Calling) → Type 0
  Kept None = Unit {0}
  Kept (Some after) = P after.0.directory

  module _ (who_of : ℕ → Actor) (works : List Work) (group : IsGroup script who_of works) (fit_group : IsFit script who_of works)
      (all_look : (i : ℕ) (work : Work) → slice_get works i ≡ Some work → (k : ℕ) (job : Job) → slice_get work.jobs k ≡ Some job → LooksAs (who_of i) k job.note)
      (some : 0 < stripe_length script.geometry) (callings : List Calling) (places : Places)
      (fit : FitPlaces script.geometry (size_of script) places) (sound : IsSound places.directory) (kept : GroupKept script who_of works callings places.directory)
      (ready : GroupReady script who_of works callings places.directory) (holds : P places.directory) (i : ℕ) where
    with_job : (shortages : Shortage) (work : Work) (calling : Calling) → slice_get works i ≡ Some work → slice_get callings i ≡ Some calling
        → (found : Option Job) → slice_get work.jobs (length calling.ended) ≡ found → Kept (job_step script shortages (who_of i) calling places found)
    with_job shortages work calling is_work is_calling None e = tt
    with_job shortages work calling is_work is_calling (Some job) e =
        let ahead : drop (length calling.ended) work.jobs ≡ job ∷ drop (suc (length calling.ended)) work.jobs = drop_here work.jobs (length calling.ended) job e in
        let in_work : InWork script.geometry (size_of script) (tries_of script) job (who_of i) calling places.directory =
        subst (λ l. CallKept script.geometry (size_of script) (tries_of script) (who_of i) l calling places.directory) ahead (kept i work calling is_work is_calling) in
        let at_job : Ready (drawn_count script.geometry job.note) (who_of i) (length calling.ended) (rank (phase_of (next_act script.geometry (tries_of script) job calling.told))) (versions_told calling.told) places.directory =
        subst (λ l. ActorReady script.geometry (tries_of script) (who_of i) l calling places.directory) ahead (ready i work calling is_work is_calling) in
        actor_keeps some (who_of i) job (group.targets i work is_work (length calling.ended) job e) (fit_group i work is_work (length calling.ended) job e) calling places fit sound in_work at_job
        (all_look i work is_work (length calling.ended) job e) holds shortages

    if_step : (shortages : Shortage) (work : Work) (calling : Calling) → slice_get works i ≡ Some work → slice_get callings i ≡ Some calling → (b : Bool) → Kept (step_if b script shortages (who_of i) work calling places)
    if_step shortages work calling is_work is_calling true = with_job shortages work calling is_work is_calling (slice_get work.jobs (length calling.ended)) refl
    if_step shortages work calling is_work is_calling false = tt

    found_step : (shortages : Shortage) (found : Option Work) (found_calling : Option Calling) → slice_get works i ≡ found → slice_get callings i ≡ found_calling → Kept (step_of script shortages (who_of i) found found_calling places)
    found_step shortages None found_calling e k = tt
    found_step shortages (Some work) None e k = tt
    found_step shortages (Some work) (Some calling) e k = if_step shortages work calling e k (has_step work calling)

    group_keeps : (shortages : Shortage) → Kept (step_of script shortages (who_of i) (slice_get works i) (slice_get callings i) places)
    group_keeps shortages = found_step shortages (slice_get works i) (slice_get callings i) refl refl

  -- ---- the calls of the script
  -- a client's look is of its call
  clients_look : (i : ℕ) (work : Work) → slice_get (client_work script) i ≡ Some work → (k : ℕ) (job : Job) → slice_get work.jobs k ≡ Some job → LooksAs (actor.Client i) k job.note
  clients_look i work is_work k job is_job client =
      let part : Mapped (λ (part : ClientPart). record { jobs = map job_of part.calls; leave = part.leave }) script.clients i work = mapped (λ (part : ClientPart). record { jobs = map job_of part.calls; leave = part.leave }) script.clients i work is_work in
      let jobs : map job_of part.source.calls ≡ work.jobs = ap (λ (w : Work). w.jobs) part.is_image in
      let one : Mapped job_of part.source.calls k job = mapped job_of part.source.calls k job (ap (λ (js : List Job). slice_get js k) jobs ∙ is_job) in (
        one.source,
        ap (λ o. option_and_then (λ (p : ClientPart). slice_get p.calls k) o) part.found ∙ one.found,
        ap (λ (j : Job). j.note) one.is_image,
      )

  -- a repairer makes none
  repairers_look : (i : ℕ) (work : Work) → slice_get (repairer_work script) i ≡ Some work → (k : ℕ) (job : Job) → slice_get work.jobs k ≡ Some job → LooksAs (actor.Repairer i) k job.note
  repairers_look i work is_work k job is_job client = absurd client

  -- ---- runs
  module _ (can : CanRun script) where
    -- what every core of a run has, with it
    pub record Held (core : Core) : Type 0 where
      pub keeps : RunKeeps script core
      pub holds : P core.directory

    client_done : (run : Run) (i : ℕ) (after : Option (Places × Calling)) → P run.core.directory → Kept after → P (after_client i run after).core.directory
    client_done run i None h k = h
    client_done run i (Some after) h k = k

    repairer_done : (run : Run) (i : ℕ) (after : Option (Places × Calling)) → P run.core.directory → Kept after → P (after_repairer i run after).core.directory
    repairer_done run i None h k = h
    repairer_done run i (Some after) h k = k

    client_holds : (run : Run) (i : ℕ) → RunKeeps script run.core → Held run.core → Held (client_step script i run).core
    client_holds run i state held =
        record {
          keeps = client_kept script can run state i;
          holds =
              client_done run i (step_of script (first_shortage run.shortages) (actor.Client i) (slice_get (client_work script) i) (slice_get run.core.clients i) (places_in run.core)) held.holds
              (group_keeps actor.Client (client_work script) can.clients (fit_clients script) clients_look can.some run.core.clients (places_in run.core) (fit_places script run.core state.keeps state.sound)
              state.sound state.keeps.clients state.clients held.holds i (first_shortage run.shortages));
        }

    repairer_holds : (run : Run) (i : ℕ) → RunKeeps script run.core → Held run.core → Held (repairer_step script i run).core
    repairer_holds run i state held =
        record {
          keeps = repairer_kept script can run state i;
          holds =
              repairer_done run i (step_of script (first_shortage run.shortages) (actor.Repairer i) (slice_get (repairer_work script) i) (slice_get run.core.repairers i) (places_in run.core)) held.holds
              (group_keeps actor.Repairer (repairer_work script) can.repairers (fit_repairers script) repairers_look can.some run.core.repairers (places_in run.core) (fit_places script run.core state.keeps state.sound)
              state.sound state.keeps.repairers state.repairers held.holds i (first_shortage run.shortages));
        }

    -- steps of the sweeper and the operator have no condition
    others_may : (d : Directory) (who : Actor) (step : DirectoryStep) → IsOthersStep step → MayStep d who 0 step × IsOfCall (call_of script) who 0 step
    others_may d who DirectoryStep.NextGarbage other = (tt, tt)
    others_may d who (DirectoryStep.Swept version) other = (tt, tt)
    others_may d who (DirectoryStep.Reap reaped) other = (tt, tt)
    others_may d who step other = absurd other

    others_hold : (run : Run) → Held run.core → (who : Actor) (act : Act) → IsOperatorAct act → P (at_places false who 0 act (places_in run.core)).0.directory
    others_hold run held who (Act.AtDirectory step) other =
        let may : MayStep run.core.directory who 0 step × IsOfCall (call_of script) who 0 step = others_may run.core.directory who step other in
        steps.step false who 0 step run.core.directory (subst (λ s. 0 < stripe_length s) (sym held.keeps.keeps.shape) can.some) held.keeps.sound held.holds may.0 may.1
    others_hold run held who (Act.AtServer server step) other = server_keeps false server step (places_in run.core) (slice_get run.core.servers server) held.holds
    others_hold run held who (Act.Finish outcome) other = absurd other

    operator_holds : (run : Run) (act : Act) → IsOperatorAct act → Held run.core → Held (operator_step act run).core
    operator_holds run act other held = record { keeps = operator_kept script can run held.keeps act other; holds = others_hold run held actor.Operator act other }

    -- the sweeper makes such steps alone
    sweeps : (n : ℕ) (sweeper : Sweeper) → IsOperatorAct (next_sweep n sweeper)
    sweeps n Sweeper.Idle = tt
    sweeps n (Sweeper.Sweeping version server) =
        cond_both {A = Act} (nat_lt server n) (Act.AtServer server (ServerStep.Discard version)) (Act.AtDirectory (DirectoryStep.Swept version)) IsOperatorAct (λ _. tt) (λ _. tt)

    sweeper_holds : (run : Run) → RunKeeps script run.core → Held run.core → Held (sweeper_step script run).core
    sweeper_holds run state held =
        record {
          keeps = sweeper_kept script can run state;
          holds = others_hold run held actor.Sweeper (next_sweep (chunk_count script.geometry) run.core.sweeper) (sweeps (chunk_count script.geometry) run.core.sweeper);
        }

    -- all tokens are allowed
    allowed : (shortages : List Shortage) (token : Token) → IsAllowed script shortages can Held IsOperatorAct client_holds repairer_holds sweeper_holds operator_holds token
    allowed shortages (token.Client i) = tt
    allowed shortages (token.Repairer i) = tt
    allowed shortages token.Sweep = tt
    allowed shortages (token.Wipe server) = tt
    allowed shortages (token.Down server) = tt
    allowed shortages (token.Up server) = tt
    allowed shortages (token.ReapClient i) = tt
    allowed shortages (token.ReapRepairer i) = tt
    allowed shortages token.Drain = tt

    -- so it is kept in every run
    pub runs_hold : (shortages : List Shortage) (tokens : List Token) → Held (run_core script shortages tokens)
    runs_hold shortages tokens =
        (tokens_hold script shortages can Held IsOperatorAct client_holds repairer_holds sweeper_holds operator_holds tokens (record { core = first_core script; shortages = shortages })
        (λ i token less. allowed shortages (get_or tokens i token))
        (record { state = first_kept script can; holds = record { keeps = first_kept script can; holds = steps.first } })).holds
