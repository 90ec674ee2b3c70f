-- The steps of a machine that stands for its actor.
use Rattle.std.proofs.Common.{◌≡◌, ℕ, Bool, true, false, cond, ◌&&◌, List, length, Option, Some, IfSome, refl, sym, ap, subst, ◌∙◌}
use Rattle.std.specs.List.{slice_get}
use Rattle.clay_grid.specs.Shape.{Shape}
use Rattle.store_map.specs.declared.actor.Actor.{Actor}
use Rattle.store_core.specs.Lists.{change_at}
use Rattle.store_core.specs.Told.{Told}
use Rattle.store_core.specs.Act.{Act, DirectoryStep, ServerStep}
use Rattle.store_core.specs.ActPlace.{is_in_pass}
use Rattle.store_core.specs.NextAct.{Job, next_act}
use Rattle.store_core.specs.Directory.{Directory}
use Rattle.store_core.specs.Lookups.{pass_of}
use Rattle.store_core.specs.Tokens.{actor_of}
use Rattle.store_core.specs.AtDirectory.{at_directory}
use Rattle.store_core.specs.Server.{Server, at_server}
use Rattle.store_core.specs.Step.{Places, at_server_there, at_places, told_first, after_answer, actor_step}
use Rattle.store_core.specs.Work.{Calling}
use Rattle.run_laws.specs.FitLaws.{Fits}
use Rattle.call_steps.specs.TokenAfter.{token_after}
use Rattle.call_steps.specs.CallOf.{CallOf, act_of, heard}
use Rattle.call_steps.specs.Steps.{at_directory_by, at_server_by, coded}
use Rattle.call_steps.specs.Stands.{Stands}
use Rattle.call_steps.specs.Ready.{ready, shortage_of, actor_coded}
use Rattle.call_steps.specs.After.{StepsTo}
use Rattle.call_steps.specs.StandLaws.{HasPassOfItsKind, StepsAtDirectory, StepsAtServers}
use Rattle.call_steps.proofs.Acts.{acts_now}
use Rattle.call_steps.proofs.Codings.{stands_ready}
use Rattle.call_steps.proofs.Fitting.{leading_fits, server_leads, directory_fits}
use Rattle.call_steps.proofs.Hears.{hears}
use Rattle.call_steps.proofs.Tokens.{tokens_stay}

-- the step of an actor that is kept so many answers, by its act
abbrev pub step_by : Shape → ℕ → Bool → Actor → Job → Calling → List Told → Places → Act → Places × Calling
step_by g tries short who job actor told places act =
    let after : Places × Told = at_places short who (length actor.ended) act places in
    (after.0, after_answer g tries job told act after.1 actor)

-- the directory with another one in its place, and the servers with one of them changed
abbrev pub with_directory : Places → Directory → Places
with_directory places d = record places { directory = d }

abbrev pub with_server : Places → ℕ → Server → Places
with_server places server s = record places { servers = change_at server (λ _. s) places.servers }

-- ---- after the coding
module _ (g : Shape) (tries : ℕ) (job : Job) (actor : Calling) (told : List Told) (c : CallOf) (stands : Stands g tries job (record actor { told = told }) c)
    (places : Places) (short due : Bool) where
  -- a step at the directory
  directory_step : (step : DirectoryStep) → act_of c ≡ Act.AtDirectory step → HasPassOfItsKind places.directory c
      → let stepped : Directory × CallOf = at_directory_by (Act.AtDirectory step) short due c places.directory in
      StepsTo g tries job actor (step_by g tries short (actor_of c.token) job actor told places (Act.AtDirectory step)) (with_directory places stepped.0) stepped.1
  directory_step step is_act its =
      let now : next_act g tries job told ≡ Act.AtDirectory step = acts_now g tries job (record actor { told = told }) c stands ∙ is_act in
      let of_job : IfSome (pass_of (actor_of c.token) places.directory) (λ pass. pass.note.kind ≡ job.note.kind) =
      subst (λ (j : Job). IfSome (pass_of (actor_of c.token) places.directory) (λ pass. pass.note.kind ≡ j.note.kind)) stands.job its in
      let answered : Directory × Told = at_directory short (actor_of c.token) c.number step places.directory in
      let fits : Fits job.note.kind (next_act g tries job told) answered.1 =
      subst (λ (act : Act). Fits job.note.kind act answered.1) (sym now) (directory_fits g tries job told short (actor_of c.token) c.number step places.directory now of_job) in
      subst
      (λ (number : ℕ).
      let after : Places × Told = at_places short (actor_of c.token) number (Act.AtDirectory step) places in
      StepsTo g tries job actor (after.0, after_answer g tries job told (Act.AtDirectory step) after.1 actor)
      (with_directory places answered.0) (record (heard c (Act.AtDirectory step) answered.1 short due) { token = token_after c.token c.number step answered.1 }))
      stands.number
      (record {
        places = refl;
        actor = hears g tries job actor told c stands (Act.AtDirectory step) answered.1 short due (token_after c.token c.number step answered.1) fits;
      })

  -- a step at a server
  server_step : (server : ℕ) (step : ServerStep) (s : Server) (who : Actor) → slice_get places.servers server ≡ Some s
      → let stepped : Server × CallOf = at_server_by (Act.AtServer server step) short due c s in
      StepsTo g tries job actor (step_by g tries short who job actor told places (Act.AtServer server step)) (with_server places server stepped.0) stepped.1
  server_step server step s who there =
      let answered : Server × Told = at_server short step s in
      subst
      (λ (found : Option Server).
      let after : Places × Told = at_server_there short server step places found in
      StepsTo g tries job actor (after.0, after_answer g tries job told (Act.AtServer server step) after.1 actor)
      (with_server places server answered.0) (heard c (Act.AtServer server step) answered.1 short due))
      (sym there)
      (record {
        places = refl;
        actor = hears g tries job actor told c stands (Act.AtServer server step) answered.1 short due c.token
            (leading_fits job.note.kind (next_act g tries job told) answered.1 (server_leads short step s));
      })

-- ---- with the coding
-- a step of an actor is the step of one that has heard of its coding
coded_first : (g : Shape) (tries : ℕ) (job : Job) (actor : Calling) (c : CallOf) (coding short : Bool) (who : Actor) (places : Places) → Stands g tries job actor c
    → actor_step g tries (shortage_of coding short c) who job actor places
    ≡ step_by g tries short who job actor (actor_coded g job coding c actor).told places (next_act g tries job (actor_coded g job coding c actor).told)
coded_first g tries job actor c coding short who places stands =
    ap
    (λ (act : Act).
    let told : List Told = told_first (c.due && coding) (is_in_pass act) g job actor.told in
    step_by g tries short who job actor told places (next_act g tries job told))
    (acts_now g tries job actor c stands)

-- a coding changes neither the ticket nor the job
kind_ready : (d : Directory) (c : CallOf) (coding due : Bool) → HasPassOfItsKind d c → HasPassOfItsKind d (cond due (coded coding c) c)
kind_ready d c coding true its = its
kind_ready d c coding false its = its

-- at the directory
pub steps_at_directory : StepsAtDirectory
steps_at_directory g tries job actor c who places step coding short due stands in_pass whose is_act its =
    let told : List Told = (actor_coded g job coding c actor).told in
    let now : CallOf = ready coding c in
    let first : Stands g tries job (record actor { told = told }) now = stands_ready g tries job actor c stands coding in_pass in
    let next : next_act g tries job told ≡ Act.AtDirectory step = acts_now g tries job (record actor { told = told }) now first ∙ is_act in
    let same : actor_of now.token ≡ who = ap actor_of (tokens_stay.coded c coding) ∙ whose in
    let made : actor_step g tries (shortage_of coding short c) who job actor places ≡ step_by g tries short (actor_of now.token) job actor told places (Act.AtDirectory step) =
    coded_first g tries job actor c coding short who places stands ∙ (λ i. step_by g tries short (sym same i) job actor told places (next i)) in
    subst
    (λ (one : Places × Calling).
    let stepped : Directory × CallOf = at_directory_by (act_of now) short due now places.directory in
    StepsTo g tries job actor one (with_directory places stepped.0) stepped.1)
    (sym made)
    (subst
    (λ (act : Act).
    let stepped : Directory × CallOf = at_directory_by act short due now places.directory in
    StepsTo g tries job actor (step_by g tries short (actor_of now.token) job actor told places (Act.AtDirectory step)) (with_directory places stepped.0) stepped.1)
    (sym is_act)
    (directory_step g tries job actor told now first places short due step is_act (kind_ready places.directory c coding c.due its)))

-- at a server
pub steps_at_servers : StepsAtServers
steps_at_servers g tries job actor c who places server step s coding short due stands in_pass is_act there =
    let told : List Told = (actor_coded g job coding c actor).told in
    let now : CallOf = ready coding c in
    let first : Stands g tries job (record actor { told = told }) now = stands_ready g tries job actor c stands coding in_pass in
    let next : next_act g tries job told ≡ Act.AtServer server step = acts_now g tries job (record actor { told = told }) now first ∙ is_act in
    let made : actor_step g tries (shortage_of coding short c) who job actor places ≡ step_by g tries short who job actor told places (Act.AtServer server step) =
    coded_first g tries job actor c coding short who places stands ∙ (λ i. step_by g tries short who job actor told places (next i)) in
    subst
    (λ (one : Places × Calling).
    let stepped : Server × CallOf = at_server_by (act_of now) short due now s in
    StepsTo g tries job actor one (with_server places server stepped.0) stepped.1)
    (sym made)
    (subst
    (λ (act : Act).
    let stepped : Server × CallOf = at_server_by act short due now s in
    StepsTo g tries job actor (step_by g tries short who job actor told places (Act.AtServer server step)) (with_server places server stepped.0) stepped.1)
    (sym is_act)
    (server_step g tries job actor told now first places short due server step s who there))
