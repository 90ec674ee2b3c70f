-- A look of a client's call in a run is one that may be made, and of the script's call.
use Rattle.std.proofs.Common.{◌≡◌, ℕ, Bool, true, false, cond, List, ◌∷◌, length, map, filter, Option, None, Some, option_and_then, refl, sym, ap, subst, ◌∙◌}
use Rattle.std.proofs.lemmas.Bool.{eq-eqb}
use Rattle.std.specs.List.{slice_get}
use Rattle.store_map.specs.Limits.{tries_of}
use Rattle.store_map.specs.declared.actor.Actor.TheVariants as actor
use Rattle.store_map.specs.declared.actor.Token.{Token}
use Rattle.store_map.specs.declared.script.ClientPart.{ClientPart}
use Rattle.store_map.specs.declared.script.Script.{Script}
use Rattle.store_core.specs.Act.{Act, DirectoryStep}
use Rattle.store_core.specs.ActPlace.{ActPlace, is_in_pass}
use Rattle.store_core.specs.AtDirectory.{at_directory}
use Rattle.store_core.specs.Calls.{IsNoteOf}
use Rattle.store_core.specs.Conditions.{MayStep}
use Rattle.store_core.specs.Core.{Core}
use Rattle.store_core.specs.Directory.{Directory}
use Rattle.store_core.specs.History.{call_of}
use Rattle.store_core.specs.Lookups.{same_actor}
use Rattle.store_core.specs.NextAct.{Job, job_of, next_act}
use Rattle.store_core.specs.Note.{Note}
use Rattle.store_core.specs.Run.{places_in}
use Rattle.store_core.specs.Told.{Told}
use Rattle.store_core.specs.Work.{Work, Calling, client_work, has_step}
use Rattle.run_laws.proofs.CallActs.{ActOfKind}
use Rattle.run_laws.proofs.MaySteps.{may_step}
use Rattle.run_laws.proofs.Phases.{phase_of, rank}
use Rattle.run_laws.proofs.Proper.{IsProper, HasTry}
use Rattle.run_laws.proofs.Readies.{drawn_count, Ready}
use Rattle.run_laws.proofs.ReadyActors.{short_ready}
use Rattle.run_laws.proofs.Runs.{CanRun}
use Rattle.run_laws.proofs.RunsSound.{RunKeeps}
use Rattle.run_laws.proofs.Scripts.{Mapped, mapped}
use Rattle.run_laws.proofs.ToldVersions.{versions_told}
use Rattle.history_laws.proofs.AtWork.{AtWork, client_at, stands, proper, of_kind}
use Rattle.thread_laws.specs.AtPlaces.{AllCome, directory_act, directory_next, DirectoryAnswers}
use Rattle.thread_laws.specs.ByActors.{IsNextOf, job_if, told_now}
use Rattle.thread_laws.specs.Histories.{ComeOfActor}
use Rattle.thread_laws.specs.MadeSteps.{MadeStep, is_by, is_at, acts_at}
use Rattle.thread_laws.specs.Owed.{IsLook}
use Rattle.thread_laws.proofs.Reaching.{GoesOn}

-- the call of a client's job
job_call : (script : Script) (i : ℕ) (work : Work) → slice_get (client_work script) i ≡ Some work → (k : ℕ) (job : Job) → slice_get work.jobs k ≡ Some job → IsNoteOf (call_of script) (actor.Client i) k job.note
job_call script i work is_work k job is_job =
    let part : Mapped (λ (part : ClientPart). record { jobs = map job_of part.calls; leave = part.leave }) script.clients i work = mapped (λ (part : ClientPart). record { jobs = map job_of part.calls; leave = part.leave }) script.clients i work is_work in
    let jobs : map job_of part.source.calls ≡ work.jobs = ap (λ (w : Work). w.jobs) part.is_image in
    let one : Mapped job_of part.source.calls k job = mapped job_of part.source.calls k job (ap (λ (js : List Job). slice_get js k) jobs ∙ is_job) in (
      one.source,
      ap (λ o. option_and_then (λ (p : ClientPart). slice_get p.calls k) o) part.found ∙ one.found,
      ap (λ (j : Job). j.note) one.is_image,
    )

-- what is known of the look
pub record MayLook (script : Script) (d : Directory) (i number : ℕ) (note : Note) : Type 0 where
  pub may : MayStep d (actor.Client i) number (DirectoryStep.Look note)
  pub its : IsNoteOf (call_of script) (actor.Client i) number note

module _ (script : Script) (can : CanRun script) (core : Core) (kept : RunKeeps script core) (i number point : ℕ) (m : MadeStep) (look : IsLook i number point m) where
  module _ (work : Work) (is_work : slice_get (client_work script) i ≡ Some work) (calling : Calling) (is_calling : slice_get core.clients i ≡ Some calling) where
    with_job : (job : Job) → slice_get work.jobs (length calling.ended) ≡ Some job → IsNextOf script m calling (Some job) → MayLook script core.directory i number look.note
    with_job job is_job next =
        subst (λ (k : ℕ). MayLook script core.directory i k look.note) (sym next.1 ∙ look.of_call)
        (record {
          may =
              may_step script.geometry (tries_of script) job at.target (actor.Client i) at.fits (length calling.ended) first core.directory at.fit.shape
              (stands script (actor.Client i) job calling (places_in core) at m.shortage.coding m.shortage.step) ready (DirectoryStep.Look look.note) looks is_proper is_of_kind;
          its = subst (IsNoteOf (call_of script) (actor.Client i) (length calling.ended)) (sym is_proper.0) (job_call script i work is_work (length calling.ended) job is_job);
        })
      where
        at : AtWork script (actor.Client i) job calling (places_in core)
        at = client_at script can core kept i work calling job is_work is_calling is_job

        first : List Told
        first = told_now script m job calling

        looks : next_act script.geometry (tries_of script) job first ≡ Act.AtDirectory (DirectoryStep.Look look.note)
        looks = next.0 ∙ look.act

        ready : Ready (drawn_count script.geometry job.note) (actor.Client i) (length calling.ended) (rank (phase_of (next_act script.geometry (tries_of script) job first))) (versions_told first) core.directory
        ready =
            short_ready script.geometry (tries_of script) job at.target (actor.Client i) (length calling.ended) calling.told core.directory m.shortage.coding
            (is_in_pass (next_act script.geometry (tries_of script) job calling.told)) at.ready

        is_proper : IsProper script.geometry job (HasTry job.note.kind (tries_of script) first) (Act.AtDirectory (DirectoryStep.Look look.note))
        is_proper =
            subst (IsProper script.geometry job (HasTry job.note.kind (tries_of script) first)) looks
            (proper script (actor.Client i) job calling (places_in core) at m.shortage.coding m.shortage.step)

        is_of_kind : ActOfKind script.geometry job.note.kind (Act.AtDirectory (DirectoryStep.Look look.note))
        is_of_kind = subst (ActOfKind script.geometry job.note.kind) looks (of_kind script (actor.Client i) job calling (places_in core) at m.shortage.coding m.shortage.step)

    by_job : (b : Bool) (found : Option Job) → slice_get work.jobs (length calling.ended) ≡ found → IsNextOf script m calling (job_if b work calling) → MayLook script core.directory i number look.note
    by_job false found e next = absurd next
    by_job true None e next = absurd (subst (IsNextOf script m calling) e next)
    by_job true (Some job) e next = with_job job e (subst (IsNextOf script m calling) e next)

  found : (work : Option Work) → slice_get (client_work script) i ≡ work → (calling : Option Calling) → slice_get core.clients i ≡ calling → (more : List MadeStep) → ComeOfActor script (m ∷ more) work calling
      → MayLook script core.directory i number look.note
  found None e calling k more h = absurd (cc (h))
  found (Some work) e None k more h = absurd (cc (h))
  found (Some work) e (Some calling) k more h = by_job work e calling k (has_step work calling) (slice_get work.jobs (length calling.ended)) refl h.0

  -- the next step of the client's list is its look
  pub may_look : (lines : List Token) (rest : List MadeStep) → GoesOn script lines core (m ∷ rest) → MayLook script core.directory i number look.note
  may_look lines rest go =
      let own : same_actor (actor.Client i) m.actor ≡ true = ap (same_actor (actor.Client i)) look.by ∙ eq-eqb i i refl in
      found (slice_get (client_work script) i) refl (slice_get core.clients i) refl (filter (is_by (actor.Client i)) rest)
      (subst (λ (b : Bool). ComeOfActor script (cond {A = List MadeStep} b (m ∷ filter (is_by (actor.Client i)) rest) (filter (is_by (actor.Client i)) rest)) (slice_get (client_work script) i) (slice_get core.clients i)) own
      (go.clients i))

  -- and the directory gives its answer
  pub answer_is : (lines : List Token) (rest : List MadeStep) → GoesOn script lines core (m ∷ rest)
      → (at_directory m.shortage.step (actor.Client i) number (DirectoryStep.Look look.note) core.directory).1 ≡ Told.Pinned point look.length_now look.seen
  answer_is lines rest go =
      let there : acts_at ActPlace.Directory m.act ≡ true = ap (acts_at ActPlace.Directory) look.act in
      let come : AllCome directory_next DirectoryAnswers (m ∷ filter (is_at ActPlace.Directory) rest) core.directory =
      subst (λ (b : Bool). AllCome directory_next DirectoryAnswers (cond {A = List MadeStep} b (m ∷ filter (is_at ActPlace.Directory) rest) (filter (is_at ActPlace.Directory) rest)) core.directory) there go.directory in
      (λ k. (at_directory m.shortage.step (sym look.by k) (sym look.of_call k) (DirectoryStep.Look look.note) core.directory).1) ∙ (λ k. (directory_act m (sym look.act k) core.directory).1) ∙ come.0 ∙ look.told

  -- and goes on after it
  pub next_is : (d : Directory) → directory_next m d ≡ (at_directory m.shortage.step (actor.Client i) number (DirectoryStep.Look look.note) d).0
  next_is d = (λ k. (directory_act m (look.act k) d).0) ∙ (λ k. (at_directory m.shortage.step (look.by k) (look.of_call k) (DirectoryStep.Look look.note) d).0)
