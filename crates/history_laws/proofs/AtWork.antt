-- What is known of an actor when it makes a step, and of the step's answer.
use Rattle.std.proofs.Common.{◌≡◌, ℕ, suc, ◌<◌, Bool, true, false, List, ◌∷◌, length, drop, Option, Some, option_map, IfSome, refl, sym, ap, subst, ◌∙◌}
use Rattle.std.proofs.lemmas.Option.{none-some, same_Some}
use Rattle.std.specs.List.{slice_get}
use Rattle.clay_grid.specs.Shape.{stripe_length}
use Rattle.store_map.specs.Limits.{size_of, tries_of}
use Rattle.store_map.specs.declared.actor.Actor.{Actor}
use Rattle.store_map.specs.declared.actor.Actor.TheVariants as actor
use Rattle.store_map.specs.declared.script.Script.{Script}
use Rattle.store_core.specs.Act.{Act}
use Rattle.store_core.specs.ActPlace.{is_in_pass}
use Rattle.store_core.specs.Core.{Core}
use Rattle.store_core.specs.Directory.{Pass}
use Rattle.store_core.specs.Lookups.{same_actor, pass_of}
use Rattle.store_core.specs.NextAct.{Job, next_act}
use Rattle.store_core.specs.Note.{Note}
use Rattle.store_core.specs.Run.{places_in}
use Rattle.store_core.specs.Sound.{IsSound}
use Rattle.store_core.specs.Step.{Places, at_places, told_first}
use Rattle.store_core.specs.Told.{Told}
use Rattle.store_core.specs.Work.{Work, Calling, client_work, repairer_work}
use Rattle.run_laws.specs.StepLaws.{HasTarget}
use Rattle.run_laws.proofs.ActAnswers.{note_if, FitPlaces, Answered, act_answered}
use Rattle.run_laws.proofs.ActorSteps.{InWork, CallKept, Stands, first_told}
use Rattle.run_laws.proofs.CallActs.{ActOfKind, acts_of_kind}
use Rattle.run_laws.proofs.Groups.{GroupKept, IsGroup, drop_here}
use Rattle.run_laws.proofs.MaySteps.{FitsActor}
use Rattle.run_laws.proofs.Phases.{phase_of, has_pass, rank}
use Rattle.run_laws.proofs.Proper.{IsProper, HasTry, acts_proper}
use Rattle.run_laws.proofs.Readies.{drawn_count, PassReady, Ready}
use Rattle.run_laws.proofs.ReadyActors.{ActorReady, GroupReady, IsFit}
use Rattle.run_laws.proofs.Runs.{CanRun, fit_places}
use Rattle.run_laws.proofs.RunsSound.{RunKeeps, fit_clients, fit_repairers}
use Rattle.run_laws.proofs.ToldVersions.{versions_told}

-- the actor has this job in work
pub record AtWork (script : Script) (who : Actor) (job : Job) (calling : Calling) (places : Places) : Type 0 where
  pub some : 0 < stripe_length script.geometry
  pub self : same_actor who who ≡ true
  pub target : HasTarget script.geometry job
  pub fits : FitsActor who job.note
  pub fit : FitPlaces script.geometry (size_of script) places
  pub sound : IsSound places.directory
  pub in_work : InWork script.geometry (size_of script) (tries_of script) job who calling places.directory
  pub ready : Ready (drawn_count script.geometry job.note) who (length calling.ended) (rank (phase_of (next_act script.geometry (tries_of script) job calling.told))) (versions_told calling.told) places.directory

module _ (script : Script) (can : CanRun script) (core : Core) (kept : RunKeeps script core) (i : ℕ) (work : Work) (calling : Calling) (job : Job) where
  -- of any group
  group_at :
      (who_of : ℕ → Actor) (works : List Work) (callings : List Calling) → IsGroup script who_of works → IsFit script who_of works → GroupKept script who_of works callings core.directory
      → GroupReady script who_of works callings core.directory → slice_get works i ≡ Some work → slice_get callings i ≡ Some calling → slice_get work.jobs (length calling.ended) ≡ Some job
      → AtWork script (who_of i) job calling (places_in core)
  group_at who_of works callings group fit_group keeps ready is_work is_calling is_job =
      let ahead : drop (length calling.ended) work.jobs ≡ job ∷ drop (suc (length calling.ended)) work.jobs = drop_here work.jobs (length calling.ended) job is_job in
      record {
        some = can.some;
        self = group.self i;
        target = group.targets i work is_work (length calling.ended) job is_job;
        fits = fit_group i work is_work (length calling.ended) job is_job;
        fit = fit_places script core kept.keeps kept.sound;
        sound = kept.sound;
        in_work = subst (λ (l : List Job). CallKept script.geometry (size_of script) (tries_of script) (who_of i) l calling core.directory) ahead (keeps i work calling is_work is_calling);
        ready = subst (λ (l : List Job). ActorReady script.geometry (tries_of script) (who_of i) l calling core.directory) ahead (ready i work calling is_work is_calling);
      }

  -- a client
  pub client_at : slice_get (client_work script) i ≡ Some work → slice_get core.clients i ≡ Some calling → slice_get work.jobs (length calling.ended) ≡ Some job
      → AtWork script (actor.Client i) job calling (places_in core)
  client_at = group_at actor.Client (client_work script) core.clients can.clients (fit_clients script) kept.keeps.clients kept.clients

  -- a repairer
  pub repairer_at : slice_get (repairer_work script) i ≡ Some work → slice_get core.repairers i ≡ Some calling → slice_get work.jobs (length calling.ended) ≡ Some job
      → AtWork script (actor.Repairer i) job calling (places_in core)
  repairer_at = group_at actor.Repairer (repairer_work script) core.repairers can.repairers (fit_repairers script) kept.keeps.repairers kept.repairers

-- a note that is held is the call's
is_noted : (note : Note) (pass : Pass) (b : Bool) → Some pass.note ≡ note_if b note → pass.note ≡ note
is_noted note pass true e = same_Some pass.note note e
is_noted note pass false e = absurd (none-some pass.note (sym e))

module _ (script : Script) (who : Actor) (job : Job) (calling : Calling) (places : Places) (at : AtWork script who job calling places) where
  -- the actor's pass is of its call in work
  pub pass_number : (pass : Pass) → pass_of who places.directory ≡ Some pass → pass.number ≡ length calling.ended
  pass_number pass found =
      let right : PassReady (drawn_count script.geometry job.note) (length calling.ended) (rank (phase_of (next_act script.geometry (tries_of script) job calling.told))) (versions_told calling.told) pass.number pass.drawn =
      subst
      (λ (o : Option Pass).
      IfSome o (λ p. PassReady (drawn_count script.geometry job.note) (length calling.ended) (rank (phase_of (next_act script.geometry (tries_of script) job calling.told))) (versions_told calling.told) p.number p.drawn))
      found at.ready.pass in
      right.of_call

  -- and has its note
  pub pass_note : (pass : Pass) → pass_of who places.directory ≡ Some pass → pass.note ≡ job.note
  pass_note pass found =
      is_noted job.note pass (has_pass (phase_of (next_act script.geometry (tries_of script) job calling.told)))
      (sym (ap (option_map (λ (p : Pass). p.note)) found) ∙ at.in_work.stands.pass)

  module _ (coding short : Bool) where
    -- what it is told before its act
    abbrev pub first : List Told
    first = told_first coding (is_in_pass (next_act script.geometry (tries_of script) job calling.told)) script.geometry job calling.told

    -- its act
    abbrev pub act : Act
    act = next_act script.geometry (tries_of script) job first

    -- what comes of it
    abbrev pub after : Places × Told
    after = at_places short who (length calling.ended) act places

    pub stands : Stands script.geometry (tries_of script) job who first places.directory
    stands =
        (first_told script.geometry (size_of script) (tries_of script) job at.target who calling.told places.directory at.in_work.stands coding
        (is_in_pass (next_act script.geometry (tries_of script) job calling.told)) refl).stands

    pub proper : IsProper script.geometry job (HasTry job.note.kind (tries_of script) first) act
    proper = acts_proper script.geometry (tries_of script) job at.target first

    pub of_kind : ActOfKind script.geometry job.note.kind act
    of_kind = acts_of_kind script.geometry (tries_of script) job at.target first

    pub answered : Answered script.geometry (size_of script) job act after.1
    answered =
        act_answered script.geometry (size_of script) at.some job (HasTry job.note.kind (tries_of script) first) short who (length calling.ended) places at.fit act proper stands.going stands.pass
