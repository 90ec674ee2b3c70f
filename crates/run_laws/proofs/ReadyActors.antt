-- The actors of one kind: each is ready for its next step after a step of one of them, and the directory is sound.
use Rattle.std.proofs.Common.{◌≡◌, ℕ, suc, ◌+◌, ◌<◌, Bool, true, false, List, [], ◌∷◌, length, drop, Option, None, Some, IsTrue, refl, sym, ap, subst, ◌∙◌, inl, inr, ◌⊎◌, length-append}
use Rattle.std.proofs.lemmas.Bool.{and_parts, leb-true, cases_eq}
use Rattle.std.proofs.lemmas.Option.{same_Some}
use Rattle.std.specs.List.{slice_get}
use mathlib.Core.Bool.{beq}
use Rattle.clay_grid.specs.Shape.{Shape, chunk_count, stripe_length}
use Rattle.store_map.specs.Limits.{size_of, tries_of}
use Rattle.store_map.specs.declared.script.Script.{Script}
use Rattle.store_map.specs.declared.actor.Actor.{Actor}
use Rattle.store_core.specs.Lists.{change_at}
use Rattle.store_core.specs.Told.{Told}
use Rattle.store_core.specs.Act.{Act}
use Rattle.store_core.specs.ActPlace.{is_in_pass}
use Rattle.store_core.specs.CallStep.{job_step, step_if, step_of}
use Rattle.store_core.specs.Directory.{Directory}
use Rattle.store_core.specs.Lookups.{same_actor, pass_of}
use Rattle.store_core.specs.NextAct.{Job, next_act}
use Rattle.store_core.specs.Sound.{IsSound}
use Rattle.store_core.specs.Step.{Shortage, Places, at_places, told_first, take_from, ended_by, actor_step}
use Rattle.run_laws.specs.StepLaws.{HasTarget}
use Rattle.store_core.specs.Tell.{tell}
use Rattle.store_core.specs.Work.{Work, Calling, has_step}
use Rattle.run_laws.proofs.ActAnswers.{note_if, FitPlaces}
use Rattle.run_laws.proofs.ActorSteps.{InWork, CallKept, ToldFirst, first_told, AnswerBrings, answer_brings}
use Rattle.run_laws.proofs.CallMoves.{call_moves}
use Rattle.run_laws.proofs.Groups.{slice_changed, drop_here, GroupKept, IsGroup}
use Rattle.run_laws.proofs.LiveVersions.{sound_live}
use Rattle.run_laws.proofs.MaySteps.{FitsActor, none_held}
use Rattle.run_laws.proofs.OwnPasses.{PassesStand}
use Rattle.run_laws.proofs.Phases.{phase_of, has_pass, pass_after, rank, rank_moves, moves}
use Rattle.store_core.proofs.Places.{slice_get-change_at}
use Rattle.run_laws.proofs.Readies.{drawn_count, Ready, ready_falls, ready_apart, ready_stands, ready_next}
use Rattle.run_laws.proofs.ReadySteps.{Brings, brings}
use Rattle.run_laws.proofs.ToldVersions.{versions_told, versions_move}

-- ---- one actor
-- it is ready for the call that it has in work
abbrev pub ActorReady : Shape → ℕ → Actor → List Job → Calling → Directory → Type 0
ActorReady g tries who [] calling d = Unit {0}
ActorReady g tries who (job ∷ later) calling d =
    Ready (drawn_count g job.note) who (length calling.ended) (rank (phase_of (next_act g tries job calling.told))) (versions_told calling.told) d

-- what is so of every ready actor but one
abbrev pub StaysReady : Actor → Directory → Directory → Type 0
StaysReady who before after = (most number at : ℕ) (versions : List Told) → Ready most who number at versions before → Ready most who number at versions after

-- an actor that stays ready in each call does so in its own
pub stays_ready : (g : Shape) (tries : ℕ) (who : Actor) (jobs : List Job) (calling : Calling) (before after : Directory) → StaysReady who before after
    → ActorReady g tries who jobs calling before → ActorReady g tries who jobs calling after
stays_ready g tries who [] calling before after stays ready = tt
stays_ready g tries who (job ∷ later) calling before after stays ready =
    stays (drawn_count g job.note) (length calling.ended) (rank (phase_of (next_act g tries job calling.told))) (versions_told calling.told) ready

-- a step of the sweeper or the operator leaves each actor ready
pub stands_ready : (who : Actor) (before after : Directory) → PassesStand before after → StaysReady who before after
stands_ready who before after stand most number at versions ready = ready_stands most who number at versions before after stand ready

-- an actor that has ended its call may begin the next
next_ready : (g : Shape) (tries : ℕ) (who : Actor) (jobs : List Job) (calling : Calling) (d : Directory) (most number at : ℕ) (versions : List Told)
    → Ready most who number at versions d → pass_of who d ≡ None → length calling.ended ≡ number + 1 → calling.told ≡ [] → ActorReady g tries who jobs calling d
next_ready g tries who [] calling d most number at versions ready free counted begun = tt
next_ready g tries who (job ∷ later) calling d most number at versions ready free counted begun =
    subst (λ n. Ready (drawn_count g job.note) who n (rank (phase_of (next_act g tries job calling.told))) (versions_told calling.told) d) (sym counted)
    (subst (λ (told : List Told). Ready (drawn_count g job.note) who (number + 1) (rank (phase_of (next_act g tries job told))) (versions_told told) d) (sym begun)
    (ready_next most (drawn_count g job.note) who number at (rank (phase_of (next_act g tries job []))) versions d ready free))

-- after an actor's step
pub record ActorSound (g : Shape) (tries : ℕ) (who : Actor) (jobs : List Job) (before : Places) (after : Places × Calling) : Type 0 where
  pub sound : IsSound after.0.directory
  pub ready : ActorReady g tries who (drop (length after.1.ended) jobs) after.1 after.0.directory
  pub others : (other : Actor) → same_actor other who ≡ false → StaysReady other before.directory after.0.directory

-- want of memory that is told first leaves the actor ready
pub short_ready : (g : Shape) (tries : ℕ) (job : Job) → HasTarget g job → (who : Actor) (number : ℕ) (told : List Told) (d : Directory) (coding has : Bool)
    → Ready (drawn_count g job.note) who number (rank (phase_of (next_act g tries job told))) (versions_told told) d
    → Ready (drawn_count g job.note) who number (rank (phase_of (next_act g tries job (told_first coding has g job told)))) (versions_told (told_first coding has g job told)) d
short_ready g tries job target who number told d true true ready =
    let before : Act = next_act g tries job told in
    let after : Act = next_act g tries job (tell g job told Told.Short) in
    let phases : IsTrue (moves Told.Short (phase_of before) (phase_of after)) = call_moves g tries job target told Told.Short tt in
    let ranks : IsTrue (rank_moves Told.Short (rank (phase_of before)) (rank (phase_of after))) =
    (and_parts (beq (has_pass (phase_of after)) (pass_after Told.Short (has_pass (phase_of before)))) (rank_moves Told.Short (rank (phase_of before)) (rank (phase_of after))) phases).1 in
    ready_falls (drawn_count g job.note) who number d (rank (phase_of before)) (rank (phase_of after)) (versions_told told) (versions_told (tell g job told Told.Short))
    (leb-true (rank (phase_of after)) (rank (phase_of before)) ranks) (versions_move g job told Told.Short) ready
short_ready g tries job target who number told d true false ready = ready
short_ready g tries job target who number told d false has ready = ready

module _ (g : Shape) (most tries : ℕ) (some : 0 < stripe_length g) (who : Actor) (self : same_actor who who ≡ true) (jobs later : List Job) (job : Job) (target : HasTarget g job)
    (fits : FitsActor who job.note) (calling : Calling) (ahead : drop (length calling.ended) jobs ≡ job ∷ later) (places : Places) (fit : FitPlaces g most places) (sound : IsSound places.directory)
    (work : InWork g most tries job who calling places.directory)
    (ready : Ready (drawn_count g job.note) who (length calling.ended) (rank (phase_of (next_act g tries job calling.told))) (versions_told calling.told) places.directory) where
  -- one step of an actor
  pub actor_sound : (shortages : Shortage) → ActorSound g tries who jobs places (actor_step g tries shortages who job calling places)
  actor_sound shortages = by (next_act g tries job now) refl
    where
      has_one : Bool
      has_one = is_in_pass (next_act g tries job calling.told)

      first : List Told
      first = told_first shortages.coding has_one g job calling.told

      first_is : ToldFirst g most tries job who calling.told first places.directory
      first_is = first_told g most tries job target who calling.told places.directory work.stands shortages.coding has_one refl

      first_ready : Ready (drawn_count g job.note) who (length calling.ended) (rank (phase_of (next_act g tries job first))) (versions_told first) places.directory
      first_ready = short_ready g tries job target who (length calling.ended) calling.told places.directory shortages.coding has_one ready

      act : Act
      act = next_act g tries job first

      after : Places × Told
      after = at_places shortages.step who (length calling.ended) act places

      now : List Told
      now = tell g job first after.1

      brought : Brings g most tries some job target shortages.step who self fits (length calling.ended) first places fit first_is.stands sound first_ready
      brought = brings g most tries some job target shortages.step who self fits (length calling.ended) first places fit first_is.stands sound first_ready

      answered : AnswerBrings g most tries job who first now places after.0 after.1
      answered = answer_brings g most tries some job target shortages.step who self (length calling.ended) first places fit (sound_live places.directory sound) first_is.stands

      middle : Calling
      middle = record { ended = calling.ended; told = now; takes = take_from act after.1 calling.takes; steps = calling.steps + 1 }

      apart : (other : Actor) → same_actor other who ≡ false → StaysReady other places.directory after.0.directory
      apart other differ other_most number at versions other_ready =
          ready_apart other_most other number who (length calling.ended) at versions places.directory after.0.directory after.1 differ brought.moved other_ready

      goes_on : ActorSound g tries who jobs places (after.0, middle)
      goes_on =
          record {
            sound = brought.sound_now;
            ready = subst (λ l. ActorReady g tries who l middle after.0.directory) (sym ahead) brought.ready_now;
            others = apart;
          }

      by : (a : Act) → next_act g tries job now ≡ a → ActorSound g tries who jobs places (after.0, ended_by a (chunk_count g) middle)
      by (Act.Finish outcome) e =
          record {
            sound = brought.sound_now;
            ready =
                next_ready g tries who (drop (length (ended_by (Act.Finish outcome) (chunk_count g) middle).ended) jobs) (ended_by (Act.Finish outcome) (chunk_count g) middle) after.0.directory
                (drawn_count g job.note) (length calling.ended) (rank (phase_of (next_act g tries job now))) (versions_told now) brought.ready_now
                (none_held (pass_of who after.0.directory) (answered.pass ∙ ap (λ x. note_if (has_pass (phase_of x)) job.note) e)) (length-append calling.ended _) refl;
            others = apart;
          }
      by (Act.AtDirectory step) e = goes_on
      by (Act.AtServer server step) e = goes_on

-- ---- the actors of one kind
module _ (script : Script) (who_of : ℕ → Actor) (works : List Work) where
  -- each is ready
  abbrev pub GroupReady : List Calling → Directory → Type 0
  GroupReady callings d =
      (i : ℕ) (work : Work) (calling : Calling) → slice_get works i ≡ Some work → slice_get callings i ≡ Some calling
      → ActorReady script.geometry (tries_of script) (who_of i) (drop (length calling.ended) work.jobs) calling d

  -- each has calls of its own kind
  abbrev pub IsFit : Type 0
  IsFit = (i : ℕ) (work : Work) → slice_get works i ≡ Some work → (k : ℕ) (job : Job) → slice_get work.jobs k ≡ Some job → FitsActor (who_of i) job.note

  -- what a step of actor i does
  pub record GroupSound (i : ℕ) (callings : List Calling) (before : Places) (after : Places × Calling) : Type 0 where
    pub sound : IsSound after.0.directory
    pub ready : GroupReady (change_at i (λ _. after.1) callings) after.0.directory
    pub others : (other : Actor) → same_actor other (who_of i) ≡ false → StaysReady other before.directory after.0.directory

  -- the step that is made, if there is one
  abbrev pub SoundStep : ℕ → List Calling → Places → Option (Places × Calling) → Type 0
  SoundStep i callings places None = Unit {0}
  SoundStep i callings places (Some after) = GroupSound i callings places after

  module _ (group : IsGroup script who_of works) (fit_group : IsFit) (some : 0 < stripe_length script.geometry) (callings : List Calling) (places : Places)
      (fit : FitPlaces script.geometry (size_of script) places) (sound : IsSound places.directory) (kept : GroupKept script who_of works callings places.directory)
      (ready : GroupReady callings places.directory) (i : ℕ) where
    all_sound : (work : Work) (calling : Calling) (after : Places × Calling) → slice_get works i ≡ Some work → slice_get callings i ≡ Some calling
        → ActorSound script.geometry (tries_of script) (who_of i) work.jobs places after → GroupSound i callings places after
    all_sound work calling after is_work is_calling step =
        record {
          sound = step.sound;
          ready = λ j other_work other_calling is_other_work is_other_calling.
              each j other_work other_calling is_other_work is_other_calling (cases_eq i j);
          others = step.others;
        }
      where
        each : (j : ℕ) (other_work : Work) (other_calling : Calling) → slice_get works j ≡ Some other_work → slice_get (change_at i (λ _. after.1) callings) j ≡ Some other_calling
            → (i ≡ j) ⊎ (i ≡ j → ⊥)
            → ActorReady script.geometry (tries_of script) (who_of j) (drop (length other_calling.ended) other_work.jobs) other_calling after.0.directory
        each j other_work other_calling is_other_work is_other_calling (inl same) =
            let is_new : slice_get (change_at i (λ _. after.1) callings) j ≡ Some after.1 =
            subst (λ n. slice_get (change_at i (λ _. after.1) callings) n ≡ Some after.1) same (slice_changed i calling after.1 callings is_calling) in
            let same_calling : after.1 ≡ other_calling = same_Some after.1 other_calling (sym is_new ∙ is_other_calling) in
            let same_work : work ≡ other_work = same_Some work other_work (sym (subst (λ n. slice_get works n ≡ Some work) same is_work) ∙ is_other_work) in
            subst (λ n. ActorReady script.geometry (tries_of script) (who_of n) (drop (length other_calling.ended) other_work.jobs) other_calling after.0.directory) same
            (subst (λ (w : Work). ActorReady script.geometry (tries_of script) (who_of i) (drop (length other_calling.ended) w.jobs) other_calling after.0.directory) same_work
            (subst (λ (c : Calling). ActorReady script.geometry (tries_of script) (who_of i) (drop (length c.ended) work.jobs) c after.0.directory) same_calling step.ready))
        each j other_work other_calling is_other_work is_other_calling (inr differ) =
            let is_old : slice_get callings j ≡ Some other_calling = sym (slice_get-change_at i j (λ _. after.1) callings (λ e. differ (sym e))) ∙ is_other_calling in
            stays_ready script.geometry (tries_of script) (who_of j) (drop (length other_calling.ended) other_work.jobs) other_calling places.directory after.0.directory
            (step.others (who_of j) (group.apart i j differ)) (ready j other_work other_calling is_other_work is_old)

    with_job : (shortages : Shortage) (work : Work) (calling : Calling) → slice_get works i ≡ Some work → slice_get callings i ≡ Some calling
        → (found : Option Job) → slice_get work.jobs (length calling.ended) ≡ found → SoundStep i callings places (job_step script shortages (who_of i) calling places found)
    with_job shortages work calling is_work is_calling None e = tt
    with_job shortages work calling is_work is_calling (Some job) e =
        let ahead : drop (length calling.ended) work.jobs ≡ job ∷ drop (suc (length calling.ended)) work.jobs = drop_here work.jobs (length calling.ended) job e in
        let in_work : InWork script.geometry (size_of script) (tries_of script) job (who_of i) calling places.directory =
        subst (λ l. CallKept script.geometry (size_of script) (tries_of script) (who_of i) l calling places.directory) ahead (kept i work calling is_work is_calling) in
        let at_job : Ready (drawn_count script.geometry job.note) (who_of i) (length calling.ended) (rank (phase_of (next_act script.geometry (tries_of script) job calling.told))) (versions_told calling.told) places.directory =
        subst (λ l. ActorReady script.geometry (tries_of script) (who_of i) l calling places.directory) ahead (ready i work calling is_work is_calling) in
        all_sound work calling (actor_step script.geometry (tries_of script) shortages (who_of i) job calling places) is_work is_calling
        (actor_sound script.geometry (size_of script) (tries_of script) some (who_of i) (group.self i) work.jobs (drop (suc (length calling.ended)) work.jobs) job
        (group.targets i work is_work (length calling.ended) job e) (fit_group i work is_work (length calling.ended) job e) calling ahead places fit sound in_work at_job shortages)

    if_step : (shortages : Shortage) (work : Work) (calling : Calling) → slice_get works i ≡ Some work → slice_get callings i ≡ Some calling → (b : Bool)
        → SoundStep i callings places (step_if b script shortages (who_of i) work calling places)
    if_step shortages work calling is_work is_calling true = with_job shortages work calling is_work is_calling (slice_get work.jobs (length calling.ended)) refl
    if_step shortages work calling is_work is_calling false = tt

    found_step : (shortages : Shortage) (found : Option Work) (found_calling : Option Calling) → slice_get works i ≡ found → slice_get callings i ≡ found_calling
        → SoundStep i callings places (step_of script shortages (who_of i) found found_calling places)
    found_step shortages None found_calling e k = tt
    found_step shortages (Some work) None e k = tt
    found_step shortages (Some work) (Some calling) e k = if_step shortages work calling e k (has_step work calling)

    -- a step of actor i keeps the directory sound and all actors ready
    pub group_sound : (shortages : Shortage) → SoundStep i callings places (step_of script shortages (who_of i) (slice_get works i) (slice_get callings i) places)
    group_sound shortages = found_step shortages (slice_get works i) (slice_get callings i) refl refl
