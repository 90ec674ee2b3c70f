-- A call's step leaves it fewer steps.
use Rattle.std.proofs.Common.{◌≡◌, ℕ, ◌+◌, ◌<◌, ◌≤◌, Bool, true, false, ◌&&◌, List, [], length, replicate, Some, IfSome, option_map, refl, sym, ap, subst, ◌∙◌, arith, true≢false}
use Rattle.std.specs.Prelude.{IsTrue}
use Rattle.std.proofs.lemmas.List.{length-replicate}
use Rattle.clay_grid.specs.Shape.{Shape, chunk_count, stripe_length}
use Rattle.store_map.specs.declared.actor.Actor.{Actor}
use Rattle.store_core.specs.Act.{Act, DirectoryStep, ServerStep, Outcome}
use Rattle.store_core.specs.ActPlace.{is_in_pass}
use Rattle.store_core.specs.Agreement.{ActorToken, Agrees}
use Rattle.store_core.specs.AtDirectory.{at_directory}
use Rattle.store_core.specs.Bounds.{touched_count}
use Rattle.store_core.specs.Directory.{Directory}
use Rattle.store_core.specs.Lookups.{pass_of}
use Rattle.store_core.specs.NextAct.{Job, next_act}
use Rattle.store_core.specs.Note.{Note}
use Rattle.store_core.specs.Server.{Server, new_server, at_server}
use Rattle.store_core.specs.Sound.{IsSound}
use Rattle.store_core.specs.Step.{Places, told_first}
use Rattle.store_core.specs.Tell.{tell}
use Rattle.store_core.specs.Told.{Told}
use Rattle.store_core.specs.Tokens.{actor_of}
use Rattle.store_core.specs.Work.{Ended, Calling}
use Rattle.run_laws.specs.AnswerLaws.{is_of_call}
use Rattle.run_laws.specs.Answers.{Answers}
use Rattle.run_laws.specs.CallLeft.{pin_bound, call_left}
use Rattle.run_laws.specs.StepLaws.{HasTarget}
use Rattle.run_laws.proofs.PlaceAnswers.{places_answer}
use Rattle.run_laws.proofs.Steps.{steps_fall}
use Rattle.run_laws.proofs.Passes.{held}
use Rattle.run_laws.proofs.ActAnswers.{note_if, FitPlaces, act_answered}
use Rattle.run_laws.proofs.Phases.{directory_phase, has_pass}
use Rattle.run_laws.proofs.Proper.{ProperStep, IsProper, HasTry, acts_proper}
use Rattle.run_laws.proofs.ShortObjects.{sound_short}
use Rattle.run_laws.specs.State.{CallState}
use Rattle.run_laws.specs.States.{open_call}
use Rattle.run_laws.specs.CallAfter.{state_of}
use Rattle.run_laws.specs.CallLaws.{next_call}
use Rattle.run_laws.specs.FitLaws.{Fits}
use Rattle.run_laws.proofs.States.{states_resume}
use Rattle.call_steps.specs.TokenAfter.{MayMake, IfInCall}
use Rattle.call_steps.specs.CallOf.{CallOf, act_of}
use Rattle.call_steps.specs.Steps.{HoldsItsPass, IsDueInPass, MayMakeNext}
use Rattle.call_steps.specs.Ready.{ready, actor_coded}
use Rattle.call_steps.specs.Stands.{Stands}
use Rattle.call_steps.proofs.Acts.{acts_now}
use Rattle.call_steps.proofs.Codings.{acts_stand}
use Rattle.call_steps.proofs.Fitting.{leading_fits, server_leads, directory_fits}
use Rattle.call_steps.proofs.Tokens.{passes_are_of_calls}

-- an actor that was told this in its call with a number
abbrev pub telling : ℕ → List Told → List ℕ → Calling
telling number told takes = record { ended = replicate number (record { outcome = Outcome.NoMemory; takes = [] }); told = told; takes = takes; steps = 0 }

-- what is needed of a call to tell what it does next
pub record IsTold (g : Shape) (tries : ℕ) (job : Job) (told : List Told) (c : CallOf) : Type 0 where
  pub shape : c.book.geometry ≡ g
  pub tries_are : c.tries ≡ tries
  pub job_is : c.job ≡ job
  pub state : c.state ≡ open_call g (state_of g job told)

module _ (g : Shape) (max tries : ℕ) (job : Job) (target : HasTarget g job) where
  pub stands : (told : List Told) (c : CallOf) → IsTold g tries job told c → Stands g tries job (telling c.number told c.takes) c
  stands told c is = record { shape = is.shape; tries = is.tries_are; job = is.job_is; number = sym (length-replicate c.number _); state = is.state; takes = refl }

  -- after a coding that was due in a pass it was told as much, or that memory was wanting first
  pub record IsToldCoded (told : List Told) (now : CallOf) : Type 0 where
    pub later : List Told
    pub is : IsTold g tries job later now
    pub fewer : call_left g max tries job later ≤ call_left g max tries job told

  fewer_by : (told : List Told) (coding in_pass : Bool) → call_left g max tries job (told_first coding in_pass g job told) ≤ call_left g max tries job told
  fewer_by told true true = (steps_fall g max tries job).short told
  fewer_by told true false = omega arith
  fewer_by told false in_pass = omega arith

  pub coded_told : (told : List Told) (c : CallOf) (coding : Bool) → IsTold g tries job told c → IsDueInPass c → IsToldCoded told (ready coding c)
  coded_told told c coding is in_pass =
      let now = acts_stand.coded g tries job (telling c.number told c.takes) c coding (stands told c is) in_pass in
      record {
        later = (actor_coded g job coding c (telling c.number told c.takes)).told;
        is = record { shape = now.shape; tries_are = now.tries; job_is = now.job; state = now.state };
        fewer = fewer_by told (c.due && coding) (is_in_pass (act_of c));
      }

  -- an answer that fits its act leads on, and leaves fewer steps
  pub record IsToldMore (told : List Told) (state : CallState) : Type 0 where
    pub more : List Told
    pub is : state ≡ open_call g (state_of g job more)
    pub fewer : call_left g max tries job more < call_left g max tries job told

  module _ (told : List Told) (c : CallOf) (is : IsTold g tries job told c) where
    next : next_act g tries job told ≡ act_of c
    next = acts_now g tries job (telling c.number told c.takes) c (stands told c is)

    pub told_more : (act : Act) (answer : Told) (state : CallState) → act_of c ≡ act → Fits job.note.kind act answer → Answers (pin_bound g max job.note) (touched_count g job.note) act answer →
        state ≡ next_call c.book.geometry c.job c.state answer → IsToldMore told state
    told_more act answer state acts fits answers heard =
        let is_act : next_act g tries job told ≡ act = next ∙ acts in
        record {
          more = tell g job told answer;
          is =
              heard ∙ (λ i. next_call (is.shape i) (is.job_is i) (is.state i) answer)
              ∙ sym (states_resume g tries job told answer (subst (λ (a : Act). Fits job.note.kind a answer) (sym is_act) fits));
          fewer = (steps_fall g max tries job).falls told answer target (subst (λ (a : Act). Answers (pin_bound g max job.note) (touched_count g job.note) a answer) (sym is_act) answers);
        }

    -- its act is one of a call
    proper : (act : Act) → act_of c ≡ act → IsProper g job (HasTry job.note.kind tries told) act
    proper act acts = subst (IsProper g job (HasTry job.note.kind tries told)) (next ∙ acts) (acts_proper g tries job target told)

    -- a look is of its own note
    pub look_is : (note : Note) → act_of c ≡ Act.AtDirectory (DirectoryStep.Look note) → note ≡ job.note
    look_is note acts = (proper (Act.AtDirectory (DirectoryStep.Look note)) acts).0

    -- at a server
    pub server_fits : (server : ℕ) (step : ServerStep) (short : Bool) (s : Server) → act_of c ≡ Act.AtServer server step →
        Fits job.note.kind (Act.AtServer server step) (at_server short step s).1 × Answers (pin_bound g max job.note) (touched_count g job.note) (Act.AtServer server step) (at_server short step s).1
    server_fits server step short s acts = (
      leading_fits job.note.kind (Act.AtServer server step) (at_server short step s).1 (server_leads short step s),
      places_answer.server short step s (proper (Act.AtServer server step) acts).1,
    )

    -- the pass that an actor holds is there where its step wants it
    pass_there : (d : Directory) (token : ActorToken) (number : ℕ) (step : DirectoryStep) (note : Note) → Agrees d token → MayMake d token number step → IfInCall token (λ h. (h.pass.note ≡ note) × (h.pass.number ≡ number))
        → held (actor_of token) d ≡ note_if (has_pass (directory_phase step)) note
    pass_there d (ActorToken.Seated seat) number (DirectoryStep.Look n) note agrees may its = ap (option_map (λ pass. pass.note)) agrees.no_pass
    pass_there d (ActorToken.Seated seat) number (DirectoryStep.LookRepair n) note agrees may its = ap (option_map (λ pass. pass.note)) agrees.no_pass
    pass_there d (ActorToken.Seated seat) number step note agrees may its = absurd may
    pass_there d (ActorToken.InCall h) number DirectoryStep.Draw note agrees may its = ap (option_map (λ pass. pass.note)) agrees.is_pass ∙ ap Some its.0
    pass_there d (ActorToken.InCall h) number (DirectoryStep.Commit placed) note agrees may its = ap (option_map (λ pass. pass.note)) agrees.is_pass ∙ ap Some its.0
    pass_there d (ActorToken.InCall h) number DirectoryStep.End note agrees may its = ap (option_map (λ pass. pass.note)) agrees.is_pass ∙ ap Some its.0
    pass_there d (ActorToken.InCall h) number DirectoryStep.Confirm note agrees may its = ap (option_map (λ pass. pass.note)) agrees.is_pass ∙ ap Some its.0
    pass_there d (ActorToken.InCall h) number (DirectoryStep.Repaired server epoch) note agrees may its = ap (option_map (λ pass. pass.note)) agrees.is_pass ∙ ap Some its.0
    pass_there d (ActorToken.InCall h) number step note agrees may its = absurd may.1

    -- at the directory
    pub directory_answers : (step : DirectoryStep) (short : Bool) (d : Directory) → act_of c ≡ Act.AtDirectory step → 0 < stripe_length d.shape → IsSound d → d.shape ≡ c.book.geometry → d.max ≡ max
        → Agrees d c.token → HoldsItsPass c → MayMakeNext c →
        Fits job.note.kind (Act.AtDirectory step) (at_directory short (actor_of c.token) c.number step d).1
        × Answers (pin_bound g max job.note) (touched_count g job.note) (Act.AtDirectory step) (at_directory short (actor_of c.token) c.number step d).1
    directory_answers step short d acts wide sound shape most agrees holds may =
        let who : Actor = actor_of c.token in
        let of_shape : d.shape ≡ g = shape ∙ is.shape in
        let places : Places = record { directory = d; servers = replicate (chunk_count g) new_server } in
        let fit : FitPlaces g max places = record { shape = of_shape; max = most; servers = length-replicate (chunk_count g) new_server; short = sound_short d sound } in
        let there : held who d ≡ note_if (has_pass (directory_phase step)) job.note =
        pass_there d c.token c.number step c.job.note agrees (may step d acts shape) holds.its ∙ ap (λ (j : Job). note_if (has_pass (directory_phase step)) j.note) is.job_is in
        let answered = act_answered g max (subst (λ (s : Shape). 0 < stripe_length s) of_shape wide) job (HasTry job.note.kind tries told) short who c.number places fit (Act.AtDirectory step) (proper (Act.AtDirectory step) acts) tt there in
        let its = subst (λ (j : Job). IfSome (pass_of who d) (λ p. p.note.kind ≡ j.note.kind)) is.job_is (passes_are_of_calls d c agrees holds) in
        (directory_fits g tries job told short who c.number step d (next ∙ acts) its, answered.answers)

-- each step of a call has an answer
some_there : (job : Job) (room : Type 0) (pins touched : ℕ) (step : DirectoryStep) → ProperStep job room step → (answer : Told) × Answers pins touched (Act.AtDirectory step) answer
some_there job room pins touched (DirectoryStep.Look note) its = (Told.Short, tt)
some_there job room pins touched (DirectoryStep.LookRepair note) its = (Told.Short, tt)
some_there job room pins touched DirectoryStep.Draw its = (Told.Short, tt)
some_there job room pins touched (DirectoryStep.Commit placed) its = (Told.Reaped 0, tt)
some_there job room pins touched DirectoryStep.End its = (Told.Ended, tt)
some_there job room pins touched DirectoryStep.Confirm its = (Told.Current, tt)
some_there job room pins touched (DirectoryStep.Repaired server epoch) its = (Told.Ended, tt)
some_there job room pins touched DirectoryStep.NextGarbage its = absurd its
some_there job room pins touched (DirectoryStep.Swept version) its = absurd its
some_there job room pins touched (DirectoryStep.Reap actor) its = absurd its

some_here : (pins touched server : ℕ) (step : ServerStep) → IsTrue (is_of_call step) → (answer : Told) × Answers pins touched (Act.AtServer server step) answer
some_here pins touched server (ServerStep.Prepare version) its = (Told.Short, tt)
some_here pins touched server (ServerStep.Settle version) its = (Told.Settled, tt)
some_here pins touched server (ServerStep.Has version) its = (Told.Here, tt)
some_here pins touched server (ServerStep.Fetch version layers) its = (Told.Short, tt)
some_here pins touched server (ServerStep.Install version) its = (Told.Short, tt)
some_here pins touched server (ServerStep.Discard version) its = absurd (true≢false (sym its))
some_here pins touched server ServerStep.Wipe its = absurd (true≢false (sym its))
some_here pins touched server ServerStep.Down its = absurd (true≢false (sym its))
some_here pins touched server ServerStep.Up its = absurd (true≢false (sym its))

-- so a call that has no step left is over
module _ (g : Shape) (max tries : ℕ) (job : Job) (target : HasTarget g job) (told : List Told) (c : CallOf) (is : IsTold g tries job told c) (none : call_left g max tries job told ≤ 0) where
  falls_by : (act : Act) → act_of c ≡ act → (answer : Told) → Answers (pin_bound g max job.note) (touched_count g job.note) act answer → call_left g max tries job (tell g job told answer) < call_left g max tries job told
  falls_by act acts answer answers =
      (steps_fall g max tries job).falls told answer target
      (subst (λ (a : Act). Answers (pin_bound g max job.note) (touched_count g job.note) a answer) (sym (acts_now g tries job (telling c.number told c.takes) c (stands g max tries job target told c is) ∙ acts)) answers)

  over_by : (act : Act) → act_of c ≡ act → IsProper g job (HasTry job.note.kind tries told) act → (outcome : Outcome) × (act_of c ≡ Act.Finish outcome)
  over_by (Act.Finish outcome) acts its = (outcome, acts)
  over_by (Act.AtDirectory step) acts its =
      let some = some_there job (HasTry job.note.kind tries told) (pin_bound g max job.note) (touched_count g job.note) step its in
      let fewer : call_left g max tries job (tell g job told some.0) < call_left g max tries job told = falls_by (Act.AtDirectory step) acts some.0 some.1 in
      absurd (omega (arith, none, fewer))
  over_by (Act.AtServer server step) acts its =
      let some = some_here (pin_bound g max job.note) (touched_count g job.note) server step its.1 in
      let fewer : call_left g max tries job (tell g job told some.0) < call_left g max tries job told = falls_by (Act.AtServer server step) acts some.0 some.1 in
      absurd (omega (arith, none, fewer))

  pub is_over : (outcome : Outcome) × (act_of c ≡ Act.Finish outcome)
  is_over =
      over_by (act_of c) refl
      (subst (IsProper g job (HasTry job.note.kind tries told)) (acts_now g tries job (telling c.number told c.takes) c (stands g max tries job target told c is)) (acts_proper g tries job target told))
