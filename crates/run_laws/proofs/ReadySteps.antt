-- A step of an actor in its call may be made, keeps the directory sound, and leaves every actor ready.
use Rattle.std.proofs.Common.{◌≡◌, ℕ, ◌<◌, ◌≤◌, Bool, true, false, List, Option, None, Some, option_map, IfSome, All, IsTrue, refl, sym, ap, subst, ◌∙◌, arith}
use Rattle.std.proofs.lemmas.Bool.{and_parts}
use Rattle.std.proofs.lemmas.Option.{same_Some, none-some}
use Rattle.std.specs.List.{slice_get}
use mathlib.Core.Bool.{beq}
use Rattle.clay_grid.specs.Shape.{Shape, stripe_length}
use Rattle.store_map.specs.declared.actor.Actor.{Actor}
use Rattle.store_map.specs.declared.reply.Reply.{Reply}
use Rattle.store_core.specs.Note.{Note}
use Rattle.store_core.specs.Told.{Told}
use Rattle.store_core.specs.Act.{Act, DirectoryStep, ServerStep, Outcome}
use Rattle.run_laws.specs.Answers.{ServerAnswers, Answers}
use Rattle.store_core.specs.Bounds.{touched_count}
use Rattle.run_laws.specs.CallLeft.{pin_bound}
use Rattle.store_core.specs.Directory.{Pass, Directory}
use Rattle.store_core.specs.Lookups.{same_actor, pass_of}
use Rattle.store_core.specs.NextAct.{Job, next_act}
use Rattle.store_core.specs.PassSteps.{touched}
use Rattle.store_core.specs.Server.{Server}
use Rattle.store_core.specs.Sound.{IsSound}
use Rattle.store_core.specs.Step.{Places, at_server_there, at_places}
use Rattle.run_laws.specs.StepLaws.{HasTarget}
use Rattle.store_core.specs.Tell.{tell}
use Rattle.run_laws.proofs.ActAnswers.{note_if, FitPlaces, IsGoing, Answered, act_answered}
use Rattle.run_laws.proofs.ActorSteps.{Stands, same_bools, pass_rank}
use Rattle.run_laws.proofs.CallActs.{ActOfKind, acts_of_kind}
use Rattle.run_laws.proofs.CallMoves.{call_moves}
use Rattle.run_laws.proofs.Ends.{answers_end_calls}
use Rattle.run_laws.proofs.MaySteps.{FitsActor, HasPass, reaped_only, may_step, touches, its_pass}
use Rattle.run_laws.proofs.Phases.{phase_of, has_pass, pass_after, rank, rank_moves, moves}
use Rattle.run_laws.proofs.PlaceMoves.{call_step}
use Rattle.run_laws.proofs.Proper.{IsWriting, IsProper, HasTry, acts_proper}
use Rattle.run_laws.proofs.Readies.{drawn_count, OnlyReaped, PassReady, Ready, Begins, HasPoint, IsChange, Fitting, ready_own}
use Rattle.run_laws.proofs.OwnPasses.{StepMoves, step_moves}
use Rattle.run_laws.proofs.SoundSteps.{steps_keep_sound}
use Rattle.run_laws.proofs.ToldVersions.{versions_told, versions_move}

-- ---- what an answer says of its act
-- a pass begins at a look
begins_looking : (pins touched : ℕ) (act : Act) (answer : Told) → Answers pins touched act answer → Begins answer → 3 ≤ rank (phase_of act)
begins_looking pins touched (Act.AtDirectory (DirectoryStep.Look note)) answer h begins = omega arith
begins_looking pins touched (Act.AtDirectory (DirectoryStep.LookRepair note)) answer h begins = omega arith
begins_looking pins touched (Act.AtDirectory step) (Told.Pinned point length_now stripes) h begins = absurd h
begins_looking pins touched (Act.AtDirectory step) (Told.Ready base length_now stripes) h begins = absurd h
begins_looking pins touched (Act.AtDirectory step) (Told.PinnedStripe seen) h begins = absurd h
begins_looking pins touched (Act.AtServer server (ServerStep.Prepare version)) (Told.Pinned point length_now stripes) h begins = absurd h
begins_looking pins touched (Act.AtServer server (ServerStep.Prepare version)) (Told.Ready base length_now stripes) h begins = absurd h
begins_looking pins touched (Act.AtServer server (ServerStep.Prepare version)) (Told.PinnedStripe seen) h begins = absurd h
begins_looking pins touched (Act.AtServer server step) (Told.Pinned point length_now stripes) h begins = absurd h
begins_looking pins touched (Act.AtServer server step) (Told.Ready base length_now stripes) h begins = absurd h
begins_looking pins touched (Act.AtServer server step) (Told.PinnedStripe seen) h begins = absurd h
begins_looking pins touched (Act.Finish outcome) answer h begins = absurd h
begins_looking pins touched act answer h begins = absurd begins

-- a server's answer leaves the directory as it is
quiet : (who : Actor) (number : ℕ) (d : Directory) (step : ServerStep) (answer : Told) → ServerAnswers step answer → StepMoves who number d d answer
quiet who number d (ServerStep.Prepare version) (Told.Prepared last) h = record { own = refl; others = λ other apart. refl; points = refl }
quiet who number d (ServerStep.Prepare version) Told.Short h = record { own = refl; others = λ other apart. refl; points = refl }
quiet who number d (ServerStep.Prepare version) answer h = absurd h
quiet who number d (ServerStep.Settle version) Told.Settled h = record { own = refl; others = λ other apart. refl; points = refl }
quiet who number d (ServerStep.Settle version) answer h = absurd h
quiet who number d (ServerStep.Has version) Told.Here h = record { own = refl; others = λ other apart. refl; points = refl }
quiet who number d (ServerStep.Has version) (Told.Missing epoch) h = record { own = refl; others = λ other apart. refl; points = refl }
quiet who number d (ServerStep.Has version) answer h = absurd h
quiet who number d (ServerStep.Fetch version layers) (Told.Given count) h = record { own = refl; others = λ other apart. refl; points = refl }
quiet who number d (ServerStep.Fetch version layers) (Told.Missing epoch) h = record { own = refl; others = λ other apart. refl; points = refl }
quiet who number d (ServerStep.Fetch version layers) Told.Short h = record { own = refl; others = λ other apart. refl; points = refl }
quiet who number d (ServerStep.Fetch version layers) answer h = absurd h
quiet who number d (ServerStep.Install version) (Told.Placed epoch) h = record { own = refl; others = λ other apart. refl; points = refl }
quiet who number d (ServerStep.Install version) Told.AlreadyThere h = record { own = refl; others = λ other apart. refl; points = refl }
quiet who number d (ServerStep.Install version) (Told.Away downs) h = record { own = refl; others = λ other apart. refl; points = refl }
quiet who number d (ServerStep.Install version) Told.Short h = record { own = refl; others = λ other apart. refl; points = refl }
quiet who number d (ServerStep.Install version) answer h = absurd h
quiet who number d step answer h = absurd h

-- a reply ends the call
reply_ends : (g : Shape) (tries : ℕ) (job : Job) (told : List Told) (pins touched : ℕ) (act : Act) (point : ℕ) (given : Reply) → next_act g tries job told ≡ act → Answers pins touched act (Told.Answer point given)
    → rank (phase_of (next_act g tries job (tell g job told (Told.Answer point given)))) < 3
reply_ends g tries job told pins touched (Act.AtDirectory (DirectoryStep.Look note)) point given e h =
    let ends : next_act g tries job (tell g job told (Told.Answer point given)) ≡ Act.Finish (Outcome.Answered point given) = (answers_end_calls g tries job).answered told note point given e in
    subst (λ a. rank (phase_of a) < 3) (sym ends) (omega arith)
reply_ends g tries job told pins touched (Act.AtDirectory step) point given e h = absurd h
reply_ends g tries job told pins touched (Act.AtServer server (ServerStep.Prepare version)) point given e h = absurd h
reply_ends g tries job told pins touched (Act.AtServer server step) point given e h = absurd h
reply_ends g tries job told pins touched (Act.Finish outcome) point given e h = absurd h

-- the step that was made kept the directory sound, and moved the pass and the points as its answer says
record Made (who : Actor) (number : ℕ) (before : Directory) (after : Places × Told) : Type 0 where
  sound : IsSound after.0.directory
  moves : StepMoves who number before after.0.directory after.1

module _ (g : Shape) (most tries : ℕ) (some : 0 < stripe_length g) (job : Job) (target : HasTarget g job) (short : Bool) (who : Actor) (self : same_actor who who ≡ true) (fits : FitsActor who job.note) (number : ℕ)
    (told : List Told) (places : Places) (fit : FitPlaces g most places) (stands : Stands g tries job who told places.directory) (sound : IsSound places.directory)
    (ready : Ready (drawn_count g job.note) who number (rank (phase_of (next_act g tries job told))) (versions_told told) places.directory) where
  -- what the call does next
  abbrev act : Act
  act = next_act g tries job told

  -- what comes of it
  abbrev after_act : Places × Told
  after_act = at_places short who number act places

  -- the answer
  abbrev answer : Told
  answer = after_act.1

  -- what the call was told then
  abbrev now : List Told
  now = tell g job told answer

  -- the answers of an act
  abbrev AnswersAt : Act → Told → Type 0
  AnswersAt a given = Answers (pin_bound g most job.note) (touched_count g job.note) a given

  -- the actor's pass is of this call
  its_number : (found : Option Pass) → pass_of who places.directory ≡ found → (pass : Pass) → found ≡ Some pass → pass.number ≡ number
  its_number found e pass is =
      let right : PassReady (drawn_count g job.note) number (rank (phase_of act)) (versions_told told) pass.number pass.drawn =
      subst (λ (o : Option Pass). IfSome o (λ p. PassReady (drawn_count g job.note) number (rank (phase_of act)) (versions_told told) p.number p.drawn)) (e ∙ is) ready.pass in
      right.of_call

  -- a step at a server
  server_made : (server : ℕ) (step : ServerStep) (found : Option Server) → ServerAnswers step (at_server_there short server step places found).1 → Made who number places.directory (at_server_there short server step places found)
  server_made server step None h = record { sound = sound; moves = quiet who number places.directory step (at_server_there short server step places None).1 h }
  server_made server step (Some s) h = record { sound = sound; moves = quiet who number places.directory step (at_server_there short server step places (Some s)).1 h }

  -- any step
  made : (a : Act) → act ≡ a → IsProper g job (HasTry job.note.kind tries told) a → ActOfKind g job.note.kind a → IsGoing a → AnswersAt a (at_places short who number a places).1
      → Made who number places.directory (at_places short who number a places)
  made (Act.AtDirectory step) e proper of_kind going h =
      record {
        sound =
            steps_keep_sound.step short who number step places.directory (subst (λ s. 0 < stripe_length s) (sym fit.shape) some) sound
            (may_step g tries job target who fits number told places.directory fit.shape stands ready step e proper of_kind);
        moves = step_moves short who number job.note step places.directory self (call_step job (HasTry job.note.kind tries told) step proper) (its_number (pass_of who places.directory) refl);
      }
  made (Act.AtServer server step) e proper of_kind going h = server_made server step (slice_get places.servers server) h
  made (Act.Finish outcome) e proper of_kind going h = absurd going

  -- a commit that is told of a change
  changed_by : (a : Act) → act ≡ a → ActOfKind g job.note.kind a → (base newer : ℕ) → AnswersAt a (Told.Changed base newer) → All (OnlyReaped who number) places.directory.points
  changed_by (Act.AtDirectory (DirectoryStep.Commit placed)) e of_kind base newer h =
      let has : HasPass who job.note places.directory =
      its_pass g tries job target who fits number told places.directory fit.shape stands (ap (λ a. has_pass (phase_of a)) e) in
      reaped_only places.directory sound who number has.pass has.found (its_number (pass_of who places.directory) refl has.pass has.found) (subst (λ (n : Note). IsWriting n.kind) (sym has.noted) of_kind.0)
  changed_by (Act.AtDirectory step) e of_kind base newer h = absurd h
  changed_by (Act.AtServer server (ServerStep.Prepare version)) e of_kind base newer h = absurd h
  changed_by (Act.AtServer server step) e of_kind base newer h = absurd h
  changed_by (Act.Finish outcome) e of_kind base newer h = absurd h

  -- so of any act
  changed_at : (given : Told) → AnswersAt act given → IsChange given → All (OnlyReaped who number) places.directory.points
  changed_at (Told.Changed base newer) h is = changed_by act refl (acts_of_kind g tries job target told) base newer h
  changed_at given h is = absurd is

  -- a look that has its point is no longer a look
  pointed : (given : Told) → AnswersAt act given → IsTrue (moves given (phase_of act) (phase_of (next_act g tries job (tell g job told given)))) → HasPoint given
      → rank (phase_of (next_act g tries job (tell g job told given))) < 3
  pointed (Told.Answer point reply) h moved is = reply_ends g tries job told (pin_bound g most job.note) (touched_count g job.note) act point reply refl h
  pointed (Told.Pinned point length_now stripes) h moved is =
      let after : Act = next_act g tries job (tell g job told (Told.Pinned point length_now stripes)) in
      let has : has_pass (phase_of after) ≡ true =
      same_bools (has_pass (phase_of after)) true (and_parts (beq (has_pass (phase_of after)) true) (rank_moves (Told.Pinned point length_now stripes) (rank (phase_of act)) (rank (phase_of after))) moved).0 in
      let low : rank (phase_of after) ≤ 2 = pass_rank (phase_of after) has in
      omega (arith, low)
  pointed given h moved is = absurd is

  -- so much a step brings
  pub record Brings : Type 0 where
    pub sound_now : IsSound after_act.0.directory
    pub ready_now : Ready (drawn_count g job.note) who number (rank (phase_of (next_act g tries job now))) (versions_told now) after_act.0.directory
    pub moved : StepMoves who number places.directory after_act.0.directory after_act.1

  -- each step brings it
  pub brings : Brings
  brings =
      let proper : IsProper g job (HasTry job.note.kind tries told) act = acts_proper g tries job target told in
      let answered : Answered g most job act answer = act_answered g most some job (HasTry job.note.kind tries told) short who number places fit act proper stands.going stands.pass in
      let after : Act = next_act g tries job now in
      let step_made : Made who number places.directory after_act = made act refl proper (acts_of_kind g tries job target told) stands.going answered.answers in
      let phases : IsTrue (moves answer (phase_of act) (phase_of after)) = call_moves g tries job target told answer answered.fits in
      let ranks : IsTrue (rank_moves answer (rank (phase_of act)) (rank (phase_of after))) =
      (and_parts (beq (has_pass (phase_of after)) (pass_after answer (has_pass (phase_of act)))) (rank_moves answer (rank (phase_of act)) (rank (phase_of after))) phases).1 in
      let fitting : Fitting (drawn_count g job.note) who number (rank (phase_of act)) (rank (phase_of after)) places.directory answer =
      record {
        ranks = ranks;
        begins = begins_looking (pin_bound g most job.note) (touched_count g job.note) act answer answered.answers;
        ends = pointed answer answered.answers phases;
        changed = changed_at answer answered.answers;
        count = λ pass found. touches g tries job target who fits number told places.directory fit.shape stands pass (noted pass found);
      } in
      record {
        sound_now = step_made.sound;
        ready_now =
            ready_own (drawn_count g job.note) who number (rank (phase_of act)) (rank (phase_of after)) (versions_told told) (versions_told now) places.directory after_act.0.directory ready answer
            step_made.moves fitting (versions_move g job told answer);
        moved = step_made.moves;
      }
    where
      noted : (pass : Pass) → pass_of who places.directory ≡ Some pass → pass.note ≡ job.note
      noted pass found = of_note (has_pass (phase_of act)) (sym (ap (option_map (λ (p : Pass). p.note)) found) ∙ stands.pass)
        where
          of_note : (b : Bool) → Some pass.note ≡ note_if b job.note → pass.note ≡ job.note
          of_note true e = same_Some pass.note job.note e
          of_note false e = absurd (none-some pass.note (sym e))
