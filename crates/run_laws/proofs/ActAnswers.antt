-- A call's act is answered within its counts, by an answer that fits, where the directory has the call's pass exactly when the act wants it.
use Rattle.std.proofs.Common.{◌≡◌, ℕ, zero, suc, ◌<◌, Bool, true, false, List, [], ◌∷◌, length, Option, None, Some, option_map, IsTrue, refl, sym, subst, arith}
use Rattle.std.proofs.lemmas.Option.{same_Some, none-some}
use Rattle.std.specs.List.{slice_get}
use Rattle.clay_grid.specs.Shape.{Shape, chunk_count, stripe_length}
use Rattle.store_map.specs.declared.actor.Actor.{Actor}
use Rattle.store_map.specs.declared.reply.Reply.{Reply}
use Rattle.store_core.specs.Told.{Told}
use Rattle.store_core.specs.Note.{Note, Kind, refusal}
use Rattle.store_core.specs.Act.{Act, DirectoryStep, ServerStep}
use Rattle.run_laws.specs.Answers.{DirectoryAnswers, ServerAnswers, Answers}
use Rattle.store_core.specs.Bounds.{touched_count}
use Rattle.run_laws.specs.CallLeft.{pin_bound}
use Rattle.store_core.specs.NextAct.{Job}
use Rattle.store_core.specs.Directory.{Object, Pass, Directory}
use Rattle.store_core.specs.Lookups.{find_object, pass_of}
use Rattle.store_core.specs.Looks.{accept, look_by}
use Rattle.store_core.specs.AtDirectory.{at_directory}
use Rattle.store_core.specs.Server.{Server}
use Rattle.store_core.specs.Step.{Places, at_places, at_server_there}
use Rattle.run_laws.specs.AnswerLaws.{is_on_pass, is_of_call, AreWithinMax}
use Rattle.run_laws.proofs.PlaceAnswers.{places_answer}
use Rattle.run_laws.proofs.Phases.{phase_of, directory_phase, has_pass, LookFits}
use Rattle.run_laws.proofs.CallMoves.{FitsAny}
use Rattle.run_laws.proofs.Proper.{IsProper, ProperStep}
use Rattle.run_laws.proofs.Passes.{held}

-- what a look tells a call of some kind
abbrev LookGives : Kind → Told → Type 0
LookGives kind Told.Short = Unit {0}
LookGives kind answer = LookFits kind answer

accept_gives : (who : Actor) (number : ℕ) (note : Note) (d : Directory) (kind : Kind) (object : Object) → LookGives kind (accept who number note d kind object).1
accept_gives who number note d Kind.Put object = tt
accept_gives who number note d Kind.Write object = tt
accept_gives who number note d Kind.Get object = tt
accept_gives who number note d Kind.ReadAt object = tt
accept_gives who number note d Kind.Stat object = tt
accept_gives who number note d Kind.Delete object = tt
accept_gives who number note d Kind.Rebuild object = tt

answer_fits : (kind : Kind) (point : ℕ) (reply : Reply) → LookGives kind (Told.Answer point reply)
answer_fits Kind.Put point reply = tt
answer_fits Kind.Write point reply = tt
answer_fits Kind.Get point reply = tt
answer_fits Kind.ReadAt point reply = tt
answer_fits Kind.Stat point reply = tt
answer_fits Kind.Delete point reply = tt
answer_fits Kind.Rebuild point reply = tt

look_by_gives : (who : Actor) (number : ℕ) (note : Note) (d : Directory) (found : Option Object) (refused : Option Reply) → LookGives note.kind (look_by who number note d found refused).1
look_by_gives who number note d found (Some reply) = answer_fits note.kind (length d.points) reply
look_by_gives who number note d found None = accept_gives who number note d note.kind _

-- a look tells what its kind of call can take
look_gives : (short : Bool) (who : Actor) (number : ℕ) (note : Note) (d : Directory) → LookGives note.kind (at_directory short who number (DirectoryStep.Look note) d).1
look_gives true who number note d = tt
look_gives false who number note d = look_by_gives who number note d (find_object note.name d.objects) (refusal d.max note (option_map (λ object. object.length) (find_object note.name d.objects)))

abbrev Said : Kind → DirectoryStep → Told → Type 0
Said kind (DirectoryStep.Look note) answer = LookGives kind answer
Said kind step answer = Unit {0}

-- ---- an answer of its own kind fits
-- of a step at the directory
step_fits : (kind : Kind) (pins touched : ℕ) (step : DirectoryStep) (answer : Told) → DirectoryAnswers pins touched step answer → Said kind step answer → FitsAny kind (Act.AtDirectory step) answer
step_fits kind pins touched (DirectoryStep.Look note) Told.Short h said = tt
step_fits kind pins touched (DirectoryStep.Look note) (Told.Done point) h said = absurd h
step_fits kind pins touched (DirectoryStep.Look note) (Told.Changed base newer) h said = absurd h
step_fits kind pins touched (DirectoryStep.Look note) answer h said = said
step_fits kind pins touched (DirectoryStep.LookRepair note) Told.NoSuch h said = tt
step_fits kind pins touched (DirectoryStep.LookRepair note) (Told.PinnedStripe seen) h said = tt
step_fits kind pins touched (DirectoryStep.LookRepair note) Told.Short h said = tt
step_fits kind pins touched (DirectoryStep.LookRepair note) answer h said = absurd h
step_fits kind pins touched DirectoryStep.Draw (Told.Versions versions) h said = tt
step_fits kind pins touched DirectoryStep.Draw (Told.Reaped point) h said = tt
step_fits kind pins touched DirectoryStep.Draw Told.Short h said = tt
step_fits kind pins touched DirectoryStep.Draw answer h said = absurd h
step_fits kind pins touched (DirectoryStep.Commit placed) (Told.Done point) h said = tt
step_fits kind pins touched (DirectoryStep.Commit placed) (Told.Changed base newer) h said = tt
step_fits kind pins touched (DirectoryStep.Commit placed) (Told.Reaped point) h said = tt
step_fits kind pins touched (DirectoryStep.Commit placed) answer h said = absurd h
step_fits kind pins touched DirectoryStep.End Told.Ended h said = tt
step_fits kind pins touched DirectoryStep.End (Told.Reaped point) h said = tt
step_fits kind pins touched DirectoryStep.End answer h said = absurd h
step_fits kind pins touched DirectoryStep.Confirm Told.Current h said = tt
step_fits kind pins touched DirectoryStep.Confirm (Told.Superseded newer) h said = tt
step_fits kind pins touched DirectoryStep.Confirm (Told.Reaped point) h said = tt
step_fits kind pins touched DirectoryStep.Confirm answer h said = absurd h
step_fits kind pins touched (DirectoryStep.Repaired server epoch) Told.Ended h said = tt
step_fits kind pins touched (DirectoryStep.Repaired server epoch) (Told.Reaped point) h said = tt
step_fits kind pins touched (DirectoryStep.Repaired server epoch) answer h said = absurd h
step_fits kind pins touched step answer h said = absurd h

-- of a step at a server
server_fits : (kind : Kind) (server : ℕ) (step : ServerStep) (answer : Told) → ServerAnswers step answer → FitsAny kind (Act.AtServer server step) answer
server_fits kind server (ServerStep.Prepare version) (Told.Prepared last) h = tt
server_fits kind server (ServerStep.Prepare version) Told.Short h = tt
server_fits kind server (ServerStep.Prepare version) answer h = absurd h
server_fits kind server (ServerStep.Settle version) Told.Settled h = tt
server_fits kind server (ServerStep.Settle version) answer h = absurd h
server_fits kind server (ServerStep.Has version) Told.Here h = tt
server_fits kind server (ServerStep.Has version) (Told.Missing epoch) h = tt
server_fits kind server (ServerStep.Has version) answer h = absurd h
server_fits kind server (ServerStep.Fetch version layers) (Told.Given count) h = tt
server_fits kind server (ServerStep.Fetch version layers) (Told.Missing epoch) h = tt
server_fits kind server (ServerStep.Fetch version layers) Told.Short h = tt
server_fits kind server (ServerStep.Fetch version layers) answer h = absurd h
server_fits kind server (ServerStep.Install version) (Told.Placed epoch) h = tt
server_fits kind server (ServerStep.Install version) Told.AlreadyThere h = tt
server_fits kind server (ServerStep.Install version) (Told.Away downs) h = tt
server_fits kind server (ServerStep.Install version) Told.Short h = tt
server_fits kind server (ServerStep.Install version) answer h = absurd h
server_fits kind server step answer h = absurd h

-- ---- where each step finds what it wants
-- the note of a pass that is there
abbrev pub note_if : Bool → Note → Option Note
note_if true note = Some note
note_if false note = None

record HasPass (found : Option Pass) (note : Note) : Type 0 where
  pass : Pass
  is_found : found ≡ Some pass
  is_of : pass.note ≡ note

-- a note that is held is a pass's
held_pass : (found : Option Pass) (note : Note) → option_map (λ pass. pass.note) found ≡ Some note → HasPass found note
held_pass None note e = absurd (none-some note e)
held_pass (Some pass) note e = record { pass = pass; is_found = refl; is_of = same_Some pass.note note e }

repair_any : (pins touched : ℕ) (note : Note) (answer : Told) → DirectoryAnswers 1 0 (DirectoryStep.LookRepair note) answer → DirectoryAnswers pins touched (DirectoryStep.LookRepair note) answer
repair_any pins touched note Told.NoSuch h = tt
repair_any pins touched note (Told.PinnedStripe seen) h = tt
repair_any pins touched note Told.Short h = tt
repair_any pins touched note answer h = absurd h

-- places of a shape and a greatest length, whose objects are short
pub record FitPlaces (g : Shape) (most : ℕ) (places : Places) : Type 0 where
  pub shape : places.directory.shape ≡ g
  pub max : places.directory.max ≡ most
  pub servers : length places.servers ≡ chunk_count g
  pub short : AreWithinMax places.directory

abbrev pub IsGoing : Act → Type 0
IsGoing (Act.Finish outcome) = ⊥
IsGoing _ = Unit {0}

pub record Answered (g : Shape) (max : ℕ) (job : Job) (act : Act) (answer : Told) : Type 0 where
  pub answers : Answers (pin_bound g max job.note) (touched_count g job.note) act answer
  pub fits : FitsAny job.note.kind act answer

module _ (g : Shape) (most : ℕ) (some : 0 < stripe_length g) (job : Job) (room : Type 0) (short : Bool) (who : Actor) (number : ℕ) (places : Places) (fit : FitPlaces g most places) where
  abbrev DirectoryAnswered : DirectoryStep → Type 0
  DirectoryAnswered step = DirectoryAnswers (pin_bound g most job.note) (touched_count g job.note) step (at_directory short who number step places.directory).1

  look_answered : (note : Note) → note ≡ job.note → DirectoryAnswered (DirectoryStep.Look note)
  look_answered note mine =
      let answer : Told = (at_directory short who number (DirectoryStep.Look note) places.directory).1 in
      let at : DirectoryAnswers (pin_bound places.directory.shape places.directory.max note) (touched_count places.directory.shape note) (DirectoryStep.Look note) answer =
      places_answer.look short who number note places.directory (subst (λ s. 0 < stripe_length s) (sym fit.shape) some) fit.short in
      let shaped : DirectoryAnswers (pin_bound g places.directory.max note) (touched_count g note) (DirectoryStep.Look note) answer =
      subst (λ (s : Shape). DirectoryAnswers (pin_bound s places.directory.max note) (touched_count s note) (DirectoryStep.Look note) answer) fit.shape at in
      let sized : DirectoryAnswers (pin_bound g most note) (touched_count g note) (DirectoryStep.Look note) answer =
      subst (λ (m : ℕ). DirectoryAnswers (pin_bound g m note) (touched_count g note) (DirectoryStep.Look note) answer) fit.max shaped in
      subst (λ (n : Note). DirectoryAnswers (pin_bound g most n) (touched_count g n) (DirectoryStep.Look note) answer) mine sized

  pass_answered : (step : DirectoryStep) → IsTrue (is_on_pass step) → held who places.directory ≡ Some job.note → DirectoryAnswered step
  pass_answered step on has =
      let found : HasPass (pass_of who places.directory) job.note = held_pass (pass_of who places.directory) job.note has in
      let answer : Told = (at_directory short who number step places.directory).1 in
      let at : DirectoryAnswers (pin_bound g most job.note) (touched_count places.directory.shape found.pass.note) step answer =
      places_answer.on_pass short who number step places.directory found.pass (pin_bound g most job.note) found.is_found on in
      let shaped : DirectoryAnswers (pin_bound g most job.note) (touched_count g found.pass.note) step answer =
      subst (λ (s : Shape). DirectoryAnswers (pin_bound g most job.note) (touched_count s found.pass.note) step answer) fit.shape at in
      subst (λ (n : Note). DirectoryAnswers (pin_bound g most job.note) (touched_count g n) step answer) found.is_of shaped

  step_answered : (step : DirectoryStep) → ProperStep job room step → held who places.directory ≡ note_if (has_pass (directory_phase step)) job.note → DirectoryAnswered step
  step_answered (DirectoryStep.Look note) proper has = look_answered note proper.0
  step_answered (DirectoryStep.LookRepair note) proper has =
      repair_any (pin_bound g most job.note) (touched_count g job.note) note (at_directory short who number (DirectoryStep.LookRepair note) places.directory).1
      (places_answer.look_repair short who number note places.directory)
  step_answered DirectoryStep.Draw proper has = pass_answered DirectoryStep.Draw refl has
  step_answered (DirectoryStep.Commit placed) proper has = pass_answered (DirectoryStep.Commit placed) refl has
  step_answered DirectoryStep.End proper has = pass_answered DirectoryStep.End refl has
  step_answered DirectoryStep.Confirm proper has = pass_answered DirectoryStep.Confirm refl has
  step_answered (DirectoryStep.Repaired server epoch) proper has = pass_answered (DirectoryStep.Repaired server epoch) refl has
  step_answered step proper has = absurd proper

  step_said : (step : DirectoryStep) → ProperStep job room step → Said job.note.kind step (at_directory short who number step places.directory).1
  step_said (DirectoryStep.Look note) proper =
      subst (λ (n : Note). LookGives n.kind (at_directory short who number (DirectoryStep.Look note) places.directory).1) proper.0 (look_gives short who number note places.directory)
  step_said step proper = tt

  within : {X : Type 0} (xs : List X) (i : ℕ) → i < length xs → (x : X) × (slice_get xs i ≡ Some x)
  within [] i h = absurd (omega (arith, h))
  within (x ∷ xs) zero h = (x, refl)
  within (x ∷ xs) (suc i) h = within xs i (omega (arith, h))

  server_there : (server : ℕ) (step : ServerStep) → server < chunk_count g → IsTrue (is_of_call step)
      → ServerAnswers step (at_server_there short server step places (slice_get places.servers server)).1
  server_there server step below of_call =
      let there : (s : Server) × (slice_get places.servers server ≡ Some s) = within places.servers server (subst (λ n. server < n) (sym fit.servers) below) in
      subst (λ (found : Option Server). ServerAnswers step (at_server_there short server step places found).1) (sym there.1) (places_answer.server short step there.0 of_call)

  -- an act of a call is answered as it wants
  pub act_answered : (act : Act) → IsProper g job room act → IsGoing act → held who places.directory ≡ note_if (has_pass (phase_of act)) job.note
      → Answered g most job act (at_places short who number act places).1
  act_answered (Act.AtDirectory step) proper going has =
      let at : DirectoryAnswered step = step_answered step proper has in
      record {
        answers = at;
        fits = step_fits job.note.kind (pin_bound g most job.note) (touched_count g job.note) step (at_directory short who number step places.directory).1 at (step_said step proper);
      }
  act_answered (Act.AtServer server step) proper going has =
      let at : ServerAnswers step (at_server_there short server step places (slice_get places.servers server)).1 = server_there server step proper.0 proper.1 in
      record { answers = at; fits = server_fits job.note.kind server step (at_server_there short server step places (slice_get places.servers server)).1 at }
  act_answered (Act.Finish outcome) proper going has = absurd going
