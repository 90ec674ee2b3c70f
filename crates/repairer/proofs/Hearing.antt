-- What a rebuild is told by its steps, by its stage.
use Rattle.std.proofs.Common.{◌≡◌, Bool, Option, Some, Result, is_err, unwrap_or, refl, sym, ap, subst, ◌∙◌}
use Rattle.std.specs.Prelude.{⊤}
use Rattle.std.specs.declared.alloc.AllocError.{AllocError}
use Rattle.store_core.specs.Note.{note_of_rebuild}
use Rattle.store_core.specs.Told.{Told}
use Rattle.store_core.specs.Act.{Act, DirectoryStep, ServerStep}
use Rattle.store_core.specs.Directory.{Directory}
use Rattle.store_core.specs.AtDirectory.{at_directory}
use Rattle.store_core.specs.Server.{Server, at_server}
use Rattle.store_core.specs.Tokens.{actor_of}
use Rattle.version_seal.specs.Sealed.{ChunkOf}
use Rattle.chunk_server.specs.declared.server_answers.Installed.{Installed}
use Rattle.chunk_server.specs.Core.{told_installed}
use Rattle.stripe_dir.specs.declared.directory_answers.RepairLook.{RepairLook}
use Rattle.stripe_dir.specs.Answers.{told_by_repair_look}
use Rattle.call_steps.specs.declared.answer.DirectoryAnswer.{DirectoryAnswer}
use Rattle.call_steps.specs.declared.seen.Seen.{Seen}
use Rattle.call_steps.specs.CallOf.{CallOf, act_of}
use Rattle.call_steps.specs.Answers.{directory_answer}
use Rattle.call_steps.specs.Hearing.{told_there, told_here}
use Rattle.call_steps.proofs.Telling.{there, by_act_there, by_act_here}
use Rattle.repairer.specs.declared.stage.RepairStage.{RepairStage}
use Rattle.repairer.specs.declared.stage.RepairStage.TheVariants as stage
use Rattle.repairer.specs.declared.repair_call.RepairCall.TheInside.{Inside}
use Rattle.repairer.specs.Standing.{seen_at, stage_of}
use Rattle.repairer.specs.Inside.{call_by, call_in}
use Rattle.repairer.specs.Moments.{IsMade}
use Rattle.repairer.specs.Kept.{IsRepair}
use Rattle.repairer.proofs.Stages.{is_at, keeps, seen_by}

module _ (a : Inside) (c : CallOf) (is : IsRepair a) (view : call_in a ≡ c) where
  -- at the directory
  pub hears : (at : RepairStage) → stage_of c.state.at ≡ at → (d after : Directory) (short : Bool) (step : DirectoryStep) (told : Told) (answer : DirectoryAnswer)
      → act_of (call_by at a) ≡ Act.AtDirectory step → (after, told) ≡ at_directory short (actor_of a.ticket) a.number step d
      → directory_answer told ≡ Some answer → directory_answer (told_there short c d) ≡ Some answer
  hears at e d after short step told answer act made tells =
      there (call_by at a) c d short told answer (seen_by a c at view (is_at a c at is view e))
      (by_act_there (call_by at a) d after short step told act made) tells

  -- by its look
  pub look_tells : stage_of c.state.at ≡ stage.Start → (d after : Directory) (result known : Result (RepairLook ⊤ ⊤) AllocError) (answer : DirectoryAnswer)
      → (after, told_by_repair_look result) ≡ at_directory (is_err result) (actor_of a.ticket) a.number (DirectoryStep.LookRepair (note_of_rebuild a.rebuild.now)) d
      → result ≡ known → directory_answer (told_by_repair_look known) ≡ Some answer → directory_answer (told_there (is_err known) c d) ≡ Some answer
  look_tells e d after result known answer made is_known tells =
      hears stage.Start e d after (is_err known) (DirectoryStep.LookRepair (note_of_rebuild a.rebuild.now)) (told_by_repair_look known) answer refl
      (subst (λ (r : Result (RepairLook ⊤ ⊤) AllocError). (after, told_by_repair_look r)
      ≡ at_directory (is_err r) (actor_of a.ticket) a.number (DirectoryStep.LookRepair (note_of_rebuild a.rebuild.now)) d) is_known made) tells

  -- the version of its chunk is the one that was seen
  pub its_version : stage_of c.state.at ≡ stage.Installing → (chunk : ChunkOf) → Some chunk ≡ a.chunk → chunk.stamp.version ≡ (seen_at a.looked.value).version
  its_version e chunk has =
      let made : IsMade a.opening a.rebuild.now.server a.looked.value a.chunk = (keeps a stage.Installing is (is_at a c stage.Installing is view e)).2 in
      ap (λ (o : Option ChunkOf). (unwrap_or o made.chunk).stamp.version) (has ∙ made.is_chunk)
      ∙ ap (λ stamp. stamp.version) made.its.stamp
      ∙ ap (λ (o : Option Seen). (seen_at o).version) (sym made.is_seen)

  -- at the server to which its chunk goes
  pub hears_install : stage_of c.state.at ≡ stage.Installing → (chunk : ChunkOf) → Some chunk ≡ a.chunk → (s after : Server) (result : Result Installed AllocError)
      → (after, told_installed result) ≡ at_server (is_err result) (ServerStep.Install chunk.stamp.version) s → told_installed result ≡ told_here (is_err result) c s
  hears_install e chunk has s after result made =
      by_act_here (call_by stage.Installing a) s after (is_err result) a.rebuild.now.server (ServerStep.Install (seen_at a.looked.value).version) (told_installed result) refl
      (made ∙ ap (λ version. at_server (is_err result) (ServerStep.Install version) s) (its_version e chunk has))
      ∙ ap (λ (call : CallOf). told_here (is_err result) call s) (seen_by a c stage.Installing view (is_at a c stage.Installing is view e))

  -- where it is known what that was
  pub installed_tells : stage_of c.state.at ≡ stage.Installing → (chunk : ChunkOf) → Some chunk ≡ a.chunk → (s after : Server) (result known : Result Installed AllocError)
      → (after, told_installed result) ≡ at_server (is_err result) (ServerStep.Install chunk.stamp.version) s → result ≡ known → told_installed known ≡ told_here (is_err known) c s
  installed_tells e chunk has s after result known made is_known =
      sym (ap told_installed is_known) ∙ hears_install e chunk has s after result made ∙ ap (λ (r : Result Installed AllocError). told_here (is_err r) c s) is_known
