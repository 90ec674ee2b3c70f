-- The answer to an act is of the call's kind.
use Rattle.std.proofs.Common.{◌≡◌, ℕ, Bool, true, Option, None, Some, IsTrue, refl, sym, subst, true≢false}
use Rattle.std.specs.List.{slice_get}
use Rattle.clay_grid.specs.Shape.{Shape}
use Rattle.store_map.specs.declared.actor.Actor.{Actor}
use Rattle.store_core.specs.Act.{Act, DirectoryStep, ServerStep}
use Rattle.store_core.specs.ActPlace.{is_in_pass}
use Rattle.store_core.specs.Lookups.{pass_of}
use Rattle.store_core.specs.NextAct.{Job}
use Rattle.store_core.specs.Server.{Server}
use Rattle.store_core.specs.Step.{Places, at_places, at_server_there}
use Rattle.run_laws.specs.AnswerLaws.{is_on_pass}
use Rattle.run_laws.specs.AnswersByKind.{FitsKind}
use Rattle.run_laws.specs.ToldInSteps.{HasStep}
use Rattle.run_laws.proofs.PlaceKinds.{places_answer_by_kind}
use Rattle.run_laws.proofs.Passes.{held}
use Rattle.run_laws.proofs.ActAnswers.{note_if}
use Rattle.run_laws.proofs.MaySteps.{HasPass, one_held}
use Rattle.run_laws.proofs.Phases.{phase_of, directory_phase, has_pass}
use Rattle.run_laws.proofs.Proper.{IsProper, ProperStep}

module _ (g : Shape) (job : Job) (room : Type 0) (short : Bool) (who : Actor) (number : ℕ) (places : Places) where
  on_pass_kind : (step : DirectoryStep) → IsTrue (is_on_pass step) → held who places.directory ≡ Some job.note → FitsKind job.note.kind (at_places short who number (Act.AtDirectory step) places).1
  on_pass_kind step on has =
      let own : HasPass who job.note places.directory = one_held who job.note places.directory (pass_of who places.directory) refl has in
      subst (λ note. FitsKind note.kind (at_places short who number (Act.AtDirectory step) places).1) own.noted
      (places_answer_by_kind.on_pass short who number step places.directory own.pass own.found on)

  step_kind : (step : DirectoryStep) → ProperStep job room step → held who places.directory ≡ note_if (has_pass (directory_phase step)) job.note
      → FitsKind job.note.kind (at_places short who number (Act.AtDirectory step) places).1
  step_kind (DirectoryStep.Look note) proper has =
      subst (λ n. FitsKind n.kind (at_places short who number (Act.AtDirectory (DirectoryStep.Look note)) places).1) proper.0 (places_answer_by_kind.look short who number note places.directory)
  step_kind (DirectoryStep.LookRepair note) proper has = places_answer_by_kind.look_repair short who number note places.directory job.note.kind
  step_kind DirectoryStep.Draw proper has = on_pass_kind DirectoryStep.Draw refl has
  step_kind (DirectoryStep.Commit placed) proper has = on_pass_kind (DirectoryStep.Commit placed) refl has
  step_kind DirectoryStep.End proper has = on_pass_kind DirectoryStep.End refl has
  step_kind DirectoryStep.Confirm proper has = on_pass_kind DirectoryStep.Confirm refl has
  step_kind (DirectoryStep.Repaired server epoch) proper has = on_pass_kind (DirectoryStep.Repaired server epoch) refl has
  step_kind step proper has = absurd proper

  server_kind : (server : ℕ) (step : ServerStep) (found : Option Server) → FitsKind job.note.kind (at_server_there short server step places found).1
  server_kind server step None = tt
  server_kind server step (Some s) = places_answer_by_kind.server short step s job.note.kind

  pub act_kind : (act : Act) → IsProper g job room act → held who places.directory ≡ note_if (has_pass (phase_of act)) job.note → FitsKind job.note.kind (at_places short who number act places).1
  act_kind (Act.AtDirectory step) proper has = step_kind step proper has
  act_kind (Act.AtServer server step) proper has = server_kind server step (slice_get places.servers server)
  act_kind (Act.Finish outcome) proper has = tt

-- an act in a pass is no outcome
pub in_pass_steps : (act : Act) → is_in_pass act ≡ true → HasStep act
in_pass_steps (Act.AtDirectory step) e = tt
in_pass_steps (Act.AtServer server step) e = tt
in_pass_steps (Act.Finish outcome) e = absurd (true≢false (sym e))
