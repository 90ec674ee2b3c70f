-- What a call that reads does next, by its stage.
use Rattle.std.proofs.Common.{◌≡◌, false, [], refl, sym, ap, subst, ◌∙◌}
use Rattle.store_core.specs.NextAct.{job_of}
use Rattle.store_core.specs.Act.{Act as CoreAct, DirectoryStep}
use Rattle.store_core.specs.Note.{note_of}
use Rattle.run_laws.specs.StateActs.{act_at}
use Rattle.call_steps.specs.declared.act.Act.TheVariants as act
use Rattle.call_steps.specs.declared.act.DirectoryAct.TheVariants as there
use Rattle.call_steps.specs.Acts.{act_by, act_now}
use Rattle.call_steps.specs.CallOf.{CallOf, act_of, tries_by}
use Rattle.client_read.specs.Reads.{ReadOf}
use Rattle.client_read.specs.Stages.{state_by, due_by}
use Rattle.client_read.specs.Inside.{Keeps, read_in, IsRead}
use Rattle.client_read.specs.declared.read_call.ReadCall.TheInside.{Inside}
use Rattle.client_read.specs.declared.read_stage.ReadStage.{ReadStage}
use Rattle.client_read.specs.declared.read_stage.ReadStage.TheVariants as stage
use Rattle.client_read.proofs.Standings.{looks_first, closed_finished}

-- its look, where it stands before it
pub first_act : (a : Inside) → IsRead a → state_by a.stage a.gatherings a.point a.outcome ≡ state_by stage.Looking a.gatherings a.point a.outcome
    → act_of (read_in a).call ≡ CoreAct.AtDirectory (DirectoryStep.Look (note_of a.call.now))
first_act a is first =
    ap (λ at. act_at a.gatherings.book.geometry (tries_by a.gatherings.book.script) (job_of a.call.now) [] at) first
    ∙ looks_first a.call.now (tries_by a.gatherings.book.script) is.read a.gatherings.book.geometry

module _ (a : Inside) (r : ReadOf) (is : IsRead a) (view : read_in a ≡ r) where
  -- the call as it would stand at a stage
  abbrev at_stage : ReadStage → CallOf
  at_stage now = record ((read_in a).call) { state = record { pairs = []; at = state_by now a.gatherings a.point a.outcome }; due = due_by now a.gatherings }

  seen_at : (now : ReadStage) → a.stage ≡ now → act_now (at_stage now) ≡ act_now r.call
  seen_at now at = ap (λ s. act_now (at_stage s)) (sym at) ∙ ap (λ (x : ReadOf). act_now x.call) view

  pub looks : a.stage ≡ stage.Looking → act.Directory there.Look ≡ act_now r.call
  looks at =
      ap (λ x. act_by x false) (sym (looks_first a.call.now (tries_by a.gatherings.book.script) is.read a.gatherings.book.geometry))
      ∙ seen_at stage.Looking at

  pub ends : a.stage ≡ stage.Ending → act.Directory there.End ≡ act_now r.call
  ends at = seen_at stage.Ending at

  pub over : a.stage ≡ stage.Ended → act.Finished ≡ act_now r.call
  over at = by (subst_keeps at)
    where
      subst_keeps : a.stage ≡ stage.Ended → Keeps stage.Ended a.number (note_of a.call.now) a.ticket a.gatherings
      subst_keeps at = subst (λ now. Keeps now a.number (note_of a.call.now) a.ticket a.gatherings) at is.kept

      by : Keeps stage.Ended a.number (note_of a.call.now) a.ticket a.gatherings → act.Finished ≡ act_now r.call
      by kept =
          ap (λ s. act_by (act_at a.gatherings.book.geometry (tries_by a.gatherings.book.script) (job_of a.call.now) [] s) false)
          (sym (closed_finished a.gatherings a.point.0 kept.1).1)
          ∙ seen_at stage.Ended at

  pub finished : a.stage ≡ stage.Finished → act.Finished ≡ act_now r.call
  finished at = seen_at stage.Finished at
