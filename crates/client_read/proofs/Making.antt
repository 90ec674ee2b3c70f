-- The next step at the directory of a call that reads may be made.
use Rattle.std.proofs.Common.{◌≡◌, [], refl, sym, subst}
use Rattle.store_core.specs.Note.{Note, note_of}
use Rattle.store_core.specs.Act.{Act, DirectoryStep}
use Rattle.store_core.specs.NextAct.{job_of}
use Rattle.store_core.specs.Agreement.{ActorToken}
use Rattle.run_laws.specs.State.{Sequel}
use Rattle.run_laws.specs.StateActs.{act_at}
use Rattle.call_steps.specs.CallOf.{CallOf, tries_by, act_of}
use Rattle.call_steps.specs.Steps.{MayMakeNext}
use Rattle.call_steps.proofs.Making.{MayBy, makes, passes}
use Rattle.gather_parts.proofs.Doing.{gathering_does}
use Rattle.client_read.specs.Reads.{ReadOf}
use Rattle.client_read.specs.Stages.{state_by, due_by}
use Rattle.client_read.specs.Inside.{IsHolding, Keeps, read_in, IsRead}
use Rattle.client_read.specs.declared.read_call.ReadCall.TheInside.{Inside}
use Rattle.client_read.specs.declared.read_stage.ReadStage.{ReadStage}
use Rattle.client_read.specs.declared.read_stage.ReadStage.TheVariants as stage
use Rattle.client_read.proofs.Standings.{looks_first, closed_finished}
use Rattle.client_read.proofs.Looking.{may_look}

-- its pass may end
ends : (c : CallOf) (token : ActorToken) (note : Note) → c.token ≡ token → IsHolding c.number note token → MayBy c (Act.AtDirectory DirectoryStep.End)
ends c (ActorToken.Seated seat) note at its = absurd its
ends c (ActorToken.InCall held) note at its = passes c held DirectoryStep.End at its.its_number (λ d shape. tt)

module _ (a : Inside) (is : IsRead a) where
  -- the call as it would stand at a stage
  abbrev at_stage : ReadStage → CallOf
  at_stage now = record ((read_in a).call) { state = record { pairs = []; at = state_by now a.gatherings a.point a.outcome }; due = due_by now a.gatherings }

  by_stage : (now : ReadStage) → Keeps now a.number (note_of a.call.now) a.ticket a.gatherings → MayBy (at_stage now) (act_of (at_stage now))
  by_stage stage.Looking kept =
      subst (MayBy (at_stage stage.Looking)) (sym (looks_first a.call.now (tries_by a.gatherings.book.script) is.read a.gatherings.book.geometry))
      (λ d shape. may_look d a.ticket a.number a.call.now is.read is.client kept)
  by_stage stage.Gathering kept =
      gathering_does (MayBy (at_stage stage.Gathering)) (λ server step. tt) (ends (at_stage stage.Gathering) a.ticket (note_of a.call.now) refl kept)
      a.gatherings (tries_by a.gatherings.book.script) (job_of a.call.now) [] (Sequel.Serve a.point.0) (ends (at_stage stage.Gathering) a.ticket (note_of a.call.now) refl kept)
  by_stage stage.Ending kept = ends (at_stage stage.Ending) a.ticket (note_of a.call.now) refl kept
  by_stage stage.Ended kept =
      subst (λ at. MayBy (at_stage stage.Ended) (act_at a.gatherings.book.geometry (tries_by a.gatherings.book.script) (job_of a.call.now) [] at)) (sym (closed_finished a.gatherings a.point.0 kept.1).1) tt
  by_stage stage.Finished kept = tt

pub may : (a : Inside) (r : ReadOf) → IsRead a → read_in a ≡ r → MayMakeNext r.call
may a r is view = subst (λ (r : ReadOf). MayMakeNext r.call) view (makes (read_in a).call (by_stage a is a.stage is.kept))
