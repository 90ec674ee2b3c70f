use Rattle.std.proofs.Common.{[], refl, ap, subst, sym, ◌∙◌}
use Rattle.std.specs.Prelude.{IsTrue}
use Rattle.store_core.specs.Note.{note_of}
use Rattle.store_core.specs.NextAct.{job_of}
use Rattle.store_core.specs.ActPlace.{is_in_pass}
use Rattle.run_laws.specs.State.{Sequel}
use Rattle.run_laws.specs.StateActs.{act_at}
use Rattle.version_seal.specs.Entry.{BookOf}
use Rattle.call_steps.specs.CallOf.{act_of}
use Rattle.call_steps.specs.Steps.{need_by, need_of, HoldsItsPass}
use Rattle.gather_parts.proofs.Handing.{stands_in_pass}
use Rattle.client_patch.specs.Patches.{PatchOf}
use Rattle.client_patch.specs.Stages.{state_by, due_by}
use Rattle.client_patch.specs.Inside.{pairs_in, patch_in, Keeps}
use Rattle.client_patch.proofs.Standings.{in_pass_codes, gathers, holds}
use Rattle.client_patch.proofs.patch.PatchCall.need.Goals as goal

pub returns-in-Looked-clause-need : goal.returns-in-Looked-clause-need
returns-in-Looked-clause-need c =
    let a = c.self.inside in
    let stands = gathers a c.self.invariant (ap (λ s. state_by s a.gatherings a.writing a.outcome) c.in-Looked.is) in
    in_pass_codes (act_of (patch_in a).call) (stands_in_pass (patch_in a).call a.gatherings Sequel.Draw stands)
    ∙ ap (λ s. need_by (act_of (patch_in a).call) (due_by s a.gatherings a.writing)) (sym c.in-Looked.is)
    ∙ ap (λ (p : PatchOf). need_of p.call) c.self.view_is

pub returns-in-Looked-clause-in_pass : goal.returns-in-Looked-clause-in_pass
returns-in-Looked-clause-in_pass c = λ _.
    let a = c.self.inside in
    let stands = gathers a c.self.invariant (ap (λ s. state_by s a.gatherings a.writing a.outcome) c.in-Looked.is) in
    subst (λ (p : PatchOf). IsTrue (is_in_pass (act_of p.call))) c.self.view_is (stands_in_pass (patch_in a).call a.gatherings Sequel.Draw stands)

pub returns-in-Looked-clause-pass : goal.returns-in-Looked-clause-pass
returns-in-Looked-clause-pass c =
    let a = c.self.inside in
    let stands = gathers a c.self.invariant (ap (λ s. state_by s a.gatherings a.writing a.outcome) c.in-Looked.is) in
    subst (λ (p : PatchOf). HoldsItsPass p.call) c.self.view_is
    (holds (patch_in a).call a.number (note_of a.call.now) [] a.ticket refl refl refl (stands_in_pass (patch_in a).call a.gatherings Sequel.Draw stands)
    (subst (λ s. Keeps s a) c.in-Looked.is c.self.invariant.kept).0)

pub returns-in-Gathering-clause-need : goal.returns-in-Gathering-clause-need
returns-in-Gathering-clause-need c =
    let a = c.self.inside in
    let stands = gathers a c.self.invariant (ap (λ s. state_by s a.gatherings a.writing a.outcome) c.in-Gathering.is) in
    c.need.ensures.call (patch_in a).call Sequel.Draw stands (ap (λ s. due_by s a.gatherings a.writing) c.in-Gathering.is)
    ∙ ap (λ (p : PatchOf). need_of p.call) c.self.view_is

pub returns-in-Gathering-clause-in_pass : goal.returns-in-Gathering-clause-in_pass
returns-in-Gathering-clause-in_pass c = λ _.
    let a = c.self.inside in
    let stands = gathers a c.self.invariant (ap (λ s. state_by s a.gatherings a.writing a.outcome) c.in-Gathering.is) in
    subst (λ (p : PatchOf). IsTrue (is_in_pass (act_of p.call))) c.self.view_is (stands_in_pass (patch_in a).call a.gatherings Sequel.Draw stands)

pub returns-in-Gathering-clause-pass : goal.returns-in-Gathering-clause-pass
returns-in-Gathering-clause-pass c =
    let a = c.self.inside in
    let stands = gathers a c.self.invariant (ap (λ s. state_by s a.gatherings a.writing a.outcome) c.in-Gathering.is) in
    subst (λ (p : PatchOf). HoldsItsPass p.call) c.self.view_is
    (holds (patch_in a).call a.number (note_of a.call.now) [] a.ticket refl refl refl (stands_in_pass (patch_in a).call a.gatherings Sequel.Draw stands)
    (subst (λ s. Keeps s a) c.in-Gathering.is c.self.invariant.kept).0)

pub returns-in-Writing-clause-need : goal.returns-in-Writing-clause-need
returns-in-Writing-clause-need c =
    let a = c.self.inside in
    let kept = subst (λ s. Keeps s a) c.in-Writing.is c.self.invariant.kept in
    c.need-in-Writing.ensures.need a.tries (job_of a.call.now) (pairs_in a.changes.items)
    ∙ ap (λ (book : BookOf). need_by (act_at book.geometry a.tries (job_of a.call.now) (pairs_in a.changes.items) a.writing.state) a.writing.due) kept.0.book_is
    ∙ ap (λ s. need_by (act_at a.opening.geometry a.tries (job_of a.call.now) (pairs_in a.changes.items) (state_by s a.gatherings a.writing a.outcome)) (due_by s a.gatherings a.writing)) (sym c.in-Writing.is)
    ∙ ap (λ (p : PatchOf). need_of p.call) c.self.view_is
