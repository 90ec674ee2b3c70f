use Rattle.std.proofs.Common.{refl, ap, subst, ◌∙◌}
use Rattle.store_core.specs.NextAct.{job_of}
use Rattle.run_laws.specs.State.{Sequel}
use Rattle.run_laws.specs.StateActs.{act_at}
use Rattle.version_seal.specs.Entry.{BookOf}
use Rattle.call_steps.specs.Acts.{act_by, act_now}
use Rattle.client_patch.specs.Patches.{PatchOf}
use Rattle.client_patch.specs.Stages.{state_by, due_by}
use Rattle.client_patch.specs.Inside.{pairs_in, patch_in, Keeps}
use Rattle.client_patch.proofs.Standings.{gathers}
use Rattle.client_patch.proofs.Acting.{seen_at, codes}
use Rattle.client_patch.proofs.patch.PatchCall.act.Goals as goal

pub returns-in-Looked : goal.returns-in-Looked
returns-in-Looked c = codes c.self.inside c.args.self.now c.self.invariant c.self.view_is c.in-Looked.is

pub returns-in-Gathering : goal.returns-in-Gathering
returns-in-Gathering c =
    let a = c.self.inside in
    let stands = gathers a c.self.invariant (ap (λ s. state_by s a.gatherings a.writing a.outcome) c.in-Gathering.is) in
    c.act.ensures.call (patch_in a).call Sequel.Draw stands (ap (λ s. due_by s a.gatherings a.writing) c.in-Gathering.is) refl
    ∙ ap (λ (p : PatchOf). act_now p.call) c.self.view_is

pub returns-in-Writing : goal.returns-in-Writing
returns-in-Writing c =
    let a = c.self.inside in
    let kept = subst (λ s. Keeps s a) c.in-Writing.is c.self.invariant.kept in
    c.act-in-Writing.ensures a.tries (job_of a.call.now) (pairs_in a.changes.items)
    ∙ ap (λ (book : BookOf). act_by (act_at book.geometry a.tries (job_of a.call.now) (pairs_in a.changes.items) a.writing.state) a.writing.due) kept.0.book_is
    ∙ seen_at a c.args.self.now c.self.invariant c.self.view_is _ c.in-Writing.is
