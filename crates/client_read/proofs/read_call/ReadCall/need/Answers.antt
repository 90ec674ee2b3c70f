use Rattle.std.proofs.Common.{refl, ap, subst, ◌∙◌}
use Rattle.std.specs.Prelude.{IsTrue}
use Rattle.store_core.specs.Note.{note_of}
use Rattle.store_core.specs.ActPlace.{is_in_pass}
use Rattle.run_laws.specs.State.{Sequel}
use Rattle.call_steps.specs.CallOf.{act_of}
use Rattle.call_steps.specs.Steps.{need_of, HoldsItsPass}
use Rattle.client_read.specs.Reads.{ReadOf}
use Rattle.client_read.specs.Stages.{due_by}
use Rattle.client_read.specs.Inside.{read_in, Keeps}
use Rattle.client_read.proofs.Standings.{gathering_stands, gathering_holds}
use Rattle.client_read.proofs.read_call.ReadCall.need.Goals as goal

pub returns-in-Gathering-clause-need : goal.returns-in-Gathering-clause-need
returns-in-Gathering-clause-need c =
    let a = c.self.inside in
    c.need.ensures.call (read_in a).call (Sequel.Serve a.point.0) (gathering_stands a c.in-Gathering.is) (ap (λ now. due_by now a.gatherings) c.in-Gathering.is)
    ∙ ap (λ (r : ReadOf). need_of r.call) c.self.view_is

pub returns-in-Gathering-clause-in_pass : goal.returns-in-Gathering-clause-in_pass
returns-in-Gathering-clause-in_pass c = λ _.
    let a = c.self.inside in
    subst (λ (r : ReadOf). IsTrue (is_in_pass (act_of r.call))) c.self.view_is
    (c.need.ensures.in_pass (read_in a).call (Sequel.Serve a.point.0) (gathering_stands a c.in-Gathering.is))

pub returns-in-Gathering-clause-pass : goal.returns-in-Gathering-clause-pass
returns-in-Gathering-clause-pass c =
    let a = c.self.inside in
    subst (λ (r : ReadOf). HoldsItsPass r.call) c.self.view_is
    (gathering_holds (read_in a).call a.number (note_of a.call.now) a.ticket refl refl refl
    (c.need.ensures.in_pass (read_in a).call (Sequel.Serve a.point.0) (gathering_stands a c.in-Gathering.is))
    (subst (λ now. Keeps now a.number (note_of a.call.now) a.ticket a.gatherings) c.in-Gathering.is c.self.invariant.kept))
