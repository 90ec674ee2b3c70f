use Rattle.std.proofs.Common.{◌≡◌, sym, ap, subst, ◌∙◌}
use Rattle.run_laws.specs.State.{Sequel}
use Rattle.call_steps.specs.declared.need.Need.TheVariants as need
use Rattle.call_steps.specs.Steps.{need_of}
use Rattle.call_steps.specs.CallOf.{taken_of}
use Rattle.call_steps.specs.Ends.{finished_of}
use Rattle.gather_parts.specs.Gatherings.{owed}
use Rattle.client_read.specs.Reads.{ReadOf}
use Rattle.client_read.specs.Ends.{IfServed}
use Rattle.client_read.specs.Stages.{state_by}
use Rattle.client_read.specs.Inside.{read_in}
use Rattle.client_read.specs.declared.read_stage.ReadStage.TheVariants as stage
use Rattle.client_read.proofs.Standings.{over_seated, over_ended}
use Rattle.client_read.proofs.Serving.{served_bytes}
use Rattle.client_read.proofs.read_call.ReadCall.finish.Goals as goal

pub into_seat-seat-requires : goal.into_seat-seat-requires
into_seat-seat-requires c =
    let a = c.self.inside in
    let over : need_of (read_in a).call ≡ need.Finished = ap (λ (r : ReadOf). need_of r.call) c.self.view_is ∙ c.requires in
    over_seated a.call.now a.number a.ticket a.gatherings a.point a.outcome c.self.invariant.read a.stage c.self.invariant.kept over

pub returns-in_default : goal.returns-in_default
returns-in_default c =
    let a = c.self.inside in
    let over : need_of (read_in a).call ≡ need.Finished = ap (λ (r : ReadOf). need_of r.call) c.self.view_is ∙ c.requires in
    let ended : a.stage ≡ stage.Ended = over_ended a.call.now a.number a.ticket a.gatherings a.point a.outcome c.self.invariant.read a.stage c.self.invariant.kept over c.in_default.not-Finished in
    record {
      seat = c.into_seat-seat.ensures ∙ ap (λ (r : ReadOf). r.call.token) c.self.view_is;
      outcome = sym (ap (λ (r : ReadOf). r.call.state.at) c.self.view_is)
          ∙ ap (λ now. state_by now a.gatherings a.point a.outcome) ended
          ∙ ap finished_of (c.finish-gathered.ensures.state (Sequel.Serve a.point.0))
          ∙ sym c.outcome_by.ensures.state;
      served = subst (λ (r : ReadOf). IfServed c.outcome_by.result (λ bytes. bytes.items ≡ r.owed)) c.self.view_is
          (served_bytes c.outcome_by.result c.finish-gathered.result.0 (owed a.gatherings) c.outcome_by.ensures.served c.finish-gathered.ensures.bytes);
      takes = c.finish-gathered.ensures.takes ∙ ap (λ (r : ReadOf). taken_of r.call.takes) c.self.view_is;
    }
