use Rattle.std.proofs.Common.{◌≡◌, true, false, is_err, [], refl, ap, subst, ◌∙◌}
use Rattle.store_core.specs.Note.{note_of}
use Rattle.store_core.specs.Act.{Outcome}
use Rattle.run_laws.specs.State.{Sequel, State}
use Rattle.call_steps.specs.CallOf.{CallOf, tries_by}
use Rattle.call_steps.specs.Steps.{need_of, coded}
use Rattle.gather_parts.specs.Gatherings.{GatheringsOf}
use Rattle.gather_parts.specs.States.{after_coding}
use Rattle.client_read.specs.Reads.{ReadOf}
use Rattle.client_read.specs.Stages.{state_by, due_by}
use Rattle.client_read.specs.Inside.{read_in, Keeps}
use Rattle.client_read.specs.declared.read_stage.ReadStage.TheVariants as stage
use Rattle.client_read.proofs.Standings.{gathering_stands, needs_gathering, is_coder_need}
use Rattle.client_read.proofs.read_call.ReadCall.on_coder.Goals as goal

pub invariant_of-self-in-Err : goal.invariant_of-self-in-Err
invariant_of-self-in-Err g c =
    let a = c.self.inside in
    let is : a.stage ≡ stage.Gathering =
    needs_gathering a.call.now a.number a.ticket a.gatherings a.point a.outcome c.self.invariant.read is_coder_need refl refl a.stage c.self.invariant.kept
    (ap is_coder_need (ap (λ (r : ReadOf). need_of r.call) c.self.view_is ∙ c.requires))
    in
    record {
      read = c.self.invariant.read;
      client = c.self.invariant.client;
      plain = tt;
      kept = subst (λ now. Keeps now a.number (note_of a.call.now) a.ticket a.gatherings) is c.self.invariant.kept;
    }

pub returns-in-Ok-clause-coded : goal.returns-in-Ok-clause-coded
returns-in-Ok-clause-coded g c =
    let a = c.self.inside in
    let later : GatheringsOf = c.on_coder.new.self in
    let call : CallOf = (read_in a).call in
    let is : a.stage ≡ stage.Gathering =
    needs_gathering a.call.now a.number a.ticket a.gatherings a.point a.outcome c.self.invariant.read is_coder_need refl refl a.stage c.self.invariant.kept
    (ap is_coder_need (ap (λ (r : ReadOf). need_of r.call) c.self.view_is ∙ c.requires))
    in
    (λ i. record call {
      book = c.on_coder.ensures.book i;
      tries = tries_by (c.on_coder.ensures.book i).script;
      state = record { pairs = []; at = state_by (is i) later a.point a.outcome };
      takes = later.takes;
      due = due_by (is i) later;
      coding = false;
      step = a.step;
    })
    ∙ subst (λ short. after_coding short call later (Sequel.Serve a.point.0) ≡ coded short call) (ap is_err c.in-Ok.is)
    (c.on_coder.ensures.call call (Sequel.Serve a.point.0) (gathering_stands a is))
    ∙ ap (λ (r : ReadOf). coded false r.call) c.self.view_is

pub returns-in-Err-clause-coded : goal.returns-in-Err-clause-coded
returns-in-Err-clause-coded g c =
    let a = c.self.inside in
    let later : GatheringsOf = c.on_coder.new.self in
    let call : CallOf = (read_in a).call in
    let is : a.stage ≡ stage.Gathering =
    needs_gathering a.call.now a.number a.ticket a.gatherings a.point a.outcome c.self.invariant.read is_coder_need refl refl a.stage c.self.invariant.kept
    (ap is_coder_need (ap (λ (r : ReadOf). need_of r.call) c.self.view_is ∙ c.requires))
    in
    (λ i. record call {
      book = c.on_coder.ensures.book i;
      tries = tries_by (c.on_coder.ensures.book i).script;
      state = record { pairs = []; at = State.Ending Outcome.NoMemory };
      takes = later.takes;
      due = false;
      coding = true;
      step = a.step;
    })
    ∙ subst (λ short. after_coding short call later (Sequel.Serve a.point.0) ≡ coded short call) (ap is_err c.in-Err.is)
    (c.on_coder.ensures.call call (Sequel.Serve a.point.0) (gathering_stands a is))
    ∙ ap (λ (r : ReadOf). coded true r.call) c.self.view_is
