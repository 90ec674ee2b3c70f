use Rattle.std.proofs.Common.{◌≡◌, Bool, false, [], refl, sym, ap, subst, ◌∙◌}
use Rattle.run_laws.specs.State.{Sequel}
use Rattle.chunk_server.specs.Core.{core_of}
use Rattle.call_steps.specs.CallOf.{CallOf, tries_by}
use Rattle.call_steps.specs.Steps.{need_of, stepped_at_server}
use Rattle.call_steps.specs.Hearing.{told_here}
use Rattle.gather_parts.specs.Gatherings.{GatheringsOf}
use Rattle.gather_parts.specs.States.{moved}
use Rattle.client_read.specs.Reads.{ReadOf}
use Rattle.client_read.specs.Stages.{state_by, due_by}
use Rattle.client_read.specs.Inside.{read_in}
use Rattle.client_read.specs.declared.read_stage.ReadStage.TheVariants as stage
use Rattle.client_read.proofs.Standings.{gathering_stands, needs_gathering, is_server_need}
use Rattle.client_read.proofs.read_call.ReadCall.on_server.Goals as goal

pub returns-clause-step : goal.returns-clause-step
returns-clause-step c =
    let a = c.self.inside in
    let s = core_of c.args.s.now in
    let later : GatheringsOf = c.on_server-answer.new.self in
    let short : Bool = c.is_err-self-inside.result in
    let call : CallOf = (read_in a).call in
    let due : Bool = due_by a.stage later in
    let is : a.stage ≡ stage.Gathering =
    needs_gathering a.call.now a.number a.ticket a.gatherings a.point a.outcome c.self.invariant.read is_server_need refl refl a.stage c.self.invariant.kept
    (ap is_server_need (ap (λ (r : ReadOf). need_of r.call) c.self.view_is ∙ c.requires.need))
    in
    (λ i. (
      core_of c.on_server-answer.new.s,
      record call {
        book = c.on_server-answer.ensures.book i;
        tries = tries_by (c.on_server-answer.ensures.book i).script;
        state = record { pairs = []; at = state_by (is i) later a.point a.outcome };
        takes = later.takes;
        due = due;
        coding = false;
        step = short;
      },
    ))
    ∙ subst (λ x. (core_of c.on_server-answer.new.s, moved call later (Sequel.Serve a.point.0) due x) ≡ stepped_at_server x due call s) (sym c.is_err-self-inside.ensures.value)
    (c.on_server-answer.ensures.call call (Sequel.Serve a.point.0) due (gathering_stands a is))
    ∙ ap (λ (r : ReadOf). stepped_at_server short due r.call s) c.self.view_is

pub returns-clause-told : goal.returns-clause-told
returns-clause-told c =
    let a = c.self.inside in
    let s = core_of c.args.s.now in
    let short : Bool = c.is_err-self-inside.result in
    let call : CallOf = (read_in a).call in
    let is : a.stage ≡ stage.Gathering =
    needs_gathering a.call.now a.number a.ticket a.gatherings a.point a.outcome c.self.invariant.read is_server_need refl refl a.stage c.self.invariant.kept
    (ap is_server_need (ap (λ (r : ReadOf). need_of r.call) c.self.view_is ∙ c.requires.need))
    in
    c.or_short.ensures
    ∙ c.on_server-answer.ensures.told call (Sequel.Serve a.point.0) (gathering_stands a is)
    ∙ ap (λ b. told_here b call s) (sym c.is_err-self-inside.ensures.value)
    ∙ ap (λ (r : ReadOf). told_here short r.call s) c.self.view_is
