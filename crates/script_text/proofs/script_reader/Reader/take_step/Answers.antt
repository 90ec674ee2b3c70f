use Rattle.std.proofs.Common.{◌≡◌, true, List, length, refl, sym, ap, ◌∙◌}
use Rattle.store_map.specs.declared.actor.Token.{Token}
use Rattle.line_grammar.specs.Line.{StepLine}
use Rattle.script_text.specs.Reader.{script_of}
use Rattle.script_text.specs.declared.script_reader.Reader.{Reader}
use Rattle.script_text.proofs.ReaderLaws.{step_err, step_over, step_no_actor, step_no_server, step_taken}
use Rattle.line_grammar.proofs.HandedOn.{handed_on}
use Rattle.script_text.specs.Reader.{Takes}
use Rattle.script_text.proofs.script_reader.Reader.take_step.Goals as goal

pub returns-in_err-token : goal.returns-in_err-token
returns-in_err-token c =
    handed_on (λ r. Takes c.args.self.now c.args.line.now r c.args.self.now) c.from_residual.result c.in_err-token.field-0.0 c.from_residual.ensures.1
    (step_err c.args.self.now c.args.self.now c.args.line.now c.requires.place c.requires.kind c.in_err-token.field-0.0 c.in_err-token.ensures)

pub returns-then-as_slice-eq-MAX_SCHEDULE : goal.returns-then-as_slice-eq-MAX_SCHEDULE
returns-then-as_slice-eq-MAX_SCHEDULE c =
    step_over c.args.self.now c.args.line.now c.in_ok-token.token c.in_ok-token.ensures.0 c.requires.place c.in_ok-token.ensures.2 (ap length (sym c.as_slice.ensures.value) ∙ c.if-as_slice-eq-MAX_SCHEDULE.true)

pub returns-then-not-has_actor : goal.returns-then-not-has_actor
returns-then-not-has_actor c =
    step_no_actor c.args.self.now c.args.line.now c.in_ok-token.token c.in_ok-token.ensures.0 c.requires.sound c.requires.place c.in_ok-token.ensures.2 c.in_ok-token.ensures.1
    c.requires.sound.begun.valid.limits.schedule (λ full. c.if-as_slice-eq-MAX_SCHEDULE.false (ap length c.as_slice.ensures.value ∙ full))
    (λ named. let yes : c.has_actor.result ≡ true = c.has_actor.ensures.1 named in cc (yes, c.if-not-has_actor.true))

pub returns-then-not-has_server : goal.returns-then-not-has_server
returns-then-not-has_server c =
    step_no_server c.args.self.now c.args.line.now c.in_ok-token.token c.in_ok-token.ensures.0 c.requires.sound c.requires.place c.in_ok-token.ensures.2 c.in_ok-token.ensures.1
    c.requires.sound.begun.valid.limits.schedule (λ full. c.if-as_slice-eq-MAX_SCHEDULE.false (ap length c.as_slice.ensures.value ∙ full))
    (c.has_actor.ensures.0 c.if-not-has_actor.false)
    (λ named. let yes : c.has_server.result ≡ true = c.has_server.ensures.1 named in cc (yes, c.if-not-has_server.true))

pub returns : goal.returns
returns c =
    let new : Reader = record c.args.self.now { schedule = c.push.new.self } in (
      StepLine c.in_ok-token.token,
      step_taken c.args.self.now new c.args.line.now c.in_ok-token.token c.in_ok-token.ensures.0 c.requires.sound c.requires.place c.in_ok-token.ensures.2 c.in_ok-token.ensures.1
          c.requires.sound.begun.valid.limits.schedule (λ full. c.if-as_slice-eq-MAX_SCHEDULE.false (ap length c.as_slice.ensures.value ∙ full))
          (c.has_actor.ensures.0 c.if-not-has_actor.false) (c.has_server.ensures.0 c.if-not-has_server.false)
          (ap (λ (steps : List Token). record (script_of c.args.self.now) { schedule = steps }) c.in-Ok.ensures.items) refl refl,
    )
