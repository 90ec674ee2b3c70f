use Rattle.std.proofs.Common.{◌≡◌, false, is_err, [], None, Some, if◌then◌else◌, refl, sym, ap, ◌∙◌}
use Rattle.run_laws.specs.Stage.{Aim}
use Rattle.run_laws.specs.State.{Sequel, State}
use Rattle.run_laws.specs.States.{stage_state}
use Rattle.chunk_server.specs.Core.{core_of}
use Rattle.gathering.specs.Courses.{CourseOf, has_bytes}
use Rattle.gathering.specs.Aims.{ending_at}
use Rattle.gathering.specs.Gathers.{stepped, told_by}
use Rattle.call_steps.specs.Outcomes.{repair_outcome_of}
use Rattle.repairer.specs.declared.stage.RepairStage.TheVariants as stage
use Rattle.repairer.specs.Standing.{seen_at}
use Rattle.repairer.specs.Calls.{call_at}
use Rattle.repairer.proofs.Asking.{follows, goes_on, keeps_on}
use Rattle.repairer.proofs.Asked.{IsAsked, is_asked, steps, tells}
use Rattle.repairer.proofs.repair_call.RepairCall.ask.Goals as goal

pub invariant_of-self-in-None : goal.invariant_of-self-in-None
invariant_of-self-in-None c =
    let a = c.self.inside in
    let w = c.in-Some-Some.gather in
    let takes = c.in-Some-Some.takes in
    let next = c.on_server-answer.new.self in
    let ready = c.has_bytes-ready.result in
    let is : IsAsked a w takes =
    is_asked a c.args.self.now w takes c.args.s.now.number c.self.invariant c.self.view_is c.requires.stage c.requires.need c.in-Some-Some.ensures.value c.in-Some-Some.ensures'.value
    in
    let none : ending_at next.course.stage ≡ None = ap (λ (course : CourseOf). ending_at course.stage) (sym c.course-2.ensures) ∙ sym c.ending.ensures ∙ c.in-None.is in
    let has : ready ≡ has_bytes next.course.stage = c.has_bytes-ready.ensures ∙ ap (λ (course : CourseOf). has_bytes course.stage) c.course.ensures in
    record {
      below = c.self.invariant.below;
      kept =
          keeps_on
          (record a { stage = c.stage_after-self-inside.result; gather = Some next; takes = Some c.on_server-answer.new.takes; due = ready; coding = false; step = c.is_err-self-inside.result })
          w takes c.stage_after-self-inside.result is.of_call is.asking next c.on_server-answer.new.takes
          (follows w next takes c.on_server-answer.new.takes (is_err c.on_server-answer.result) (core_of c.args.s.now) (core_of c.on_server-answer.new.s) is.asks c.on_server-answer.ensures.step)
          none (c.stage_after-self-inside.ensures ∙ ap (λ b. if b then stage.Confirming else stage.Gathering) has) refl refl has;
    }

pub returns-in-None-clause-step : goal.returns-in-None-clause-step
returns-in-None-clause-step c =
    let a = c.self.inside in
    let w = c.in-Some-Some.gather in
    let takes = c.in-Some-Some.takes in
    let next = c.on_server-answer.new.self in
    let ready = c.has_bytes-ready.result in
    let short = c.is_err-self-inside.result in
    let is : IsAsked a w takes =
    is_asked a c.args.self.now w takes c.args.s.now.number c.self.invariant c.self.view_is c.requires.stage c.requires.need c.in-Some-Some.ensures.value c.in-Some-Some.ensures'.value
    in
    let none : ending_at next.course.stage ≡ None = ap (λ (course : CourseOf). ending_at course.stage) (sym c.course-2.ensures) ∙ sym c.ending.ensures ∙ c.in-None.is in
    let has : ready ≡ has_bytes next.course.stage = c.has_bytes-ready.ensures ∙ ap (λ (course : CourseOf). has_bytes course.stage) c.course.ensures in
    (λ i. (
      core_of c.on_server-answer.new.s,
      call_at a.opening a.rebuild.now a.number a.ticket
          (goes_on (seen_at a.looked.value) a.rebuild.now.server a.epoch (repair_outcome_of a.outcome) next.course.stage c.stage_after-self-inside.result none
          (c.stage_after-self-inside.ensures ∙ ap (λ b. if b then stage.Confirming else stage.Gathering) has) i)
          c.on_server-answer.new.takes ready false short,
    ))
    ∙ steps a c.args.self.now w next takes c.on_server-answer.new.takes short ready (core_of c.args.s.now) (core_of c.on_server-answer.new.s) is c.self.view_is
    c.in-Some-Some.ensures.value c.in-Some-Some.ensures'.value
    (c.on_server-answer.ensures.step ∙ ap (λ b. stepped w b (core_of c.args.s.now) takes) (sym c.is_err-self-inside.ensures.value))

pub returns-in-Some-clause-step : goal.returns-in-Some-clause-step
returns-in-Some-clause-step c =
    let a = c.self.inside in
    let w = c.in-Some-Some.gather in
    let takes = c.in-Some-Some.takes in
    let next = c.on_server-answer.new.self in
    let short = c.is_err-self-inside.result in
    let seen = seen_at a.looked.value in
    let is : IsAsked a w takes =
    is_asked a c.args.self.now w takes c.args.s.now.number c.self.invariant c.self.view_is c.requires.stage c.requires.need c.in-Some-Some.ensures.value c.in-Some-Some.ensures'.value
    in
    let aim : next.course.aim ≡ Aim.Chunk seen a.rebuild.now.server =
    (follows w next takes c.on_server-answer.new.takes (is_err c.on_server-answer.result) (core_of c.args.s.now) (core_of c.on_server-answer.new.s) is.asks c.on_server-answer.ensures.step).aim ∙ is.aim
    in
    let confirm : Sequel = Sequel.Confirm seen a.rebuild.now.server in
    (λ i. (
      core_of c.on_server-answer.new.s,
      call_at a.opening a.rebuild.now a.number a.ticket
          ((sym (c.outcome_of.ensures (State.Confirming seen a.rebuild.now.server) [] confirm)
          ∙ ap (λ (wanted : Aim). stage_state (State.Confirming seen a.rebuild.now.server) wanted [] confirm next.course.stage) aim) i)
          c.on_server-answer.new.takes c.has_bytes-ready.result false short,
    ))
    ∙ steps a c.args.self.now w next takes c.on_server-answer.new.takes short c.has_bytes-ready.result (core_of c.args.s.now) (core_of c.on_server-answer.new.s) is c.self.view_is
    c.in-Some-Some.ensures.value c.in-Some-Some.ensures'.value
    (c.on_server-answer.ensures.step ∙ ap (λ b. stepped w b (core_of c.args.s.now) takes) (sym c.is_err-self-inside.ensures.value))

pub returns-in-None-clause-told : goal.returns-in-None-clause-told
returns-in-None-clause-told c =
    let a = c.self.inside in
    let w = c.in-Some-Some.gather in
    let takes = c.in-Some-Some.takes in
    let is : IsAsked a w takes =
    is_asked a c.args.self.now w takes c.args.s.now.number c.self.invariant c.self.view_is c.requires.stage c.requires.need c.in-Some-Some.ensures.value c.in-Some-Some.ensures'.value
    in
    c.or_short-in-None.ensures
    ∙ c.on_server-answer.ensures.told
    ∙ ap (λ b. told_by w b (core_of c.args.s.now)) (sym c.is_err-self-inside.ensures.value)
    ∙ tells a c.args.self.now w takes c.is_err-self-inside.result (core_of c.args.s.now) is c.self.view_is c.in-Some-Some.ensures.value

pub returns-in-Some-clause-told : goal.returns-in-Some-clause-told
returns-in-Some-clause-told c =
    let a = c.self.inside in
    let w = c.in-Some-Some.gather in
    let takes = c.in-Some-Some.takes in
    let is : IsAsked a w takes =
    is_asked a c.args.self.now w takes c.args.s.now.number c.self.invariant c.self.view_is c.requires.stage c.requires.need c.in-Some-Some.ensures.value c.in-Some-Some.ensures'.value
    in
    c.or_short.ensures
    ∙ c.on_server-answer.ensures.told
    ∙ ap (λ b. told_by w b (core_of c.args.s.now)) (sym c.is_err-self-inside.ensures.value)
    ∙ tells a c.args.self.now w takes c.is_err-self-inside.result (core_of c.args.s.now) is c.self.view_is c.in-Some-Some.ensures.value
