use Rattle.std.proofs.Common.{◌≡◌, ◌≤◌, length, sym, ap, subst, ◌∙◌, arith}
use Rattle.run_seats.specs.SeatedActors.{IsOfCode, actor_has}
use Rattle.run_seats.specs.declared.seated_actor.SeatedActor.{SeatedActor}
use Rattle.run_seats.proofs.Having.{none_has, none_more, one_has}
use Rattle.run_seats.proofs.workers.some_has_step.Goals as goal

pub returns : goal.returns
returns c script code =
    let all : length c.args.actors.now ≤ c.loop-actor.actor-index = omega (arith, c.loop-actor-test.false) in
    none_has (actor_has script) c.args.actors.now c.loop-actor.actor-index (c.loop-actor.invariant script code) all

pub returns-then-has_step : goal.returns-then-has_step
returns-then-has_step c script code =
    let actors = c.args.actors.now in
    let at = c.loop-actor.actor-index in
    let here = c.actor-item.result in
    let own : IsOfCode script here = subst (λ (d : SeatedActor). IsOfCode script d) (sym c.actor-item.is) (code at here c.loop-actor-test.true) in
    one_has (actor_has script) actors at here c.loop-actor-test.true (sym (ap (actor_has script) c.actor-item.is) ∙ sym (c.has_step.ensures script own) ∙ c.if-has_step.true)

pub loop-actor-preserved : goal.loop-actor-preserved
loop-actor-preserved c script code =
    let actors = c.args.actors.now in
    let at = c.loop-actor.actor-index in
    let here = c.actor-item.result in
    let own : IsOfCode script here = subst (λ (d : SeatedActor). IsOfCode script d) (sym c.actor-item.is) (code at here c.loop-actor-test.true) in
    none_more (actor_has script) actors at (c.loop-actor.invariant script code) here c.loop-actor-test.true
    (sym (ap (actor_has script) c.actor-item.is) ∙ sym (c.has_step.ensures script own) ∙ c.if-has_step.false)
