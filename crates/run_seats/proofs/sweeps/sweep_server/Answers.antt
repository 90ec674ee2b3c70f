use Rattle.std.proofs.Common.{◌∷◌, ◌++◌, [], ℕ, refl, sym, ap, subst, ◌∙◌}
use Rattle.store_map.specs.declared.actor.Actor.TheVariants as actor
use Rattle.store_core.specs.ActPlace.{ActPlace}
use Rattle.thread_laws.specs.MadeSteps.{MadeStep}
use Rattle.chunk_server.specs.Core.{core_of}
use Rattle.sweeper.specs.Sweeps.{SweeperOf, act_of}
use Rattle.turn_lock.specs.TurnState.{TurnState}
use Rattle.thread_laws.specs.AtServer.{StandsAtServer}
use Rattle.thread_laws.specs.Numbers.{Counts}
use Rattle.thread_laws.proofs.Operated.{others_at_server, sweeps_plain}
use Rattle.run_seats.specs.Fixed.{server_identity, server_in}
use Rattle.run_seats.specs.Plain.{plain_at_server}
use Rattle.run_seats.proofs.Holding.{holding}
use Rattle.run_seats.proofs.Operated.{same_operated}
use Rattle.run_seats.proofs.Sweeping.{sweep_fits, sweep_stands, sweep_stepped}
use Rattle.run_seats.specs.declared.server_box.ServerBox.{ServerBox}
use Rattle.run_seats.specs.declared.server_box.ServerIdentity.{ServerIdentity}
use Rattle.run_seats.specs.declared.gate.Place.TheVariants as place
use Rattle.run_seats.proofs.sweeps.sweep_server.Goals as goal

pub on_server-requires : goal.on_server-requires
on_server-requires g c = (sweep_fits _ c.args.turn.now.fixed c.args.stepper.number c.args.sweeper.now c.take-held.ensures.fixed c.requires.1.1.1).needs

pub give_server-requires : goal.give_server-requires
give_server-requires g c =
    let held = c.take-held.result in
    let of : Counts = record { clients = held.clients; repairers = held.repairers } in
    let log = c.take-held.new.turn.seen in
    let n = c.args.stepper.number in
    let s = c.args.sweeper.now in
    let now = c.on_server.new.s in
    let f = sweep_fits _ c.args.turn.now.fixed n s c.take-held.ensures.fixed c.requires.1.1.1 in (
      holding c.args.lock.now c.args.stepper.number _ (server_identity c.take-held.result) _ c.args.turn.now c.take-held.new.turn c.requires.1.1.0 c.take-held.ensures.turn c.take-held.ensures.fixed
          (λ i. record { number = c.on_server.ensures.same.number i; opening = c.on_server.ensures.same.book i; clients = c.take-held.result.clients; repairers = c.take-held.result.repairers }) refl,
      (
        subst (λ (number : ℕ). StandsAtServer of number (core_of now) (log ++ plain_at_server n actor.Sweeper (act_of c.of-stood.result.value) (core_of c.of-before.result.value.server) log g.last ∷ []))
            (sym c.on_server.ensures.same.number)
            (subst (λ (b : ServerBox). StandsAtServer of held.server.number (core_of now) (log ++ plain_at_server n actor.Sweeper (act_of c.of-stood.result.value) (core_of b.server) log g.last ∷ []))
            (sym c.of-before.ensures)
            (subst (λ (x : SweeperOf). StandsAtServer of held.server.number (core_of now) (log ++ plain_at_server n actor.Sweeper (act_of x) (core_of held.server) log g.last ∷ []))
            (sym c.of-stood.ensures)
            (sweep_stands n g.last s c.on_server.new.self held.server.number f.needs (core_of held.server) (core_of now) c.on_server.ensures.step log of c.take-held.ensures.stands.0 f.turn))),
        same_operated held.server.book now.book held.server.number now.number _ c.on_server.ensures.same.book c.on_server.ensures.same.number
            (others_at_server held.server.book.script (ActPlace.Server held.server.number) log _ (sweeps_plain c.of-stood.result.value.servers c.of-stood.result.value.at, refl) c.take-held.ensures.stands.1),
      ),
    )

pub returns-clause-step : goal.returns-clause-step
returns-clause-step g c =
    let held = c.take-held.result in
    let log = c.take-held.new.turn.seen in
    let n = c.args.stepper.number in
    let s = c.args.sweeper.now in
    let f = sweep_fits _ c.args.turn.now.fixed n s c.take-held.ensures.fixed c.requires.1.1.1 in
    sweep_stepped n g.last s c.on_server.new.self held.server.number f.needs (core_of held.server) (core_of c.on_server.new.s) c.on_server.ensures.step log c.args.turn.now.numbers c.args.turn.now.seen c.give_server.new.turn.seen
    c.requires.1.1.0.number c.take-held.ensures.seen
    (ap (λ (t : TurnState ServerIdentity MadeStep). t.seen) c.give_server.ensures
    ∙ (λ i. log ++ plain_at_server n actor.Sweeper (act_of (c.of-stood.ensures i)) (core_of (c.of-before.ensures i).server) log g.last ∷ []))

pub returns-clause-told : goal.returns-clause-told
returns-clause-told g c =
    subst (λ (n : ℕ). g.G.Gate.was_told c.args.gate.now c.args.stepper.actor c.args.stepper.steps (place.Server n)) (c.number.ensures ∙ ap server_in c.take-held.ensures.fixed) c.pass.ensures
