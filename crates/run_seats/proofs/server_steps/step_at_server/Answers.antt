use Rattle.std.proofs.Common.{◌≡◌, ◌∷◌, ◌++◌, [], ℕ, sym, ap, subst, ◌∙◌}
use Rattle.thread_laws.specs.MadeSteps.{MadeStep}
use Rattle.chunk_server.specs.Core.{core_of}
use Rattle.store_core.specs.ActPlace.{ActPlace}
use Rattle.call_machine.specs.Calls.{MachineOf}
use Rattle.actors.specs.Callers.{CallerOf}
use Rattle.actors.specs.Steps.{MadeAtServer}
use Rattle.turn_lock.specs.TurnState.{TurnState}
use Rattle.thread_laws.specs.Numbers.{Counts}
use Rattle.thread_laws.specs.AtServer.{StandsAtServer}
use Rattle.thread_laws.proofs.Operated.{others_at_server}
use Rattle.run_seats.specs.Stepped.{entry_at_server}
use Rattle.run_seats.specs.Fixed.{server_identity, server_in}
use Rattle.run_seats.proofs.Fits.{call_is, fits, needs_here, work_is}
use Rattle.run_seats.proofs.Holding.{holding}
use Rattle.run_seats.proofs.Operated.{call_at_server, same_operated}
use Rattle.run_seats.proofs.ServerSteps.{caller_stands, caller_stepped, number_is}
use Rattle.run_seats.specs.declared.server_box.ServerBox.{ServerBox}
use Rattle.run_seats.specs.declared.server_box.ServerIdentity.{ServerIdentity}
use Rattle.run_seats.specs.declared.gate.Place.TheVariants as place
use Rattle.run_seats.proofs.server_steps.step_at_server.Goals as goal

pub on_server-left-requires-clause-need : goal.on_server-left-requires-clause-need
on_server-left-requires-clause-need g c =
    needs_here _ c.args.turn.now.fixed c.args.stepper.number c.args.caller.now c.take-held.ensures.fixed c.requires.1.1.1

pub on_server-left-requires-clause-steps : goal.on_server-left-requires-clause-steps
on_server-left-requires-clause-steps g c = c.requires.1.1.1.work.few

pub on_server-left-requires-clause-book : goal.on_server-left-requires-clause-book
on_server-left-requires-clause-book g c =
    (fits _ c.args.turn.now.fixed c.args.stepper.number c.args.caller.now c.take-held.ensures.fixed c.requires.1.1.1).book

pub give_step-requires : goal.give_step-requires
give_step-requires g c =
    let before = c.requires.1.1.1 in
    let held = c.take-held.result in
    let of : Counts = record { clients = held.clients; repairers = held.repairers } in
    let log = c.take-held.new.turn.seen in
    let n = c.args.stepper.number in
    let left = c.on_server-left.result.0.value in
    let s = c.on_server-left.new.server in
    let h = fits _ c.args.turn.now.fixed n c.args.caller.now c.take-held.ensures.fixed before in
    let m = c.on_server-left.ensures.step in
    let made : MadeAtServer before.call left held.server s = subst (λ (x : MachineOf). MadeAtServer x left held.server s) (call_is before.call m.call c.args.caller.now before.work m.was) m.step in
    let number : (entry_at_server c.args.stepper.number c.of-stood.result.value.work c.on_server-left.result.0.value (core_of c.of-before.result.value.server) c.take-held.new.turn.seen g.last).0 ≡ c.args.stepper.number =
    number_is c.args.stepper.number c.of-stood.result.value.work c.on_server-left.result.0.value (core_of c.of-before.result.value.server) c.take-held.new.turn.seen g.last in (
      holding c.args.lock.now c.args.stepper.number _ (server_identity c.take-held.result) _ c.args.turn.now c.take-held.new.turn c.requires.1.1.0 c.take-held.ensures.turn c.take-held.ensures.fixed
          (λ i. record { number = c.on_server-left.ensures.same.number i; opening = c.on_server-left.ensures.same.book i; clients = c.take-held.result.clients; repairers = c.take-held.result.repairers }) number,
      (
        subst (λ (number : ℕ). StandsAtServer of number (core_of s) (log ++ entry_at_server n c.of-stood.result.value.work left (core_of c.of-before.result.value.server) log g.last ∷ []))
            (sym c.on_server-left.ensures.same.number)
            (subst (λ (b : ServerBox). StandsAtServer of held.server.number (core_of s) (log ++ entry_at_server n c.of-stood.result.value.work left (core_of b.server) log g.last ∷ []))
            (sym c.of-before.ensures)
            (subst (λ (a : CallerOf). StandsAtServer of held.server.number (core_of s) (log ++ entry_at_server n a.work left (core_of held.server) log g.last ∷ []))
            (sym c.of-stood.ensures)
            (caller_stands n g.last c.args.caller.now before.call left (work_is before.call c.args.caller.now before.work) held.server s made h.needs log of c.take-held.ensures.stands.0 h.turn))),
        same_operated held.server.book s.book held.server.number s.number _ c.on_server-left.ensures.same.book c.on_server-left.ensures.same.number
            (others_at_server held.server.book.script (ActPlace.Server held.server.number) log _
            (call_at_server n c.of-stood.result.value.work before.call left (core_of c.of-before.result.value.server) log g.last
            (ap (λ (a : CallerOf). a.work) c.of-stood.ensures ∙ work_is before.call c.args.caller.now before.work) before.calls)
            c.take-held.ensures.stands.1),
      ),
    )

pub returns-clause-step : goal.returns-clause-step
returns-clause-step g c =
    let before = c.requires.1.1.1 in
    let held = c.take-held.result in
    let log = c.take-held.new.turn.seen in
    let n = c.args.stepper.number in
    let left = c.on_server-left.result.0.value in
    let s = c.on_server-left.new.server in
    let h = fits _ c.args.turn.now.fixed n c.args.caller.now c.take-held.ensures.fixed before in
    let m = c.on_server-left.ensures.step in
    let made : MadeAtServer before.call left held.server s = subst (λ (x : MachineOf). MadeAtServer x left held.server s) (call_is before.call m.call c.args.caller.now before.work m.was) m.step in
    caller_stepped n g.last c.args.caller.now before.call left (work_is before.call c.args.caller.now before.work) held.server s made h.needs log c.args.turn.now.numbers c.args.turn.now.seen c.give_step.new.turn.seen
    c.on_server-left.new.self c.requires.1.1.0.number c.take-held.ensures.seen
    (ap (λ (t : TurnState ServerIdentity MadeStep). t.seen) c.give_step.ensures
    ∙ (λ i. log ++ entry_at_server n (c.of-stood.ensures i).work left (core_of (c.of-before.ensures i).server) log g.last ∷ []))
    m c.on_server-left.ensures.knows

pub returns-clause-told : goal.returns-clause-told
returns-clause-told g c =
    subst (λ (n : ℕ). g.G.Gate.was_told c.args.gate.now c.args.stepper.actor c.args.stepper.steps (place.Server n)) (c.number.ensures ∙ ap server_in c.take-held.ensures.fixed) c.pass.ensures
