use Rattle.std.proofs.Common.{◌∷◌, ◌++◌, [], ℕ, refl, sym, ap, subst, ◌∙◌}
use Rattle.store_map.specs.declared.actor.Actor.TheVariants as actor
use Rattle.store_core.specs.Act.{Act}
use Rattle.store_core.specs.ActPlace.{ActPlace}
use Rattle.store_core.specs.Server.{Server}
use Rattle.store_core.specs.Told.{Told}
use Rattle.thread_laws.specs.MadeSteps.{MadeStep}
use Rattle.chunk_server.specs.Core.{core_of}
use Rattle.turn_lock.specs.TurnState.{TurnState}
use Rattle.thread_laws.specs.AtServer.{StandsAtServer}
use Rattle.thread_laws.specs.Entries.{steps_in}
use Rattle.thread_laws.specs.Numbers.{Counts}
use Rattle.thread_laws.specs.Operated.{IsOperated}
use Rattle.thread_laws.proofs.Operated.{line_at_server}
use Rattle.run_seats.specs.Fixed.{server_identity, server_in}
use Rattle.run_seats.specs.Plain.{plain_at_server, line_step}
use Rattle.run_seats.proofs.Holding.{holding}
use Rattle.run_seats.proofs.Operated.{same_operated}
use Rattle.run_seats.proofs.Operating.{line_fits, line_theirs}
use Rattle.run_seats.proofs.PlainSteps.{plain_stands, plain_added}
use Rattle.run_seats.specs.declared.server_box.ServerBox.{ServerBox}
use Rattle.run_seats.specs.declared.server_box.ServerIdentity.{ServerIdentity}
use Rattle.run_seats.specs.declared.gate.Place.TheVariants as place
use Rattle.run_seats.proofs.operations.operate_server.Goals as goal

pub operate-requires : goal.operate-requires
operate-requires g c = c.requires.1.1.1.of_server

pub give_server-requires : goal.give_server-requires
give_server-requires g c =
    let held = c.take-held.result in
    let of : Counts = record { clients = held.clients; repairers = held.repairers } in
    let log = c.take-held.new.turn.seen in
    let n = c.args.stepper.number in
    let step = line_step c.args.line in
    let now = c.operate.new.server in
    let f = line_fits _ c.args.turn.now.fixed n c.args.turn.now.seen c.args.line c.take-held.ensures.fixed c.requires.1.1.1 in (
      holding c.args.lock.now c.args.stepper.number _ (server_identity c.take-held.result) _ c.args.turn.now c.take-held.new.turn c.requires.1.1.0 c.take-held.ensures.turn c.take-held.ensures.fixed
          (λ i. record { number = c.operate.ensures.same.number i; opening = c.operate.ensures.same.book i; clients = c.take-held.result.clients; repairers = c.take-held.result.repairers }) refl,
      (
        subst (λ (number : ℕ). StandsAtServer of number (core_of now) (log ++ plain_at_server n actor.Operator (Act.AtServer c.of-before.result.value.server.number step) (core_of c.of-before.result.value.server) log g.last ∷ []))
            (sym c.operate.ensures.same.number)
            (subst (λ (b : ServerBox). StandsAtServer of held.server.number (core_of now) (log ++ plain_at_server n actor.Operator (Act.AtServer b.server.number step) (core_of b.server) log g.last ∷ []))
            (sym c.of-before.ensures)
            (plain_stands held.server.number n g.last actor.Operator step (core_of held.server) (core_of now) (ap (λ (p : Server × Told). p.0) c.operate.ensures.core) log of c.take-held.ensures.stands.0 f.turn)),
        same_operated held.server.book now.book held.server.number now.number _ c.operate.ensures.same.book c.operate.ensures.same.number
            (subst
            (λ (b : ServerBox). IsOperated held.server.book.script (ActPlace.Server held.server.number)
            (steps_in (log ++ plain_at_server n actor.Operator (Act.AtServer b.server.number step) (core_of b.server) log g.last ∷ [])))
            (sym c.of-before.ensures)
            (line_at_server of held.server.book.script (ActPlace.Server held.server.number) n f.turn c.args.turn.now.numbers c.requires.1.1.0.number c.args.turn.now.seen log
            (plain_at_server n actor.Operator (Act.AtServer held.server.number step) (core_of held.server) log g.last).1 c.take-held.ensures.stands.0.turns c.take-held.ensures.seen refl (line_theirs c.args.line) f.next
            c.take-held.ensures.stands.1)),
      ),
    )

pub returns-clause-step : goal.returns-clause-step
returns-clause-step g c =
    let held = c.take-held.result in
    let log = c.take-held.new.turn.seen in
    let n = c.args.stepper.number in
    let step = line_step c.args.line in
    let f = line_fits _ c.args.turn.now.fixed n c.args.turn.now.seen c.args.line c.take-held.ensures.fixed c.requires.1.1.1 in
    record {
      server = held.server.number;
      acts = f.acts;
      added =
          plain_added held.server.number n g.last actor.Operator step (core_of held.server) (core_of c.operate.new.server) (ap (λ (p : Server × Told). p.0) c.operate.ensures.core) log c.args.turn.now.numbers
          c.args.turn.now.seen c.give_server.new.turn.seen c.requires.1.1.0.number c.take-held.ensures.seen
          (ap (λ (t : TurnState ServerIdentity MadeStep). t.seen) c.give_server.ensures
          ∙ (λ i. log ++ plain_at_server n actor.Operator (Act.AtServer (c.of-before.ensures i).server.number step) (core_of (c.of-before.ensures i).server) log g.last ∷ []));
    }

pub returns-clause-told : goal.returns-clause-told
returns-clause-told g c =
    subst (λ (n : ℕ). g.G.Gate.was_told c.args.gate.now c.args.stepper.actor c.args.stepper.steps (place.Server n)) (c.number.ensures ∙ ap server_in c.take-held.ensures.fixed) c.pass.ensures
