use Rattle.std.proofs.Common.{rules, ◌≡◌, ℕ, ◌%◌, false, [], ◌∷◌, ◌++◌, length, sym, ap, subst, ◌∙◌, refl}
use Rattle.std.specs.Vec.{with_item}
use Rattle.store_map.specs.declared.actor.Actor.TheVariants as actor
use Rattle.thread_laws.specs.Numbers.{IsTurnOf}
use Rattle.thread_laws.specs.Logs.{counts_of}
use Rattle.run_seats.specs.SeatedPlain.{IsOperator}
use Rattle.run_seats.specs.declared.seated_actor.SeatedActor.TheVariants as kind
use Rattle.run_seats.specs.declared.seated_operator.SeatedOperator.{SeatedOperator}
use Rattle.store_run.proofs.Beginning.{first_operator}
use Rattle.store_run.proofs.OneSeated.{none_taken, seated_on}
use Rattle.store_run.proofs.Seats.{others_above}
use Rattle.store_run.proofs.seating.Seating.seat_operator.Goals as goal

pub returns-clause-seated : goal.returns-clause-seated
returns-clause-seated c =
    let seating = c.args.self.now in
    let store = seating.store.now in
    let number = c.args.number in
    let turns = c.in_ok-turns.turns in
    let seated : SeatedOperator = record { lines = c.in_ok-lines.lines; made = 0; turns = turns } in
    let turn : IsTurnOf (counts_of store.script.now) turns.number actor.Operator =
    subst (λ (n : ℕ). IsTurnOf (counts_of store.script.now) n actor.Operator) (sym c.in_ok-turns.ensures.number) c.requires.turn in
    let is : IsOperator store seated = first_operator store seated c.in_ok-turns.ensures.turns turn c.in_ok-lines.ensures refl in
    let as_many : c.len.result ≡ length seating.workers.items = search rules in
    seated_on seating number c.requires.seating c.requires.turn.below c.len.result as_many c.index_mut.result.now (record { actors = c.push_reserved.new.self }) (kind.Operator seated) c.index_mut.ensures.value
    (c.push_reserved.ensures.items ∙ ap (λ l. l ++ kind.Operator seated ∷ []) c.in_ok-reserve.ensures.items) is c.in_ok-turns.ensures.number c.deal.new.self seating.seats
    (with_item seating.workers (number % c.len.result) (record { actors = c.push_reserved.new.self })) c.in_ok-turns.ensures.deck
    (none_taken seating number c.requires.seating (others_above (counts_of store.script.now) false number c.requires.turn.whose)) refl
