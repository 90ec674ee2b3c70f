use Rattle.std.proofs.Common.{rules, ◌≡◌, ℕ, ◌<◌, ◌%◌, [], ◌∷◌, ◌++◌, length, sym, ap, subst, ◌∙◌, refl, arith}
use Rattle.std.specs.Vec.{with_item}
use Rattle.actors.specs.Callers.{PartOf, first_caller}
use Rattle.actors.specs.Inside.{part_by}
use Rattle.thread_laws.specs.Numbers.{IsTurnOf}
use Rattle.thread_laws.specs.Logs.{counts_of}
use Rattle.run_seats.specs.Seated.{IsSeated}
use Rattle.run_seats.specs.declared.seated.Seated.{Seated}
use Rattle.run_seats.specs.declared.seated_actor.SeatedActor.TheVariants as kind
use Rattle.store_run.proofs.Beginning.{first_seated}
use Rattle.store_run.proofs.OneSeated.{its_seat, left_below, seated_on, some_seat}
use Rattle.store_run.proofs.Scripts.{few_calls, of_servers}
use Rattle.store_run.proofs.seating.Seating.seat_caller.Goals as goal

pub take_last-requires : goal.take_last-requires
take_last-requires c =
    let seating = c.args.self.now in
    let some : 0 < length seating.seats.items = some_seat seating c.args.number c.args.place (part_by c.args.part) c.args.actor c.requires.seating c.requires.whose c.requires.turn in
    omega (arith, some, seating.seats.ok.0)

pub new-requires-clause-few : goal.new-requires-clause-few
new-requires-clause-few c = few_calls c.args.self.now.store.now.script.now c.requires.seating.store_is.valid c.args.place (part_by c.args.part) c.requires.part

pub new-requires-clause-below : goal.new-requires-clause-below
new-requires-clause-below c =
    of_servers c.args.self.now.store.now.script.now c.requires.seating.store_is.valid c.opening.result (ap (λ (book : _). book.geometry) c.opening.ensures ∙ c.requires.seating.store_is.code) c.args.place
    (part_by c.args.part) c.requires.part

pub returns-clause-seated : goal.returns-clause-seated
returns-clause-seated c =
    let seating = c.args.self.now in
    let store = seating.store.now in
    let number = c.args.number in
    let part : PartOf = part_by c.args.part in
    let turns = c.in_ok-turns.turns in
    let actor : Seated = record { caller = c.in_ok-caller.caller; actor = c.args.actor; place = c.args.place; steps = 0; turns = turns } in
    let worker = c.index_mut.result.now in
    let left = c.take_last.new.items in
    let seat = its_seat seating number c.args.place part c.args.actor c.requires.seating c.requires.whose c.requires.turn left.items c.take_last.result c.take_last.ensures in
    let turn : IsTurnOf (counts_of store.script.now) turns.number c.args.actor =
    subst (λ (n : ℕ). IsTurnOf (counts_of store.script.now) n c.args.actor) (sym c.in_ok-turns.ensures.number) c.requires.turn in
    let is : IsSeated store actor =
    first_seated store actor c.in_ok-turns.ensures.turns part c.requires.part c.requires.whose turn
    (c.in_ok-caller.ensures ∙ (λ i. first_caller part (c.opening.ensures i) (c.max_tries.ensures i) (seat i))) refl in
    let as_many : c.len.result ≡ length seating.workers.items = search rules in
    seated_on seating number c.requires.seating c.requires.turn.below c.len.result as_many worker (record { actors = c.push_reserved.new.self }) (kind.Caller actor) c.index_mut.ensures.value
    (c.push_reserved.ensures.items ∙ ap (λ l. l ++ kind.Caller actor ∷ []) c.in_ok-reserve.ensures.items) is c.in_ok-turns.ensures.number c.deal.new.self left
    (with_item seating.workers (number % c.len.result) (record { actors = c.push_reserved.new.self })) c.in_ok-turns.ensures.deck
    (left_below seating number c.args.place part c.args.actor c.requires.seating c.requires.whose c.requires.turn left.items c.take_last.result c.take_last.ensures) refl
