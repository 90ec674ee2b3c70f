use Rattle.std.proofs.Common.{◌≡◌, ℕ, ◌+◌, ◌-◌, ◌<◌, length, slice_get, get_or, Some, List, refl, sym, ap, subst, ◌∙◌, arith}
use Rattle.std.proofs.lemmas.Option.{slice_get-get_or}
use Rattle.store_map.specs.declared.actor.Actor.TheVariants as actor
use Rattle.store_map.specs.declared.script.ClientPart.{ClientPart}
use Rattle.thread_laws.specs.Logs.{counts_of}
use Rattle.thread_laws.specs.Numbers.{IsTurnOf}
use Rattle.run_seats.specs.declared.store.Store.{Store}
use Rattle.store_run.specs.Seated.{IsSeatedFrom}
use Rattle.store_run.proofs.Seats.{client_turn}
use Rattle.store_run.proofs.seating.Seating.seat_clients.Goals as goal

pub loop-place-init : goal.loop-place-init
loop-place-init c = record {
  store = refl;
  workers = refl;
  seating = subst (λ (n : ℕ). IsSeatedFrom n c.args.self.now) (sym c.len-place.ensures) c.requires.seating;
}

pub seat_caller-requires-clause-part : goal.seat_caller-requires-clause-part
seat_caller-requires-clause-part c =
    let clients = c.args.self.now.store.now.script.now.clients in
    let place : ℕ = c.loop-place.place - 1 in
    let read : ClientPart = c.index-as_slice-place.result in
    let less : place < length clients = omega (arith, c.loop-place.auto.place, c.loop-place-test.true, c.len-place.ensures) in
    subst (λ (s : Store). slice_get s.script.now.clients place ≡ Some read) (sym c.loop-place.invariant.store)
    (slice_get-get_or clients place read less ∙ ap (λ (x : ClientPart). Some x) (sym (c.index-as_slice-place.is ∙ ap (λ (l : List ClientPart). get_or l place read) c.as_slice.ensures)))

pub seat_caller-requires-clause-turn : goal.seat_caller-requires-clause-turn
seat_caller-requires-clause-turn c =
    let script = c.args.self.now.store.now.script.now in
    let place : ℕ = c.loop-place.place - 1 in
    let less : place < length script.clients = omega (arith, c.loop-place.auto.place, c.loop-place-test.true, c.len-place.ensures) in
    subst (λ (s : Store). IsTurnOf (counts_of s.script.now) place (actor.Client place)) (sym c.loop-place.invariant.store) (client_turn (counts_of script) place less)

pub seat_caller-requires-clause-seating : goal.seat_caller-requires-clause-seating
seat_caller-requires-clause-seating c =
    let next : c.loop-place.place ≡ c.loop-place.place - 1 + 1 = omega (arith, c.loop-place-test.true) in
    subst (λ (n : ℕ). IsSeatedFrom n c.loop-place.self) next c.loop-place.invariant.seating

pub loop-place-preserved : goal.loop-place-preserved
loop-place-preserved c = record {
  store = c.in_ok-seat_caller.ensures.store ∙ c.loop-place.invariant.store;
  workers = c.in_ok-seat_caller.ensures.workers ∙ c.loop-place.invariant.workers;
  seating = c.in_ok-seat_caller.ensures.seated;
}

pub returns-in_err-seat_caller-clause-store : goal.returns-in_err-seat_caller-clause-store
returns-in_err-seat_caller-clause-store c = c.seat_caller.ensures.store ∙ c.loop-place.invariant.store

pub returns-in_err-seat_caller-clause-workers : goal.returns-in_err-seat_caller-clause-workers
returns-in_err-seat_caller-clause-workers c = c.seat_caller.ensures.workers ∙ c.loop-place.invariant.workers

pub returns-clause-store : goal.returns-clause-store
returns-clause-store c = c.loop-place.invariant.store

pub returns-clause-workers : goal.returns-clause-workers
returns-clause-workers c = c.loop-place.invariant.workers

pub returns-clause-seated : goal.returns-clause-seated
returns-clause-seated c =
    let all : c.loop-place.place ≡ 0 = omega (arith, c.loop-place-test.false) in
    subst (λ (n : ℕ). IsSeatedFrom n c.loop-place.self) all c.loop-place.invariant.seating
