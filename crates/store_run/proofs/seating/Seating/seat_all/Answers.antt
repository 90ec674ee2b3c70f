use Rattle.std.proofs.Common.{◌≡◌, ℕ, ◌+◌, ◌-◌, [], length, OnOk, sym, ap, subst, ◌∙◌, arith}
use Rattle.store_map.specs.declared.actor.Actor.TheVariants as actor
use Rattle.thread_laws.specs.Logs.{counts_of}
use Rattle.thread_laws.specs.Numbers.{IsTurnOf}
use Rattle.run_seats.specs.declared.store.Store.{Store}
use Rattle.store_run.specs.Dealt.{turns_of}
use Rattle.store_run.specs.Seated.{IsSeatedFrom, IsSeating}
use Rattle.store_run.proofs.OneSeated.{none_seated}
use Rattle.store_run.proofs.Seats.{operator_turn, sweeper_turn}
use Rattle.store_run.proofs.seating.Seating.seat_all.Goals as goal

pub seat_operator-requires-clause-turn : goal.seat_operator-requires-clause-turn
seat_operator-requires-clause-turn c =
    let script = c.args.self.now.store.now.script.now in
    let number : length script.clients + length script.repairers + 1 ≡ c.len.result + c.len-2.result + 1 = omega (arith, c.len.ensures, c.len-2.ensures) in
    subst (λ (n : ℕ). IsTurnOf (counts_of script) n actor.Operator) number (operator_turn (counts_of script))

pub seat_operator-requires-clause-seating : goal.seat_operator-requires-clause-seating
seat_operator-requires-clause-seating c =
    let all : c.len.result + c.len-2.result + 1 + 1 ≡ turns_of c.args.self.now.store.now.script.now = omega (arith, c.len.ensures, c.len-2.ensures) in
    none_seated c.args.self.now (c.len.result + c.len-2.result + 1 + 1) all c.requires

pub returns-in_err-seat_operator-clause-store : goal.returns-in_err-seat_operator-clause-store
returns-in_err-seat_operator-clause-store c = c.seat_operator.ensures.store

pub returns-in_err-seat_operator-clause-workers : goal.returns-in_err-seat_operator-clause-workers
returns-in_err-seat_operator-clause-workers c = c.seat_operator.ensures.workers

pub seat_sweeper-requires-clause-turn : goal.seat_sweeper-requires-clause-turn
seat_sweeper-requires-clause-turn c =
    let script = c.args.self.now.store.now.script.now in
    let number : length script.clients + length script.repairers ≡ c.len.result + c.len-2.result = omega (arith, c.len.ensures, c.len-2.ensures) in
    subst (λ (s : Store). IsTurnOf (counts_of s.script.now) (c.len.result + c.len-2.result) actor.Sweeper) (sym c.seat_operator.ensures.store)
    (subst (λ (n : ℕ). IsTurnOf (counts_of script) n actor.Sweeper) number (sweeper_turn (counts_of script)))

pub seat_sweeper-requires-clause-seating : goal.seat_sweeper-requires-clause-seating
seat_sweeper-requires-clause-seating c = c.in_ok-seat_operator.ensures.seated

pub returns-in_err-seat_sweeper-clause-store : goal.returns-in_err-seat_sweeper-clause-store
returns-in_err-seat_sweeper-clause-store c = c.seat_sweeper.ensures.store ∙ c.seat_operator.ensures.store

pub returns-in_err-seat_sweeper-clause-workers : goal.returns-in_err-seat_sweeper-clause-workers
returns-in_err-seat_sweeper-clause-workers c = c.seat_sweeper.ensures.workers ∙ c.seat_operator.ensures.workers

pub seat_repairers-requires : goal.seat_repairers-requires
seat_repairers-requires c =
    let store : c.seat_sweeper.new.self.store.now ≡ c.args.self.now.store.now = c.seat_sweeper.ensures.store ∙ c.seat_operator.ensures.store in
    let callers : c.len.result + c.len-2.result ≡ length c.args.self.now.store.now.script.now.clients + length c.args.self.now.store.now.script.now.repairers =
    (λ i. c.len.ensures i + c.len-2.ensures i) in
    record {
      seating =
          subst (λ (n : ℕ). IsSeatedFrom n c.seat_sweeper.new.self) (callers ∙ ap (λ (s : Store). length s.script.now.clients + length s.script.now.repairers) (sym store)) c.in_ok-seat_sweeper.ensures.seated;
    }

pub returns-in_err-seat_repairers-clause-store : goal.returns-in_err-seat_repairers-clause-store
returns-in_err-seat_repairers-clause-store c = c.seat_repairers.ensures.store ∙ (c.seat_sweeper.ensures.store ∙ c.seat_operator.ensures.store)

pub returns-in_err-seat_repairers-clause-workers : goal.returns-in_err-seat_repairers-clause-workers
returns-in_err-seat_repairers-clause-workers c = c.seat_repairers.ensures.workers ∙ (c.seat_sweeper.ensures.workers ∙ c.seat_operator.ensures.workers)

pub seat_clients-requires : goal.seat_clients-requires
seat_clients-requires c = record {
  seating = subst (λ (n : ℕ). IsSeatedFrom n c.seat_repairers.new.self) (ap (λ (s : Store). length s.script.now.clients) (sym c.seat_repairers.ensures.store)) c.in_ok-seat_repairers.ensures.seated;
}

pub returns-clause-store : goal.returns-clause-store
returns-clause-store c = c.seat_clients.ensures.store ∙ (c.seat_repairers.ensures.store ∙ (c.seat_sweeper.ensures.store ∙ c.seat_operator.ensures.store))

pub returns-clause-workers : goal.returns-clause-workers
returns-clause-workers c = c.seat_clients.ensures.workers ∙ (c.seat_repairers.ensures.workers ∙ (c.seat_sweeper.ensures.workers ∙ c.seat_operator.ensures.workers))

pub returns-clause-seated : goal.returns-clause-seated
returns-clause-seated c =
    let all : turns_of c.seat_clients.new.self.store.now.script.now - 0 ≡ turns_of c.seat_clients.new.self.store.now.script.now = omega arith in
    subst (λ (n : ℕ). OnOk c.seat_clients.result (IsSeating 0 n [] c.seat_clients.new.self)) all c.seat_clients.ensures.seated
