use Rattle.std.proofs.Common.{rules, ℕ, ◌+◌, length, ap, ◌∙◌, arith}
use Rattle.std.proofs.lemmas.List.{length_push}
use Rattle.run_seats.specs.Places.{server_for}
use Rattle.store_run.specs.Dealt.{turns_of}
use Rattle.store_run.proofs.Locking.{piles_begin, piles_go_on}
use Rattle.store_run.proofs.locked_places.lock_servers.Goals as goal

pub loop-number-init : goal.loop-number-init
loop-number-init c =
    record {
      count = search rules;
      turn_count = search rules;
      piles =
          piles_begin (server_for c.args.script.now c.args.book.now) (turns_of c.args.script.now) c.in_ok-locks.locks.items c.in_ok-turns.turns.items
          c.in_ok-locks.ensures.items c.in_ok-turns.ensures.items;
      room = search rules;
      turn_room = search rules;
    }

pub loop-number-preserved : goal.loop-number-preserved
loop-number-preserved c =
    let inv = c.loop-number.invariant in
    let lock = c.in_ok-lock.lock in
    let its = c.in_ok-lock.its_turns in
    record {
      count = ap length c.push_reserved.ensures.items ∙ (length_push c.loop-number.locks.items lock ∙ ap (λ (n : ℕ). n + 1) inv.count);
      turn_count = ap length c.push_reserved-in-loop-number.ensures.items ∙ (length_push c.loop-number.turns.items its ∙ ap (λ (n : ℕ). n + 1) inv.turn_count);
      piles =
          piles_go_on (server_for c.args.script.now c.args.book.now) (turns_of c.args.script.now) c.loop-number.locks.items c.loop-number.turns.items
          c.loop-number.number inv.count inv.piles lock its c.in_ok-lock.ensures
          c.push_reserved.new.self.items c.push_reserved-in-loop-number.new.self.items c.push_reserved.ensures.items
          c.push_reserved-in-loop-number.ensures.items;
      room = omega (arith, c.push_reserved.ensures.capacity, inv.room);
      turn_room = omega (arith, c.push_reserved-in-loop-number.ensures.capacity, inv.turn_room);
    }

pub returns-clause-dealt : goal.returns-clause-dealt
returns-clause-dealt c =
    let inv = c.loop-number.invariant in
    record { count = omega (arith, inv.count, c.loop-number-test.false, c.n-count.ensures.value); piles = inv.piles }
