use Rattle.std.proofs.Common.{rules, ◌≡◌, ℕ, [], ◌∷◌, ◌++◌, length, subst, refl, IfSome, slice_get}
use Rattle.std.proofs.lemmas.List.Elements.{All-push}
use Rattle.turn_lock.specs.TurnState.{TurnState, new_turn}
use Rattle.run_tests.specs.declared.worker_tests.Worker.{Worker}
use Rattle.run_tests.specs.Workers.{IsReady}
use Rattle.run_tests.proofs.Hiring.{without_last, at_last, new_is_ready}
use Rattle.run_tests.proofs.working.hire.Goals as goal

pub loop-turn-preserved : goal.loop-turn-preserved
loop-turn-preserved c =
    let inv = c.loop-turn.invariant in
    let z = c.in_ok-lock.lock in
    let left = c.pop.new.self.items in
    let parts : c.loop-turn.turns.items ≡ left ++ c.in-Some.turn ∷ [] = search rules in
    let before : (k : ℕ) → IfSome (slice_get (left ++ c.in-Some.turn ∷ []) k) (λ t. t ≡ new_turn z 7 k) =
    subst (λ items. (k : ℕ) → IfSome (slice_get items k) (λ (t : TurnState ℕ ℕ). t ≡ new_turn z 7 k)) parts inv.turns in
    let worker : Worker = record { turn = c.in-Some.turn; number = c.len.result; left = c.args.lines } in
    record {
      count = search rules;
      room = search rules;
      turns = without_last (λ k t. t ≡ new_turn z 7 k) left c.in-Some.turn before;
      ready = rw c.push_reserved.ensures.items (All-push (IsReady z) c.loop-turn.workers.items worker inv.ready (new_is_ready z c.in-Some.turn (length left) worker (at_last (λ k t. t ≡ new_turn z 7 k) left c.in-Some.turn before) refl (search rules)));
    }
