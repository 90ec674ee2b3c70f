-- Turns that are taken off the end of a list, and the workers that have them.
use Rattle.std.proofs.Common.{◌≡◌, ℕ, zero, suc, List, [], ◌∷◌, ◌++◌, length, IfSome, slice_get, refl, sym, ap, subst, ◌∙◌, true, false, eq-eqb}
use Rattle.atomic_table.specs.Seated.{TableId}
use Rattle.turn_lock.specs.History.{is_among}
use Rattle.turn_lock.specs.TurnState.{TurnState, new_turn}
use Rattle.run_tests.specs.declared.worker_tests.Worker.{Worker}
use Rattle.run_tests.specs.Workers.{IsReady}

pub without_last : {A : Type 0} (P : ℕ → A → Type 0) (xs : List A) (x : A) → ((k : ℕ) → IfSome (slice_get (xs ++ x ∷ []) k) (P k)) → (k : ℕ) → IfSome (slice_get xs k) (P k)
without_last P [] x all k = tt
without_last P (y ∷ xs) x all zero = all zero
without_last P (y ∷ xs) x all (suc k) = without_last (λ i. P (suc i)) xs x (λ i. all (suc i)) k

pub at_last : {A : Type 0} (P : ℕ → A → Type 0) (xs : List A) (x : A) → ((k : ℕ) → IfSome (slice_get (xs ++ x ∷ []) k) (P k)) → P (length xs) x
at_last P [] x all = all zero
at_last P (y ∷ xs) x all = at_last (λ i. P (suc i)) xs x (λ i. all (suc i))

-- a worker with a new turn is ready
pub new_is_ready : (lock : TableId) (turn : TurnState ℕ ℕ) (n : ℕ) (worker : Worker) → turn ≡ new_turn lock 7 n → worker.turn ≡ turn → worker.number ≡ n → IsReady lock worker
new_is_ready lock turn n worker new has named =
    let is : worker.turn ≡ new_turn lock 7 n = has ∙ new in
    record {
      own = ap (λ (t : TurnState ℕ ℕ). t.lock) is;
      free = ap (λ (t : TurnState ℕ ℕ). t.holds) is;
      number = ap (λ (t : TurnState ℕ ℕ). is_among worker.number t.numbers) is ∙ ap (λ (k : ℕ). is_among k (n ∷ [])) named ∙ itself n;
    }
  where
    itself : (n : ℕ) → is_among n (n ∷ []) ≡ true
    itself n = ap (λ b. Rattle.std.proofs.Common.◌||◌ b false) (eq-eqb n n refl)
