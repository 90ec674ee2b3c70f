-- Whose turn a number is.
use Rattle.std.proofs.Common.{◌≡◌, ℕ, ◌+◌, ◌-◌, ◌<◌, ◌≤◌, Bool, true, false, cond, nat_lt, nat_eq, refl, sym, ap, ◌∙◌, arith, eq-eqb, ne_eqb}
use Rattle.std.proofs.lemmas.Bool.{ltb-false, ltb-true, lt-ltb}
use Rattle.store_map.specs.declared.actor.Actor.{Actor}
use Rattle.store_map.specs.declared.actor.Actor.TheVariants as actor
use Rattle.thread_laws.specs.Numbers.{Counts, actor_at, IsTurnOf}

cond_by : {A : Type 0} (P : A → Type 0) (b : Bool) (x y : A) → (b ≡ true → P x) → (b ≡ false → P y) → P (cond {A = A} b x y)
cond_by P true x y f g = f refl
cond_by P false x y f g = g refl

not_below : (a b : ℕ) → b ≤ a → nat_lt a b ≡ false
not_below a b le = by (nat_lt a b) refl
  where
    by : (c : Bool) → nat_lt a b ≡ c → nat_lt a b ≡ false
    by true e = let lt : a < b = ltb-true a b e in absurd (omega (arith, le, lt))
    by false e = e

-- an actor that has a turn is there
pub client_there : (of : Counts) (n i : ℕ) → actor.Client i ≡ actor_at of n → i < of.clients
client_there of n i =
    cond_by (λ a. actor.Client i ≡ a → i < of.clients) (nat_lt n of.clients) _ _
    (λ e same. let one : i ≡ n = cc (same) in let lt : n < of.clients = ltb-true n of.clients e in omega (arith, one, lt))
    (λ _. cond_by (λ a. actor.Client i ≡ a → i < of.clients) (nat_lt n (of.clients + of.repairers)) _ _ (λ _ same. absurd (cc (same)))
    (λ _. cond_by (λ a. actor.Client i ≡ a → i < of.clients) (nat_eq n (of.clients + of.repairers)) _ _ (λ _ same. absurd (cc (same))) (λ _ same. absurd (cc (same)))))

pub repairer_there : (of : Counts) (n i : ℕ) → actor.Repairer i ≡ actor_at of n → i < of.repairers
repairer_there of n i =
    cond_by (λ a. actor.Repairer i ≡ a → i < of.repairers) (nat_lt n of.clients) _ _ (λ _ same. absurd (cc (same)))
    (λ past. cond_by (λ a. actor.Repairer i ≡ a → i < of.repairers) (nat_lt n (of.clients + of.repairers)) _ _
    (λ e same.
    let one : i ≡ n - of.clients = cc (same) in
    let lt : n < of.clients + of.repairers = ltb-true n (of.clients + of.repairers) e in
    let le : of.clients ≤ n = ltb-false n of.clients past in
    omega (arith, one, lt, le))
    (λ _. cond_by (λ a. actor.Repairer i ≡ a → i < of.repairers) (nat_eq n (of.clients + of.repairers)) _ _ (λ _ same. absurd (cc (same))) (λ _ same. absurd (cc (same)))))

-- the number of each
by_tests : (of : Counts) (n : ℕ) (a b c : Bool) → nat_lt n of.clients ≡ a → nat_lt n (of.clients + of.repairers) ≡ b → nat_eq n (of.clients + of.repairers) ≡ c
    → actor_at of n ≡ cond {A = Actor} a (actor.Client n) (cond {A = Actor} b (actor.Repairer (n - of.clients)) (cond {A = Actor} c actor.Sweeper actor.Operator))
by_tests of n a b c e f g = λ i. cond {A = Actor} (e i) (actor.Client n) (cond {A = Actor} (f i) (actor.Repairer (n - of.clients)) (cond {A = Actor} (g i) actor.Sweeper actor.Operator))

pub client_turn : (of : Counts) (i : ℕ) → i < of.clients → IsTurnOf of i (actor.Client i)
client_turn of i lt =
    record {
      below = omega (arith, lt);
      whose = sym (by_tests of i true (nat_lt i (of.clients + of.repairers)) (nat_eq i (of.clients + of.repairers)) (lt-ltb i of.clients lt) refl refl);
    }

pub repairer_turn : (of : Counts) (i : ℕ) → i < of.repairers → IsTurnOf of (of.clients + i) (actor.Repairer i)
repairer_turn of i lt =
    let n : ℕ = of.clients + i in
    let minus : of.clients + i - of.clients ≡ i = omega arith in
    let within : of.clients + i < of.clients + of.repairers = omega (arith, lt) in
    record {
      below = omega (arith, lt);
      whose =
          sym (by_tests of n false true (nat_eq n (of.clients + of.repairers)) (not_below n of.clients (omega arith)) (lt-ltb n (of.clients + of.repairers) within) refl
          ∙ ap (λ k. actor.Repairer k) minus);
    }

pub sweeper_turn : (of : Counts) → IsTurnOf of (of.clients + of.repairers) actor.Sweeper
sweeper_turn of =
    let n : ℕ = of.clients + of.repairers in
    record {
      below = omega arith;
      whose = sym (by_tests of n false false true (not_below n of.clients (omega arith)) (not_below n n (omega arith)) (eq-eqb n n refl));
    }

pub operator_turn : (of : Counts) → IsTurnOf of (of.clients + of.repairers + 1) actor.Operator
operator_turn of =
    let n : ℕ = of.clients + of.repairers + 1 in
    record {
      below = omega arith;
      whose =
          sym (by_tests of n false false false (not_below n of.clients (omega arith)) (not_below n (of.clients + of.repairers) (omega arith))
          (ne_eqb n (of.clients + of.repairers) (λ e. absurd (omega (arith, e)))));
    }
