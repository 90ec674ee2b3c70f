-- Which kind of actor has a number.
use Rattle.std.proofs.Common.{◌≡◌, ℕ, ◌+◌, ◌-◌, ◌<◌, ◌≤◌, Bool, true, false, cond, nat_lt, nat_eq, length, refl, sym, ap, ◌∙◌, arith, true≢false, eq-eqb, eqb-true, ltb-false, ltb-true}
use Rattle.store_map.specs.declared.actor.Actor.{Actor}
use Rattle.store_map.specs.declared.actor.Actor.TheVariants as actor
use Rattle.thread_laws.specs.Numbers.{Counts, actor_at}
use Rattle.thread_laws.specs.Logs.{counts_of}
use Rattle.actors.specs.Callers.{PartOf, who_of}
use Rattle.run_seats.specs.Seated.{IsSeated}
use Rattle.run_seats.specs.SeatedActors.{IsSeatedActor, number_of}
use Rattle.run_seats.specs.declared.seated.Seated.{Seated}
use Rattle.run_seats.specs.declared.seated_actor.SeatedActor.{SeatedActor}
use Rattle.run_seats.specs.declared.seated_actor.SeatedActor.TheVariants as kind
use Rattle.run_seats.specs.declared.store.Store.{Store}
use Rattle.store_run.specs.Dealt.{turns_of}
use Rattle.store_run.specs.Leaving.{is_client}

cond_by : {A : Type 0} (P : A → Type 0) (b : Bool) (x y : A) → (b ≡ true → P x) → (b ≡ false → P y) → P (cond {A = A} b x y)
cond_by P true x y f g = f refl
cond_by P false x y f g = g refl

above : (n m : ℕ) → m ≤ n → nat_eq n m ≡ false → m < n
above n m least apart = let differ : n ≡ m → ⊥ = λ same. (let one : nat_eq n m ≡ true = eq-eqb n m same in cc) in omega (arith, least, differ)

-- what is so of the actor of a number is so of a client below the clients' count, and so on
by_kind : (of : Counts) (n : ℕ) (P : Actor → Type 0) (Q : Type 0) → (n < of.clients → P (actor.Client n) → Q)
    → (of.clients ≤ n → n < of.clients + of.repairers → P (actor.Repairer (n - of.clients)) → Q) → (n ≡ of.clients + of.repairers → P actor.Sweeper → Q)
    → (of.clients + of.repairers < n → P actor.Operator → Q) → P (actor_at of n) → Q
by_kind of n P Q client repairer sweeper operator =
    cond_by (λ a. P a → Q) (nat_lt n of.clients) _ _ (λ e. client (ltb-true n of.clients e))
    (λ past. cond_by (λ a. P a → Q) (nat_lt n (of.clients + of.repairers)) _ _ (λ e. repairer (ltb-false n of.clients past) (ltb-true n (of.clients + of.repairers) e))
    (λ far. cond_by (λ a. P a → Q) (nat_eq n (of.clients + of.repairers)) _ _ (λ e. sweeper (eqb-true n (of.clients + of.repairers) e))
    (λ apart. operator (above n (of.clients + of.repairers) (ltb-false n (of.clients + of.repairers) far) apart))))

client_below : (of : Counts) (n : ℕ) → is_client (actor_at of n) ≡ true → n < of.clients
client_below of n =
    by_kind of n (λ a. is_client a ≡ true) (n < of.clients) (λ less is. less) (λ least less is. absurd (cc (is))) (λ same is. absurd (cc (is))) (λ more is. absurd (cc (is)))

repairer_between : (of : Counts) (n place : ℕ) → actor.Repairer place ≡ actor_at of n → (of.clients ≤ n) × (n < of.clients + of.repairers)
repairer_between of n place =
    by_kind of n (λ a. actor.Repairer place ≡ a) ((of.clients ≤ n) × (n < of.clients + of.repairers)) (λ less is. absurd (cc (is))) (λ least less is. (least, less)) (λ same is. absurd (cc (is)))
    (λ more is. absurd (cc (is)))

pub sweeper_at : (of : Counts) (n : ℕ) → actor.Sweeper ≡ actor_at of n → n ≡ of.clients + of.repairers
sweeper_at of n =
    by_kind of n (λ a. actor.Sweeper ≡ a) (n ≡ of.clients + of.repairers) (λ less is. absurd (cc (is))) (λ least less is. absurd (cc (is))) (λ same is. same) (λ more is. absurd (cc (is)))

pub operator_behind : (of : Counts) (n : ℕ) → actor.Operator ≡ actor_at of n → of.clients + of.repairers < n
operator_behind of n =
    by_kind of n (λ a. actor.Operator ≡ a) (of.clients + of.repairers < n) (λ less is. absurd (cc (is))) (λ least less is. absurd (cc (is))) (λ same is. absurd (cc (is))) (λ more is. more)

module _ (store : Store) (seated : Seated) (is : IsSeated store seated) where
  pub client_number : is_client seated.actor ≡ true → seated.turns.number < length store.script.now.clients
  client_number client = client_below (counts_of store.script.now) seated.turns.number (ap is_client (sym is.turn.whose) ∙ client)

  pub repairer_number : is_client seated.actor ≡ false
      → (length store.script.now.clients ≤ seated.turns.number) × (seated.turns.number < length store.script.now.clients + length store.script.now.repairers)
  repairer_number other = by seated.caller.part refl
    where
      by : (part : PartOf) → seated.caller.part ≡ part
          → (length store.script.now.clients ≤ seated.turns.number) × (seated.turns.number < length store.script.now.clients + length store.script.now.repairers)
      by (PartOf.OfClient calls) e =
          let client : is_client seated.actor ≡ true = ap is_client (is.whose ∙ ap (λ (p : PartOf). who_of p seated.place) e) in
          absurd (true≢false (sym client ∙ other))
      by (PartOf.OfRepairer calls) e =
          repairer_between (counts_of store.script.now) seated.turns.number seated.place (sym (is.whose ∙ ap (λ (p : PartOf). who_of p seated.place) e) ∙ is.turn.whose)

-- each has a number of the script's turns
pub number_below : (store : Store) (who : SeatedActor) → IsSeatedActor store who → number_of who < turns_of store.script.now
number_below store (kind.Caller seated) is = is.turn.below
number_below store (kind.Sweeper seated) is = is.turn.below
number_below store (kind.Operator seated) is = is.turn.below
