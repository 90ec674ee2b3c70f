-- Calls among others, by their names.
use Rattle.std.proofs.Common.{◌≡◌, ℕ, Bool, true, false, nat_eq, ◌&&◌, List, Contains, refl, sym, ap, ◌∙◌, true≢false}
use Rattle.std.specs.Bool.{Decides}
use Rattle.std.proofs.lemmas.Bool.Decides.{Decides-eqb, Decides-and, Decides-like, Decides-by_or, Decides-below_and}
use Rattle.std.proofs.lemmas.List.{get_or_default}
use Rattle.store_map.specs.declared.call_name.ClientCall.{ClientCall}
use Rattle.store_map.specs.declared.call_name.RepairCall.{RepairCall}
use Rattle.store_map.specs.declared.call_name.CallName.{CallName}
use Rattle.store_map.specs.declared.call_name.CallName.TheVariants.{Client, Repairer}
use Rattle.hist_rules.specs.Calls.{number_of, with_number, same_call, is_named}
use Rattle.hist_rules.specs.CallsInOrder.{all_below, follows}
use Rattle.hist_rules.specs.CallOrder.{Follows}

abbrev actor_number : CallName → ℕ
actor_number (Client call) = call.client
actor_number (Repairer call) = call.repairer

abbrev is_client : CallName → Bool
is_client (Client call) = true
is_client (Repairer call) = false

-- a test that fails, of what can't be
pub decides_false : {P : Type 0} → (P → ⊥) → Decides false P
decides_false never = (λ e. absurd (true≢false (sym e)), λ p. absurd (never p))

pub same_call_decides : (one other : CallName) → Decides (same_call one other) (one ≡ other)
same_call_decides (Client a) (Client b) =
    Decides-like (nat_eq a.client b.client && nat_eq a.number b.number) (λ h. λ k. Client (record { client = h.0 k; number = h.1 k })) (λ e. (ap actor_number e, ap number_of e))
    (Decides-and (nat_eq a.client b.client) (nat_eq a.number b.number) (Decides-eqb a.client b.client) (Decides-eqb a.number b.number))
same_call_decides (Repairer a) (Repairer b) =
    Decides-like (nat_eq a.repairer b.repairer && nat_eq a.number b.number) (λ h. λ k. Repairer (record { repairer = h.0 k; number = h.1 k })) (λ e. (ap actor_number e, ap number_of e))
    (Decides-and (nat_eq a.repairer b.repairer) (nat_eq a.number b.number) (Decides-eqb a.repairer b.repairer) (Decides-eqb a.number b.number))
same_call_decides (Client a) (Repairer b) = decides_false (λ e. true≢false (ap is_client e))
same_call_decides (Repairer a) (Client b) = decides_false (λ e. true≢false (sym (ap is_client e)))

pub is_named_decides : (call : CallName) (calls : List CallName) → Decides (is_named call calls) (Contains calls call)
is_named_decides call calls =
    Decides-like (is_named call calls) (λ h. (h.0, h.1, sym (h.2 call))) (λ h. (h.0, h.1, λ d. sym h.2 ∙ get_or_default calls h.0 call d h.1))
    (Decides-by_or (same_call call) (λ other. call ≡ other) (is_named call) (same_call_decides call) refl (λ _ _. refl) calls)

pub follows_decides : (calls : List CallName) (call : CallName) → Decides (follows calls call) (Follows calls call)
follows_decides calls call =
    Decides-below_and (λ number. is_named (with_number call number) calls) (λ number. Contains calls (with_number call number))
    (all_below (λ number. is_named (with_number call number) calls)) (λ number. is_named_decides (with_number call number) calls) refl (λ _. refl) (number_of call)
