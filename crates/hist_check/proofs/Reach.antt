-- How far an actor's calls are known to be there.
use Rattle.std.proofs.Common.{◌≡◌, ℕ, ◌<◌, ◌≤◌, ◌⊎◌, Bool, true, false, List, refl, sym, ap, ◌∙◌, arith, inl, inr, subst}
use Rattle.std.specs.Prelude.{Option, None, Some, IfSome, cond, unwrap_or}
use Rattle.std.proofs.lemmas.Bool.{cases_lt, eqb-true, false_from_ne_true}
use Rattle.store_map.specs.declared.call_name.CallName.{CallName}
use Rattle.store_map.specs.declared.call_name.CallName.TheVariants.{Client, Repairer}
use Rattle.hist_rules.specs.Calls.{with_number, same_actor, is_named}
use Rattle.hist_rules.specs.CallsInOrder.{all_below}
use Rattle.hist_tables.specs.Tables.{value_at, has, IsSetOf}
use Rattle.hist_tables.specs.declared.actor_table.ActorTable.{ActorTable}
use Rattle.hist_check.specs.Reached.{AreReached}
use Rattle.hist_check.proofs.Below.{below_all, below_each}

-- whether the call's actor has all its calls below a bound there
abbrev pub reaches : List CallName → CallName → ℕ → Bool
reaches calls call bound = all_below (λ number. is_named (with_number call number) calls) bound

pub same_with : (one other : CallName) → same_actor one other ≡ true → (number : ℕ) → with_number one number ≡ with_number other number
same_with (Client a) (Client b) same number = λ k. Client (record { client = eqb-true a.client b.client same k; number = number })
same_with (Repairer a) (Repairer b) same number = λ k. Repairer (record { repairer = eqb-true a.repairer b.repairer same k; number = number })
same_with (Client a) (Repairer b) same number = cc
same_with (Repairer a) (Client b) same number = cc

-- what the table has for a call
pub reached_at : (calls : List CallName) (call : CallName) (found : Option ℕ) (from : ℕ) → from ≡ unwrap_or found 0 → IfSome found (λ bound. reaches calls call bound ≡ true) → reaches calls call from ≡ true
reached_at calls call None from is known = ap (reaches calls call) is
reached_at calls call (Some bound) from is known = ap (reaches calls call) is ∙ known

pub reached_before : (calls : List CallName) (call : CallName) (from number : ℕ) → reaches calls call from ≡ true → number ≤ from → reaches calls call number ≡ true
reached_before calls call from number known le =
    below_all (λ k. is_named (with_number call k) calls) number (λ k below. below_each (λ n. is_named (with_number call n) calls) from k known (omega (arith, le, below)))

pub reached_on : (calls : List CallName) (set : _) (call : CallName) (from number : ℕ) → IsSetOf set calls → reaches calls call from ≡ true
    → ((k : ℕ) → from ≤ k → k < number → has set (with_number call k) ≡ true) → reaches calls call number ≡ true
reached_on calls set call from number whole known more =
    below_all (λ k. is_named (with_number call k) calls) number (λ k below. by k below (cases_lt k from))
  where
    by : (k : ℕ) → k < number → ((k < from) ⊎ (from ≤ k)) → is_named (with_number call k) calls ≡ true
    by k below (inl known_k) = below_each (λ n. is_named (with_number call n) calls) from k known known_k
    by k below (inr new_k) = sym (whole (with_number call k)) ∙ more k new_k below

pub not_reached : (calls : List CallName) (set : _) (call : CallName) (from number : ℕ) → IsSetOf set calls
    → (((k : ℕ) → from ≤ k → k < number → has set (with_number call k) ≡ true) → ⊥) → false ≡ reaches calls call number
not_reached calls set call from number whole lacks =
    sym (false_from_ne_true (reaches calls call number) (λ all. lacks (λ k le below. whole (with_number call k) ∙ below_each (λ n. is_named (with_number call n) calls) number k all below)))

-- the table after a further number
pub reached_more : (calls : List CallName) (old new : ActorTable) (call : CallName) (number : ℕ)
    → ((other : CallName) → value_at new other ≡ cond (same_actor other call) (Some number) (value_at old other))
    → AreReached calls old → reaches calls call number ≡ true → AreReached calls new
reached_more calls old new call number put known reached other =
    subst (λ (found : Option ℕ). IfSome found (λ bound. reaches calls other bound ≡ true)) (sym (put other)) (by (same_actor other call) refl)
  where
    by : (b : Bool) → same_actor other call ≡ b → IfSome (cond {A = Option ℕ} b (Some number) (value_at old other)) (λ bound. reaches calls other bound ≡ true)
    by true same = (λ k. all_below (λ n. is_named (same_with other call same n k) calls) number) ∙ reached
    by false other_actor = known other
