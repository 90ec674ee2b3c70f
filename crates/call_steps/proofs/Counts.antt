-- Counts of a call that took nothing.
use Rattle.std.proofs.Common.{◌≡◌, ℕ, zero, suc, nat_lt, Bool, false, cond, replicate, None, Some, refl, ap}
use Rattle.std.specs.List.{list_any}
use Rattle.call_steps.specs.CallOf.{taken_of}

no_count : (servers : ℕ) → list_any (nat_lt 0) (replicate {A = ℕ} servers 0) ≡ false
no_count zero = refl
no_count (suc servers) = no_count servers

-- it has taken none
pub none_taken : (servers : ℕ) → taken_of (replicate {A = ℕ} servers 0) ≡ None
none_taken servers = ap (λ (some : Bool). cond some (Some (replicate {A = ℕ} servers 0)) None) (no_count servers)
