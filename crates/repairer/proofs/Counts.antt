-- Takes of a call that has taken nothing.
use Rattle.std.proofs.Common.{◌≡◌, ℕ, zero, suc, nat_lt, false, List, replicate, Option, None, Some, if◌then◌else◌, refl, sym, ap, ◌∙◌}
use Rattle.std.specs.List.{list_any}
use Rattle.call_steps.specs.CallOf.{taken_of}
use Rattle.repairer.specs.Inside.{takes_at}

none_taken : (servers : ℕ) → list_any (nat_lt 0) (replicate {A = ℕ} servers 0) ≡ false
none_taken zero = refl
none_taken (suc servers) = none_taken servers

-- before the gathering is made
pub nothing : (servers : ℕ) (takes : Option (List ℕ)) → takes ≡ None → None ≡ taken_of (takes_at servers takes)
nothing servers takes e =
    sym (ap (λ (counts : Option (List ℕ)). taken_of (takes_at servers counts)) e
    ∙ ap (λ b. if b then Some (replicate {A = ℕ} servers 0) else None) (none_taken servers))
