-- A call without takes has no line, and one with takes has.
use Rattle.std.proofs.Common.{◌≡◌, ℕ, zero, suc, true, false, List, [], ◌∷◌, ◌++◌, replicate, Option, None, Some, refl, sym, ap, ◌∙◌, nat_lt, if◌then◌else◌}
use Rattle.std.specs.Prelude.{unwrap_or}
use Rattle.std.specs.List.{list_any}
use Rattle.std.proofs.lemmas.List.{append-nil}
use Rattle.store_map.specs.declared.call_name.CallName.{CallName}
use Rattle.store_map.specs.declared.line.GLine.{GLine}
use Rattle.store_core.specs.Shown.{take_line}

none_is_one : (servers : ℕ) → list_any (nat_lt 0) (replicate {A = ℕ} servers 0) ≡ false
none_is_one zero = refl
none_is_one (suc n) = none_is_one n

pub nothing_taken : (servers : ℕ) (lines : List GLine) (call : CallName) (takes : Option (List ℕ)) → takes ≡ None
    → lines ≡ lines ++ take_line call (unwrap_or takes (replicate {A = ℕ} servers 0))
nothing_taken servers lines call takes none =
    let zeros : List ℕ = replicate {A = ℕ} servers 0 in
    let empty : take_line call zeros ≡ [] = ap (λ b. if b then record { call = call; takes = zeros } ∷ [] else []) (none_is_one servers) in
    sym (ap (λ t. lines ++ take_line call (unwrap_or t zeros)) none ∙ ap (λ l. lines ++ l) empty ∙ append-nil lines)

-- a call that took something
pub something_taken : (servers : ℕ) (lines next : List GLine) (call : CallName) (takes : Option (List ℕ)) (given copied : List ℕ) → takes ≡ Some given
    → list_any (nat_lt 0) given ≡ true → copied ≡ given → next ≡ lines ++ record { call = call; takes = copied } ∷ []
    → next ≡ lines ++ take_line call (unwrap_or takes (replicate {A = ℕ} servers 0))
something_taken servers lines next call takes given copied is any same one =
    one ∙ ap (λ t. lines ++ record { call = call; takes = t } ∷ []) same
    ∙ sym (ap (λ t. lines ++ take_line call (unwrap_or t (replicate {A = ℕ} servers 0))) is ∙ ap (λ b. lines ++ (if b then record { call = call; takes = given } ∷ [] else [])) any)
