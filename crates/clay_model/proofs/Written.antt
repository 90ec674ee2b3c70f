-- Bytes that are written one after another.
use Rattle.std.proofs.Common.{◌≡◌, ℕ, ◌+◌, ◌<◌, List, length, get_or, set, sym, ap, ◌∙◌, inl, inr, arith}
use Rattle.std.proofs.lemmas.Bool.{cases_eq}
use Rattle.std.proofs.lemmas.List.{get_or-set_same, get_or-set_other}

-- one more byte as it is wanted
pub written_more : (wanted : ℕ → ℕ) (out : List ℕ) (i byte : ℕ) → i < length out → ((k : ℕ) → k < i → get_or out k 0 ≡ wanted k) → byte ≡ wanted i
    → (k : ℕ) → k < i + 1 → get_or (set out i byte) k 0 ≡ wanted k
written_more wanted out i byte within done is k h =
    elim (cases_eq k i) [
      | inl same ↦ ap (λ j. get_or (set out i byte) j 0) same ∙ get_or-set_same out i byte 0 within ∙ is ∙ ap wanted (sym same)
      | inr other ↦ get_or-set_other out i k byte 0 (λ e. omega (arith, other, e)) ∙ done k (omega (arith, h, other))
    ]
