-- With which statuses the program ends, and what it owes then.
use Rattle.std.proofs.Common.{◌≡◌, ◌⊎◌, inl, inr, ◌∙◌, sym, subst, ℕ, List, Option}
use Rattle.clay_bytes.specs.Stream.{Accepts, AcceptsPrefix}
use Rattle.clay_cli.specs.Top.{IsSilent}
use Rattle.clay_cli.specs.declared.status.Status.{Status}
use Rattle.clay_cli.specs.declared.status.Status.TheVariants.{Done, ScriptRefused, InputTooLong, ReadFault, WriteFault, OutOfMemory}
use Rattle.trace_run.specs.Top.{IsOfInput, Owes}

pub not_failed : (s : Status) → IsOfInput s → s ≡ WriteFault → ⊥
not_failed s (inl done) e = let h : Done ≡ WriteFault = sym done ∙ e in cc
not_failed s (inr refused) e = let h : ScriptRefused ≡ WriteFault = sym refused ∙ e in cc

pub ends_so : (wanted result : Status) → IsOfInput wanted → (result ≡ wanted) ⊎ (result ≡ WriteFault) → IsOfInput result ⊎ (result ≡ WriteFault) ⊎ IsSilent result
ends_so wanted result of (inl same) = inl (subst IsOfInput (sym same) of)
ends_so wanted result of (inr failed) = inr (inl failed)

pub only_too_long : (s : Status) → IsSilent s → (s ≡ ReadFault → ⊥) → (s ≡ InputTooLong) ⊎ (s ≡ OutOfMemory)
only_too_long s (inl too_long) not = inl too_long
only_too_long s (inr (inl fault)) not = absurd (not fault)
only_too_long s (inr (inr memory)) not = inr memory

-- the output that was taken is owed with the status that is answered
pub owed_so : (input : List ℕ) (wanted result : Status) (output bytes accepted now : List ℕ) (old new : Option (List ℕ))
    → result ≡ wanted → bytes ≡ output → Accepts accepted old bytes now new → Owes input wanted output
    → Owes input result output × Accepts accepted old output now new
owed_so input wanted result output bytes accepted now old new is same took owes =
    let P : Status → Type 0 = λ status. Owes input status output in
    let Q : List ℕ → Type 0 = λ made. Accepts accepted old made now new in
    (subst P (sym is) owes, subst Q same took)

-- or a prefix of it was taken
pub part_so : (output bytes accepted now : List ℕ) (old new : Option (List ℕ)) → bytes ≡ output → AcceptsPrefix accepted old bytes now new → AcceptsPrefix accepted old output now new
part_so output bytes accepted now old new same took = let P : List ℕ → Type 0 = λ made. AcceptsPrefix accepted old made now new in subst P same took
