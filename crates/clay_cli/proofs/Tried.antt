-- A trial that wrote its lines had a run.
use Rattle.std.proofs.Common.{◌≡◌, ℕ, subst}
use Rattle.std.specs.Prelude.{Result, Ok, Err, IfOk, IsOk, Vec}
use Rattle.std.specs.declared.alloc.Global.{Global}
use Rattle.clay_gen.specs.Script.{generated}
use Rattle.store_map.specs.declared.transcript.Transcript.{Transcript}
use Rattle.store_run.specs.Swept.{IsRunToEnd}
use Rattle.clay_cli.specs.Trial.{IsTried}

abbrev Ran : ℕ → ℕ → Type 0
Ran start size = (transcript : Transcript) × IsRunToEnd (generated start size) transcript

none_ok : (T E : Type 0) (e : E) → IsOk {T = T} {E = E} (Err e) → ⊥
none_ok T E e ok = cc

ran : {E : Type 0} (start size : ℕ) (made : Result (Vec ℕ Global) E) → IfOk made (λ text. IsTried start size text.items) → IsOk made → Ran start size
ran start size (Ok text) tried ok = (tried.transcript, tried.run)
ran {E = E} start size (Err e) tried ok = absurd (none_ok (Vec ℕ Global) E e ok)

pub has_run : {E : Type 0} (start size start' size' : ℕ) (made : Result (Vec ℕ Global) E) → start ≡ start' → size ≡ size'
    → IfOk made (λ text. IsTried start size text.items) → IsOk made → Ran start' size'
has_run start size start' size' made first second tried ok =
    subst (λ (n : ℕ). Ran n size') first (subst (λ (n : ℕ). Ran start n) second (ran start size made tried ok))
