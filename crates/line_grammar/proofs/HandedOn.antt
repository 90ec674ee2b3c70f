use Rattle.std.proofs.Common.{Result, Ok, Err, ◌≡◌, sym, subst}
use Rattle.std.specs.Prelude.{IsErrAnd}
use Rattle.line_grammar.specs.declared.line_fault.FaultKind.{FaultKind}

-- what holds of a fault holds of the answer that hands it on
pub handed_on : {T : Type 0} (P : Result T FaultKind → Type 0) (r : Result T FaultKind) (kind : FaultKind) → IsErrAnd r (λ other. other ≡ kind) → P (Err kind) → P r
handed_on P (Ok x) kind is p = absurd is
handed_on P (Err other) kind is p = subst (λ k. P (Err k)) (sym is) p
