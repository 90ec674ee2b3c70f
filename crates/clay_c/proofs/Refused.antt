-- Numbers that are refused are those of no code.
use Rattle.std.proofs.Common.{◌≡◌, Option, Result, Ok, Err, IfOk, inl, inr, sym, subst, arith}
use Rattle.std.specs.Prelude.{IfErr, MatchOption}
use Rattle.std.specs.Result.{result_ok}
use Rattle.clay_aloof.specs.Shape.{AloofShape}
use Rattle.clay_aloof.specs.Limits.{IsAloof, IsFirstFault}
use Rattle.clay_aloof.specs.declared.aloof_fault.BadAloof.{BadAloof}
use Rattle.clay_aloof.specs.declared.aloof_fault.BadAloof.TheVariants.{DataCount, ParityCount, Helpers, Layers, Width, ChunkSize}

refused : (a : AloofShape) (fault : BadAloof) → IsFirstFault a fault → IsAloof a → ⊥
refused a DataCount f h = let k = h.limits.data_chunks in omega (arith, f, k)
refused a ParityCount f h = let m = h.limits.parity_chunks in elim f.1 [ inl few ↦ omega (arith, few, m.0) | inr many ↦ omega (arith, many, m.1) ]
refused a Helpers f h = let d = h.limits.helpers in elim f.3 [ inl few ↦ omega (arith, few, d.0) | inr many ↦ omega (arith, many, d.1) ]
refused a Layers f h = let n = h.limits.layers in omega (arith, f.1, n)
refused a Width f h = let w = h.limits.width in elim f.2 [ inl few ↦ omega (arith, few, w.0) | inr many ↦ omega (arith, many, w.1) ]
refused a ChunkSize f h = let b = h.limits.chunk in omega (arith, f.4, b)

-- a geometry is made, or the numbers are those of no code
pub made_or_none : (result : Result AloofShape BadAloof) (made : Option AloofShape) (a : AloofShape) → made ≡ result_ok result
    → IfOk result (λ g. g ≡ a) → IfOk result IsAloof → IfErr result (IsFirstFault a) → MatchOption made (IsAloof a → ⊥) (λ g. (g ≡ a) × IsAloof a)
made_or_none (Ok g) made a is same aloof fault = subst (λ r. MatchOption r (IsAloof a → ⊥) (λ g. (g ≡ a) × IsAloof a)) (sym is) (same, subst IsAloof same aloof)
made_or_none (Err e) made a is same aloof fault = subst (λ r. MatchOption r (IsAloof a → ⊥) (λ g. (g ≡ a) × IsAloof a)) (sym is) (refused a e fault)
