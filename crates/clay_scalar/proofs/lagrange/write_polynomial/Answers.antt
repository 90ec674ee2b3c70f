use Rattle.std.proofs.Common.{◌≡◌, ℕ, ◌+◌, ◌<◌, length, get_or, set, replicate, sym, subst, ap, ◌∙◌, inl, inr, arith}
use Rattle.std.proofs.lemmas.Bool.{cases_lt}
use Rattle.std.proofs.lemmas.Nat.{xor_lt}
use Rattle.std.proofs.lemmas.List.{get_or-set_same, get_or-set_other, get_or-replicate, get_or_past, length-replicate, length-set}
use Rattle.code_laws.proofs.Polynomials.{IsMultiple}
use Rattle.clay_scalar.proofs.Products.{HasFactors, HasFactors-start, HasFactors-own, HasFactors-more, IsFactor, IsLagrange-from_factors}
use Rattle.clay_scalar.proofs.lagrange.write_polynomial.Goals as goal
use Rattle.clay_scalar.proofs.lagrange.write_polynomial.Goals.{then-i-own, else-i-own}

get_or-zeros : (n j : ℕ) → ◌≡◌ {A = ℕ} (get_or (replicate n 0) j 0) 0
get_or-zeros n j =
    elim (cases_lt j n) [
      | inl within ↦ get_or-replicate n j 0 0 within
      | inr past ↦ get_or_past (replicate n 0) j 0 (omega (arith, length-replicate {A = ℕ} n 0))
    ]

pub loop-i-init : goal.loop-i-init
loop-i-init c =
    let zeros = c.fill.ensures.after (λ y e. e) in
    HasFactors-start c.args.points.now c.args.own (set c.fill.new.self 0 1) c.requires.within
    (get_or-set_same c.fill.new.self 0 1 0 (omega (arith, c.fill.ensures.len)))
    (λ j h. get_or-set_other c.fill.new.self 0 j 1 0 (λ e. omega arith) ∙ ap (λ xs. get_or xs j 0) zeros ∙ get_or-zeros (length c.args.polynomial.now) j)

pub loop-i-preserved : goal.loop-i-preserved
loop-i-preserved c =
    elim c.if-i-own.branch [
      | then-i-own w ↦
          let factor : IsFactor c.args.points.now c.args.own c.loop-i.i w.inv.result = record {
            own_within = c.requires.within;
            within = c.loop-i-test.true;
            other = w.if-i-own.true;
            byte = xor_lt 8 (get_or c.args.points.now c.args.own 0) (get_or c.args.points.now c.loop-i.i 0) (c.type_inv.points c.args.own).fits (c.type_inv.points c.loop-i.i).fits;
            scaled = w.inv.ensures.inverse;
          } in
          let long : length w.multiply.new.polynomial ≡ length c.args.points.now = w.multiply.auto.polynomial ∙ c.loop-i.auto.polynomial ∙ length-set c.fill.new.self 0 1 ∙ c.fill.ensures.len ∙ c.requires.room in
          let multiple : IsMultiple (length c.args.points.now) (get_or c.args.points.now c.loop-i.i 0) w.inv.result c.loop-i.polynomial w.multiply.new.polynomial = record {
            each = λ j h. w.multiply.ensures j (subst (λ n. j < n) (sym long) h);
          } in
          subst (HasFactors c.args.points.now c.args.own (c.loop-i.i + 1)) (sym w.polynomial-is)
          (HasFactors-more c.args.points.now c.args.own c.loop-i.i w.inv.result c.loop-i.polynomial w.multiply.new.polynomial factor multiple long c.loop-i.invariant)
      | else-i-own w ↦
          let at_own : c.args.own ≡ c.loop-i.i = sym w.if-i-own.false in
          subst (HasFactors c.args.points.now c.args.own (c.loop-i.i + 1)) (sym w.polynomial-is)
          (subst (λ i. HasFactors c.args.points.now c.args.own (i + 1) c.loop-i.polynomial) at_own
          (HasFactors-own c.args.points.now c.args.own c.loop-i.polynomial (subst (λ i. HasFactors c.args.points.now c.args.own i c.loop-i.polynomial) (sym at_own) c.loop-i.invariant)))
    ]

pub returns : goal.returns
returns c =
    let done : c.loop-i.i ≡ length c.args.points.now = omega arith in
    IsLagrange-from_factors c.args.points.now c.args.own c.loop-i.polynomial (subst (λ i. HasFactors c.args.points.now c.args.own i c.loop-i.polynomial) done c.loop-i.invariant)
