use Rattle.std.proofs.Common.{◌≡◌, ℕ, ◌+◌, ◌-◌, ◌*◌, length, take, drop, refl, sym, ap, ◌∙◌, subst, arith}
use Rattle.code_laws.specs.Lagrange.{IsInterpolation}
use Rattle.clay_scalar.proofs.Interpolation.{AreCombined, HaveSums-combined}
use Rattle.clay_scalar.proofs.Parts.{length_of_part, HasCombined-more}
use Rattle.clay_scalar.proofs.solver.Solver.solve.Goals as goal

pub loop-e-preserved : goal.loop-e-preserved
loop-e-preserved c =
    let n = c.len-count.result in
    let e = c.loop-e.e in
    let coefficients = c.as_slice-coefficients.result.now in
    let count : n ≡ length c.args.self.now = c.len-count.ensures ∙ c.self.inside.points.ok.0 ∙ ap length c.self.view_is in
    let square : length coefficients ≡ n * n =
    ap length c.as_slice-coefficients.ensures.value ∙ c.self.invariant.square ∙ ap (λ points. length points * length points) c.self.view_is ∙ sym (λ i. count i * count i) in
    let long : length c.loop-e.out ≡ n * c.args.w = c.loop-e.auto.out ∙ c.requires.out_len ∙ sym (ap (λ k. k * c.args.w) count) in
    let part : ℕ = length (take ((e + 1) * c.args.w - e * c.args.w) (drop (e * c.args.w) c.loop-e.out)) in
    let width : part ≡ c.args.w = length_of_part c.loop-e.out e c.args.w n c.loop-e-test.true long in
    let part_long : length c.combine.new.out ≡ (e + 1) * c.args.w - e * c.args.w = c.combine.auto.out ∙ width ∙ omega arith in
    HasCombined-more c.args.self.now coefficients c.args.syndromes.now c.args.w e n part c.loop-e.out
    (take ((e + 1) * n - e * n) (drop (e * n) coefficients)) c.combine.new.out count width c.loop-e-test.true long part_long refl
    (length_of_part coefficients e n n c.loop-e-test.true square)
    c.combine.ensures c.loop-e.invariant

pub returns : goal.returns
returns c =
    let n = c.len-count.result in
    let coefficients = c.as_slice-coefficients.result.now in
    let count : n ≡ length c.args.self.now = c.len-count.ensures ∙ c.self.inside.points.ok.0 ∙ ap length c.self.view_is in
    let kept : IsInterpolation c.args.self.now coefficients =
    subst (λ points. IsInterpolation points coefficients) c.self.view_is (subst (IsInterpolation c.self.inside.points.items) (sym c.as_slice-coefficients.ensures.value) c.self.invariant) in
    let combined : AreCombined c.args.self.now coefficients c.args.syndromes.now c.loop-e.out c.args.w = record { each = λ d b h l. c.loop-e.invariant.each d b (omega arith) l } in
    HaveSums-combined c.args.self.now coefficients c.args.syndromes.now c.loop-e.out c.args.w kept (λ k. (c.type_inv.syndromes k).fits) combined
