use Rattle.std.proofs.Common.{◌≡◌, ℕ, ◌++◌, ◌+◌, ◌*◌, length, get_or, subst, sym, ◌∙◌, arith}
use Rattle.generator_matrix.specs.Generated.{factor_at}
use Rattle.generator_matrix.specs.SmallColumns.{AddsNodes}
use Rattle.generator_matrix.proofs.SmallColumnLaws.{two_added, two_joined, two_cut}
use Rattle.generator_matrix.proofs.small_columns.add_two_nodes.Goals as goal

pub returns : goal.returns
returns c =
    let len : ℕ = c.args.len in
    let factors = c.args.factors.now in
    let values = c.args.values.now in
    let o0 = c.split_at_mut-d0.result.0.now in
    let o1 = c.split_at_mut-d0.result.1.now in
    let n0 = c.add_two_values.new.d0 in
    let n1 = c.add_two_values.new.d1 in
    let l0 : length o0 ≡ len = c.split_at_mut-d0.ensures.front_len in
    let b0 = c.split_at_mut-d0.ensures.back_len in
    let l1 : length o1 ≡ len = omega (arith, c.requires.rows_len) in
    let m0 : length n0 ≡ len = c.add_two_values.auto.d0 ∙ l0 in
    let m1 : length n1 ≡ len = c.add_two_values.auto.d1 ∙ l1 in
    let cut = c.split_at.ensures in
    subst (λ before. AddsNodes 2 len (λ x e. factor_at factors 2 x e) (λ x b. get_or values (x * len + b) 0) before (n0 ++ n1)) (sym c.split_at_mut-d0.ensures.value)
    (two_added len factors c.args.p.now values _ _ _ o0 o1 _ n0 n1 c.requires.column (λ p. omega (arith, c.type_inv.values p))
    (two_cut len values _ _ cut.front cut.back) (two_joined len o0 o1 l0) (two_joined len n0 n1 m0)
    (λ k h. c.add_two_values.ensures.e0 k (omega (arith, m0)))
    (λ k h. c.add_two_values.ensures.e1 k (omega (arith, m1))))
