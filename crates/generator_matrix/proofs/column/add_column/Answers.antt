use Rattle.std.proofs.Common.{◌≡◌, ℕ, ◌++◌, length, subst, sym, ap, ◌∙◌, arith}
use Rattle.generator_matrix.specs.Columns.{AddsColumn}
use Rattle.generator_matrix.proofs.ColumnLemmas.{added_rows, have_joined, have_cut}
use Rattle.generator_matrix.proofs.column.add_column.Goals as goal

pub returns-clause-bytes : goal.returns-clause-bytes
returns-clause-bytes c = λ p. omega (arith, c.type_inv.values p)

pub returns-clause-added : goal.returns-clause-added
returns-clause-added c =
    let len : ℕ = c.args.len in
    let f = c.args.f.now in
    let values = c.args.values.now in
    let first = c.split_at.ensures in
    let second = c.split_at-2.ensures in
    let third = c.split_at-3.ensures in
    let o0 = c.split_at_mut-d0.result.0.now in
    let o1 = c.split_at_mut-d1.result.0.now in
    let o2 = c.split_at_mut-d2.result.0.now in
    let o3 = c.split_at_mut-d2.result.1.now in
    let n0 = c.add_values.new.d0 in
    let n1 = c.add_values.new.d1 in
    let n2 = c.add_values.new.d2 in
    let n3 = c.add_values.new.d3 in
    let l0 : length o0 ≡ len = c.split_at_mut-d0.ensures.front_len in
    let l1 : length o1 ≡ len = c.split_at_mut-d1.ensures.front_len in
    let l2 : length o2 ≡ len = c.split_at_mut-d2.ensures.front_len in
    let b0 = c.split_at_mut-d0.ensures.back_len in
    let b1 = c.split_at_mut-d1.ensures.back_len in
    let b2 = c.split_at_mut-d2.ensures.back_len in
    let l3 : length o3 ≡ len = omega (arith, c.requires.rows_len) in
    let m0 : length n0 ≡ len = c.add_values.auto.d0 ∙ l0 in
    let m1 : length n1 ≡ len = c.add_values.auto.d1 ∙ l1 in
    let m2 : length n2 ≡ len = c.add_values.auto.d2 ∙ l2 in
    let m3 : length n3 ≡ len = c.add_values.auto.d3 ∙ l3 in
    let whole : c.args.rows.now ≡ (o0 ++ (o1 ++ (o2 ++ o3))) = c.split_at_mut-d0.ensures.value
    ∙ ap (λ l. o0 ++ l) (c.split_at_mut-d1.ensures.value ∙ ap (λ l. o1 ++ l) c.split_at_mut-d2.ensures.value) in
    subst (λ before. AddsColumn len f values before (n0 ++ (n1 ++ (n2 ++ n3)))) (sym whole)
    (added_rows len f values _ _ _ _ _ o0 o1 o2 o3 _ n0 n1 n2 n3
    (have_cut len values _ _ _ _ _ _ first.front first.back second.front second.back third.front third.back)
    (have_joined len o0 o1 o2 o3 l0 l1 l2)
    (have_joined len n0 n1 n2 n3 m0 m1 m2)
    (λ k h. c.add_values.ensures.e0 k (omega (arith, m0)))
    (λ k h. c.add_values.ensures.e1 k (omega (arith, m1)))
    (λ k h. c.add_values.ensures.e2 k (omega (arith, m2)))
    (λ k h. c.add_values.ensures.e3 k (omega (arith, m3))))
