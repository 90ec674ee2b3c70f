use Rattle.std.proofs.Common.{◌≡◌, ℕ, ◌++◌, length, refl, subst, sym, ap, ◌∙◌, arith}
use Rattle.generator_matrix.specs.Columns.{EndsColumn}
use Rattle.generator_matrix.proofs.ColumnLemmas.{ended_rows, have_joined}
use Rattle.generator_matrix.proofs.column.end_column.Goals as goal

pub returns : goal.returns
returns c =
    let len : ℕ = c.args.len in
    let o0 = c.split_at_mut-d0.result.0.now in
    let o1 = c.split_at_mut-d1.result.0.now in
    let o2 = c.split_at_mut-d2.result.0.now in
    let o3 = c.split_at_mut-d2.result.1.now in
    let n0 = c.end_rows.new.d0 in
    let n1 = c.end_rows.new.d1 in
    let n2 = c.end_rows.new.d2 in
    let l0 : length o0 ≡ len = c.split_at_mut-d0.ensures.front_len in
    let l1 : length o1 ≡ len = c.split_at_mut-d1.ensures.front_len in
    let l2 : length o2 ≡ len = c.split_at_mut-d2.ensures.front_len in
    let b0 = c.split_at_mut-d0.ensures.back_len in
    let b1 = c.split_at_mut-d1.ensures.back_len in
    let b2 = c.split_at_mut-d2.ensures.back_len in
    let l3 : length o3 ≡ len = omega (arith, c.requires) in
    let m0 : length n0 ≡ len = c.end_rows.auto.d0 ∙ l0 in
    let m1 : length n1 ≡ len = c.end_rows.auto.d1 ∙ l1 in
    let m2 : length n2 ≡ len = c.end_rows.auto.d2 ∙ l2 in
    let whole : c.args.rows.now ≡ (o0 ++ (o1 ++ (o2 ++ o3))) = c.split_at_mut-d0.ensures.value
    ∙ ap (λ l. o0 ++ l) (c.split_at_mut-d1.ensures.value ∙ ap (λ l. o1 ++ l) c.split_at_mut-d2.ensures.value) in
    subst (λ before. EndsColumn len before (n0 ++ (n1 ++ (n2 ++ o3)))) (sym whole)
    (ended_rows len _ o0 o1 o2 o3 _ n0 n1 n2 o3
    (have_joined len o0 o1 o2 o3 l0 l1 l2)
    (have_joined len n0 n1 n2 o3 m0 m1 m2)
    (λ k h. c.end_rows.ensures.e0 k (omega (arith, m0)))
    (λ k h. c.end_rows.ensures.e1 k (omega (arith, m1)))
    (λ k h. c.end_rows.ensures.e2 k (omega (arith, m2)))
    (λ k h. refl))
