use Rattle.std.proofs.Common.{◌≡◌, ℕ, ◌+◌, ◌-◌, ◌*◌, ◌++◌, length, get_or, subst, sym, ap, ◌∙◌, arith}
use Rattle.code_laws.proofs.Pieces.{piece_fits}
use Rattle.generator_matrix.specs.Generated.{factor_at}
use Rattle.generator_matrix.specs.SmallColumns.{AddsNodes, row_added, middle_added, last_row_added}
use Rattle.generator_matrix.proofs.ColumnOfThree.{three_added, end_below, end_not_two, IsRow, joined_first, joined_second, joined_third}
use Rattle.generator_matrix.proofs.small_columns.add_three_nodes.Goals as goal

pub row_of-own-requires : goal.row_of-own-requires
row_of-own-requires c =
    let fits = piece_fits c.args.near 3 c.args.len (end_below c.args.near c.requires.column.near_end) in
    omega (arith, fits, c.requires.values_len)

pub row_of-other-requires : goal.row_of-other-requires
row_of-other-requires c =
    let fits = piece_fits c.saturating_sub-far.result 3 c.args.len (omega (arith, c.saturating_sub-far.ensures)) in
    omega (arith, fits, c.requires.values_len)

pub returns-then-last-eq2 : goal.returns-then-last-eq2
returns-then-last-eq2 c =
    let len : ℕ = c.args.len in
    let factors = c.args.factors.now in
    let values = c.args.values.now in
    let near = c.args.near in
    let last = c.args.last in
    let form = c.requires.column in
    let o0 = c.split_at_mut-d0.result.0.now in
    let o1 = c.split_at_mut-d1.result.0.now in
    let o2 = c.split_at_mut-d1.result.1.now in
    let n0 = c.add_three_values.new.row in
    let n1 = c.add_three_values.new.middle_row in
    let n2 = c.add_three_values.new.last_row in
    let l0 : length o0 ≡ len = c.split_at_mut-d0.ensures.front_len in
    let l1 : length o1 ≡ len = c.split_at_mut-d1.ensures.front_len in
    let b0 = c.split_at_mut-d0.ensures.back_len in
    let b1 = c.split_at_mut-d1.ensures.back_len in
    let m0 : length n0 ≡ len = c.add_three_values.auto.row ∙ l0 in
    let m1 : length n1 ≡ len = c.add_three_values.auto.middle_row ∙ l1 in
    let l2 : length o2 ≡ len = omega (arith, c.requires.rows_len) in
    let m2 : length n2 ≡ len = c.add_three_values.auto.last_row ∙ l2 in
    let two = c.if-last-eq2.true in
    let own = c.row_of-own.result.now in
    let middle = c.row_of-middle.result.now in
    let other = c.row_of-other.result.now in
    let far : c.saturating_sub-far.result ≡ 2 - near = c.saturating_sub-far.ensures in
    let tau : c.factor_of-tau.result.now ≡ factor_at factors 3 (2 - near) 1 = c.factor_of-tau.ensures ∙ ap (λ n. factor_at factors 3 n 1) far in
    let rho : c.factor_of-rho.result.now ≡ factor_at factors 3 (2 - near) last = c.factor_of-rho.ensures ∙ ap (λ n. factor_at factors 3 n last) far in
    let first : 0 ≡ 2 - last = omega (arith, two) in
    let whole : c.args.rows.now ≡ (o0 ++ (o1 ++ o2)) = c.split_at_mut-d0.ensures.value ∙ ap (λ l. o0 ++ l) c.split_at_mut-d1.ensures.value in
    subst (λ before. AddsNodes 3 len (λ x e. factor_at factors 3 x e) (λ x b. get_or values (x * len + b) 0) before (n0 ++ (n1 ++ n2))) (sym whole)
    (three_added len factors near last values own middle other _ o0 o1 o2 _ n0 n1 n2 form (λ p. omega (arith, c.type_inv.values p))
    (λ k h. sym (c.row_of-own.ensures.bytes k h)) (λ k h. sym (c.row_of-middle.ensures.bytes k h))
    (subst (λ x. IsRow len values x other) far (λ k h. sym (c.row_of-other.ensures.bytes k h)))
    (subst (λ x. IsRow len (o0 ++ (o1 ++ o2)) x o0) first (joined_first len o0 o1 o2 l0 l1)) (joined_second len o0 o1 o2 l0 l1) (subst (λ x. IsRow len (o0 ++ (o1 ++ o2)) x o2) (sym two) (joined_third len o0 o1 o2 l0 l1))
    (subst (λ x. IsRow len (n0 ++ (n1 ++ n2)) x n0) first (joined_first len n0 n1 n2 m0 m1)) (joined_second len n0 n1 n2 m0 m1) (subst (λ x. IsRow len (n0 ++ (n1 ++ n2)) x n2) (sym two) (joined_third len n0 n1 n2 m0 m1))
    (λ k h. c.add_three_values.ensures.e0 k (omega (arith, m0)) ∙ (λ i. row_added (c.factor_of-sigma.ensures i) (tau i) (c.factor_of-kappa.ensures i) (rho i) own middle other o0 k))
    (λ k h. c.add_three_values.ensures.e1 k (omega (arith, m1)) ∙ (λ i. middle_added (c.factor_of-sigma.ensures i) (tau i) own middle other o1 k))
    (λ k h. c.add_three_values.ensures.e2 k (omega (arith, m2)) ∙ (λ i. last_row_added (c.factor_of-kappa.ensures i) (rho i) own middle other o2 k)))

pub returns-else-last-eq2 : goal.returns-else-last-eq2
returns-else-last-eq2 c =
    let len : ℕ = c.args.len in
    let factors = c.args.factors.now in
    let values = c.args.values.now in
    let near = c.args.near in
    let last = c.args.last in
    let form = c.requires.column in
    let o0 = c.split_at_mut-d0.result.0.now in
    let o1 = c.split_at_mut-d1.result.0.now in
    let o2 = c.split_at_mut-d1.result.1.now in
    let n2 = c.add_three_values-else-last-eq2.new.row in
    let n1 = c.add_three_values-else-last-eq2.new.middle_row in
    let n0 = c.add_three_values-else-last-eq2.new.last_row in
    let l0 : length o0 ≡ len = c.split_at_mut-d0.ensures.front_len in
    let l1 : length o1 ≡ len = c.split_at_mut-d1.ensures.front_len in
    let b0 = c.split_at_mut-d0.ensures.back_len in
    let b1 = c.split_at_mut-d1.ensures.back_len in
    let m0 : length n0 ≡ len = c.add_three_values-else-last-eq2.auto.last_row ∙ l0 in
    let m1 : length n1 ≡ len = c.add_three_values-else-last-eq2.auto.middle_row ∙ l1 in
    let l2 : length o2 ≡ len = omega (arith, c.requires.rows_len) in
    let m2 : length n2 ≡ len = c.add_three_values-else-last-eq2.auto.row ∙ l2 in
    let zero : last ≡ 0 = end_not_two last form.last_end c.if-last-eq2.false in
    let own = c.row_of-own.result.now in
    let middle = c.row_of-middle.result.now in
    let other = c.row_of-other.result.now in
    let far : c.saturating_sub-far.result ≡ 2 - near = c.saturating_sub-far.ensures in
    let tau : c.factor_of-tau.result.now ≡ factor_at factors 3 (2 - near) 1 = c.factor_of-tau.ensures ∙ ap (λ n. factor_at factors 3 n 1) far in
    let rho : c.factor_of-rho.result.now ≡ factor_at factors 3 (2 - near) last = c.factor_of-rho.ensures ∙ ap (λ n. factor_at factors 3 n last) far in
    let third : 2 ≡ 2 - last = omega (arith, zero) in
    let whole : c.args.rows.now ≡ (o0 ++ (o1 ++ o2)) = c.split_at_mut-d0.ensures.value ∙ ap (λ l. o0 ++ l) c.split_at_mut-d1.ensures.value in
    subst (λ before. AddsNodes 3 len (λ x e. factor_at factors 3 x e) (λ x b. get_or values (x * len + b) 0) before (n0 ++ (n1 ++ n2))) (sym whole)
    (three_added len factors near last values own middle other _ o2 o1 o0 _ n2 n1 n0 form (λ p. omega (arith, c.type_inv.values p))
    (λ k h. sym (c.row_of-own.ensures.bytes k h)) (λ k h. sym (c.row_of-middle.ensures.bytes k h))
    (subst (λ x. IsRow len values x other) far (λ k h. sym (c.row_of-other.ensures.bytes k h)))
    (subst (λ x. IsRow len (o0 ++ (o1 ++ o2)) x o2) third (joined_third len o0 o1 o2 l0 l1)) (joined_second len o0 o1 o2 l0 l1) (subst (λ x. IsRow len (o0 ++ (o1 ++ o2)) x o0) (sym zero) (joined_first len o0 o1 o2 l0 l1))
    (subst (λ x. IsRow len (n0 ++ (n1 ++ n2)) x n2) third (joined_third len n0 n1 n2 m0 m1)) (joined_second len n0 n1 n2 m0 m1) (subst (λ x. IsRow len (n0 ++ (n1 ++ n2)) x n0) (sym zero) (joined_first len n0 n1 n2 m0 m1))
    (λ k h. c.add_three_values-else-last-eq2.ensures.e0 k (omega (arith, m2)) ∙ (λ i. row_added (c.factor_of-sigma.ensures i) (tau i) (c.factor_of-kappa.ensures i) (rho i) own middle other o2 k))
    (λ k h. c.add_three_values-else-last-eq2.ensures.e1 k (omega (arith, m1)) ∙ (λ i. middle_added (c.factor_of-sigma.ensures i) (tau i) own middle other o1 k))
    (λ k h. c.add_three_values-else-last-eq2.ensures.e2 k (omega (arith, m0)) ∙ (λ i. last_row_added (c.factor_of-kappa.ensures i) (rho i) own middle other o0 k)))
