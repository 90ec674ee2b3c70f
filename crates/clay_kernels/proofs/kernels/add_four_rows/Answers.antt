use Rattle.std.proofs.Common.{◌≡◌, ℕ, suc, ◌<◌, ◌++◌, length, get_or, subst, sym, ap, ◌∙◌, arith, bit_xor}
use Rattle.std.proofs.lemmas.Grind.{get_or_default_zero}
use Rattle.clay_field.specs.Field.{product}
use Rattle.clay_kernels.specs.Lanes.{AddsRows}
use Rattle.clay_kernels.proofs.RowLemmas.{AddsRows-last, AddsRows-cons}
use Rattle.clay_kernels.proofs.kernels.add_four_rows.Goals as goal

pub returns : goal.returns
returns c =
    let len : ℕ = length c.args.src.now in
    let factor : ℕ → ℕ = λ r. get_or c.args.products.now r 0 in
    let value : ℕ → ℕ = λ b. get_or c.args.src.now b 0 in
    let old0 = c.split_at_mut-d0.result.0.now in
    let new0 = c.add_four.new.d0 in
    let old1 = c.split_at_mut-d1.result.0.now in
    let new1 = c.add_four.new.d1 in
    let old2 = c.split_at_mut-d2.result.0.now in
    let new2 = c.add_four.new.d2 in
    let old3 = c.split_at_mut-d2.result.1.now in
    let new3 = c.add_four.new.d3 in
    let front0 = c.split_at_mut-d0.ensures.front_len in
    let back0 = c.split_at_mut-d0.ensures.back_len in
    let front1 = c.split_at_mut-d1.ensures.front_len in
    let back1 = c.split_at_mut-d1.ensures.back_len in
    let front2 = c.split_at_mut-d2.ensures.front_len in
    let back2 = c.split_at_mut-d2.ensures.back_len in
    let old_long0 : length old0 ≡ len = omega (arith, c.requires.rows_len) in
    let long0 : length new0 ≡ len = c.add_four.auto.d0 ∙ old_long0 in
    let factor0 : c.index-products-0.result ≡ factor 0 = c.index-products-0.is ∙ get_or_default_zero c.args.products.now 0 c.index-products-0.result (omega arith) in
    let adds0 : (k : ℕ) → k < len → get_or new0 k 0 ≡ bit_xor (get_or old0 k 0) (product (factor 0) (value k)) =
    λ k h. c.add_four.ensures.e0 k (omega arith) ∙ ap (λ f. bit_xor (get_or old0 k 0) (product f (value k))) factor0 in
    let old_long1 : length old1 ≡ len = omega (arith, c.requires.rows_len) in
    let long1 : length new1 ≡ len = c.add_four.auto.d1 ∙ old_long1 in
    let factor1 : c.index-products-1.result ≡ factor 1 = c.index-products-1.is ∙ get_or_default_zero c.args.products.now 1 c.index-products-1.result (omega arith) in
    let adds1 : (k : ℕ) → k < len → get_or new1 k 0 ≡ bit_xor (get_or old1 k 0) (product (factor 1) (value k)) =
    λ k h. c.add_four.ensures.e1 k (omega arith) ∙ ap (λ f. bit_xor (get_or old1 k 0) (product f (value k))) factor1 in
    let old_long2 : length old2 ≡ len = omega (arith, c.requires.rows_len) in
    let long2 : length new2 ≡ len = c.add_four.auto.d2 ∙ old_long2 in
    let factor2 : c.index-products-2.result ≡ factor 2 = c.index-products-2.is ∙ get_or_default_zero c.args.products.now 2 c.index-products-2.result (omega arith) in
    let adds2 : (k : ℕ) → k < len → get_or new2 k 0 ≡ bit_xor (get_or old2 k 0) (product (factor 2) (value k)) =
    λ k h. c.add_four.ensures.e2 k (omega arith) ∙ ap (λ f. bit_xor (get_or old2 k 0) (product f (value k))) factor2 in
    let old_long3 : length old3 ≡ len = omega (arith, c.requires.rows_len) in
    let long3 : length new3 ≡ len = c.add_four.auto.d3 ∙ old_long3 in
    let factor3 : c.index-products-3.result ≡ factor 3 = c.index-products-3.is ∙ get_or_default_zero c.args.products.now 3 c.index-products-3.result (omega arith) in
    let adds3 : (k : ℕ) → k < len → get_or new3 k 0 ≡ bit_xor (get_or old3 k 0) (product (factor 3) (value k)) =
    λ k h. c.add_four.ensures.e3 k (omega arith) ∙ ap (λ f. bit_xor (get_or old3 k 0) (product f (value k))) factor3 in
    let whole : c.args.rows.now ≡ (old0 ++ (old1 ++ (old2 ++ old3))) = c.split_at_mut-d0.ensures.value
    ∙ ap (λ l. old0 ++ l) (c.split_at_mut-d1.ensures.value ∙ ap (λ l. old1 ++ l) c.split_at_mut-d2.ensures.value) in
    subst (λ before. AddsRows 4 len factor value before (new0 ++ (new1 ++ (new2 ++ new3)))) (sym whole)
    (AddsRows-cons 3 len factor value old0 (old1 ++ (old2 ++ old3)) new0 (new1 ++ (new2 ++ new3)) old_long0 long0 adds0
    (AddsRows-cons 2 len (λ r. factor (suc r)) value old1 (old2 ++ old3) new1 (new2 ++ new3) old_long1 long1 adds1
    (AddsRows-cons 1 len (λ r. factor (suc (suc r))) value old2 old3 new2 new3 old_long2 long2 adds2
    (AddsRows-last len (λ r. factor (suc (suc (suc r)))) value old3 new3 adds3))))
