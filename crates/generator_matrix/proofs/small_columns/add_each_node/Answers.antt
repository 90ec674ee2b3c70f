use Rattle.std.proofs.Common.{◌≡◌, ℕ, ◌+◌, ◌-◌, ◌*◌, List, length, get_or, slice_range, subst, sym, ap, ◌∙◌, arith, bit_xor}
use Rattle.std.proofs.lemmas.List.Edits.{get_or-between, length-between}
use Rattle.clay_field.specs.Field.{product}
use Rattle.clay_model.specs.Sums.{sum_below}
use Rattle.code_laws.proofs.Pieces.{piece_fits}
use Rattle.clay_kernels.specs.Lanes.{AddsRows}
use Rattle.generator_matrix.specs.Generated.{factor_at}
use Rattle.clay_kernels.proofs.RowLemmas.{AddsRows-as}
use Rattle.generator_matrix.proofs.SmallColumnLaws.{one_done}
use Rattle.generator_matrix.proofs.small_columns.add_each_node.Goals as goal

pub loop-x-preserved : goal.loop-x-preserved
loop-x-preserved c =
    let factors = c.args.factors.now in
    let values = c.args.values.now in
    let count : ℕ = c.args.count in
    let len : ℕ = c.args.len in
    let x = c.loop-x.x in
    let fit = piece_fits x count count c.loop-x-test.true in
    let room = piece_fits x count len c.loop-x-test.true in
    let products : List ℕ = slice_range factors (x * count) (x * count + count) in
    let src : List ℕ = slice_range values (x * len) (x * len + len) in
    let width : x * count + count - x * count ≡ count = omega arith in
    let part : x * len + len - x * len ≡ len = omega arith in
    let count_is : length products ≡ count = length-between factors (x * count) (x * count + count) (omega arith) ∙ width in
    let len_is : length src ≡ len = length-between values (x * len) (x * len + len) (omega arith) ∙ part in
    let adds = c.add_rows.ensures in
    one_done x count len (λ x e. factor_at factors count x e) (λ x b. get_or values (x * len + b) 0) c.args.rows.now c.loop-x.rows c.add_rows.new.rows c.loop-x.invariant
    (AddsRows-as count len (λ e. get_or products e 0) (λ b. get_or src b 0) (λ e. factor_at factors count x e) (λ b. get_or values (x * len + b) 0) c.loop-x.rows c.add_rows.new.rows
    (λ e h. get_or-between factors (x * count) (x * count + count) e 0 (omega arith))
    (λ b h. get_or-between values (x * len) (x * len + len) b 0 (omega arith))
    (subst (λ n. AddsRows n len (λ e. get_or products e 0) (λ b. get_or src b 0) c.loop-x.rows c.add_rows.new.rows) count_is
    (subst (λ l. AddsRows (length products) l (λ e. get_or products e 0) (λ b. get_or src b 0) c.loop-x.rows c.add_rows.new.rows) len_is adds)))

pub add_rows-requires : goal.add_rows-requires
add_rows-requires c =
    let factors = c.args.factors.now in
    let values = c.args.values.now in
    let count : ℕ = c.args.count in
    let len : ℕ = c.args.len in
    let x = c.loop-x.x in
    let fit = piece_fits x count count c.loop-x-test.true in
    let room = piece_fits x count len c.loop-x-test.true in
    let width : x * count + count - x * count ≡ count = omega arith in
    let part : x * len + len - x * len ≡ len = omega arith in
    let count_is = length-between factors (x * count) (x * count + count) (omega arith) ∙ width in
    let len_is = length-between values (x * len) (x * len + len) (omega arith) ∙ part in
    c.loop-x.auto.rows ∙ c.requires.rows_len ∙ (λ i. sym count_is i * sym len_is i)

pub returns : goal.returns
returns c = record {
  at = λ e b he hb.
      let factors = c.args.factors.now in
      let count : ℕ = c.args.count in
      let all : c.loop-x.x ≡ count = omega (arith, c.loop-x-test.false, c.loop-x.auto.x-end) in
      c.loop-x.invariant.at e b he hb
      ∙ ap (λ n. bit_xor (get_or c.args.rows.now (e * c.args.len + b) 0) (sum_below n (λ x. product (factor_at factors count x e) (get_or c.args.values.now (x * c.args.len + b) 0)))) all;
}
