use Rattle.std.proofs.Common.{◌≡◌, ℕ, ◌+◌, ◌*◌, ◌≤◌, length, replicate, subst, sym, ap, ◌∙◌, arith}
use Rattle.std.proofs.lemmas.Nat.{mul-le}
use Rattle.clay_field.specs.Field.{product}
use Rattle.clay_grid.specs.Shape.{row_count, column_count}
use Rattle.clay_grid.specs.Layers.{layer_of}
use Rattle.clay_model.specs.Sums.{sum_below}
use Rattle.code_laws.specs.Columns.{first_parity, uncoupled_value}
use Rattle.generator_matrix.specs.Generated.{factor_at}
use Rattle.clay_parity.proofs.GroupLaws.{column_known}
use Rattle.clay_parity.proofs.ColumnSums.{HoldsSums, no_sums, one_more_column, columns_before}
use Rattle.clay_parity.proofs.parity_layers.solve_by_whole_columns.Goals as goal

pub loop-y-init : goal.loop-y-init
loop-y-init c =
    let g = c.args.g in
    let value : ℕ → ℕ → ℕ = λ i b. uncoupled_value g c.args.stripe.now (c.args.at + b) i (layer_of g c.args.z) in
    let len : ℕ = c.args.len in
    let each = c.args.generator.now.each in
    let rows = c.fill.new.self in
    let none : 0 ≡ 0 * g.parity_count = omega arith in
    let empty : rows ≡ replicate {A = ℕ} (length rows) 0 = c.fill.ensures.after (λ y e. e) ∙ ap (λ n. replicate {A = ℕ} n 0) (sym c.fill.auto.self) in
    subst (λ n. HoldsSums g.parity_count len each value n rows) none (no_sums g.parity_count len each value rows (c.fill.auto.self ∙ c.requires.rows_len) empty)

pub loop-y-preserved : goal.loop-y-preserved
loop-y-preserved c =
    let g = c.args.g in
    let gen = c.args.generator.now in
    let value : ℕ → ℕ → ℕ = λ i b. uncoupled_value g c.args.stripe.now (c.args.at + b) i (layer_of g c.args.z) in
    one_more_column g.parity_count c.args.len gen.each value gen.unknown c.loop-y.y (c.loop-y.y * c.q.result) c.write_column.new.values c.loop-y.rows c.add_nodes.new.rows
    c.requires.generator.count (ap (λ q. c.loop-y.y * q) c.q.ensures.value) c.write_column.ensures c.add_nodes.ensures c.loop-y.invariant

pub add_nodes-requires-clause-nodes : goal.add_nodes-requires-clause-nodes
add_nodes-requires-clause-nodes c =
    let g = c.args.g in
    let gen = c.args.generator.now in
    let known = column_known g c.loop-y.y (omega (arith, c.loop-y-test.true, c.t-y-end.ensures.value)) in
    let all : (c.loop-y.y * row_count g + g.parity_count) * g.parity_count ≤ first_parity g * g.parity_count =
    mul-le (c.loop-y.y * row_count g + g.parity_count) g.parity_count (first_parity g) g.parity_count known (omega arith) in
    let long : first_parity g * g.parity_count ≡ length gen.each = sym c.requires.generator.long in
    subst (λ q. (c.loop-y.y * q + gen.unknown) * gen.unknown ≤ length gen.each) (sym c.q.ensures.value)
    (subst (λ u. (c.loop-y.y * row_count g + u) * u ≤ length gen.each) (sym c.requires.generator.count)
    (subst (λ n. (c.loop-y.y * row_count g + g.parity_count) * g.parity_count ≤ n) long all))

pub returns : goal.returns
returns c = λ e b he hb.
    let g = c.args.g in
    let gen = c.args.generator.now in
    let value : ℕ → ℕ → ℕ = λ i b. uncoupled_value g c.args.stripe.now (c.args.at + b) i (layer_of g c.args.z) in
    let some = c.t-y-end.ensures.geometry.columns.0 in
    let end : c.loop-y.y + 1 ≡ column_count g = omega (arith, c.loop-y-test.false, c.loop-y.auto.y-end, c.t-y-end.ensures.value) in
    c.loop-y.invariant.at e b he hb
    ∙ ap (λ n. sum_below n (λ i. product (factor_at gen.each g.parity_count i e) (value i b))) (columns_before g c.loop-y.y end)
