use Rattle.std.proofs.Common.{◌≡◌, ℕ, ◌+◌, ◌*◌, ◌<◌, length, get_or, subst, sym, ap, ◌∙◌, arith}
use Rattle.clay_field.specs.Field.{product}
use Rattle.clay_grid.specs.Layers.{layer_of}
use Rattle.clay_model.specs.Sums.{sum_below}
use Rattle.code_laws.specs.Columns.{first_parity, uncoupled_value}
use Rattle.generator_matrix.specs.Columns.{IsColumn}
use Rattle.generator_matrix.proofs.ColumnLaws.{known_sum, last_columns, before_last, column_more, column_ended}
use Rattle.clay_parity.proofs.parity_layers.solve_by_columns.Goals as goal

pub loop-y-preserved : goal.loop-y-preserved
loop-y-preserved c =
    let g = c.args.g in
    let gen = c.args.generator.now in
    let len : ℕ = c.args.len in
    let y = c.loop-y.y in
    let value : ℕ → ℕ → ℕ = λ i b. uncoupled_value g c.args.stripe.now (c.args.at + b) i (layer_of g c.args.z) in
    let counts = last_columns g gen.unknown gen.each gen.columns c.columns-columns.ensures.columns c.requires.columns c.requires.generator in
    let below : y < length gen.columns = omega (arith, c.loop-y-test.true, before_last g (length gen.columns) counts, c.t-y-end.ensures.value) in
    let f = c.index-columns-y.result in
    let there : f ≡ get_or gen.columns y f = c.index-columns-y.is ∙ ap (λ l. get_or l y f) c.columns-columns.ensures.value in
    let column : IsColumn gen.each y f = subst (IsColumn gen.each y) (sym there) (c.columns-columns.ensures.columns.each y f below) in
    column_more len gen.each value y f c.write_column.new.values c.loop-y.rows c.add_column.new.rows column
    (λ x b hx hb. c.write_column.ensures.at x b (subst (λ n. x < n) (sym counts.four) hx) hb ∙ ap (λ q. value (y * q + x) b) counts.four)
    c.add_column.ensures.bytes c.add_column.ensures.added c.loop-y.invariant

pub returns : goal.returns
returns c = λ e b he hb.
    let g = c.args.g in
    let gen = c.args.generator.now in
    let len : ℕ = c.args.len in
    let value : ℕ → ℕ → ℕ = λ i b. uncoupled_value g c.args.stripe.now (c.args.at + b) i (layer_of g c.args.z) in
    let counts = last_columns g gen.unknown gen.each gen.columns c.columns-columns.ensures.columns c.requires.columns c.requires.generator in
    let all : c.loop-y.y * 4 ≡ first_parity g =
    let digits : c.loop-y.y ≡ length gen.columns = omega (arith, c.loop-y-test.false, c.loop-y.auto.y-end, before_last g (length gen.columns) counts, c.t-y-end.ensures.value) in
    ap (λ n. n * 4) digits ∙ sym counts.nodes_are in
    column_ended len gen.each value (c.loop-y.y * 4) c.loop-y.rows c.end_column.new.rows c.loop-y.invariant c.end_column.ensures e b (subst (λ n. e < n) counts.four he) hb
    ∙ ap (λ n. known_sum gen.each value n e b) all
    ∙ ap (λ n. sum_below (first_parity g) (λ i. product (get_or gen.each (i * n + e) 0) (value i b))) (sym counts.four)

pub write_column-requires-clause-values_len : goal.write_column-requires-clause-values_len
write_column-requires-clause-values_len c =
    let gen = c.args.generator.now in
    let counts = last_columns c.args.g gen.unknown gen.each gen.columns c.columns-columns.ensures.columns c.requires.columns c.requires.generator in
    c.loop-y.auto.column ∙ c.requires.column_len ∙ ap (λ q. q * c.args.len) (sym counts.four)
