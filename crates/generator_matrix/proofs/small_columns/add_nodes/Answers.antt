use Rattle.std.proofs.Common.{◌+◌, ◌*◌, get_or, subst, sym, ap, ◌∙◌}
use Rattle.generator_matrix.specs.Generated.{factor_at}
use Rattle.generator_matrix.specs.SmallColumns.{AddsNodes}
use Rattle.generator_matrix.proofs.small_columns.add_nodes.Goals as goal

pub is_column_of_two-requires : goal.is_column_of_two-requires
is_column_of_two-requires c = c.requires.factor_count ∙ ap (λ n. n * n) c.if-count-eq2.true

pub near_end-near-requires : goal.near_end-near-requires
near_end-near-requires c = c.requires.factor_count ∙ ap (λ n. n * n) c.if-count-eq3.true

pub returns-then-is_column_of_two : goal.returns-then-is_column_of_two
returns-then-is_column_of_two c =
    subst (λ n. AddsNodes n c.args.len (λ x e. factor_at c.args.factors.now n x e) (λ x b. get_or c.args.values.now (x * c.args.len + b) 0) c.args.rows.now c.add_two_nodes.new.rows)
    (sym c.if-count-eq2.true) c.add_two_nodes.ensures

pub returns-then-is_column_of_three : goal.returns-then-is_column_of_three
returns-then-is_column_of_three c =
    subst (λ n. AddsNodes n c.args.len (λ x e. factor_at c.args.factors.now n x e) (λ x b. get_or c.args.values.now (x * c.args.len + b) 0) c.args.rows.now c.add_three_nodes.new.rows)
    (sym c.if-count-eq3.true) c.add_three_nodes.ensures
