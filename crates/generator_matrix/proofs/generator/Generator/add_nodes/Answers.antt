use Rattle.std.proofs.Common.{◌≡◌, ℕ, ◌+◌, ◌-◌, ◌*◌, ◌<◌, length, get_or, sym, subst, ap, ◌∙◌, arith}
use Rattle.std.proofs.lemmas.List.Edits.{get_or-between, length-between}
use Rattle.code_laws.proofs.Pieces.{place_below}
use Rattle.generator_matrix.specs.Generated.{factor_at}
use Rattle.generator_matrix.specs.SmallColumns.{AddsNodes}
use Rattle.generator_matrix.proofs.SmallColumnLaws.{AddsNodes-as}
use Rattle.generator_matrix.proofs.generator.Generator.add_nodes.Goals as goal

pub add_nodes-requires-clause-factor_count : goal.add_nodes-requires-clause-factor_count
add_nodes-requires-clause-factor_count c =
    let m : ℕ = c.args.self.now.unknown in
    let first : ℕ = c.args.first in
    let width : (first + m) * m - first * m ≡ m * m = omega arith in
    ap length c.of_nodes-factors.ensures
    ∙ length-between c.args.self.now.each (first * m) ((first + m) * m) c.requires.nodes
    ∙ width
    ∙ (λ i. sym c.unknown.ensures i * sym c.unknown.ensures i)

pub add_nodes-requires-clause-values_len : goal.add_nodes-requires-clause-values_len
add_nodes-requires-clause-values_len c = c.requires.values_len ∙ ap (λ n. n * c.args.len) (sym c.unknown.ensures)

pub add_nodes-requires-clause-rows_len : goal.add_nodes-requires-clause-rows_len
add_nodes-requires-clause-rows_len c = c.requires.rows_len ∙ ap (λ n. n * c.args.len) (sym c.unknown.ensures)

pub returns : goal.returns
returns c =
    let each = c.args.self.now.each in
    let m : ℕ = c.args.self.now.unknown in
    let len : ℕ = c.args.len in
    let first : ℕ = c.args.first in
    let products = c.of_nodes-factors.result.now in
    let value : ℕ → ℕ → ℕ = λ x b. get_or c.args.values.now (x * len + b) 0 in
    AddsNodes-as m len (λ x e. factor_at products m x e) (λ x e. factor_at each m (first + x) e) value c.args.rows.now c.add_nodes.new.rows
    (λ x e hx he.
    let inside : x * m + e < m * m = place_below x m m e hx he in
    let room : first * m + (x * m + e) < (first + m) * m = omega arith in
    let place : first * m + (x * m + e) ≡ (first + x) * m + e = omega arith in
    ap (λ l. get_or l (x * m + e) 0) c.of_nodes-factors.ensures
    ∙ get_or-between each (first * m) ((first + m) * m) (x * m + e) 0 (omega arith)
    ∙ ap (λ p. get_or each p 0) place)
    (subst (λ n. AddsNodes n len (λ x e. factor_at products n x e) value c.args.rows.now c.add_nodes.new.rows) c.unknown.ensures c.add_nodes.ensures)
