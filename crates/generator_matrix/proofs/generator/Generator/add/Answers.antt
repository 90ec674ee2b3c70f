use Rattle.std.proofs.Common.{◌≡◌, ℕ, ◌+◌, ◌-◌, ◌*◌, length, get_or, sym, subst, ap, ◌∙◌, arith}
use Rattle.std.proofs.lemmas.List.Edits.{get_or-between, length-between}
use Rattle.clay_kernels.specs.Lanes.{AddsRows}
use Rattle.generator_matrix.specs.Generated.{factor_at}
use Rattle.clay_kernels.proofs.RowLemmas.{AddsRows-as}
use Rattle.generator_matrix.proofs.generator.Generator.add.Goals as goal

pub add_rows-requires : goal.add_rows-requires
add_rows-requires c =
    let m : ℕ = c.args.self.now.unknown in
    let start : ℕ = c.args.node * m in
    let width : start + m - start ≡ m = omega arith in
    let count = ap length c.of_node-factors.ensures ∙ length-between c.args.self.now.each start (start + m) c.requires.node ∙ width in
    c.requires.rows_len ∙ ap (λ n. n * length c.args.values.now) (sym count)

pub returns : goal.returns
returns c =
    let factors = c.args.self.now.each in
    let m : ℕ = c.args.self.now.unknown in
    let products = c.of_node-factors.result.now in
    let values = c.args.values.now in
    let len : ℕ = length values in
    let start : ℕ = c.args.node * m in
    let width : start + m - start ≡ m = omega arith in
    let count : length products ≡ m = ap length c.of_node-factors.ensures ∙ length-between factors start (start + m) c.requires.node ∙ width in
    AddsRows-as m len (λ e. get_or products e 0) (λ b. get_or values b 0) (λ e. factor_at factors m c.args.node e) (λ b. get_or values b 0) c.args.rows.now c.add_rows.new.rows
    (λ e h. ap (λ l. get_or l e 0) c.of_node-factors.ensures ∙ get_or-between factors start (start + m) e 0 (omega arith))
    (λ b h i. get_or values b 0)
    (subst (λ n. AddsRows n len (λ e. get_or products e 0) (λ b. get_or values b 0) c.args.rows.now c.add_rows.new.rows) count c.add_rows.ensures)
