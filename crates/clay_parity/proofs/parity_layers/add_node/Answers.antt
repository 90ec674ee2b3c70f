use Rattle.std.proofs.Common.{◌≡◌, ℕ, ◌+◌, ◌*◌, ◌<◌, ◌≤◌, length, get_or, subst, sym, ap, ◌∙◌, arith, bit_xor}
use Rattle.clay_field.specs.Field.{product}
use Rattle.clay_grid.specs.Shape.{row_count}
use Rattle.clay_grid.specs.Layers.{layer_of}
use Rattle.code_laws.specs.Columns.{first_parity, data_byte, uncoupled_value}
use Rattle.clay_kernels.specs.Lanes.{AddsRows}
use Rattle.generator_matrix.specs.Generated.{factor_at}
use Rattle.clay_kernels.proofs.RowLemmas.{AddsRows-as}
use Rattle.generator_matrix.proofs.FactorRows.{factor_count, factor_is}
use Rattle.clay_parity.proofs.GroupLaws.{partner_room}
use Rattle.clay_parity.proofs.NodeLemmas.{unpaired, with_virtual, paired}
use Rattle.clay_parity.proofs.parity_layers.add_node.Goals as goal

pub add_own-requires-clause-factor_count : goal.add_own-requires-clause-factor_count
add_own-requires-clause-factor_count c =
    let gen = c.args.generator.now in
    factor_count gen.each c.of_node-factors.result.now c.args.g.parity_count gen.unknown c.args.node (first_parity c.args.g) c.requires.generator.count c.requires.generator.long c.requires.known c.of_node-factors.ensures

pub add_own-requires-then-other-k-clause-factor_count : goal.add_own-requires-then-other-k-clause-factor_count
add_own-requires-then-other-k-clause-factor_count c =
    let gen = c.args.generator.now in
    factor_count gen.each c.of_node-factors.result.now c.args.g.parity_count gen.unknown c.args.node (first_parity c.args.g) c.requires.generator.count c.requires.generator.long c.requires.known c.of_node-factors.ensures

pub add_rows-requires : goal.add_rows-requires
add_rows-requires c =
    let gen = c.args.generator.now in
    let count = factor_count gen.each c.of_node-factors.result.now c.args.g.parity_count gen.unknown c.args.node (first_parity c.args.g) c.requires.generator.count c.requires.generator.long c.requires.known c.of_node-factors.ensures in
    c.requires.rows_len ∙ (λ i. sym count i * sym c.uncouple_node.auto.values i)

pub returns-then-partner-x : goal.returns-then-partner-x
returns-then-partner-x c =
    let g = c.args.g in
    let gen = c.args.generator.now in
    let products = c.of_node-factors.result.now in
    let rows : 0 < row_count g = let some = c.q.ensures.geometry.limits.parity_chunks.0 in omega arith in
    let len : ℕ = length c.args.values.now in
    let stripe = c.args.stripe.now in
    let node = c.args.node in
    let z = c.args.z in
    let p = c.partner-partner.result in
    AddsRows-as g.parity_count len (λ e. get_or products e 0) (λ b. data_byte g stripe (c.args.at + b) node z) (factor_at gen.each g.parity_count node) (λ b. uncoupled_value g stripe (c.args.at + b) node (layer_of g z)) c.args.rows.now c.add_own.new.rows
    (factor_is gen.each products g.parity_count gen.unknown node (first_parity g) c.requires.generator.count c.requires.generator.long c.requires.known c.of_node-factors.ensures)
    (λ b h. unpaired g rows stripe node z c.place-x.result.0 c.place-x.result.1 p.x p.y p.z c.requires.layer c.partner-partner.ensures.in_layers c.place-x.ensures.row c.place-x.ensures.column c.partner-partner.ensures.partner c.if-partner-x.true (c.args.at + b))
    c.add_own.ensures

pub returns-then-other-k : goal.returns-then-other-k
returns-then-other-k c =
    let g = c.args.g in
    let gen = c.args.generator.now in
    let products = c.of_node-factors.result.now in
    let rows : 0 < row_count g = let some = c.q.ensures.geometry.limits.parity_chunks.0 in omega arith in
    let len : ℕ = length c.args.values.now in
    let stripe = c.args.stripe.now in
    let node = c.args.node in
    let z = c.args.z in
    let p = c.partner-partner.result in
    let virtual : g.data_count ≤ c.place-x.result.1 * row_count g + p.x = subst (λ q. g.data_count ≤ c.place-x.result.1 * q + p.x) c.q.ensures.value (subst (λ k. k ≤ c.place-x.result.1 * c.q.result + p.x) c.k.ensures.value c.if-other-k.true) in
    AddsRows-as g.parity_count len (λ e. get_or products e 0) (λ b. data_byte g stripe (c.args.at + b) node z) (factor_at gen.each g.parity_count node) (λ b. uncoupled_value g stripe (c.args.at + b) node (layer_of g z)) c.args.rows.now c.add_own-then-other-k.new.rows
    (factor_is gen.each products g.parity_count gen.unknown node (first_parity g) c.requires.generator.count c.requires.generator.long c.requires.known c.of_node-factors.ensures)
    (λ b h. with_virtual g rows stripe node z c.place-x.result.0 c.place-x.result.1 p.x p.y p.z c.requires.layer c.partner-partner.ensures.in_layers c.place-x.ensures.row c.place-x.ensures.column c.partner-partner.ensures.partner c.if-partner-x.false virtual (c.args.at + b))
    c.add_own-then-other-k.ensures

pub returns-else-other-k : goal.returns-else-other-k
returns-else-other-k c =
    let g = c.args.g in
    let gen = c.args.generator.now in
    let products = c.of_node-factors.result.now in
    let rows : 0 < row_count g = let some = c.q.ensures.geometry.limits.parity_chunks.0 in omega arith in
    let len : ℕ = length c.args.values.now in
    let stripe = c.args.stripe.now in
    let node = c.args.node in
    let z = c.args.z in
    let p = c.partner-partner.result in
    let count = factor_count gen.each c.of_node-factors.result.now c.args.g.parity_count gen.unknown c.args.node (first_parity c.args.g) c.requires.generator.count c.requires.generator.long c.requires.known c.of_node-factors.ensures in
    let theirs = c.piece-theirs.result.now in
    let values = c.uncouple_node.new.values in
    let long : length values ≡ len = c.uncouple_node.auto.values in
    AddsRows-as g.parity_count len (λ e. get_or products e 0) (λ b. get_or values b 0) (factor_at gen.each g.parity_count node) (λ b. uncoupled_value g stripe (c.args.at + b) node (layer_of g z)) c.args.rows.now c.add_rows.new.rows
    (factor_is gen.each products g.parity_count gen.unknown node (first_parity g) c.requires.generator.count c.requires.generator.long c.requires.known c.of_node-factors.ensures)
    (λ b h.
    c.uncouple_node.ensures b (subst (λ n. b < n) (sym c.piece-theirs.ensures.len) h)
    ∙ ap (λ v. bit_xor (data_byte g stripe (c.args.at + b) node z) (product 2 v)) (c.piece-theirs.ensures.bytes b h ∙ ap (λ q. data_byte g stripe (c.args.at + b) (c.place-x.result.1 * q + p.x) p.z) c.q.ensures.value)
    ∙ paired g rows stripe node z c.place-x.result.0 c.place-x.result.1 p.x p.y p.z c.requires.layer c.partner-partner.ensures.in_layers c.place-x.ensures.row c.place-x.ensures.column c.partner-partner.ensures.partner c.if-partner-x.false (c.args.at + b))
    (subst (λ n. AddsRows n len (λ e. get_or products e 0) (λ b. get_or values b 0) c.args.rows.now c.add_rows.new.rows) count
    (subst (λ l. AddsRows (length products) l (λ e. get_or products e 0) (λ b. get_or values b 0) c.args.rows.now c.add_rows.new.rows) long c.add_rows.ensures))

pub piece-theirs-requires-clause-within : goal.piece-theirs-requires-clause-within
piece-theirs-requires-clause-within c =
    let p = c.partner-partner.result in
    partner_room c.args.g c.q.ensures.geometry c.args.node c.place-x.result.0 c.place-x.result.1 c.args.z p.x p.y p.z (c.args.at + length c.args.values.now) c.requires.known c.place-x.ensures.column c.partner-partner.ensures.partner c.requires.within
