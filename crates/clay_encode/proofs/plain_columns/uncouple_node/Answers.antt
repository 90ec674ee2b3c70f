use Rattle.std.proofs.Common.{◌≡◌, ℕ, ◌+◌, ◌*◌, ◌/◌, ◌%◌, ◌<◌, ◌≤◌, get_or, set, length, subst, sym, ap, ◌∙◌, arith, bit_xor}
use Rattle.std.proofs.lemmas.Nat.{div-add-mod'}
use Rattle.clay_field.specs.Field.{product}
use Rattle.clay_grid.specs.Shape.{row_count, column_count, node_count}
use Rattle.clay_grid.specs.Layers.{layer_of}
use Rattle.code_laws.specs.Columns.{data_byte}
use Rattle.code_laws.proofs.StripeVertices.{partner_row, partner_layer, digit_below, column_below, alone_value, paired_value}
use Rattle.clay_encode.proofs.plain_columns.uncouple_node.Goals as goal

pub overflow_add-y : goal.overflow_add-y
overflow_add-y c =
    let g = c.args.g in
    let limits = c.piece-own.ensures.geometry in
    let rows : 2 ≤ row_count g = omega (arith, limits.limits.parity_chunks.0) in
    let few : row_count g ≤ 8 = omega (arith, limits.limits.parity_chunks.1) in
    let row = partner_row g c.place-x.result.0 c.place-x.result.1 c.args.z c.partner-partner.result.x c.partner-partner.result.y c.partner-partner.result.z c.partner-partner.ensures.partner in
    let inside : c.args.node < node_count g = omega (arith, c.requires.data) in
    let column : c.place-x.result.1 < column_count g = subst (λ y. y < column_count g) (sym c.place-x.ensures.column) (column_below g c.args.node (omega arith) inside) in
    let low : c.partner-partner.result.x < row_count g = subst (λ v. v < row_count g) (sym row) (digit_below g c.args.z c.place-x.result.1 (omega arith) column) in
    let whole = div-add-mod' c.args.node (row_count g) in
    let first : c.place-x.result.1 * c.q.result ≡ c.args.node / row_count g * row_count g = λ i. c.place-x.ensures.column i * c.q.ensures.value i in
    omega (arith, whole, limits.nodes)

pub returns-then-partner-x : goal.returns-then-partner-x
returns-then-partner-x c = λ b h.
    let g = c.args.g in
    let rows : 0 < row_count g = let some = c.piece-own.ensures.geometry.limits.parity_chunks.0 in omega arith in
    let row = partner_row g c.place-x.result.0 c.place-x.result.1 c.args.z c.partner-partner.result.x c.partner-partner.result.y c.partner-partner.result.z c.partner-partner.ensures.partner in
    let same : get_or (layer_of g c.args.z) (c.args.node / row_count g) 0 ≡ c.args.node % row_count g =
    ap (λ y. get_or (layer_of g c.args.z) y 0) (sym c.place-x.ensures.column) ∙ sym row ∙ c.if-partner-x.true ∙ c.place-x.ensures.row in
    ap (λ l. get_or l b 0) c.copy_from_slice.ensures.after
    ∙ c.piece-own.ensures.bytes b h
    ∙ alone_value g rows c.args.stripe.now b c.args.node c.args.z c.requires.layer same

pub returns-else-partner-x : goal.returns-else-partner-x
returns-else-partner-x c = λ b h.
    let g = c.args.g in
    let q : ℕ = row_count g in
    let rows : 0 < row_count g = let some = c.piece-own.ensures.geometry.limits.parity_chunks.0 in omega arith in
    let p = c.partner-partner.result in
    let row = partner_row g c.place-x.result.0 c.place-x.result.1 c.args.z p.x p.y p.z c.partner-partner.ensures.partner in
    let digit : p.x ≡ get_or (layer_of g c.args.z) (c.args.node / row_count g) 0 =
    row ∙ ap (λ y. get_or (layer_of g c.args.z) y 0) c.place-x.ensures.column in
    let layer : layer_of g p.z ≡ set (layer_of g c.args.z) (c.args.node / row_count g) (c.args.node % row_count g) =
    partner_layer g c.place-x.result.0 c.place-x.result.1 c.args.z p.x p.y p.z c.partner-partner.ensures.partner
    ∙ (λ i. set (layer_of g c.args.z) (c.place-x.ensures.column i) (c.place-x.ensures.row i)) in
    let long : b < length c.uncouple.new.out = omega arith in
    c.uncouple.ensures b long
    ∙ (λ i. bit_xor (c.piece-own.ensures.bytes b h i) (product 2 ((c.piece-other.ensures.bytes b h
    ∙ (λ k. data_byte g c.args.stripe.now b (c.place-x.ensures.column k * c.q.ensures.value k + digit k) p.z)) i)))
    ∙ paired_value g rows c.args.stripe.now b c.args.node c.args.z c.requires.layer p.z c.partner-partner.ensures.in_layers
    (λ e. c.if-partner-x.false (digit ∙ e ∙ sym c.place-x.ensures.row)) layer
