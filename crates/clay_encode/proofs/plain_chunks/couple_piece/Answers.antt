use Rattle.std.proofs.Common.{◌≡◌, ◌+◌, ◌-◌, ◌*◌, ◌<◌, get_or, set, length, subst, sym, ap, ◌∙◌, arith, bit_xor}
use Rattle.clay_field.specs.Field.{product, quotient}
use Rattle.clay_grid.specs.Shape.{row_count, column_count}
use Rattle.clay_grid.specs.Layers.{layer_of}
use Rattle.code_laws.proofs.StripeVertices.{partner_row, partner_layer, digit_below, alone_last, paired_last}
use Rattle.clay_encode.proofs.plain_chunks.couple_piece.Goals as goal

pub last_piece-requires-clause-row : goal.last_piece-requires-clause-row
last_piece-requires-clause-row c =
    let g = c.args.g in
    let limits = c.last_piece-own.ensures.geometry in
    let rows : 0 < row_count g = let some = limits.limits.parity_chunks.0 in omega arith in
    let column : c.t.result - 1 < column_count g = let some = limits.columns.0 in omega arith in
    let p = c.partner-partner.result in
    let row = partner_row g c.args.x (c.t.result - 1) c.args.z p.x p.y p.z c.partner-partner.ensures.partner in
    subst (λ v. v < row_count g) (sym row) (digit_below g c.args.z (c.t.result - 1) rows column)

pub returns-then-partner-x : goal.returns-then-partner-x
returns-then-partner-x c = λ b h.
    let g = c.args.g in
    let rows : 0 < row_count g = let some = c.last_piece-own.ensures.geometry.limits.parity_chunks.0 in omega arith in
    let p = c.partner-partner.result in
    let row = partner_row g c.args.x (c.t.result - 1) c.args.z p.x p.y p.z c.partner-partner.ensures.partner in
    let same : get_or (layer_of g c.args.z) (column_count g - 1) 0 ≡ c.args.x =
    ap (λ t. get_or (layer_of g c.args.z) (t - 1) 0) (sym c.t.ensures.value) ∙ sym row ∙ c.if-partner-x.true in
    ap (λ l. get_or l b 0) c.copy_from_slice.ensures.after
    ∙ c.last_piece-own.ensures.bytes b h
    ∙ alone_last g rows c.args.column.now b c.args.x c.args.z c.requires.layer same

pub returns-else-partner-x : goal.returns-else-partner-x
returns-else-partner-x c = λ b h.
    let g = c.args.g in
    let rows : 0 < row_count g = let some = c.last_piece-own.ensures.geometry.limits.parity_chunks.0 in omega arith in
    let p = c.partner-partner.result in
    let row = partner_row g c.args.x (c.t.result - 1) c.args.z p.x p.y p.z c.partner-partner.ensures.partner in
    let digit : p.x ≡ get_or (layer_of g c.args.z) (column_count g - 1) 0 =
    row ∙ ap (λ t. get_or (layer_of g c.args.z) (t - 1) 0) c.t.ensures.value in
    let layer : layer_of g p.z ≡ set (layer_of g c.args.z) (column_count g - 1) c.args.x =
    partner_layer g c.args.x (c.t.result - 1) c.args.z p.x p.y p.z c.partner-partner.ensures.partner
    ∙ ap (λ t. set (layer_of g c.args.z) (t - 1) c.args.x) c.t.ensures.value in
    let long : b < length c.couple.new.out = omega arith in
    c.couple.ensures b long
    ∙ (λ i. quotient (bit_xor (c.last_piece-own.ensures.bytes b h i) (product 2 ((c.last_piece.ensures.bytes b h
    ∙ (λ k. get_or c.args.column.now ((p.z * row_count g + digit k) * g.width + b) 0)) i))) 5)
    ∙ paired_last g rows c.args.column.now b c.args.x c.args.z c.requires.layer p.z c.partner-partner.ensures.in_layers
    (λ e. c.if-partner-x.false (digit ∙ e)) layer
