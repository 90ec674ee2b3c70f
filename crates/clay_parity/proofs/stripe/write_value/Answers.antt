use Rattle.std.proofs.Common.{◌≡◌, ℕ, ◌+◌, ◌*◌, ◌/◌, ◌%◌, ◌<◌, ◌≤◌, length, get_or, subst, sym, ap, ◌∙◌, arith, bit_xor}
use Rattle.std.proofs.lemmas.Nat.{div-mul-add, mod-mul-add}
use Rattle.clay_field.specs.Field.{product}
use Rattle.clay_grid.specs.Shape.{row_count}
use Rattle.code_laws.specs.Columns.{data_byte, first_parity}
use Rattle.clay_parity.proofs.GroupLaws.{partner_room}
use Rattle.clay_parity.proofs.NodeLemmas.{unpaired, with_virtual, paired}
use Rattle.clay_parity.proofs.stripe.write_value.Goals as goal

pub returns-then-partner-x : goal.returns-then-partner-x
returns-then-partner-x c = λ b h.
    let g = c.args.g in
    let rows : 0 < row_count g = omega (arith, c.requires.row) in
    let p = c.args.partner in
    let x = c.args.x in
    let y = c.args.column in
    let node : ℕ = y * row_count g + x in
    let row : x ≡ node % row_count g = sym (mod-mul-add y (row_count g) x c.requires.row) in
    let column : y ≡ node / row_count g = sym (div-mul-add y (row_count g) x c.requires.row) in
    c.write_own.ensures b h
    ∙ ap (λ q. data_byte g c.args.stripe.now (c.args.at + b) (y * q + x) c.args.z) c.q.ensures.value
    ∙ unpaired g rows c.args.stripe.now node c.args.z x y p.x p.y p.z c.requires.layer c.requires.other_layer row column c.requires.partner c.if-partner-x.true (c.args.at + b)

pub returns-then-other-k : goal.returns-then-other-k
returns-then-other-k c = λ b h.
    let g = c.args.g in
    let rows : 0 < row_count g = omega (arith, c.requires.row) in
    let p = c.args.partner in
    let x = c.args.x in
    let y = c.args.column in
    let node : ℕ = y * row_count g + x in
    let row : x ≡ node % row_count g = sym (mod-mul-add y (row_count g) x c.requires.row) in
    let column : y ≡ node / row_count g = sym (div-mul-add y (row_count g) x c.requires.row) in
    let virtual : g.data_count ≤ y * row_count g + p.x = subst (λ q. g.data_count ≤ y * q + p.x) c.q.ensures.value (subst (λ k. k ≤ y * c.q.result + p.x) c.k.ensures.value c.if-other-k.true) in
    c.write_own-then-other-k.ensures b h
    ∙ ap (λ q. data_byte g c.args.stripe.now (c.args.at + b) (y * q + x) c.args.z) c.q.ensures.value
    ∙ with_virtual g rows c.args.stripe.now node c.args.z x y p.x p.y p.z c.requires.layer c.requires.other_layer row column c.requires.partner c.if-partner-x.false virtual (c.args.at + b)

pub piece-theirs-requires-clause-within : goal.piece-theirs-requires-clause-within
piece-theirs-requires-clause-within c =
    let g = c.args.g in
    let p = c.args.partner in
    let x = c.args.x in
    let y = c.args.column in
    let node : ℕ = y * row_count g + x in
    let known : node < first_parity g = omega (arith, c.requires.known, c.requires.row) in
    let column : y ≡ node / row_count g = sym (div-mul-add y (row_count g) x c.requires.row) in
    partner_room g c.k.ensures.geometry node x y c.args.z p.x p.y p.z (c.args.at + length c.args.out.now) known column c.requires.partner c.requires.within

pub returns-else-other-k : goal.returns-else-other-k
returns-else-other-k c = λ b h.
    let g = c.args.g in
    let rows : 0 < row_count g = omega (arith, c.requires.row) in
    let stripe = c.args.stripe.now in
    let p = c.args.partner in
    let x = c.args.x in
    let y = c.args.column in
    let node : ℕ = y * row_count g + x in
    let row : x ≡ node % row_count g = sym (mod-mul-add y (row_count g) x c.requires.row) in
    let column : y ≡ node / row_count g = sym (div-mul-add y (row_count g) x c.requires.row) in
    c.uncouple_node.ensures b (subst (λ n. b < n) (sym c.piece-theirs.ensures.len) h)
    ∙ ap (λ q. bit_xor (data_byte g stripe (c.args.at + b) (y * q + x) c.args.z) (product 2 (get_or c.piece-theirs.result.now b 0))) c.q.ensures.value
    ∙ ap (λ v. bit_xor (data_byte g stripe (c.args.at + b) node c.args.z) (product 2 v))
    (c.piece-theirs.ensures.bytes b h ∙ ap (λ q. data_byte g stripe (c.args.at + b) (y * q + p.x) p.z) c.q.ensures.value)
    ∙ paired g rows stripe node c.args.z x y p.x p.y p.z c.requires.layer c.requires.other_layer row column c.requires.partner c.if-partner-x.false (c.args.at + b)
