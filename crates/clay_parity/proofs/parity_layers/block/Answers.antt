use Rattle.std.proofs.Common.{◌≡◌, ℕ, ◌+◌, ◌-◌, ◌*◌, ◌≤◌, length, get_or, sym, ap, ◌∙◌, arith}
use Rattle.std.proofs.lemmas.Nat.{mul-le}
use Rattle.std.proofs.lemmas.List.Edits.{get_or-between}
use Rattle.code_laws.proofs.Pieces.{piece_fits}
use Rattle.clay_parity.proofs.BlockPlaces.{place_in}
use Rattle.clay_parity.proofs.parity_layers.block.Goals as goal

pub slice_bounds-result-end : goal.slice_bounds-result-end
slice_bounds-result-end c =
    let m = c.m-m.result in
    let w = c.w.result in
    let p = c.args.g.parity_count in
    let mw : m * w ≡ p * c.args.g.width = λ i. c.m-m.ensures.value i * c.w.ensures.value i in
    let whole : m * (m * w) ≡ p * (p * c.args.g.width) = λ i. c.m-m.ensures.value i * mw i in
    let layer = piece_fits c.args.layer m (m * w) (omega (arith, c.requires.in_group, c.m-m.ensures.value)) in
    let row = piece_fits c.args.x m c.args.len (omega (arith, c.requires.row, c.m-m.ensures.value)) in
    let blocks : m * (c.args.at + c.args.len) ≤ m * w = mul-le m (c.args.at + c.args.len) m w (omega arith) (omega arith) in
    let ends : c.args.layer * (m * w) + m * c.args.at + c.args.x * c.args.len + c.args.len ≤ length c.args.group.now = omega (arith, c.requires.group_len) in
    ends

pub returns-clause-bytes : goal.returns-clause-bytes
returns-clause-bytes c = λ b h.
    let g = c.args.g in
    let m = c.m-m.result in
    let w = c.w.result in
    let start : ℕ = c.args.layer * (m * w) + m * c.args.at + c.args.x * c.args.len in
    let back : c.args.at + b - c.args.at ≡ b = omega arith in
    let there = place_in g.parity_count g.width c.args.x c.args.at c.args.len (c.args.at + b) c.requires.start c.requires.block (omega arith) (omega arith) in
    let grouped : start + b ≡ c.args.layer * (m * w) + (m * c.args.at + (c.args.x * c.args.len + b)) = omega arith in
    get_or-between c.args.group.now start (start + c.args.len) b 0 (omega arith)
    ∙ ap (λ k. get_or c.args.group.now k 0)
    (grouped ∙ (λ i. c.args.layer * (c.m-m.ensures.value i * c.w.ensures.value i) + (c.m-m.ensures.value i * c.args.at + (c.args.x * c.args.len + sym back i)))
    ∙ ap (λ k. c.args.layer * (g.parity_count * g.width) + k) (sym there))
