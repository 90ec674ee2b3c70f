use Rattle.std.proofs.Common.{◌≡◌, ◌+◌, ◌-◌, ◌*◌, ◌%◌, ◌≤◌, length, arith}
use Rattle.clay_grid.specs.Shape.{row_count, layer_count}
use Rattle.clay_parity.proofs.GroupLaws.{group_end, in_stripe}
use Rattle.clay_parity.proofs.stripe.piece.Goals as goal

pub slice_bounds-result-end : goal.slice_bounds-result-end
slice_bounds-result-end c =
    let g = c.args.g in
    let geometry = c.alpha.ensures.geometry in
    let z = c.args.z in
    let last = in_stripe (layer_count g) g.data_count g.width c.args.chunk z (row_count g - z % row_count g) (c.args.at + c.args.len) (group_end g geometry z c.requires.layer) c.requires.data c.requires.within in
    let start : (c.args.chunk * c.alpha.result + z) * c.w.result ≡ (c.args.chunk * layer_count g + z) * g.width = λ i. (c.args.chunk * c.alpha.ensures.value i + z) * c.w.ensures.value i in
    let ends : (c.args.chunk * c.alpha.result + z) * c.w.result + c.args.at + c.args.len ≤ length c.args.stripe.now = omega (arith, start, last, c.requires.whole) in
    ends
