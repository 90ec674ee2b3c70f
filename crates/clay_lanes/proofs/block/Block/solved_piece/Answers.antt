use Rattle.std.proofs.Common.{◌≡◌, ℕ, ◌+◌, ◌-◌, ◌*◌, ◌<◌, ◌≤◌, length, get_or, sym, subst, ap, ◌∙◌, arith, Contains}
use Rattle.clay_grid.specs.Shape.{node_count, layer_count}
use Rattle.code_laws.proofs.Nodes.{contains_erased}
use Rattle.code_laws.proofs.Pieces.{piece_fits, place_below}
use Rattle.lane_repair.specs.Views.{pieces_of}
use Rattle.clay_lanes.specs.Present.{FitsChunks}
use Rattle.clay_lanes.proofs.Recovery.{solved_part}
use Rattle.clay_lanes.proofs.block.Block.solved_piece.Goals as goal

pub place_of-requires : goal.place_of-requires
place_of-requires c =
    subst (λ l. Contains l c.args.node) (sym (c.deref.ensures.value ∙ c.requires.block.planned.points_are))
    (contains_erased c.args.self.now.plan.now.erased.items (node_count c.args.self.now.g) c.args.node c.requires.node c.requires.erased)

pub slice_bounds-result-end : goal.slice_bounds-result-end
slice_bounds-result-end c =
    let g = c.args.self.now.g in
    let len : ℕ = c.args.self.now.len in
    let count : ℕ = length c.args.self.now.plan.now.points.items in
    let place_within : c.place_of.result < count = omega (arith, c.place_of.ensures.within, ap length c.deref.ensures.value) in
    let count_is : c.len.result ≡ count = omega (arith, c.len.ensures, c.deref.ensures.len, ap length c.deref.ensures.value) in
    let place : ℕ = c.args.z * count + c.place_of.result in
    let below : place < layer_count g * count = place_below c.args.z (layer_count g) count c.place_of.result c.requires.layer place_within in
    let fits : place * len + len ≤ layer_count g * count * len = piece_fits place (layer_count g * count) len below in
    let same : (c.args.z * c.len.result + c.place_of.result) * len + len ≡ place * len + len = ap (λ n. (c.args.z * n + c.place_of.result) * len + len) count_is in
    let whole : layer_count g * count * len ≡ layer_count g * (count * len) = omega arith in
    let ends : (c.args.z * c.len.result + c.place_of.result) * len + len ≤ length c.args.solved.now = omega (arith, c.requires.solved_len) in
    ends

pub returns-clause-value : goal.returns-clause-value
returns-clause-value c =
    let g = c.args.self.now.g in
    let start : ℕ = (c.args.z * c.len.result + c.place_of.result) * c.args.self.now.len in
    let within : c.place_of.result < length c.args.self.now.plan.now.points.items = omega (arith, c.place_of.ensures.within, ap length c.deref.ensures.value) in
    let count_is : c.len.result ≡ length c.args.self.now.plan.now.points.items = omega (arith, c.len.ensures, c.deref.ensures.len, ap length c.deref.ensures.value) in
    let width : start + c.args.self.now.len - start ≡ c.args.self.now.len = omega arith in
    solved_part g (λ word. FitsChunks g (pieces_of c.args.self.now.have) word) c.args.self.now.at c.args.self.now.len c.args.self.now.plan.now.points.items c.args.solved.now c.args.node c.args.z c.place_of.result start (start + c.args.self.now.len - start) c.requires.holds within
    (ap (λ l. get_or l c.place_of.result 0) (sym c.deref.ensures.value) ∙ c.place_of.ensures.place)
    (ap (λ n. (c.args.z * n + c.place_of.result) * c.args.self.now.len) count_is) width
