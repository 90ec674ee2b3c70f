use Rattle.std.proofs.Common.{◌≡◌, ℕ, ◌+◌, ◌-◌, ◌*◌, ◌<◌, ◌≤◌, length, get_or, sym, subst, ap, ◌∙◌, arith, Contains}
use Rattle.clay_grid.specs.Shape.{node_count, layer_count}
use Rattle.code_laws.proofs.Pieces.{piece_fits, place_below}
use Rattle.code_laws.proofs.Layer.{solved_part}
use Rattle.code_laws.proofs.Nodes.{contains_erased}
use Rattle.clay_decode.proofs.plain_layers.solved_piece.Goals as goal

pub place_of-requires : goal.place_of-requires
place_of-requires c =
    subst (λ l. Contains l c.args.node) (sym (c.deref.ensures.value ∙ c.requires.plan.points_are))
    (contains_erased c.args.plan.now.erased.items (node_count c.args.g) c.args.node c.requires.node c.requires.erased)

-- the place among the pieces
place_within : (c : goal.After-place_of) → c.place_of.result < length c.args.plan.now.points.items
place_within c = omega (arith, c.place_of.ensures.within, ap length c.deref.ensures.value)

count_is : (c : goal.After-place_of) → c.len.result ≡ length c.args.plan.now.points.items
count_is c = omega (arith, c.len.ensures, c.deref.ensures.len, ap length c.deref.ensures.value)

pub slice_bounds-result-end : goal.slice_bounds-result-end
slice_bounds-result-end c =
    let g = c.args.g in
    let count : ℕ = length c.args.plan.now.points.items in
    let place : ℕ = c.args.z * count + c.place_of.result in
    let below : place < layer_count g * count = place_below c.args.z (layer_count g) count c.place_of.result c.requires.layer (place_within c) in
    let fits : place * g.width + g.width ≤ layer_count g * count * g.width = piece_fits place (layer_count g * count) g.width below in
    let same : (c.args.z * c.len.result + c.place_of.result) * c.w-w.result + c.w-w.result ≡ place * g.width + g.width =
    λ i. (c.args.z * count_is c i + c.place_of.result) * c.w-w.ensures.value i + c.w-w.ensures.value i in
    let whole : layer_count g * count * g.width ≡ layer_count g * (count * g.width) = omega arith in
    let ends : (c.args.z * c.len.result + c.place_of.result) * c.w-w.result + c.w-w.result ≤ length c.args.solved.now = omega (arith, c.requires.solved_len) in
    ends

pub returns-clause-value : goal.returns-clause-value
returns-clause-value c =
    let g = c.args.g in
    let at : ℕ = (c.args.z * c.len.result + c.place_of.result) * c.w-w.result in
    let within : c.place_of.result < length c.args.plan.now.points.items = omega (arith, c.place_of.ensures.within, ap length c.deref.ensures.value) in
    let count_is : c.len.result ≡ length c.args.plan.now.points.items = omega (arith, c.len.ensures, c.deref.ensures.len, ap length c.deref.ensures.value) in
    let width : at + c.w-w.result - at ≡ g.width = omega (arith, c.w-w.ensures.value) in
    solved_part g c.args.have.now c.args.plan.now.points.items c.args.solved.now c.args.node c.args.z c.place_of.result at (at + c.w-w.result - at) c.requires.holds within
    (ap (λ l. get_or l c.place_of.result 0) (sym c.deref.ensures.value) ∙ c.place_of.ensures.place)
    (λ i. (c.args.z * count_is i + c.place_of.result) * c.w-w.ensures.value i) width
