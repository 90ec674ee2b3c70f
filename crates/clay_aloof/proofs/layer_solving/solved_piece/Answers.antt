use Rattle.std.proofs.Common.{◌≡◌, ℕ, ◌+◌, ◌-◌, ◌*◌, ◌<◌, ◌≤◌, length, get_or, sym, subst, ap, ◌∙◌, arith, Contains}
use Rattle.std.proofs.lemmas.List.{get_or_read}
use Rattle.clay_grid.specs.Shape.{node_count}
use Rattle.clay_aloof.proofs.Layer.{solved_part, piece_within}
use Rattle.code_laws.proofs.Nodes.{contains_erased}
use Rattle.clay_aloof.specs.Known.{node_bytes}
use Rattle.clay_aloof.proofs.layer_solving.solved_piece.Goals as goal

pub place_of-requires : goal.place_of-requires
place_of-requires c =
    subst (λ l. Contains l c.args.node) (sym (c.deref.ensures.value ∙ c.requires.plan.points_are))
    (contains_erased c.args.plan.now.erased.items (node_count c.args.g) c.args.node c.requires.node c.requires.erased)

-- the place among the pieces
place_within : (c : goal.After-place_of) → c.place_of.result < length c.args.plan.now.points.items
place_within c = omega (arith, c.place_of.ensures.within, ap length c.deref.ensures.value)

count_is : (c : goal.After-place_of) → c.len.result ≡ length c.args.plan.now.points.items
count_is c = omega (arith, c.len.ensures, c.deref.ensures.len, ap length c.deref.ensures.value)

-- the slot of the layer
slot_is : (c : goal.After-place_of) → c.index.result.now ≡ get_or c.args.plan.now.slots.items c.args.z 0
slot_is c =
    get_or_read c.args.plan.now.slots.items c.args.z c.index.result.now (omega (arith, c.requires.layer, c.requires.plan.slot_count)) c.index.ensures 0

pub slice_bounds-result-end : goal.slice_bounds-result-end
slice_bounds-result-end c =
    let g = c.args.g in
    let fits = piece_within g c.args.plan.now (node_bytes g c.args.known.now) c.args.solved.now c.args.z c.place_of.result c.requires.holds (place_within c) in
    let same : (c.index.result.now * c.len.result + c.place_of.result) * c.w-w.result + c.w-w.result
    ≡ (get_or c.args.plan.now.slots.items c.args.z 0 * length c.args.plan.now.points.items + c.place_of.result) * g.width + g.width =
    λ i. (slot_is c i * count_is c i + c.place_of.result) * c.w-w.ensures.value i + c.w-w.ensures.value i in
    let ends : (c.index.result.now * c.len.result + c.place_of.result) * c.w-w.result + c.w-w.result ≤ length c.args.solved.now = omega (arith, same, fits) in
    ends

pub returns-clause-value : goal.returns-clause-value
returns-clause-value c =
    let g = c.args.g in
    let at : ℕ = (c.index.result.now * c.len.result + c.place_of.result) * c.w-w.result in
    let within : c.place_of.result < length c.args.plan.now.points.items = omega (arith, c.place_of.ensures.within, ap length c.deref.ensures.value) in
    let count_is : c.len.result ≡ length c.args.plan.now.points.items = omega (arith, c.len.ensures, c.deref.ensures.len, ap length c.deref.ensures.value) in
    let slot_is : c.index.result.now ≡ get_or c.args.plan.now.slots.items c.args.z 0 =
    get_or_read c.args.plan.now.slots.items c.args.z c.index.result.now (omega (arith, c.requires.layer, c.requires.plan.slot_count)) c.index.ensures 0 in
    let width : at + c.w-w.result - at ≡ g.width = omega (arith, c.w-w.ensures.value) in
    solved_part g c.args.plan.now (node_bytes c.args.g c.args.known.now) c.args.solved.now c.args.node c.args.z c.place_of.result at (at + c.w-w.result - at) c.requires.holds within
    (ap (λ l. get_or l c.place_of.result 0) (sym c.deref.ensures.value) ∙ c.place_of.ensures.place)
    (λ i. (slot_is i * count_is i + c.place_of.result) * c.w-w.ensures.value i) width
