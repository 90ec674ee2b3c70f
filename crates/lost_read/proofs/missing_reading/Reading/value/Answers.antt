use Rattle.std.proofs.Common.{◌≡◌, ℕ, ◌+◌, ◌-◌, ◌*◌, ◌<◌, ◌≤◌, Contains, length, get_or, subst, sym, ap, ◌∙◌, arith}
use Rattle.std.proofs.lemmas.List.{get_or_read}
use Rattle.clay_grid.specs.Shape.{node_count, layer_count}
use Rattle.code_laws.specs.Solved.{uncoupled_byte}
use Rattle.code_laws.proofs.Nodes.{contains_erased}
use Rattle.lost_read.specs.MissingPlan.{rank}
use Rattle.lost_read.specs.MissingReadings.{run_of}
use Rattle.lost_read.proofs.MissingReadLaws.{rank_below, row_within, row_byte}
use Rattle.lost_read.proofs.missing_reading.Reading.value.Goals as goal

pub place_of-requires : goal.place_of-requires
place_of-requires c =
    let e = run_of c.args.self.now in
    subst (λ l. Contains l c.args.node) (sym (c.deref.ensures.value ∙ c.requires.reading.planned.points_are)) (contains_erased e.unknown (node_count e.g) c.args.node c.requires.node c.requires.unknown)

-- the place among the points
place_within : (c : goal.After-place_of) → c.place_of.result < length c.args.self.now.plan.now.points.items
place_within c = omega (arith, c.place_of.ensures.within, ap length c.deref.ensures.value)

count_is : (c : goal.After-place_of) → c.len.result ≡ length c.args.self.now.plan.now.points.items
count_is c = omega (arith, c.len.ensures, c.deref.ensures.len, ap length c.deref.ensures.value)

rank_is : (c : goal.After-place_of) → c.index.result.now ≡ rank (run_of c.args.self.now) c.args.layer
rank_is c =
    let ranks = c.requires.reading.planned.ranks_are in
    get_or_read c.args.self.now.plan.now.ranks.items c.args.layer c.index.result.now (omega (arith, c.requires.layer, ranks.len)) c.index.ensures 0
    ∙ ranks.each c.args.layer (omega (arith, c.requires.layer))

pub slice_bounds-result-end : goal.slice_bounds-result-end
slice_bounds-result-end c =
    let e = run_of c.args.self.now in
    let m : ℕ = length c.args.self.now.plan.now.points.items in
    let fits = row_within (rank e c.args.layer) (rank e (layer_count e.g)) m c.place_of.result e.g.width (rank_below e c.args.layer (layer_count e.g) c.requires.solved c.requires.layer) (place_within c) in
    let same : (c.index.result.now * c.len.result + c.place_of.result) * c.w-w.result + c.w-w.result ≡ (rank e c.args.layer * m + c.place_of.result) * e.g.width + e.g.width =
    λ k. (rank_is c k * count_is c k + c.place_of.result) * c.w-w.ensures.value k + c.w-w.ensures.value k in
    let ends : (c.index.result.now * c.len.result + c.place_of.result) * c.w-w.result + c.w-w.result ≤ length c.args.values.now = omega (arith, same, fits, c.requires.values_len) in
    ends

pub returns-clause-value : goal.returns-clause-value
returns-clause-value c =
    let e = run_of c.args.self.now in
    let points = c.args.self.now.plan.now.points.items in
    let m : ℕ = length points in
    let place : ℕ = c.place_of.result in
    let within : place < m = omega (arith, c.place_of.ensures.within, ap length c.deref.ensures.value) in
    let count_is : c.len.result ≡ m = omega (arith, c.len.ensures, c.deref.ensures.len, ap length c.deref.ensures.value) in
    let ranks = c.requires.reading.planned.ranks_are in
    let rank_is : c.index.result.now ≡ rank e c.args.layer =
    get_or_read c.args.self.now.plan.now.ranks.items c.args.layer c.index.result.now (omega (arith, c.requires.layer, ranks.len)) c.index.ensures 0
    ∙ ranks.each c.args.layer (omega (arith, c.requires.layer)) in
    let at : ℕ = (c.index.result.now * c.len.result + place) * c.w-w.result in
    let at_is : at ≡ (rank e c.args.layer * m + place) * e.g.width = λ k. (rank_is k * count_is k + place) * c.w-w.ensures.value k in
    let width : at + c.w-w.result - at ≡ e.g.width = omega (arith, c.w-w.ensures.value) in
    let point : get_or points place 0 ≡ c.args.node = ap (λ l. get_or l place 0) (sym c.deref.ensures.value) ∙ c.place_of.ensures.place in
    λ word fits b h.
    row_byte (rank e c.args.layer) m place e.g.width at (at + c.w-w.result - at) b c.args.values.now at_is width h
    ∙ c.requires.holds word fits place b within h
    ∙ ap (λ i. uncoupled_byte e.g word b i c.args.layer) point
