use Rattle.std.proofs.Common.{◌≡◌, ℕ, ◌<◌, Contains, length, get_or, sym, subst, ap, ◌∙◌, arith}
use Rattle.clay_grid.specs.Shape.{node_count}
use Rattle.code_laws.specs.Solved.{uncoupled_byte}
use Rattle.code_laws.proofs.Nodes.{contains_erased}
use Rattle.lane_repair.proofs.RowLemmas.{generated_values}
use Rattle.lost_read.specs.Readings.{Fits}
use Rattle.lost_read.proofs.ReadLaws.{HoldsSum}
use Rattle.lost_read.proofs.reading.Reading.solve.Goals as goal

pub place_of-place-requires : goal.place_of-place-requires
place_of-place-requires c =
    let plan = c.args.self.now.plan.now in
    let planned = c.requires.reading.planned in
    subst (λ l. Contains l c.args.node) (sym (c.deref.ensures.value ∙ planned.points_are))
    (contains_erased plan.erased.items (node_count plan.placed.g) c.args.node c.requires.node (planned.erased_are c.args.layer c.args.node c.requires.solved c.requires.node ∙ c.requires.unknown))

pub add_value-requires-clause-place : goal.add_value-requires-clause-place
add_value-requires-clause-place c = omega (arith, c.place_of-place.ensures.within, ap length c.deref.ensures.value)

pub returns : goal.returns
returns c =
    let plan = c.args.self.now.plan.now in
    let planned = c.requires.reading.planned in
    let g = plan.placed.g in
    let gen = planned.generates in
    let all : c.loop-other.other ≡ node_count g = omega (arith, c.loop-other-test.false, c.loop-other.auto.other-end, c.nodes-other-end.ensures.value) in
    let place : ℕ = c.place_of-place.result in
    let within : place < length plan.points.items = omega (arith, c.place_of-place.ensures.within, ap length c.deref.ensures.value) in
    let point : get_or plan.points.items place 0 ≡ c.args.node = ap (λ l. get_or l place 0) (sym c.deref.ensures.value) ∙ c.place_of-place.ensures.place in
    let whole : HoldsSum g (Fits c.args.self.now) plan.erased.items (length plan.points.items) plan.generator.each c.args.layer place (node_count g) c.loop-other.sum =
    subst (λ m. HoldsSum g (Fits c.args.self.now) plan.erased.items m plan.generator.each c.args.layer place (node_count g) c.loop-other.sum) gen.count
    (subst (λ n. HoldsSum g (Fits c.args.self.now) plan.erased.items plan.generator.unknown plan.generator.each c.args.layer place n c.loop-other.sum) all c.loop-other.invariant) in
    λ word fits b h.
    whole word fits b h
    ∙ generated_values g plan.erased.items plan.points.items plan.generator.unknown plan.generator.each planned.placed_is.geometry gen planned.few planned.points_are word fits.codeword b c.args.layer place h within
    ∙ ap (λ i. uncoupled_byte g word b i c.args.layer) point
