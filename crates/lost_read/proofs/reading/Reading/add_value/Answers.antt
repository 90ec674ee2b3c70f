use Rattle.std.proofs.Common.{◌≡◌, ℕ, ◌+◌, ◌-◌, ◌*◌, ◌<◌, ◌≤◌, false, List, length, get_or, take, drop, sym, subst, ap, ◌∙◌, arith}
use Rattle.std.proofs.lemmas.List.{get_or_read}
use Rattle.clay_grid.specs.Shape.{node_count}
use Rattle.code_laws.proofs.Pieces.{piece_fits}
use Rattle.clay_kernels.specs.Lanes.{AddsRows}
use Rattle.lost_read.specs.Readings.{Fits}
use Rattle.lost_read.proofs.ReadLaws.{factors_long, one_long, sum_more, sum_skipped}
use Rattle.lost_read.proofs.reading.Reading.add_value.Goals as goal

pub returns-then-index : goal.returns-then-index
returns-then-index c =
    let plan = c.args.self.now.plan.now in
    let read : c.index.result.now ≡ get_or plan.erased.items c.args.node false =
    get_or_read plan.erased.items c.args.node c.index.result.now (omega (arith, c.requires.node, c.requires.reading.planned.nodes)) c.index.ensures false in
    sum_skipped plan.placed.g (Fits c.args.self.now) plan.erased.items plan.generator.unknown plan.generator.each c.args.layer c.args.place c.args.node c.args.sum.now (sym read ∙ c.if-index.true) c.requires.sum

pub uncouple_known-requires-clause-known : goal.uncouple_known-requires-clause-known
uncouple_known-requires-clause-known c =
    let plan = c.args.self.now.plan.now in
    let planned = c.requires.reading.planned in
    let read : c.index.result.now ≡ get_or plan.erased.items c.args.node false =
    get_or_read plan.erased.items c.args.node c.index.result.now (omega (arith, c.requires.node, planned.nodes)) c.index.ensures false in
    sym (planned.erased_are c.args.layer c.args.node c.requires.solved c.requires.node) ∙ sym read ∙ c.if-index.false

pub of_node-factors-requires : goal.of_node-factors-requires
of_node-factors-requires c =
    let plan = c.args.self.now.plan.now in
    let gen = c.requires.reading.planned.generates in
    let points : ℕ = length plan.points.items in
    let fits = piece_fits c.args.node (node_count plan.placed.g) points c.requires.node in
    let same : c.args.node * plan.generator.unknown + plan.generator.unknown ≡ c.args.node * points + points = ap (λ n. c.args.node * n + n) gen.count in
    omega (arith, same, fits, gen.long)

pub slice_bounds-add_rows-end : goal.slice_bounds-add_rows-end
slice_bounds-add_rows-end c =
    let plan = c.args.self.now.plan.now in
    let gen = c.requires.reading.planned.generates in
    let count : length c.of_node-factors.result.now ≡ plan.generator.unknown =
    factors_long plan.generator.each (length plan.points.items) c.args.node (node_count plan.placed.g) plan.generator.unknown c.of_node-factors.result.now gen.count gen.long c.requires.node c.of_node-factors.ensures in
    let there : c.args.place + 1 ≤ length c.of_node-factors.result.now = omega (arith, count, c.requires.place, gen.count) in
    there

pub add_rows-requires : goal.add_rows-requires
add_rows-requires c =
    let plan = c.args.self.now.plan.now in
    let gen = c.requires.reading.planned.generates in
    let count : length c.of_node-factors.result.now ≡ plan.generator.unknown =
    factors_long plan.generator.each (length plan.points.items) c.args.node (node_count plan.placed.g) plan.generator.unknown c.of_node-factors.result.now gen.count gen.long c.requires.node c.of_node-factors.ensures in
    let w : ℕ = length c.uncouple_known.new.out in
    let once : 1 * w ≡ w = omega arith in
    let long : length c.args.sum.now ≡ w = c.requires.sum_len ∙ sym (c.uncouple_known.auto.out ∙ c.requires.value_len) in
    let less : c.args.place < plan.generator.unknown = omega (arith, c.requires.place, gen.count) in
    long ∙ sym once ∙ ap (λ n. n * w) (sym (one_long c.of_node-factors.result.now c.args.place plan.generator.unknown count less))

pub returns : goal.returns
returns c =
    let plan = c.args.self.now.plan.now in
    let planned = c.requires.reading.planned in
    let gen = planned.generates in
    let m : ℕ = plan.generator.unknown in
    let start : ℕ = c.args.node * m in
    let place : ℕ = c.args.place in
    let value : List ℕ = c.uncouple_known.new.out in
    let part : List ℕ = c.of_node-factors.result.now in
    let read : c.index.result.now ≡ get_or plan.erased.items c.args.node false =
    get_or_read plan.erased.items c.args.node c.index.result.now (omega (arith, c.requires.node, planned.nodes)) c.index.ensures false in
    let count : length part ≡ m = factors_long plan.generator.each (length plan.points.items) c.args.node (node_count plan.placed.g) m part gen.count gen.long c.requires.node c.of_node-factors.ensures in
    let width : start + m - start ≡ m = omega arith in
    let some : 0 < place + 1 - place = omega arith in
    let less : place < m = omega (arith, c.requires.place, gen.count) in
    let one : length (take (place + 1 - place) (drop place part)) ≡ 1 = one_long part place m count less in
    let there : 0 < length (take (place + 1 - place) (drop place part)) = omega (arith, one) in
    sum_more plan.placed.g (Fits c.args.self.now) plan.erased.items m plan.generator.each c.args.layer place c.args.node start (start + m - start) (place + 1 - place) (length value) value c.args.sum.now c.add_rows.new.rows
    less (λ k. start) width some (c.uncouple_known.auto.out ∙ c.requires.value_len) (sym read ∙ c.if-index.false) c.uncouple_known.ensures
    (length (take (place + 1 - place) (drop place part))) there
    (subst (λ l. AddsRows (length (take (place + 1 - place) (drop place part))) (length value) (λ r. get_or (take (place + 1 - place) (drop place l)) r 0) (λ b. get_or value b 0) c.args.sum.now c.add_rows.new.rows) c.of_node-factors.ensures c.add_rows.ensures)
    c.requires.sum
