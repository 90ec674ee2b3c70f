use Rattle.std.proofs.Common.{◌≡◌, ℕ, ◌+◌, true, false, sym, subst, ◌∙◌, arith}
use Rattle.clay_grid.specs.Shape.{node_count}
use Rattle.lane_repair.proofs.RowLemmas.{generated_values}
use Rattle.lost_layers.specs.Erased.{is_unknown}
use Rattle.lost_read.specs.MissingReadings.{run_of, Fits}
use Rattle.lost_read.proofs.MissingReadLaws.{HoldsSums, sums_more, sums_skipped}
use Rattle.lost_read.proofs.missing_reading.Reading.solve_layer.Goals as goal
use Rattle.lost_read.proofs.missing_reading.Reading.solve_layer.Goals.{then-not-is_unknown, else-not-is_unknown}

pub add_node-requires-clause-known : goal.add_node-requires-clause-known
add_node-requires-clause-known c = sym c.is_unknown.ensures ∙ c.if-not-is_unknown.true

pub loop-node-preserved : goal.loop-node-preserved
loop-node-preserved c =
    let plan = c.args.self.now.plan.now in
    let e = run_of c.args.self.now in
    let node : ℕ = c.loop-node.node in
    elim c.if-not-is_unknown.branch [
      | then-not-is_unknown w ↦
          subst (HoldsSums e.g (Fits c.args.self.now) e.unknown plan.points.items plan.generator.each c.args.layer (node + 1)) (sym w.rows-is)
          (sums_more e.g (Fits c.args.self.now) e.unknown plan.points.items plan.generator.each c.args.layer node c.loop-node.rows w.add_node.new.rows (sym c.is_unknown.ensures ∙ w.if-not-is_unknown.true)
          w.add_node.ensures c.loop-node.invariant)
      | else-not-is_unknown w ↦
          subst (HoldsSums e.g (Fits c.args.self.now) e.unknown plan.points.items plan.generator.each c.args.layer (node + 1)) (sym w.rows-is)
          (sums_skipped e.g (Fits c.args.self.now) e.unknown plan.points.items plan.generator.each c.args.layer node c.loop-node.rows (sym c.is_unknown.ensures ∙ w.if-not-is_unknown.false) c.loop-node.invariant)
    ]

pub returns : goal.returns
returns c =
    let plan = c.args.self.now.plan.now in
    let planned = c.requires.reading.planned in
    let e = run_of c.args.self.now in
    let all : c.loop-node.node ≡ node_count e.g = omega (arith, c.loop-node-test.false, c.loop-node.auto.node-end, c.nodes-node-end.ensures.value) in
    let whole : HoldsSums e.g (Fits c.args.self.now) e.unknown plan.points.items plan.generator.each c.args.layer (node_count e.g) c.loop-node.rows =
    subst (λ n. HoldsSums e.g (Fits c.args.self.now) e.unknown plan.points.items plan.generator.each c.args.layer n c.loop-node.rows) all c.loop-node.invariant in
    λ word fits a b ha hb.
    whole word fits a b ha hb
    ∙ generated_values e.g e.unknown plan.points.items plan.generator.unknown plan.generator.each c.requires.reading.run.placed.geometry planned.generates planned.few planned.points_are word fits.codeword b c.args.layer a hb ha
