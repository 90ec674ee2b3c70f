use Rattle.std.proofs.Common.{length, ◌∙◌}
use Rattle.clay_grid.specs.Shape.{node_count}
use Rattle.code_laws.proofs.Vertices.{alone_value}
use Rattle.lost_layers.proofs.PieceLaws.{some_rows}
use Rattle.lost_layers.proofs.ErasedDetermining.{own_piece}
use Rattle.lost_read.specs.MissingReadings.{run_of, Fits}
use Rattle.lost_read.proofs.MissingReadLaws.{factors_within, adds_node}
use Rattle.lost_read.proofs.missing_reading.Reading.add_node.Goals as goal

pub piece-own-requires-clause-read : goal.piece-own-requires-clause-read
piece-own-requires-clause-read c =
    let e = run_of c.args.self.now in
    own_piece e (some_rows e.g c.requires.reading.run.placed.geometry) c.args.layer c.args.node c.requires.solved c.requires.known

pub add-requires-clause-node : goal.add-requires-clause-node
add-requires-clause-node c =
    let plan = c.args.self.now.plan.now in
    let gen = c.requires.reading.planned.generates in
    factors_within plan.generator.each (length plan.points.items) c.args.node (node_count (run_of c.args.self.now).g) plan.generator.unknown gen.count gen.long c.requires.node

pub add-requires-else-partner-node-clause-node : goal.add-requires-else-partner-node-clause-node
add-requires-else-partner-node-clause-node c =
    let plan = c.args.self.now.plan.now in
    let gen = c.requires.reading.planned.generates in
    factors_within plan.generator.each (length plan.points.items) c.args.node (node_count (run_of c.args.self.now).g) plan.generator.unknown gen.count gen.long c.requires.node

pub returns-then-partner-node : goal.returns-then-partner-node
returns-then-partner-node c =
    let plan = c.args.self.now.plan.now in
    let e = run_of c.args.self.now in
    let p = c.partner_of-partner.result in
    adds_node e.g (Fits c.args.self.now) e.unknown plan.points.items plan.generator.each c.args.layer c.args.node plan.generator.unknown c.piece-own.result.now c.args.rows.now c.add.new.rows
    c.requires.reading.planned.generates.count c.piece-own.ensures.len
    (λ word fits b h.
    c.piece-own.ensures.value word fits b h
    ∙ alone_value e.g c.args.node c.args.layer p.node p.layer c.partner_of-partner.ensures.partners word fits.codeword b c.if-partner-node.true)
    c.add.ensures

pub returns-else-partner-node : goal.returns-else-partner-node
returns-else-partner-node c =
    let plan = c.args.self.now.plan.now in
    let e = run_of c.args.self.now in
    adds_node e.g (Fits c.args.self.now) e.unknown plan.points.items plan.generator.each c.args.layer c.args.node plan.generator.unknown c.uncouple_node.new.out c.args.rows.now c.add-else-partner-node.new.rows
    c.requires.reading.planned.generates.count (c.uncouple_node.auto.out ∙ c.requires.value_len) c.uncouple_node.ensures c.add-else-partner-node.ensures
