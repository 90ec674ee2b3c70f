use Rattle.std.proofs.Common.{◌≡◌, ℕ, ◌+◌, ◌*◌, length, ap, ◌∙◌, arith}
use Rattle.clay_grid.specs.Shape.{node_count}
use Rattle.code_laws.proofs.Pieces.{piece_fits}
use Rattle.clay_aloof.specs.Known.{node_bytes}
use Rattle.clay_aloof.specs.Solved.{IsUncoupled}
use Rattle.clay_aloof.proofs.Layer.{adds_node}
use Rattle.clay_aloof.proofs.Vertices.{alone_value}
use Rattle.clay_aloof.proofs.layer_solving.add_node.Goals as goal

pub add-requires-clause-node : goal.add-requires-clause-node
add-requires-clause-node c =
    let gen = c.requires.plan.generator in
    let points : ℕ = length c.args.plan.now.points.items in
    let fits = piece_fits c.args.node (node_count c.args.g) points c.requires.node in
    let same : c.args.node * c.args.plan.now.generator.unknown + c.args.plan.now.generator.unknown ≡ c.args.node * points + points = ap (λ n. c.args.node * n + n) gen.count in
    omega (arith, same, fits, gen.long)

pub add-requires-else-partner-node-clause-node : goal.add-requires-else-partner-node-clause-node
add-requires-else-partner-node-clause-node c =
    let gen = c.requires.plan.generator in
    let points : ℕ = length c.args.plan.now.points.items in
    let fits = piece_fits c.args.node (node_count c.args.g) points c.requires.node in
    let same : c.args.node * c.args.plan.now.generator.unknown + c.args.plan.now.generator.unknown ≡ c.args.node * points + points = ap (λ n. c.args.node * n + n) gen.count in
    omega (arith, same, fits, gen.long)

pub returns-then-partner-node : goal.returns-then-partner-node
returns-then-partner-node c =
    let g = c.args.g in
    let plan = c.args.plan.now in
    let known = node_bytes g c.args.known.now in
    let p = c.partner_of-partner.result in
    let is : IsUncoupled g plan known c.args.node c.args.z c.piece-own.result.now = record {
      at = λ code fits b h.
          c.piece-own.ensures.bytes b h
          ∙ fits.agrees c.args.node c.args.z b c.requires.node c.requires.there c.requires.listed h
          ∙ alone_value g c.args.node c.args.z p.node p.layer c.partner_of-partner.ensures.partners code fits.bytes b c.if-partner-node.true;
    } in
    adds_node g plan known c.args.z c.args.node plan.generator.unknown c.piece-own.result.now c.args.rows.now c.add.new.rows c.requires.plan.generator.count c.piece-own.ensures.len is c.add.ensures

pub returns-else-partner-node : goal.returns-else-partner-node
returns-else-partner-node c =
    let g = c.args.g in
    let plan = c.args.plan.now in
    adds_node g plan (node_bytes g c.args.known.now) c.args.z c.args.node plan.generator.unknown c.uncouple_node.new.out c.args.rows.now c.add-else-partner-node.new.rows
    c.requires.plan.generator.count (c.uncouple_node.auto.out ∙ c.requires.value_len) c.uncouple_node.ensures c.add-else-partner-node.ensures
