use Rattle.std.proofs.Common.{◌≡◌, ℕ, ◌+◌, ◌*◌, ◌<◌, true, false, List, length, get_or, sym, subst, ap, ◌∙◌, arith}
use Rattle.std.proofs.lemmas.List.{get_or_read}
use Rattle.clay_grid.specs.Shape.{node_count}
use Rattle.code_laws.proofs.Pieces.{piece_fits}
use Rattle.lane_repair.specs.Views.{pieces_of}
use Rattle.lane_repair.proofs.RowLemmas.{HoldsSums, sums_more, sums_skipped, rows_of_sums}
use Rattle.clay_lanes.specs.Present.{FitsChunks}
use Rattle.clay_lanes.proofs.block.Block.solve_by_nodes.Goals as goal
use Rattle.clay_lanes.proofs.block.Block.solve_by_nodes.Goals.{then-not-index, else-not-index}

pub add-requires-clause-node : goal.add-requires-clause-node
add-requires-clause-node c =
    let gen = c.requires.block.planned.generator in
    let points : ℕ = length c.args.self.now.plan.now.points.items in
    let node : ℕ = c.loop-node.node in
    let below : node < node_count c.args.self.now.g = omega (arith, c.loop-node-test.true, c.nodes-node-end.ensures.value) in
    let fits = piece_fits node (node_count c.args.self.now.g) points below in
    let same : node * c.args.self.now.plan.now.generator.unknown + c.args.self.now.plan.now.generator.unknown ≡ node * points + points = ap (λ n. node * n + n) gen.count in
    omega (arith, same, fits, gen.long)

pub loop-node-preserved : goal.loop-node-preserved
loop-node-preserved c =
    let g = c.args.self.now.g in
    let plan = c.args.self.now.plan.now in
    let fits : List (List ℕ) → Type 0 = λ word. FitsChunks g (pieces_of c.args.self.now.have) word in
    let at : ℕ = c.args.self.now.at in
    let len : ℕ = c.args.self.now.len in
    let z : ℕ = c.args.z in
    let erased = plan.erased.items in
    let points = plan.points.items in
    let factors = plan.generator.each in
    let node : ℕ = c.loop-node.node in
    let below : node < node_count g = omega (arith, c.loop-node-test.true, c.nodes-node-end.ensures.value) in
    let within : node < length erased = omega (arith, c.requires.block.planned.nodes) in
    let read : c.index.result.now ≡ get_or erased node false = get_or_read erased node c.index.result.now within c.index.ensures false in
    elim c.if-not-index.branch [
      | then-not-index w ↦
          let here : get_or erased node false ≡ false = sym read ∙ w.if-not-index.true in
          subst (HoldsSums g fits at len erased points factors z (node + 1)) (sym w.rows-is)
          (sums_more g fits at len erased points factors z node plan.generator.unknown w.uncouple_node.new.out c.loop-node.rows w.add.new.rows
          c.requires.block.planned.generator.count (w.uncouple_node.auto.out ∙ c.loop-node.auto.values ∙ c.requires.values_len) here w.uncouple_node.ensures w.add.ensures c.loop-node.invariant)
      | else-not-index w ↦
          let gone : get_or erased node false ≡ true = sym read ∙ w.if-not-index.false in
          subst (HoldsSums g fits at len erased points factors z (node + 1)) (sym w.rows-is)
          (sums_skipped g fits at len erased points factors z node c.loop-node.rows gone c.loop-node.invariant)
    ]

pub returns : goal.returns
returns c =
    let g = c.args.self.now.g in
    let plan = c.args.self.now.plan.now in
    let fits : List (List ℕ) → Type 0 = λ word. FitsChunks g (pieces_of c.args.self.now.have) word in
    let nodes = c.requires.block.planned in
    let len : ℕ = c.args.self.now.len in
    let all : c.loop-node.node ≡ node_count g = omega (arith, c.loop-node-test.false, c.loop-node.auto.node-end, c.nodes-node-end.ensures.value) in
    rows_of_sums g fits c.args.self.now.at len plan.erased.items plan.points.items plan.generator.unknown plan.generator.each c.args.z c.loop-node.rows
    nodes.geometry c.requires.block.planned.generator nodes.few nodes.points_are (λ word f. f.codeword) c.requires.block.within
    (subst (λ n. HoldsSums g fits c.args.self.now.at len plan.erased.items plan.points.items plan.generator.each c.args.z n c.loop-node.rows) all c.loop-node.invariant)
