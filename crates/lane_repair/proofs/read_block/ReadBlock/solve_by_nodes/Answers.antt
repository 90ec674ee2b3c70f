use Rattle.std.proofs.Common.{◌≡◌, ℕ, ◌+◌, ◌*◌, ◌/◌, eqb, ◌<◌, ◌≤◌, true, false, List, length, get_or, sym, subst, ap, ◌∙◌, arith}
use Rattle.std.proofs.lemmas.Bool.{eq-eqb, true≢false}
use Rattle.std.proofs.lemmas.List.{get_or_read}
use Rattle.clay_grid.specs.Shape.{row_count, column_count, node_count, node_of_chunk}
use Rattle.code_laws.proofs.Pieces.{piece_fits}
use Rattle.lane_repair.specs.Repaired.{column_nodes}
use Rattle.code_laws.proofs.Column.{node_inside}
use Rattle.code_laws.proofs.Rows.{column_below}
use Rattle.lane_repair.proofs.RepairLemmas.{length-column_nodes, column_points_are}
use Rattle.lane_repair.proofs.RowLemmas.{HoldsSums, sums_more, sums_skipped, rows_of_sums}
use Rattle.lane_repair.specs.Views.{FitsPieces, pieces_of}
use Rattle.lane_repair.proofs.read_block.ReadBlock.solve_by_nodes.Goals as goal
use Rattle.lane_repair.proofs.read_block.ReadBlock.solve_by_nodes.Goals.{then-not-index, else-not-index}

pub add-requires-clause-node : goal.add-requires-clause-node
add-requires-clause-node c =
    let gen = c.requires.block.planned.generator in
    let points : ℕ = length (column_nodes c.args.self.now.g c.args.self.now.plan.now.column) in
    let node : ℕ = c.loop-node.node in
    let below : node < node_count c.args.self.now.g = omega (arith, c.loop-node-test.true, c.nodes-node-end.ensures.value) in
    let fits = piece_fits node (node_count c.args.self.now.g) points below in
    let same : node * c.args.self.now.plan.now.generator.unknown + c.args.self.now.plan.now.generator.unknown ≡ node * points + points = ap (λ n. node * n + n) gen.count in
    omega (arith, same, fits, gen.long)

pub loop-node-preserved : goal.loop-node-preserved
loop-node-preserved c =
    let g = c.args.self.now.g in
    let plan = c.args.self.now.plan.now in
    let fits : List (List ℕ) → Type 0 = λ word. FitsPieces g plan.lost (pieces_of c.args.self.now.parts) word in
    let at : ℕ = c.args.self.now.at in
    let len : ℕ = c.args.self.now.len in
    let z : ℕ = c.args.self.now.z in
    let erased = plan.erased.items in
    let points = column_nodes g plan.column in
    let factors = plan.generator.each in
    let node : ℕ = c.loop-node.node in
    let below : node < node_count g = omega (arith, c.loop-node-test.true, c.nodes-node-end.ensures.value) in
    let within : node < length erased = omega (arith, c.requires.block.planned.nodes) in
    let read : c.index.result.now ≡ get_or erased node false = get_or_read erased node c.index.result.now within c.index.ensures false in
    elim c.if-not-index.branch [
      | then-not-index w ↦
          let here : get_or erased node false ≡ false = sym read ∙ w.if-not-index.true in
          subst (HoldsSums g fits at len erased points factors z (node + 1)) (sym w.rows-is)
          (sums_more g fits at len erased points factors z node plan.generator.unknown w.uncouple_other.new.out c.loop-node.rows w.add.new.rows
          c.requires.block.planned.generator.count (w.uncouple_other.auto.out ∙ c.loop-node.auto.values ∙ c.requires.values_len) here w.uncouple_other.ensures w.add.ensures c.loop-node.invariant)
      | else-not-index w ↦
          let gone : get_or erased node false ≡ true = sym read ∙ w.if-not-index.false in
          subst (HoldsSums g fits at len erased points factors z (node + 1)) (sym w.rows-is)
          (sums_skipped g fits at len erased points factors z node c.loop-node.rows gone c.loop-node.invariant)
    ]

pub returns : goal.returns
returns c =
    let g = c.args.self.now.g in
    let plan = c.args.self.now.plan.now in
    let fits : List (List ℕ) → Type 0 = λ word. FitsPieces g plan.lost (pieces_of c.args.self.now.parts) word in
    let geometry = c.requires.block.planned.geometry in
    let len : ℕ = c.args.self.now.len in
    let points = column_nodes g plan.column in
    let some : 0 < row_count g = omega (arith, geometry.limits.parity_chunks.0) in
    let inside : node_of_chunk g plan.lost < node_count g = node_inside g plan.lost geometry c.requires.block.planned.chunk in
    let below : plan.column < column_count g = subst (λ y. y < column_count g) (sym c.requires.block.planned.column) (column_below g plan.lost some inside) in
    let all : c.loop-node.node ≡ node_count g = omega (arith, c.loop-node-test.false, c.loop-node.auto.node-end, c.nodes-node-end.ensures.value) in
    let few : length points ≤ g.parity_count = omega (arith, length-column_nodes g plan.column) in
    rows_of_sums g fits c.args.self.now.at len plan.erased.items points plan.generator.unknown plan.generator.each c.args.self.now.z c.loop-node.rows
    geometry c.requires.block.planned.generator few (column_points_are g plan.column plan.erased.items some below c.requires.block.planned.erased_are) (λ word f. f.codeword) c.requires.block.within
    (subst (λ n. HoldsSums g fits c.args.self.now.at len plan.erased.items points plan.generator.each c.args.self.now.z n c.loop-node.rows) all c.loop-node.invariant)

pub uncouple_other-requires-clause-column : goal.uncouple_other-requires-clause-column
uncouple_other-requires-clause-column c =
    let g = c.args.self.now.g in
    let erased = c.args.self.now.plan.now.erased.items in
    let node : ℕ = c.loop-node.node in
    let below : node < node_count g = omega (arith, c.loop-node-test.true, c.nodes-node-end.ensures.value) in
    let within : node < length erased = omega (arith, c.requires.block.planned.nodes) in
    let read : c.index.result.now ≡ get_or erased node false = get_or_read erased node c.index.result.now within c.index.ensures false in
    λ same.
    let gone : eqb (node / row_count g) c.args.self.now.plan.now.column ≡ true = eq-eqb (node / row_count g) c.args.self.now.plan.now.column same in
    true≢false (sym gone ∙ sym (c.requires.block.planned.erased_are node below) ∙ sym read ∙ c.if-not-index.true)

pub add-requires-clause-rows_len : goal.add-requires-clause-rows_len
add-requires-clause-rows_len c =
    let plan = c.args.self.now.plan.now in
    let count : plan.generator.unknown ≡ row_count c.args.self.now.g = c.requires.block.planned.generator.count ∙ length-column_nodes c.args.self.now.g plan.column in
    c.loop-node.auto.rows ∙ c.fill.auto.self ∙ c.requires.rows_len ∙ (λ i. sym count i * sym (c.uncouple_other.auto.out ∙ c.loop-node.auto.values ∙ c.requires.values_len) i)
