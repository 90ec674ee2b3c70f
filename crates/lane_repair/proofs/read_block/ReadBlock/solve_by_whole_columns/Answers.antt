use Rattle.std.proofs.Common.{◌≡◌, ℕ, ◌+◌, ◌*◌, ◌/◌, ◌<◌, ◌≤◌, List, length, replicate, sym, subst, ap, ◌∙◌, arith}
use Rattle.std.proofs.lemmas.Bool.{eq-eqb}
use Rattle.std.proofs.lemmas.Nat.{mul-le, div-mul-add}
use Rattle.std.proofs.Math.Nat.{mul_comm}
use Rattle.clay_grid.specs.Shape.{row_count, column_count, node_count, node_of_chunk}
use Rattle.code_laws.proofs.Pieces.{piece_fits, place_below}
use Rattle.code_laws.proofs.Column.{node_inside}
use Rattle.code_laws.proofs.Rows.{column_below}
use Rattle.lane_repair.specs.Pieces.{HoldsNodes}
use Rattle.lane_repair.specs.Repaired.{column_nodes}
use Rattle.lane_repair.specs.Views.{FitsPieces, pieces_of}
use Rattle.lane_repair.proofs.RepairLemmas.{length-column_nodes, column_points_are}
use Rattle.lane_repair.proofs.RowLemmas.{HoldsSums, no_sums, rows_of_sums}
use Rattle.lane_repair.proofs.NodeRows.{nodes_added, nodes_skipped}
use Rattle.lane_repair.proofs.read_block.ReadBlock.solve_by_whole_columns.Goals as goal
use Rattle.lane_repair.proofs.read_block.ReadBlock.solve_by_whole_columns.Goals.{then-y-self, else-y-self}

pub loop-y-init : goal.loop-y-init
loop-y-init c =
    let g = c.args.self.now.g in
    let plan = c.args.self.now.plan.now in
    let fits : List (List ℕ) → Type 0 = λ word. FitsPieces g plan.lost (pieces_of c.args.self.now.parts) word in
    let len : ℕ = c.args.self.now.len in
    let rows = c.fill.new.self in
    let none : 0 ≡ 0 * row_count g = omega arith in
    let empty : rows ≡ replicate {A = ℕ} (length rows) 0 = c.fill.ensures.after (λ y e. e) ∙ ap (λ n. replicate {A = ℕ} n 0) (sym c.fill.auto.self) in
    subst (λ n. HoldsSums g fits c.args.self.now.at len plan.erased.items (column_nodes g plan.column) plan.generator.each c.args.self.now.z n rows) none
    (no_sums g fits c.args.self.now.at len plan.erased.items (column_nodes g plan.column) plan.generator.each c.args.self.now.z rows
    (c.fill.auto.self ∙ c.requires.rows_len ∙ ap (λ n. n * len) (sym (length-column_nodes g plan.column))) empty)

pub write_nodes-requires-clause-nodes : goal.write_nodes-requires-clause-nodes
write_nodes-requires-clause-nodes c =
    let g = c.args.self.now.g in
    let y = c.loop-y.y in
    let below : y < column_count g = omega (arith, c.loop-y-test.true, c.t-y-end.ensures.value) in
    let fits = piece_fits y (column_count g) (row_count g) below in
    let turn : column_count g * row_count g ≡ row_count g * column_count g = mul_comm (column_count g) (row_count g) in
    subst (λ q. y * q + row_count g ≤ node_count g) (sym c.q.ensures.value) (omega (arith, fits, turn))

pub add_nodes-requires-clause-nodes : goal.add_nodes-requires-clause-nodes
add_nodes-requires-clause-nodes c =
    let g = c.args.self.now.g in
    let plan = c.args.self.now.plan.now in
    let gen = c.requires.block.planned.generator in
    let y = c.loop-y.y in
    let u : ℕ = plan.generator.unknown in
    let units : u ≡ row_count g = gen.count ∙ length-column_nodes g plan.column in
    let below : y < column_count g = omega (arith, c.loop-y-test.true, c.t-y-end.ensures.value) in
    let fits = piece_fits y (column_count g) (row_count g) below in
    let turn : column_count g * row_count g ≡ row_count g * column_count g = mul_comm (column_count g) (row_count g) in
    let inside : y * row_count g + row_count g ≤ node_count g = omega (arith, fits, turn) in
    let all : (y * row_count g + row_count g) * row_count g ≤ node_count g * row_count g =
    mul-le (y * row_count g + row_count g) (row_count g) (node_count g) (row_count g) inside (omega arith) in
    let long : node_count g * row_count g ≡ length plan.generator.each = ap (λ n. node_count g * n) (sym (length-column_nodes g plan.column)) ∙ sym gen.long in
    subst (λ q. (y * q + u) * u ≤ length plan.generator.each) (sym c.q.ensures.value)
    (subst (λ n. (y * row_count g + n) * n ≤ length plan.generator.each) (sym units)
    (subst (λ n. (y * row_count g + row_count g) * row_count g ≤ n) long all))

pub add_nodes-requires-clause-few : goal.add_nodes-requires-clause-few
add_nodes-requires-clause-few c =
    let g = c.args.self.now.g in
    let plan = c.args.self.now.plan.now in
    let units : plan.generator.unknown ≡ row_count g = c.requires.block.planned.generator.count ∙ length-column_nodes g plan.column in
    omega (arith, units, c.requires.block.planned.geometry.limits.parity_chunks.1)

pub add_nodes-requires-clause-values_len : goal.add_nodes-requires-clause-values_len
add_nodes-requires-clause-values_len c =
    let g = c.args.self.now.g in
    let plan = c.args.self.now.plan.now in
    let units : plan.generator.unknown ≡ row_count g = c.requires.block.planned.generator.count ∙ length-column_nodes g plan.column in
    c.write_nodes.auto.values ∙ c.loop-y.auto.column ∙ c.requires.column_len ∙ ap (λ n. n * c.args.self.now.len) (sym units)

pub add_nodes-requires-clause-rows_len : goal.add_nodes-requires-clause-rows_len
add_nodes-requires-clause-rows_len c =
    let g = c.args.self.now.g in
    let plan = c.args.self.now.plan.now in
    let units : plan.generator.unknown ≡ row_count g = c.requires.block.planned.generator.count ∙ length-column_nodes g plan.column in
    c.loop-y.auto.rows ∙ c.fill.auto.self ∙ c.requires.rows_len ∙ ap (λ n. n * c.args.self.now.len) (sym units)

pub loop-y-preserved : goal.loop-y-preserved
loop-y-preserved c =
    let g = c.args.self.now.g in
    let plan = c.args.self.now.plan.now in
    let fits : List (List ℕ) → Type 0 = λ word. FitsPieces g plan.lost (pieces_of c.args.self.now.parts) word in
    let at : ℕ = c.args.self.now.at in
    let len : ℕ = c.args.self.now.len in
    let z : ℕ = c.args.self.now.z in
    let erased = plan.erased.items in
    let points = column_nodes g plan.column in
    let each = plan.generator.each in
    let q : ℕ = row_count g in
    let y = c.loop-y.y in
    let rows : length points ≡ q = length-column_nodes g plan.column in
    let next : y * q + q ≡ (y + 1) * q = omega arith in
    let below : y < column_count g = omega (arith, c.loop-y-test.true, c.t-y-end.ensures.value) in
    elim c.if-y-self.branch [
      | then-y-self w ↦
          let start : y * w.q.result ≡ y * q = ap (λ n. y * n) w.q.ensures.value in
          subst (HoldsSums g fits at len erased points each z ((y + 1) * q)) (sym w.rows-is)
          (nodes_added g fits at len erased points each z ((y + 1) * q) (y * q) (y * w.q.result) plan.generator.unknown q w.write_nodes.new.values c.loop-y.rows w.add_nodes.new.rows
          c.requires.block.planned.generator.count (sym rows) start
          (subst (λ n. HoldsNodes g fits at len erased n z q w.write_nodes.new.values) start w.write_nodes.ensures) w.add_nodes.ensures c.loop-y.invariant next)
      | else-y-self w ↦
          subst (HoldsSums g fits at len erased points each z ((y + 1) * q)) (sym w.rows-is)
          (nodes_skipped g fits at len erased points each z ((y + 1) * q) (y * q) q c.loop-y.rows
          (λ x h.
          let inside : y * q + x < column_count g * q = place_below y (column_count g) q x below h in
          let turn : column_count g * q ≡ q * column_count g = mul_comm (column_count g) q in
          c.requires.block.planned.erased_are (y * q + x) (omega (arith, inside, turn))
          ∙ eq-eqb ((y * q + x) / q) plan.column (div-mul-add y q x h ∙ w.if-y-self.false))
          c.loop-y.invariant next)
    ]

pub returns : goal.returns
returns c =
    let g = c.args.self.now.g in
    let plan = c.args.self.now.plan.now in
    let fits : List (List ℕ) → Type 0 = λ word. FitsPieces g plan.lost (pieces_of c.args.self.now.parts) word in
    let geometry = c.requires.block.planned.geometry in
    let len : ℕ = c.args.self.now.len in
    let points = column_nodes g plan.column in
    let some : 0 < row_count g = omega (arith, geometry.limits.parity_chunks.0) in
    let inside : node_of_chunk g plan.lost < node_count g = node_inside g plan.lost geometry c.requires.block.planned.chunk in
    let below : plan.column < column_count g = subst (λ y. y < column_count g) (sym c.requires.block.planned.column) (column_below g plan.lost some inside) in
    let end : c.loop-y.y ≡ column_count g = omega (arith, c.loop-y-test.false, c.loop-y.auto.y-end, c.t-y-end.ensures.value) in
    let all : c.loop-y.y * row_count g ≡ node_count g = ap (λ n. n * row_count g) end ∙ mul_comm (column_count g) (row_count g) in
    let few : length points ≤ g.parity_count = omega (arith, length-column_nodes g plan.column) in
    rows_of_sums g fits c.args.self.now.at len plan.erased.items points plan.generator.unknown plan.generator.each c.args.self.now.z c.loop-y.rows
    geometry c.requires.block.planned.generator few (column_points_are g plan.column plan.erased.items some below c.requires.block.planned.erased_are) (λ word f. f.codeword) c.requires.block.within
    (subst (λ n. HoldsSums g fits c.args.self.now.at len plan.erased.items points plan.generator.each c.args.self.now.z n c.loop-y.rows) all c.loop-y.invariant)
