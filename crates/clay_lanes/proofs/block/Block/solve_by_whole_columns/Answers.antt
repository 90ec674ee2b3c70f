use Rattle.std.proofs.Common.{◌≡◌, ℕ, ◌+◌, ◌*◌, ◌<◌, ◌≤◌, true, false, List, length, get_or, replicate, sym, subst, ap, ◌∙◌, arith}
use Rattle.std.proofs.lemmas.Nat.{mul-le}
use Rattle.std.proofs.Math.Nat.{mul_comm}
use Rattle.clay_grid.specs.Shape.{row_count, column_count, node_count}
use Rattle.code_laws.proofs.Pieces.{piece_fits}
use Rattle.lane_repair.specs.Views.{pieces_of}
use Rattle.lane_repair.specs.Pieces.{HoldsNodes}
use Rattle.lane_repair.proofs.RowLemmas.{HoldsSums, no_sums, rows_of_sums}
use Rattle.lane_repair.proofs.NodeRows.{nodes_added, nodes_skipped}
use Rattle.clay_lanes.specs.Present.{FitsChunks}
use Rattle.clay_lanes.proofs.block.Block.solve_by_whole_columns.Goals as goal
use Rattle.clay_lanes.proofs.block.Block.solve_by_whole_columns.Goals.{then-not-is_erased_column, else-not-is_erased_column}

pub loop-y-init : goal.loop-y-init
loop-y-init c =
    let g = c.args.self.now.g in
    let plan = c.args.self.now.plan.now in
    let fits : List (List ℕ) → Type 0 = λ word. FitsChunks g (pieces_of c.args.self.now.have) word in
    let rows = c.fill.new.self in
    let none : 0 ≡ 0 * row_count g = omega arith in
    let empty : rows ≡ replicate {A = ℕ} (length rows) 0 = c.fill.ensures.after (λ y e. e) ∙ ap (λ n. replicate {A = ℕ} n 0) (sym c.fill.auto.self) in
    subst (λ n. HoldsSums g fits c.args.self.now.at c.args.self.now.len plan.erased.items plan.points.items plan.generator.each c.args.z n rows) none
    (no_sums g fits c.args.self.now.at c.args.self.now.len plan.erased.items plan.points.items plan.generator.each c.args.z rows
    (c.fill.auto.self ∙ c.requires.rows_len) empty)

pub is_erased_column-requires-clause-nodes : goal.is_erased_column-requires-clause-nodes
is_erased_column-requires-clause-nodes c =
    let g = c.args.self.now.g in
    let y = c.loop-y.y in
    let below : y < column_count g = omega (arith, c.loop-y-test.true, c.t-y-end.ensures.value) in
    let fits = piece_fits y (column_count g) (row_count g) below in
    let turn : column_count g * row_count g ≡ row_count g * column_count g = mul_comm (column_count g) (row_count g) in
    subst (λ q. y * q + row_count g ≤ node_count g) (sym c.q.ensures.value) (omega (arith, fits, turn))

pub write_nodes-requires-clause-nodes : goal.write_nodes-requires-clause-nodes
write_nodes-requires-clause-nodes c =
    let g = c.args.self.now.g in
    let y = c.loop-y.y in
    let below : y < column_count g = omega (arith, c.loop-y-test.true, c.t-y-end.ensures.value) in
    let fits = piece_fits y (column_count g) (row_count g) below in
    let turn : column_count g * row_count g ≡ row_count g * column_count g = mul_comm (column_count g) (row_count g) in
    subst (λ q. y * q + row_count g ≤ node_count g) (sym c.q.ensures.value) (omega (arith, fits, turn))

pub add_nodes-requires-clause-nodes : goal.add_nodes-requires-clause-nodes
add_nodes-requires-clause-nodes c =
    let g = c.args.self.now.g in
    let plan = c.args.self.now.plan.now in
    let gen = c.requires.block.planned.generator in
    let y = c.loop-y.y in
    let u : ℕ = plan.generator.unknown in
    let units : u ≡ row_count g = gen.count ∙ c.requires.points in
    let below : y < column_count g = omega (arith, c.loop-y-test.true, c.t-y-end.ensures.value) in
    let fits = piece_fits y (column_count g) (row_count g) below in
    let turn : column_count g * row_count g ≡ row_count g * column_count g = mul_comm (column_count g) (row_count g) in
    let inside : y * row_count g + row_count g ≤ node_count g = omega (arith, fits, turn) in
    let all : (y * row_count g + row_count g) * row_count g ≤ node_count g * row_count g =
    mul-le (y * row_count g + row_count g) (row_count g) (node_count g) (row_count g) inside (omega arith) in
    let long : node_count g * row_count g ≡ length plan.generator.each = ap (λ n. node_count g * n) (sym c.requires.points) ∙ sym gen.long in
    subst (λ q. (y * q + u) * u ≤ length plan.generator.each) (sym c.q.ensures.value)
    (subst (λ n. (y * row_count g + n) * n ≤ length plan.generator.each) (sym units)
    (subst (λ n. (y * row_count g + row_count g) * row_count g ≤ n) long all))

pub add_nodes-requires-clause-few : goal.add_nodes-requires-clause-few
add_nodes-requires-clause-few c =
    let g = c.args.self.now.g in
    let plan = c.args.self.now.plan.now in
    let units : plan.generator.unknown ≡ row_count g = c.requires.block.planned.generator.count ∙ c.requires.points in
    omega (arith, units, c.requires.block.planned.geometry.limits.parity_chunks.1)

pub add_nodes-requires-clause-values_len : goal.add_nodes-requires-clause-values_len
add_nodes-requires-clause-values_len c =
    let plan = c.args.self.now.plan.now in
    let units : plan.generator.unknown ≡ row_count c.args.self.now.g = c.requires.block.planned.generator.count ∙ c.requires.points in
    c.write_nodes.auto.values ∙ c.loop-y.auto.column ∙ c.requires.column_len ∙ ap (λ n. n * c.args.self.now.len) (sym units)

pub add_nodes-requires-clause-rows_len : goal.add_nodes-requires-clause-rows_len
add_nodes-requires-clause-rows_len c =
    c.loop-y.auto.rows ∙ c.fill.auto.self ∙ c.requires.rows_len ∙ ap (λ n. n * c.args.self.now.len) (sym c.requires.block.planned.generator.count)

pub loop-y-preserved : goal.loop-y-preserved
loop-y-preserved c =
    let g = c.args.self.now.g in
    let plan = c.args.self.now.plan.now in
    let fits : List (List ℕ) → Type 0 = λ word. FitsChunks g (pieces_of c.args.self.now.have) word in
    let at : ℕ = c.args.self.now.at in
    let len : ℕ = c.args.self.now.len in
    let z : ℕ = c.args.z in
    let erased = plan.erased.items in
    let points = plan.points.items in
    let each = plan.generator.each in
    let q : ℕ = row_count g in
    let y = c.loop-y.y in
    let start : y * c.q.result ≡ y * q = ap (λ n. y * n) c.q.ensures.value in
    let next : y * q + q ≡ (y + 1) * q = omega arith in
    elim c.if-not-is_erased_column.branch [
      | then-not-is_erased_column w ↦
          subst (HoldsSums g fits at len erased points each z ((y + 1) * q)) (sym w.rows-is)
          (nodes_added g fits at len erased points each z ((y + 1) * q) (y * q) (y * c.q.result) plan.generator.unknown q w.write_nodes.new.values c.loop-y.rows w.add_nodes.new.rows
          c.requires.block.planned.generator.count (sym c.requires.points) start
          (subst (λ n. HoldsNodes g fits at len erased n z q w.write_nodes.new.values) start w.write_nodes.ensures) w.add_nodes.ensures c.loop-y.invariant next)
      | else-not-is_erased_column w ↦
          subst (HoldsSums g fits at len erased points each z ((y + 1) * q)) (sym w.rows-is)
          (nodes_skipped g fits at len erased points each z ((y + 1) * q) (y * q) q c.loop-y.rows
          (subst (λ n. (x : ℕ) → x < q → get_or erased (n + x) false ≡ true) start (c.is_erased_column.ensures w.if-not-is_erased_column.false))
          c.loop-y.invariant next)
    ]

pub returns : goal.returns
returns c =
    let g = c.args.self.now.g in
    let plan = c.args.self.now.plan.now in
    let fits : List (List ℕ) → Type 0 = λ word. FitsChunks g (pieces_of c.args.self.now.have) word in
    let nodes = c.requires.block.planned in
    let len : ℕ = c.args.self.now.len in
    let end : c.loop-y.y ≡ column_count g = omega (arith, c.loop-y-test.false, c.loop-y.auto.y-end, c.t-y-end.ensures.value) in
    let all : c.loop-y.y * row_count g ≡ node_count g = ap (λ n. n * row_count g) end ∙ mul_comm (column_count g) (row_count g) in
    rows_of_sums g fits c.args.self.now.at len plan.erased.items plan.points.items plan.generator.unknown plan.generator.each c.args.z c.loop-y.rows
    nodes.geometry c.requires.block.planned.generator nodes.few nodes.points_are (λ word f. f.codeword) c.requires.block.within
    (subst (λ n. HoldsSums g fits c.args.self.now.at len plan.erased.items plan.points.items plan.generator.each c.args.z n c.loop-y.rows) all c.loop-y.invariant)
