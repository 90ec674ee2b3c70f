use Rattle.std.proofs.Common.{◌≡◌, ℕ, ◌+◌, ◌*◌, ◌<◌, false, List, length, get_or, subst, sym, ap, ◌∙◌, arith}
use Rattle.clay_grid.specs.Shape.{node_count}
use Rattle.generator_matrix.specs.Columns.{IsColumn}
use Rattle.lane_repair.specs.Views.{pieces_of}
use Rattle.lane_repair.proofs.ColumnRows.{HoldsForm, fit_columns, form_more, form_skipped, form_ended}
use Rattle.lane_repair.proofs.RowLemmas.{rows_of_sums}
use Rattle.clay_lanes.specs.Present.{FitsChunks}
use Rattle.clay_lanes.proofs.block.Block.solve_by_columns.Goals as goal
use Rattle.clay_lanes.proofs.block.Block.solve_by_columns.Goals.{then-not-is_column_erased, else-not-is_column_erased}

pub loop-y-preserved : goal.loop-y-preserved
loop-y-preserved c =
    let g = c.args.self.now.g in
    let plan = c.args.self.now.plan.now in
    let fits : List (List ℕ) → Type 0 = λ word. FitsChunks g (pieces_of c.args.self.now.have) word in
    let gen = plan.generator in
    let len : ℕ = c.args.self.now.len in
    let y = c.loop-y.y in
    let erased = plan.erased.items in
    let counts = fit_columns g (plan.points.items) gen.unknown gen.each gen.columns c.columns-columns.ensures.columns c.requires.columns c.requires.block.planned.generator in
    let below : y < length gen.columns = omega (arith, c.loop-y-test.true, counts.nodes_are, c.nodes-y-end.ensures.value) in
    elim c.if-not-is_column_erased.branch [
      | then-not-is_column_erased w ↦
          let f = w.index-columns-y.result in
          let there : f ≡ get_or gen.columns y f = w.index-columns-y.is ∙ ap (λ l. get_or l y f) c.columns-columns.ensures.value in
          let column : IsColumn gen.each y f = subst (IsColumn gen.each y) (sym there) (c.columns-columns.ensures.columns.each y f below) in
          subst (HoldsForm g fits c.args.self.now.at len erased gen.each c.args.z ((y + 1) * 4)) (sym w.rows-is)
          (form_more g fits c.args.self.now.at len erased gen.each c.args.z y f w.write_column.new.values c.loop-y.rows w.add_column.new.rows column
          w.write_column.ensures w.add_column.ensures.bytes w.add_column.ensures.added c.loop-y.invariant)
      | else-not-is_column_erased w ↦
          subst (HoldsForm g fits c.args.self.now.at len erased gen.each c.args.z ((y + 1) * 4)) (sym w.rows-is)
          (form_skipped g fits c.args.self.now.at len erased gen.each c.args.z y c.loop-y.rows
          (λ x h. ap (λ l. get_or l (y * 4 + x) false) (sym c.deref.ensures.value) ∙ c.is_column_erased.ensures w.if-not-is_column_erased.false x h) c.loop-y.invariant)
    ]

pub returns : goal.returns
returns c =
    let g = c.args.self.now.g in
    let plan = c.args.self.now.plan.now in
    let fits : List (List ℕ) → Type 0 = λ word. FitsChunks g (pieces_of c.args.self.now.have) word in
    let gen = plan.generator in
    let erased = plan.erased.items in
    let points = plan.points.items in
    let counts = fit_columns g points gen.unknown gen.each gen.columns c.columns-columns.ensures.columns c.requires.columns c.requires.block.planned.generator in
    let end : c.loop-y.y ≡ length gen.columns = omega (arith, c.loop-y-test.false, c.loop-y.auto.y-end, counts.nodes_are, c.nodes-y-end.ensures.value) in
    let all : c.loop-y.y * 4 ≡ node_count g = ap (λ n. n * 4) end ∙ sym counts.nodes_are in
    let sums = form_ended g fits c.args.self.now.at c.args.self.now.len erased gen.each c.args.z points (c.loop-y.y * 4) (node_count g) c.loop-y.rows c.end_column.new.rows counts.four all
    c.loop-y.invariant c.end_column.ensures in
    let nodes = c.requires.block.planned in
    rows_of_sums g fits c.args.self.now.at c.args.self.now.len erased points gen.unknown gen.each c.args.z c.end_column.new.rows
    nodes.geometry c.requires.block.planned.generator nodes.few nodes.points_are (λ word f. f.codeword) c.requires.block.within sums

pub add_column-requires-clause-rows_len : goal.add_column-requires-clause-rows_len
add_column-requires-clause-rows_len c =
    let g = c.args.self.now.g in
    let plan = c.args.self.now.plan.now in
    let gen = plan.generator in
    let counts = fit_columns g (plan.points.items) gen.unknown gen.each gen.columns c.columns-columns.ensures.columns c.requires.columns c.requires.block.planned.generator in
    c.loop-y.auto.rows ∙ c.fill.auto.self ∙ c.requires.rows_len ∙ ap (λ n. n * c.args.self.now.len) (sym counts.four)

pub end_column-requires : goal.end_column-requires
end_column-requires c =
    let g = c.args.self.now.g in
    let plan = c.args.self.now.plan.now in
    let gen = plan.generator in
    let counts = fit_columns g (plan.points.items) gen.unknown gen.each gen.columns c.columns-columns.ensures.columns c.requires.columns c.requires.block.planned.generator in
    c.loop-y.auto.rows ∙ c.fill.auto.self ∙ c.requires.rows_len ∙ ap (λ n. n * c.args.self.now.len) (sym counts.four)
