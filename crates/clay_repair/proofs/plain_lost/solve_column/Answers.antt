use Rattle.std.proofs.Common.{◌≡◌, ℕ, ◌+◌, ◌*◌, ◌<◌, List, length, sym, subst, ap, ◌∙◌, arith}
use Rattle.std.specs.List.{range_with_len}
use Rattle.std.proofs.lemmas.List.FromFn.{length-range_with_len}
use Rattle.clay_grid.specs.Shape.{Shape, row_count, column_count, node_count, node_of_chunk}
use Rattle.clay_model.specs.Sums.{weighted_sum, present_value}
use Rattle.clay_model.specs.Points.{byte_of, HaveSums}
use Rattle.code_laws.specs.Solved.{uncoupled_byte}
use Rattle.code_laws.proofs.Column.{node_inside, solved_column}
use Rattle.code_laws.proofs.Rows.{column_below}
use Rattle.clay_repair.proofs.plain_lost.solve_column.Goals as goal

-- the bytes of a column
size : (g : Shape) (first w : ℕ) (points : List ℕ) → points ≡ range_with_len first (row_count g) → w ≡ g.width → length points * w ≡ row_count g * g.width
size g first w points are width =
    let count : length points ≡ row_count g = ap length are ∙ length-range_with_len first (row_count g) in
    λ i. count i * width i

pub solve-requires-clause-sums_len : goal.solve-requires-clause-sums_len
solve-requires-clause-sums_len c = omega (arith, c.syndromes.auto.out, c.requires.sums_len, size c.args.g (c.args.plan.now.column * row_count c.args.g) c.w.result c.args.plan.now.solver c.requires.plan.points c.w.ensures.value)

pub solve-requires-clause-out_len : goal.solve-requires-clause-out_len
solve-requires-clause-out_len c = omega (arith, c.requires.column_len, size c.args.g (c.args.plan.now.column * row_count c.args.g) c.w.result c.args.plan.now.solver c.requires.plan.points c.w.ensures.value)

pub returns : goal.returns
returns c =
    let g = c.args.g in
    let plan = c.args.plan.now in
    let erased = plan.erased.items in
    let layer = c.uncouple_layer.new.layer in
    let rows : 0 < row_count g = omega (arith, c.requires.plan.geometry.limits.parity_chunks.0) in
    let inside : node_of_chunk g plan.lost < node_count g = node_inside g plan.lost c.requires.plan.geometry c.requires.plan.chunk in
    let below : plan.column < column_count g = subst (λ y. y < column_count g) (sym c.requires.plan.column) (column_below g plan.lost rows inside) in
    let summed : (j b : ℕ) → j < row_count g → b < g.width → byte_of c.syndromes.new.out g.width b j ≡ weighted_sum (node_count g) (present_value layer erased g.width b) j =
    λ j b hj hb.
    c.syndromes.ensures j b (subst (λ v. j < v) (sym c.q.ensures.value) hj) hb
    ∙ ap (λ e. weighted_sum (node_count g) (present_value layer e g.width b) j) c.deref.ensures.value in
    let sums : HaveSums (range_with_len (plan.column * row_count g) (row_count g)) g.width c.solve.new.out c.syndromes.new.out =
    subst (λ s. HaveSums s g.width c.solve.new.out c.syndromes.new.out) c.requires.plan.points
    (subst (λ v. HaveSums plan.solver v c.solve.new.out c.syndromes.new.out) c.w.ensures.value c.solve.ensures) in
    record {
      at = λ word fits x b hx hb.
          solved_column g plan.lost c.args.parts.now erased plan.column c.args.z layer c.syndromes.new.out c.solve.new.out c.requires.plan.geometry below
          c.requires.plan.erased_are c.uncouple_layer.ensures summed sums (λ i. omega (arith, c.type_inv.column i)) word fits x b hx hb
          ∙ ap (λ y. uncoupled_byte g word b (y * row_count g + x) c.args.z) c.requires.plan.column;
    }
