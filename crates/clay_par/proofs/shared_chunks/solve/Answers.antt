use Rattle.std.proofs.Common.{◌≡◌, ℕ, ◌<◌, length, refl, sym, subst, ap, ◌∙◌, arith}
use Rattle.clay_grid.specs.Shape.{layer_count}
use Rattle.clay_model.specs.Left.{Completes}
use Rattle.clay_lanes.specs.Recovered.{HoldsLayerRows}
use Rattle.clay_par.proofs.Makes.{written_all}
use Rattle.clay_par.proofs.SolvedLemmas.{solved_range}
use Rattle.clay_par.proofs.shared_chunks.solve.Goals as goal

pub returns-clause-solved : goal.returns-clause-solved
returns-clause-solved c =
    let shape = c.args.g in
    let have = c.args.have.now in
    let plan = c.args.plan.now in
    let range = c.args.range.now in
    let new = c.solve_layers.new in
    let values : length new.values ≡ length range.values.items = c.solve_layers.auto.values ∙ ap length c.deref_mut.ensures.value in
    let rows : length new.rows ≡ length range.rows.items = c.solve_layers.auto.rows ∙ ap length c.deref_mut-2.ensures.value in
    let solved : length new.solved ≡ length range.solved.items = c.solve_layers.auto.solved ∙ ap length c.deref_mut-3.ensures.value in
    let values_are = written_all range.values.len range.values.items new.values (omega (arith, range.values.ok.0)) values in
    let rows_are = written_all range.rows.len range.rows.items new.rows (omega (arith, range.rows.ok.0)) rows in
    let solved_are = written_all range.solved.len range.solved.items new.solved (omega (arith, range.solved.ok.0)) solved in
    let holds : (n : ℕ) → n < layer_count shape → HoldsLayerRows shape (λ word. Completes shape have word) range.at (length range.values.items) plan.points.items n new.solved = λ n h.
    subst (λ k. HoldsLayerRows shape (λ word. Completes shape have word) range.at k plan.points.items n new.solved) (ap length c.deref_mut.ensures.value) (c.solve_layers.ensures n h) in
    solved_range shape have plan range _ c.requires.room refl (ap length values_are ∙ values) (ap length rows_are ∙ rows) (ap length solved_are ∙ solved)
    (λ n h. subst (HoldsLayerRows shape (λ word. Completes shape have word) range.at (length range.values.items) plan.points.items n) (sym solved_are) (holds n h))
