use Rattle.std.proofs.Common.{◌≡◌, ℕ, ◌<◌, List, [], ◌∷◌, ◌++◌, sym, subst, ap, ◌∙◌, arith}
use Rattle.std.proofs.lemmas.List.Elements.{All-nil, All-cons}
use Rattle.clay_par.specs.Solved.{HoldsLayers, AreSolved}
use Rattle.clay_par.specs.declared.ranges.Range.{Range}
use Rattle.clay_par.proofs.Cover.{covered_last}
use Rattle.clay_par.proofs.shared_chunks.solved_range.Goals as goal

pub returns : goal.returns
returns g c =
    let range : Range = c.solve_shared.new.range in
    let items : c.push.new.self.items ≡ range ∷ [] = c.in_ok-push.ensures.items ∙ ap (λ l. l ++ range ∷ []) c.new-ranges.ensures.items in
    let Holds : Range → Type 0 = HoldsLayers c.args.g c.args.have.now c.args.plan.now in
    let place = c.in_ok-solve_shared.ensures.place in
    let begins = c.in_ok-range.ensures.at in
    let long = c.in_ok-range.ensures.len in
    let width = c.w.ensures.value in
    subst (AreSolved c.args.g c.args.have.now c.args.plan.now) (sym items) (record {
      each = All-cons Holds range [] c.in_ok-solve_shared.ensures.solved (All-nil Holds);
      all = λ b hb. covered_last [] range b (omega (arith, place.0, begins)) (omega (arith, place.0, place.1, begins, long, width, hb));
    })
