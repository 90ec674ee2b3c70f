use Rattle.std.proofs.Common.{◌≡◌, ℕ, ◌<◌, List, length, get_or, sym, subst, ap, ◌∙◌, arith}
use Rattle.clay_par.specs.Ranges.{SamePlace}
use Rattle.clay_par.specs.Solved.{AreSolved}
use Rattle.clay_par.specs.declared.ranges.Range.{Range}
use Rattle.clay_par.proofs.Makes.{written_all}
use Rattle.clay_par.proofs.Cover.{covered_same}
use Rattle.clay_par.proofs.shared_chunks.solved_ranges.Goals as goal

pub returns : goal.returns
returns g c =
    let before = c.in_ok-ranges.ranges in
    let new : List Range = c.solve_all.new.ranges in
    let size : length new ≡ length before.items = c.solve_all.auto.ranges ∙ ap length c.deref_mut.ensures.value in
    let places : (i : ℕ) (d : Range) → i < length before.items → SamePlace (get_or before.items i d) (get_or new i d) =
    subst (λ l. (i : ℕ) (d : Range) → i < length l → SamePlace (get_or l i d) (get_or new i d)) c.deref_mut.ensures.value c.solve_all.ensures.places in
    subst (AreSolved c.args.g c.args.have.now c.args.plan.now) (sym (written_all before.len before.items new (omega (arith, before.ok.0)) size)) (record {
      each = c.solve_all.ensures.solved;
      all = λ b h. covered_same before.items new b size places (c.in_ok-ranges.ensures.all b h);
    })
