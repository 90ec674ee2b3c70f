use Rattle.std.proofs.Common.{ℕ, Bool, eqb, get_or, ap, ◌∙◌}
use Rattle.std.proofs.lemmas.Bool.{eq-eqb, ne_eqb}
use Rattle.clay_grid.proofs.Rising.{filter_pass, filter_fail}
use Rattle.clay_grid.proofs.geometry.push_places.Goals as goal
use Rattle.clay_grid.proofs.geometry.push_places.Goals.{then-own-score+in_ok-push, else-own-score}

pub loop-z-preserved : goal.loop-z-preserved
loop-z-preserved c =
    let test : ℕ → Bool = λ z. eqb (get_or c.args.scores.now z 0) c.args.score in
    elim c.if-own-score.branch [
      | then-own-score+in_ok-push w ↦
          filter_pass test c.loop-z.z c.args.places.now.items c.loop-z.places.items _ (ap (λ v. v.items) w.places-is ∙ w.in_ok-push.ensures.items) c.loop-z.invariant (eq-eqb _ _ w.if-own-score.true)
      | else-own-score w ↦
          ap (λ v. v.items) w.places-is ∙ filter_fail test c.loop-z.z c.args.places.now.items c.loop-z.places.items c.loop-z.invariant (ne_eqb _ _ w.if-own-score.false)
    ]
