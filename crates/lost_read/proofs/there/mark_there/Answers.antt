use Rattle.std.proofs.Common.{ℕ, ◌<◌, ◌++◌, ◌∷◌, [], Bool, not, eqb, get_or, length, sym, ap, ◌∙◌, arith}
use Rattle.std.proofs.lemmas.List.{take_more_set, map_more}
use Rattle.lost_read.proofs.there.mark_there.Goals as goal

pub loop-c-preserved : goal.loop-c-preserved
loop-c-preserved c =
    let present = c.args.present.now in
    let at : ℕ = c.loop-c.c in
    let mark : ℕ → Bool = λ mark. not (eqb mark 0) in
    let within : at < length present = omega (arith, c.loop-c-test.true, c.loop-c.auto.c-end) in
    let room : at < length c.loop-c.there = omega (arith, within, c.loop-c.auto.there, c.requires) in
    take_more_set c.loop-c.there at (mark (get_or present at 0)) room ∙ ap (λ l. l ++ mark (get_or present at 0) ∷ []) c.loop-c.invariant
    ∙ sym (map_more mark present at 0 within)
