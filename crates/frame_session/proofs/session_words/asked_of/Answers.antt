use Rattle.std.proofs.Common.{[], ◌∷◌, sym, subst}
use Rattle.frame_session.specs.Words.{IsAskedBy}
use Rattle.frame_session.proofs.WordLaws.{no_data, no_code}
use Rattle.frame_session.proofs.session_words.asked_of.Goals as goal

pub returns-in_err-k : goal.returns-in_err-k
returns-in_err-k c =
    subst (IsAskedBy (c.args.k.now ∷ c.args.m.now ∷ c.args.w.now ∷ c.args.max.now ∷ [])) (sym c.from_residual.ensures)
    (no_data c.args.k.now c.args.m.now c.args.w.now c.args.max.now c.in_err-k.ensures.none)

pub returns-in_err-geometry : goal.returns-in_err-geometry
returns-in_err-geometry c =
    subst (IsAskedBy (c.args.k.now ∷ c.args.m.now ∷ c.args.w.now ∷ c.args.max.now ∷ [])) (sym c.from_residual-in_err-geometry.ensures)
    (no_code c.in_ok-k.k c.in_ok-m.m c.in_ok-w.w c.args.k.now c.args.m.now c.args.w.now c.args.max.now c.in_ok-k.ensures.found.2 c.in_ok-m.ensures.found.2
    c.in_ok-w.ensures.found.2 c.in_ok-k.ensures.found.0 c.in_ok-m.ensures.found.0 c.in_ok-w.ensures.found.0 c.in_err-geometry.ensures.none)
