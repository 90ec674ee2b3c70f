use Rattle.std.proofs.Common.{ℕ, List, sym, subst, Option, MatchOption}
use Rattle.clay_aloof.specs.Shape.{AloofShape}
use Rattle.clay_words.specs.Words.{IsAloofCode}
use Rattle.clay_words.proofs.WordLaws.{aloof_numbers, no_number, same_aloof_answer}
use Rattle.clay_words.proofs.parse.aloof_held.Goals as goal

abbrev Answers : List ℕ → List ℕ → List ℕ → List ℕ → Option AloofShape → Type 0
Answers k m d w answer = MatchOption answer ((a : AloofShape) → IsAloofCode a k m d w → ⊥) (λ a. IsAloofCode a k m d w)

pub returns-in_err-k : goal.returns-in_err-k
returns-in_err-k c = λ k m d w held.
    subst (Answers k m d w) (sym c.from_residual.ensures) (λ a code. no_number k a.data_count (c.in_err-k.ensures k held.0) (aloof_numbers a code.limits).0 code.data_count)

pub returns-in_err-m : goal.returns-in_err-m
returns-in_err-m c = λ k m d w held.
    subst (Answers k m d w) (sym c.from_residual-in_err-m.ensures) (λ a code. no_number m a.parity_count (c.in_err-m.ensures m held.1.0) (aloof_numbers a code.limits).1 code.parity_count)

pub returns-in_err-d : goal.returns-in_err-d
returns-in_err-d c = λ k m d w held.
    subst (Answers k m d w) (sym c.from_residual-in_err-d.ensures) (λ a code. no_number d a.helper_count (c.in_err-d.ensures d held.1.1.0) (aloof_numbers a code.limits).2 code.helper_count)

pub returns-in_err-w : goal.returns-in_err-w
returns-in_err-w c = λ k m d w held.
    subst (Answers k m d w) (sym c.from_residual-in_err-w.ensures) (λ a code. no_number w a.width (c.in_err-w.ensures w held.1.1.1.0) (aloof_numbers a code.limits).3 code.width)

pub returns : goal.returns
returns c = λ k m d w held.
    same_aloof_answer c.aloof_geometry_of.result _ k _ m _ d _ w (sym (c.in_ok-k.ensures k held.0).0) (sym (c.in_ok-m.ensures m held.1.0).0)
    (sym (c.in_ok-d.ensures d held.1.1.0).0) (sym (c.in_ok-w.ensures w held.1.1.1.0).0) c.aloof_geometry_of.ensures
