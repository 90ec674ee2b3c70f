use Rattle.std.proofs.Common.{ℕ, List, sym, subst, Option, MatchOption}
use Rattle.clay_grid.specs.Shape.{Shape}
use Rattle.clay_words.specs.Words.{IsCode}
use Rattle.clay_words.proofs.WordLaws.{code_numbers, no_number, same_code_answer}
use Rattle.clay_words.proofs.parse.code_held.Goals as goal

abbrev Answers : List ℕ → List ℕ → List ℕ → Option Shape → Type 0
Answers k m w answer = MatchOption answer ((g : Shape) → IsCode g k m w → ⊥) (λ g. IsCode g k m w)

pub returns-in_err-k : goal.returns-in_err-k
returns-in_err-k c = λ k m w held.
    subst (Answers k m w) (sym c.from_residual.ensures) (λ g code. no_number k g.data_count (c.in_err-k.ensures k held.0) (code_numbers g code.limits).0 code.data_count)

pub returns-in_err-m : goal.returns-in_err-m
returns-in_err-m c = λ k m w held.
    subst (Answers k m w) (sym c.from_residual-in_err-m.ensures) (λ g code. no_number m g.parity_count (c.in_err-m.ensures m held.1.0) (code_numbers g code.limits).1 code.parity_count)

pub returns-in_err-w : goal.returns-in_err-w
returns-in_err-w c = λ k m w held.
    subst (Answers k m w) (sym c.from_residual-in_err-w.ensures) (λ g code. no_number w g.width (c.in_err-w.ensures w held.1.1.0) (code_numbers g code.limits).2 code.width)

pub returns : goal.returns
returns c = λ k m w held.
    same_code_answer c.geometry_of.result _ k _ m _ w (sym (c.in_ok-k.ensures k held.0).0) (sym (c.in_ok-m.ensures m held.1.0).0) (sym (c.in_ok-w.ensures w held.1.1.0).0) c.geometry_of.ensures
