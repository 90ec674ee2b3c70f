use Rattle.std.proofs.Common.{◌∷◌, [], sym, subst, Some, codes, decimal, ◌≡◌}
use Rattle.clay_words.specs.Words.{IsAskedBy}
use Rattle.clay_words.specs.declared.numbers_of_words.Command.TheVariants as command
use Rattle.clay_words.specs.declared.word_names.Name.TheVariants.{Generate}
use Rattle.clay_words.proofs.Held.{by_numbers}
use Rattle.clay_words.proofs.OneCommand.{no_draw_size, no_draw_start}
use Rattle.clay_words.proofs.parse.drawn_held.Goals as goal

pub returns-in_err-start : goal.returns-in_err-start
returns-in_err-start c = λ words holds.
    by_numbers Generate words _ (λ list. IsAskedBy list c.from_residual.result)
    (λ start size held.
    subst (IsAskedBy (codes "gen" ∷ start ∷ size ∷ [])) (sym c.from_residual.ensures) (no_draw_start start size (c.in_err-start.ensures start held.0))) holds

pub returns-in_err-size : goal.returns-in_err-size
returns-in_err-size c = λ words holds.
    by_numbers Generate words _ (λ list. IsAskedBy list c.from_residual-in_err-size.result)
    (λ start size held.
    subst (IsAskedBy (codes "gen" ∷ start ∷ size ∷ [])) (sym c.from_residual-in_err-size.ensures) (no_draw_size start size (c.in_err-size.ensures size held.1.0))) holds

pub returns : goal.returns
returns c = λ words holds.
    by_numbers Generate words _ (λ list. IsAskedBy list (Some (command.Generate c.in_ok-start.start c.in_ok-size.size)))
    (λ start size held.
    let first = c.in_ok-start.ensures start held.0 in
    let second = c.in_ok-size.ensures size held.1.0 in
    let is : codes "gen" ∷ start ∷ size ∷ [] ≡ codes "gen" ∷ decimal c.in_ok-start.start ∷ decimal c.in_ok-size.size ∷ [] = λ i. codes "gen" ∷ first.1 i ∷ second.0 i ∷ [] in
    (is, (first.0, second.1, second.2))) holds
