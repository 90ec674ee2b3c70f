use Rattle.std.proofs.Common.{◌∷◌, [], sym, subst, Some, codes, decimal, ◌≡◌}
use Rattle.clay_words.specs.Words.{IsAskedBy}
use Rattle.clay_words.specs.declared.numbers_of_words.Command.TheVariants as command
use Rattle.clay_words.specs.declared.word_names.Name.TheVariants.{Trial}
use Rattle.clay_words.proofs.Held.{by_numbers}
use Rattle.clay_words.proofs.OneCommand.{no_trial_size, no_trial_start, no_trial_workers}
use Rattle.clay_words.proofs.parse.trial_held.Goals as goal

pub returns-in_err-start : goal.returns-in_err-start
returns-in_err-start c = λ words holds.
    by_numbers Trial words _ (λ list. IsAskedBy list c.from_residual.result)
    (λ start size workers held.
    subst (IsAskedBy (codes "trial" ∷ start ∷ size ∷ workers ∷ [])) (sym c.from_residual.ensures)
    (no_trial_start start size workers (c.in_err-start.ensures start held.0))) holds

pub returns-in_err-size : goal.returns-in_err-size
returns-in_err-size c = λ words holds.
    by_numbers Trial words _ (λ list. IsAskedBy list c.from_residual-in_err-size.result)
    (λ start size workers held.
    subst (IsAskedBy (codes "trial" ∷ start ∷ size ∷ workers ∷ [])) (sym c.from_residual-in_err-size.ensures)
    (no_trial_size start size workers (c.in_err-size.ensures size held.1.0))) holds

pub returns-in_err-workers : goal.returns-in_err-workers
returns-in_err-workers c = λ words holds.
    by_numbers Trial words _ (λ list. IsAskedBy list c.from_residual-in_err-workers.result)
    (λ start size workers held.
    subst (IsAskedBy (codes "trial" ∷ start ∷ size ∷ workers ∷ [])) (sym c.from_residual-in_err-workers.ensures)
    (no_trial_workers start size workers (c.in_err-workers.ensures workers held.1.1.0))) holds

pub returns : goal.returns
returns c = λ words holds.
    by_numbers Trial words _ (λ list. IsAskedBy list (Some (command.Trial c.in_ok-start.start c.in_ok-size.size c.in_ok-workers.workers)))
    (λ start size workers held.
    let first = c.in_ok-start.ensures start held.0 in
    let second = c.in_ok-size.ensures size held.1.0 in
    let third = c.in_ok-workers.ensures workers held.1.1.0 in
    let is : codes "trial" ∷ start ∷ size ∷ workers ∷ [] ≡ codes "trial" ∷ decimal c.in_ok-start.start ∷ decimal c.in_ok-size.size ∷ decimal c.in_ok-workers.workers ∷ [] =
    λ i. codes "trial" ∷ first.1 i ∷ second.0 i ∷ third.0 i ∷ [] in
    (is, (first.0, second.1, second.2), (third.1, third.2))) holds
