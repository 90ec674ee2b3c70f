use Rattle.std.proofs.Common.{◌∷◌, [], sym, subst, Some, codes, ap}
use Rattle.clay_words.specs.Words.{IsAskedBy}
use Rattle.clay_words.specs.declared.numbers_of_words.Command.TheVariants.{OfInput}
use Rattle.clay_words.specs.declared.numbers_of_words.Task.TheVariants as task
use Rattle.clay_words.specs.declared.word_names.Name.TheVariants.{Run}
use Rattle.clay_words.proofs.Held.{by_numbers}
use Rattle.clay_words.proofs.OneCommand.{no_run}
use Rattle.clay_words.proofs.parse.run_held.Goals as goal

pub returns-in_err-workers : goal.returns-in_err-workers
returns-in_err-workers c = λ words holds.
    by_numbers Run words _ (λ list. IsAskedBy list c.from_residual.result)
    (λ workers held. subst (IsAskedBy (codes "run" ∷ workers ∷ [])) (sym c.from_residual.ensures) (no_run workers (c.in_err-workers.ensures workers held.0))) holds

pub returns : goal.returns
returns c = λ words holds.
    by_numbers Run words _ (λ list. IsAskedBy list (Some (OfInput (task.Run c.in_ok-workers.workers))))
    (λ workers held. let found = c.in_ok-workers.ensures workers held.0 in (ap (λ word. codes "run" ∷ word ∷ []) found.0, (found.1, found.2))) holds
