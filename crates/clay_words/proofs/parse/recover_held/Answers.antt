use Rattle.std.proofs.Common.{◌∷◌, [], sym, subst, Some, codes}
use Rattle.clay_words.specs.Words.{IsAskedBy}
use Rattle.clay_words.specs.declared.numbers_of_words.Command.TheVariants.{OfInput}
use Rattle.clay_words.specs.declared.numbers_of_words.Task.TheVariants as task
use Rattle.clay_words.specs.declared.word_names.Name.TheVariants.{Recover}
use Rattle.clay_words.proofs.Held.{by_numbers}
use Rattle.clay_words.proofs.OneCommand.{asks_code, no_recover}
use Rattle.clay_words.proofs.parse.recover_held.Goals as goal

pub returns-in_err-geometry : goal.returns-in_err-geometry
returns-in_err-geometry c = λ words holds.
    by_numbers Recover words _ (λ list. IsAskedBy list c.from_residual.result)
    (λ k m w held. subst (IsAskedBy (codes "recover" ∷ k ∷ m ∷ w ∷ [])) (sym c.from_residual.ensures) (no_recover k m w (c.in_err-geometry.ensures k m w held))) holds

pub returns : goal.returns
returns c = λ words holds.
    by_numbers Recover words _ (λ list. IsAskedBy list (Some (OfInput (task.Recover c.in_ok-geometry.geometry))))
    (λ k m w held. asks_code (codes "recover") k m w c.in_ok-geometry.geometry (c.in_ok-geometry.ensures k m w held)) holds
