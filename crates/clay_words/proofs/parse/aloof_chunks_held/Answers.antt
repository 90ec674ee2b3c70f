use Rattle.std.proofs.Common.{◌∷◌, [], sym, subst, Some, codes}
use Rattle.clay_words.specs.Words.{IsAskedBy}
use Rattle.clay_words.specs.declared.numbers_of_words.Command.TheVariants.{OfInput}
use Rattle.clay_words.specs.declared.numbers_of_words.Task.TheVariants as task
use Rattle.clay_words.specs.declared.word_names.Name.TheVariants.{AloofChunks}
use Rattle.clay_words.proofs.Held.{by_numbers}
use Rattle.clay_words.proofs.OneCommand.{asks_aloof, no_aloof_chunks}
use Rattle.clay_words.proofs.parse.aloof_chunks_held.Goals as goal

pub returns-in_err-geometry : goal.returns-in_err-geometry
returns-in_err-geometry c = λ words holds.
    by_numbers AloofChunks words _ (λ list. IsAskedBy list c.from_residual.result)
    (λ k m d w held.
    subst (IsAskedBy (codes "chunksd" ∷ k ∷ m ∷ d ∷ w ∷ [])) (sym c.from_residual.ensures)
    (no_aloof_chunks k m d w (c.in_err-geometry.ensures k m d w held))) holds

pub returns : goal.returns
returns c = λ words holds.
    by_numbers AloofChunks words _ (λ list. IsAskedBy list (Some (OfInput (task.AloofChunks c.in_ok-geometry.geometry))))
    (λ k m d w held. asks_aloof (codes "chunksd") k m d w [] c.in_ok-geometry.geometry (c.in_ok-geometry.ensures k m d w held)) holds
