use Rattle.std.proofs.Common.{ℕ, ◌∷◌, [], List, sym, subst, ◌∙◌, Some, codes}
use Rattle.clap.specs.Words.{found_of}
use Rattle.clay_words.specs.Words.{IsAskedBy, AreAloofWords}
use Rattle.clay_words.specs.declared.numbers_of_words.Command.TheVariants.{OfInput}
use Rattle.clay_words.specs.declared.numbers_of_words.Task.TheVariants as task
use Rattle.clay_words.specs.declared.word_names.Name.TheVariants.{AloofRepair}
use Rattle.clay_words.proofs.Held.{by_numbers, in_rows, not_both, same_value}
use Rattle.clay_words.proofs.OneCommand.{asks_aloof, no_aloof_repair, no_such_chunk}
use Rattle.clay_words.proofs.parse.repair_held.Goals as goal

pub returns-in_err-geometry : goal.returns-in_err-geometry
returns-in_err-geometry c = λ words holds.
    by_numbers AloofRepair words _ (λ list. IsAskedBy list c.from_residual.result)
    (λ k m d w lost held.
    subst (IsAskedBy (codes "repaird" ∷ k ∷ m ∷ d ∷ w ∷ lost ∷ [])) (sym c.from_residual.ensures)
    (no_aloof_repair k m d w lost (c.in_err-geometry.ensures k m d w (held.0, (held.1.0, (held.1.1.0, (held.1.1.1.0, tt))))))) holds

pub returns-in_err-get_str : goal.returns-in_err-get_str
returns-in_err-get_str c = λ words holds.
    by_numbers AloofRepair words _ (λ list. IsAskedBy list c.from_residual-in_err-get_str.result)
    (λ k m d w lost held. absurd (not_both _ lost (in_rows (found_of c.args.held.now) (codes "lost") _ c.in_err-get_str.ensures) held.1.1.1.1.0)) holds

pub returns-in_err-lost : goal.returns-in_err-lost
returns-in_err-lost c = λ words holds.
    by_numbers AloofRepair words _ (λ list. IsAskedBy list c.from_residual-in_err-lost.result)
    (λ k m d w lost held.
    let same = same_value _ _ lost (in_rows (found_of c.args.held.now) (codes "lost") _ c.in_ok-get_str.ensures) held.1.1.1.1.0 in
    subst (IsAskedBy (codes "repaird" ∷ k ∷ m ∷ d ∷ w ∷ lost ∷ [])) (sym c.from_residual-in_err-lost.ensures)
    (no_such_chunk k m d w lost c.in_ok-geometry.geometry (c.in_ok-geometry.ensures k m d w (held.0, (held.1.0, (held.1.1.0, (held.1.1.1.0, tt)))))
    (λ n small is. c.in_err-lost.ensures.none n small (same ∙ is)))) holds

pub returns : goal.returns
returns c = λ words holds.
    by_numbers AloofRepair words _ (λ list. IsAskedBy list (Some (OfInput (task.AloofRepair c.in_ok-geometry.geometry c.in_ok-lost.lost))))
    (λ k m d w lost held.
    let same = same_value _ _ lost (in_rows (found_of c.args.held.now) (codes "lost") _ c.in_ok-get_str.ensures) held.1.1.1.1.0 in
    let code = c.in_ok-geometry.ensures k m d w (held.0, (held.1.0, (held.1.1.0, (held.1.1.1.0, tt)))) in
    let chunk = c.in_ok-lost.ensures.found in
    let words : List (List ℕ) = codes "repaird" ∷ k ∷ m ∷ d ∷ w ∷ lost ∷ [] in
    let P : List ℕ → Type 0 = λ word. AreAloofWords words (codes "repaird") c.in_ok-geometry.geometry (word ∷ []) in
    (subst P (sym same ∙ chunk.0) (asks_aloof (codes "repaird") k m d w (lost ∷ []) c.in_ok-geometry.geometry code), chunk.1)) holds
