-- Words that have no command's form ask for nothing.
use Rattle.std.proofs.Common.{◌≡◌, ℕ, suc, ◌<◌, ◌^◌, List, [], ◌∷◌, length, refl, sym, ap, subst, ◌∙◌, arith, inl, inr, decimal}
use Rattle.std.specs.Prelude.{◌⊎◌, ◌==◌, true, map}
use Rattle.line_grammar.specs.Numbers.{IsNumberWord}
use Rattle.line_grammar.proofs.NumberLaws.{number_word_is}
use Rattle.clay_grid.specs.Shape.{Shape}
use Rattle.clay_aloof.specs.Shape.{AloofShape}
use Rattle.clay_words.specs.Spelled.{IsSpelled}
use Rattle.clay_words.specs.Words.{Asks, AsksNothing, IsCode, IsAloofCode}
use Rattle.clay_words.specs.declared.numbers_of_words.Command.{Command}
use Rattle.clay_words.specs.declared.numbers_of_words.Command.TheVariants.{OfInput}
use Rattle.clay_words.specs.declared.numbers_of_words.Command.TheVariants as command
use Rattle.clay_words.specs.declared.numbers_of_words.Task.TheVariants as task
use Rattle.clay_words.specs.declared.word_names.Name.TheVariants.{Play, Run, Verify, Chunks, Recover, Generate, Trial, AloofChunks, AloofRepair}
use Rattle.clay_words.proofs.WordLaws.{aloof_numbers, code_numbers}

number : (word : List ℕ) (n : ℕ) → n < 2 ^ 64 → word ≡ decimal n → IsNumberWord word
number word n small is = (n, is ∙ sym (number_word_is n small))

code_is_numbers : (g : Shape) (k m w : List ℕ) → IsCode g k m w → IsNumberWord k × IsNumberWord m × IsNumberWord w
code_is_numbers g k m w code =
    let small = code_numbers g code.limits in (
      number k g.data_count (omega (arith, small.0)) code.data_count,
      number m g.parity_count (omega (arith, small.1)) code.parity_count,
      number w g.width (omega (arith, small.2)) code.width,
    )

aloof_is_numbers : (a : AloofShape) (k m d w : List ℕ) → IsAloofCode a k m d w → IsNumberWord k × IsNumberWord m × IsNumberWord d × IsNumberWord w
aloof_is_numbers a k m d w code =
    let small = aloof_numbers a code.limits in (
      number k a.data_count (omega (arith, small.0)) code.data_count,
      number m a.parity_count (omega (arith, small.1)) code.parity_count,
      number d a.helper_count (omega (arith, small.2)) code.helper_count,
      number w a.width (omega (arith, small.3)) code.width,
    )

-- words that ask for a command are none, or have its form
asked_spelled : (words : List (List ℕ)) (command : Command) → Asks words command → (words ≡ []) ⊎ IsSpelled words
asked_spelled words (OfInput task.Play) (inl asked) = inl asked
asked_spelled words (OfInput task.Play) (inr asked) = inr (subst IsSpelled (sym asked) (Play, refl, (refl, tt)))
asked_spelled words (OfInput (task.Run workers)) (is, (some, few)) =
    inr (subst IsSpelled (sym is) (Run, refl, (refl, (number (decimal workers) workers (omega (arith, few)) refl, tt))))
asked_spelled words (OfInput task.Verify) asked = inr (subst IsSpelled (sym asked) (Verify, refl, (refl, tt)))
asked_spelled words (OfInput (task.Chunks g)) asked =
    let numbers = code_is_numbers g asked.k asked.m asked.w asked.code in
    inr (subst IsSpelled (sym asked.words_are) (Chunks, refl, (refl, (numbers.0, (numbers.1, (numbers.2, tt))))))
asked_spelled words (OfInput (task.Recover g)) asked =
    let numbers = code_is_numbers g asked.k asked.m asked.w asked.code in
    inr (subst IsSpelled (sym asked.words_are) (Recover, refl, (refl, (numbers.0, (numbers.1, (numbers.2, tt))))))
asked_spelled words (OfInput (task.AloofChunks a)) asked =
    let numbers = aloof_is_numbers a asked.k asked.m asked.d asked.w asked.code in
    inr (subst IsSpelled (sym asked.words_are) (AloofChunks, refl, (refl, (numbers.0, (numbers.1, (numbers.2, (numbers.3, tt)))))))
asked_spelled words (OfInput (task.AloofRepair a lost)) (asked, within) =
    let numbers = aloof_is_numbers a asked.k asked.m asked.d asked.w asked.code in
    let small = aloof_numbers a asked.code.limits in
    let chunk = number (decimal lost) lost (omega (arith, small.0, small.1, within)) refl in
    inr (subst IsSpelled (sym asked.words_are) (AloofRepair, refl, (refl, (numbers.0, (numbers.1, (numbers.2, (numbers.3, (chunk, tt))))))))
asked_spelled words (command.Generate start size) (is, (small, some, few)) =
    let first = number (decimal start) start small refl in
    let second = number (decimal size) size (omega (arith, few)) refl in
    inr (subst IsSpelled (sym is) (Generate, refl, (refl, (first, (second, tt)))))
asked_spelled words (command.Trial start size workers) (is, (small, some, few), (least, most)) =
    let first = number (decimal start) start small refl in
    let second = number (decimal size) size (omega (arith, few)) refl in
    let third = number (decimal workers) workers (omega (arith, most)) refl in
    inr (subst IsSpelled (sym is) (Trial, refl, (refl, (first, (second, (third, tt))))))

pub unspelled : (words : List (List ℕ)) → (IsSpelled words → ⊥) → (words ≡ [] → ⊥) → AsksNothing words
unspelled words other some command asked = pick (asked_spelled words command asked)
  where
    pick : (words ≡ []) ⊎ IsSpelled words → ⊥
    pick (inl none) = some none
    pick (inr spelled) = other spelled

-- a list of which nothing is made is empty
pub is_empty : {A B : Type 0} (f : A → B) (xs : List A) → map f xs ≡ [] → (length xs == 0) ≡ true
is_empty f [] none = refl
is_empty f (x ∷ xs) none = let bad : suc (length (map f xs)) ≡ 0 = ap length none in absurd (omega arith)
