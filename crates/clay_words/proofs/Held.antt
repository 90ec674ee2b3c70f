-- Which words a subcommand's name and what is held for it stand for.
use Rattle.std.proofs.Common.{◌≡◌, List, [], ◌∷◌, length, refl, sym, ap, subst, ◌∙◌}
use Rattle.std.specs.Prelude.{true, false, suc, Option, None, Some, is_some, unwrap_or}
use Rattle.clap.specs.Words.{Row, Text, first_of, first_value, rows_of}
use Rattle.clap.specs.declared.parser.matches.Found.{Found}
use Rattle.clap.proofs.WalkLemmas.{first_value-rows}
use Rattle.clay_words.specs.Names.{ids_of, word_of}
use Rattle.clay_words.specs.Spelled.{Hold, HoldsNumbers}
use Rattle.clay_words.specs.declared.word_names.Name.{Name}
use Rattle.clay_words.proofs.Lengths.{OfWords, by_length}

pub not_both : {A : Type 0} (o : Option A) (x : A) → o ≡ None → o ≡ Some x → ⊥
not_both o x none some = let bad : false ≡ true = ap is_some (sym none ∙ some) in cc

pub same_value : {A : Type 0} (o : Option A) (x y : A) → o ≡ Some x → o ≡ Some y → x ≡ y
same_value o x y a b = ap (λ v. unwrap_or v x) (sym a ∙ b)

-- what a reader of the matches finds is what the rows hold
pub in_rows : (f : Found) (id : Text) (o : Option Text) → o ≡ first_value f id → first_of id (rows_of f) ≡ o
in_rows f id o e = sym (first_value-rows f id) ∙ sym e

-- as many words are held as there are names
hold_length : (rows : List Row) (ids words : List Text) → Hold rows ids words → length words ≡ length ids
hold_length rows [] [] held = refl
hold_length rows [] (word ∷ words) held = absurd held
hold_length rows (id ∷ ids) [] held = absurd held
hold_length rows (id ∷ ids) (word ∷ words) held = ap suc (hold_length rows ids words held.1)

-- a fact of a command's words, as one of its numbers' words
pub by_numbers : (name : Name) (words : List Text) (rows : List Row) (Q : List Text → Type 0)
    → OfWords (length (ids_of name)) (λ numbers. Hold rows (ids_of name) numbers → Q (word_of name ∷ numbers))
    → HoldsNumbers name words rows → Q words
by_numbers name words rows Q holds held =
    subst Q (sym held.words_are)
    (by_length (length (ids_of name)) (λ numbers. Hold rows (ids_of name) numbers → Q (word_of name ∷ numbers)) holds held.numbers
    (hold_length rows (ids_of name) held.numbers held.held) held.held)
