-- The form of a command's words, and what clap holds of them.
use Rattle.std.specs.Prelude.{◌≡◌, List, [], ◌∷◌, length, Some, true}
use Rattle.std.specs.List.{AllByRecursion}
use Rattle.line_grammar.specs.Numbers.{IsNumberWord}
use Rattle.clap.specs.Words.{Row, Text, first_of, found_of, rows_of, subcommand_of, takes}
use Rattle.clap.specs.declared.parser.matches.ArgMatches.{ArgMatches}
use Rattle.clay_words.specs.Grammar.{clay_app}
use Rattle.clay_words.specs.Names.{ids_of, word_of}
use Rattle.clay_words.specs.declared.word_names.Name.{Name}

-- as many numbers as the command has
abbrev pub AreNumbers : Name → List Text → Type 0
AreNumbers name numbers = (length numbers ≡ length (ids_of name)) × AllByRecursion IsNumberWord numbers

-- a command's name, and behind it its numbers
abbrev pub IsSpelled : List Text → Type 0
IsSpelled [] = ⊥
IsSpelled (word ∷ numbers) = (name : Name) × (word ≡ word_of name) × AreNumbers name numbers

-- each word is held under its name
abbrev pub Hold : List Row → List Text → List Text → Type 0
Hold rows [] [] = Unit {0}
Hold rows [] (word ∷ words) = ⊥
Hold rows (id ∷ ids) [] = ⊥
Hold rows (id ∷ ids) (word ∷ words) = (first_of id rows ≡ Some word) × Hold rows ids words

-- what clap holds for a subcommand
abbrev pub rows_held : ArgMatches → List Row
rows_held matches = rows_of (found_of matches)

-- the words are the command's name and the numbers that are held for it
pub record HoldsNumbers (name : Name) (words : List Text) (rows : List Row) : Type 0 where
  pub numbers : List Text
  pub words_are : words ≡ word_of name ∷ numbers
  pub held : Hold rows (ids_of name) numbers

-- the same of the command of a word
pub record AreHeld (words : List Text) (word : Text) (rows : List Row) : Type 0 where
  pub name : Name
  pub word_is : word ≡ word_of name
  pub numbers : HoldsNumbers name words rows

-- clap takes the words, and holds them
pub record IsTaken (words : List Text) : Type 0 where
  pub is_taken : takes clay_app words ≡ true
  pub word : Text
  pub rows : List Row
  pub found : subcommand_of clay_app words ≡ Some (word, rows)
  pub held : AreHeld words word rows
