use Rattle.std.proofs.Common.{◌≢◌, ℕ, ◌<◌, get_or}
use Rattle.clay_words.specs.Names.{all_names, word_of}
use Rattle.clay_words.specs.declared.word_names.Name.TheVariants.{Play}
use Rattle.clay_words.proofs.word_names.name_of.Given as goal

abbrev pub invariant-loop-name : goal.invariant-loop-name
invariant-loop-name l = (k : ℕ) → k < l.name-index → l.word ≢ word_of (get_or all_names k Play)
