use Rattle.std.proofs.Common.{ℕ, ◌<◌, get_or}
use Rattle.std.specs.Prelude.{String, string_bytes}
use Rattle.std.specs.declared.alloc.Global.{Global}
use Rattle.line_grammar.specs.Numbers.{IsNumberWord}
use Rattle.clay_words.proofs.spelled.are_numbers.Given as goal

abbrev pub invariant-loop-word : goal.invariant-loop-word
invariant-loop-word l = (k : ℕ) (d : String Global) → k < l.word-index → IsNumberWord (string_bytes (get_or l.words k d))
