-- The lines of a script.
use Rattle.std.specs.Prelude.{ℕ, List, [], ◌∷◌, codes}
use Rattle.clay_grid.specs.Shape.{Shape}
use Rattle.store_map.specs.declared.actor.Token.{Token}
use Rattle.store_map.specs.declared.call.Call.{Call}
use Rattle.store_map.specs.declared.call.Rebuild.{Rebuild}
use Rattle.line_grammar.specs.Lines.{line}
use Rattle.line_grammar.specs.Numbers.{number_word}
use Rattle.line_grammar.specs.Words.{call_words, rebuild_words, token_words, code_words}

-- a line with its values, in the order in which the kinds may stand
pub data Line : Type 0 where
  ClayLine : ℕ → Line
  CodeLine : Shape → Line
  SizeLine : ℕ → Line
  TriesLine : ℕ → Line
  ClientLine : Line
  RepairerLine : Line
  LeaveLine : ℕ → Line
  CallLine : Call → Line
  RebuildLine : Rebuild → Line
  ScheduleLine : Line
  StepLine : Token → Line
  EndLine : Line

-- its words
abbrev pub line_words : Line → List (List ℕ)
line_words (ClayLine form) = codes "clay" ∷ number_word form ∷ []
line_words (CodeLine g) = code_words g
line_words (SizeLine n) = codes "size" ∷ number_word n ∷ []
line_words (TriesLine n) = codes "tries" ∷ number_word n ∷ []
line_words ClientLine = codes "client" ∷ []
line_words RepairerLine = codes "repairer" ∷ []
line_words (LeaveLine n) = codes "leave" ∷ number_word n ∷ []
line_words (CallLine call) = call_words call
line_words (RebuildLine rebuild) = rebuild_words rebuild
line_words ScheduleLine = codes "schedule" ∷ []
line_words (StepLine step) = token_words step
line_words EndLine = codes "end" ∷ []

-- its bytes, with the line feed
abbrev pub line_text : Line → List ℕ
line_text l = line (line_words l)
