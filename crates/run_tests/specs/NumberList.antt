-- The lines of a list, from the history that it stands for.
use Rattle.std.specs.Prelude.{ℕ, List, map}
use Rattle.run_tests.specs.declared.number_list.Line.{Line}

-- each entry as a line
abbrev pub lines_of : List (ℕ × ℕ) → List Line
lines_of log = map (λ (entry : ℕ × ℕ). record { turn = entry.0; value = entry.1 }) log
