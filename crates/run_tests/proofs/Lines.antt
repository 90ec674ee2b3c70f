-- A line more.
use Rattle.std.proofs.Common.{◌≡◌, ℕ, List, [], ◌∷◌, ◌++◌, cond, refl, ap, ◌∙◌, eq-eqb}
use Rattle.std.proofs.lemmas.List.Elements.{filter-append}
use Rattle.turn_lock.specs.History.{has_number, entries_of}
use Rattle.run_tests.specs.declared.number_list.Line.{Line}
use Rattle.run_tests.specs.NumberList.{lines_of}

pub lines_of-append : (log : List (ℕ × ℕ)) (turn value : ℕ) → lines_of log ++ record { turn = turn; value = value } ∷ [] ≡ lines_of (log ++ (turn, value) ∷ [])
lines_of-append [] turn value = refl
lines_of-append (entry ∷ log) turn value = ap (λ (lines : List Line). record { turn = entry.0; value = entry.1 } ∷ lines) (lines_of-append log turn value)

-- the list with its new line stands for the history with the entry
pub lines_after : (lines before : List Line) (log : List (ℕ × ℕ)) (turn value : ℕ) → before ≡ lines_of log → lines ≡ before ++ record { turn = turn; value = value } ∷ []
    → lines ≡ lines_of (log ++ (turn, value) ∷ [])
lines_after lines before log turn value stands pushed = pushed ∙ (ap (λ (l : List Line). l ++ record { turn = turn; value = value } ∷ []) stands ∙ lines_of-append log turn value)

-- of its number there is one entry more
pub entries_after : (n value : ℕ) (log seen : List (ℕ × ℕ)) → entries_of n log ≡ entries_of n seen → entries_of n (log ++ (n, value) ∷ []) ≡ entries_of n seen ++ (n, value) ∷ []
entries_after n value log seen same =
    filter-append (has_number n) log ((n, value) ∷ []) ∙ (ap (λ b. entries_of n log ++ cond {A = List (ℕ × ℕ)} b ((n, value) ∷ []) []) (eq-eqb n n refl) ∙ ap (λ (l : List (ℕ × ℕ)). l ++ (n, value) ∷ []) same)
