-- The words of a session.
use Rattle.std.specs.Prelude.{◌≡◌, ◌≤◌, ℕ, List, [], ◌∷◌, decimal, Option, MatchOption}
use Rattle.clay_grid.specs.Shape.{Shape}
use Rattle.clay_grid.specs.Limits.{IsWithinLimits}
use Rattle.frame_session.specs.declared.session_words.Asked.{Asked}

-- the words spell the numbers of a code within its limits, and how many bytes an object may have
pub record AreWords (words : List (List ℕ)) (g : Shape) (max : ℕ) : Type 0 where
  pub words_are : words ≡ decimal g.data_count ∷ decimal g.parity_count ∷ decimal g.width ∷ decimal max ∷ []
  pub code : IsWithinLimits g
  pub most : (1 ≤ max) × (max ≤ 1048576)

-- they are no session's
abbrev pub AskNothing : List (List ℕ) → Type 0
AskNothing words = (g : Shape) (max : ℕ) → AreWords words g max → ⊥

-- the session that they ask for, or none where they ask for none
abbrev pub IsAskedBy : List (List ℕ) → Option Asked → Type 0
IsAskedBy words answer = MatchOption answer (AskNothing words) (λ asked. AreWords words asked.geometry asked.max)

-- a fact of the code and of the most bytes of an object, where the words ask for a session
abbrev pub IfAsked : List (List ℕ) → (Shape → ℕ → Type 0) → Type 0
IfAsked words P = (g : Shape) (max : ℕ) → AreWords words g max → P g max
