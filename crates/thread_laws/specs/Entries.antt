-- Histories whose entries are steps of the store's definitions.
use Rattle.std.specs.Prelude.{ℕ, ◌+◌, max, List, [], ◌∷◌, map}
use Rattle.thread_laws.specs.MadeSteps.{MadeStep}

-- the steps of a server's history
abbrev pub steps_in : List (ℕ × MadeStep) → List MadeStep
steps_in log = map (λ (entry : ℕ × MadeStep). entry.1) log

-- the greatest moment, or 0
abbrev pub last_of : List MadeStep → ℕ
last_of [] = 0
last_of (m ∷ steps) = max m.moment (last_of steps)

-- the moment of a step after these and after one of this moment
abbrev pub next_moment : List MadeStep → ℕ → ℕ
next_moment steps last = max (last_of steps) last + 1
