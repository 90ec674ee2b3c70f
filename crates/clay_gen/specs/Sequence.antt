-- The sequence of numbers that scripts are drawn from.
use Rattle.std.specs.Prelude.{ℕ, zero, suc, ◌+◌, ◌*◌, ◌/◌, ◌%◌, ◌^◌, List, [], ◌∷◌}

-- the state after one number
unfoldable pub advance : ℕ → ℕ
advance state = (6364136223846793005 * state + 1442695040888963407) % 2 ^ 64

-- the state after so many numbers
abbrev pub state_after : ℕ → ℕ → ℕ
state_after zero state = state
state_after (suc n) state = state_after n (advance state)

-- the number with this place, from 0, of those behind a state, below a limit
abbrev pub pick : ℕ → ℕ → ℕ → ℕ
pick state place limit = state_after place (advance state) / 2 ^ 32 % limit

-- so many values, each drawn from the state behind the one before it
abbrev pub drawn : {A : Type 0} → (ℕ → A) → (ℕ → ℕ) → ℕ → ℕ → List A
drawn value behind zero state = []
drawn value behind (suc n) state = value state ∷ drawn value behind n (behind state)

-- the state behind them all
abbrev pub behind_all : (ℕ → ℕ) → ℕ → ℕ → ℕ
behind_all behind zero state = state
behind_all behind (suc n) state = behind_all behind n (behind state)
