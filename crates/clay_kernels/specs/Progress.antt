-- How far a loop over bytes has come.
use Rattle.std.specs.Prelude.{◌≡◌, ℕ, ◌<◌, ◌≤◌, List, length, get_or, bit_xor}
use Rattle.clay_field.specs.Field.{product}

-- of n bytes those from start on and below stop are their values, and the others as before
pub record IsDone (start stop n : ℕ) (before now : List ℕ) (value : ℕ → ℕ) : Type 0 where
  pub order : start ≤ stop
  pub within : stop ≤ n
  pub long : length now ≡ n
  pub early : (k : ℕ) → k < start → get_or now k 0 ≡ get_or before k 0
  pub done : (k : ℕ) → start ≤ k → k < stop → get_or now k 0 ≡ value k
  pub left : (k : ℕ) → stop ≤ k → get_or now k 0 ≡ get_or before k 0

-- the byte that c times the one of src makes of the one that was there
abbrev pub product_added : ℕ → List ℕ → List ℕ → ℕ → ℕ
product_added c src d k = bit_xor (get_or d k 0) (product c (get_or src k 0))

-- to those bytes c times the ones of src are added
abbrev pub IsAdded : ℕ → ℕ → List ℕ → List ℕ → ℕ → List ℕ → Type 0
IsAdded start stop before now c src = IsDone start stop (length src) before now (product_added c src before)
