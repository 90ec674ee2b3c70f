-- Values with numbers, spread over piles by their numbers.
use Rattle.std.specs.Prelude.{◌≡◌, ℕ, zero, suc, ◌+◌, ◌<◌, ◌%◌, ◌==◌, List, [], ◌∷◌, ◌++◌, filter, length, map, Some}
use Rattle.std.specs.List.{slice_get}

-- so many numbers from one on, the greatest first
abbrev pub falling : ℕ → ℕ → List ℕ
falling from zero = []
falling from (suc count) = falling (from + 1) count ++ from ∷ []

-- values of so many numbers from this one on, each on the pile at the place that its number leaves by the count of piles, the greatest number first
abbrev pub AreSpread : {X : Type 0} → (X → ℕ) → ℕ → ℕ → List (List X) → Type 0
AreSpread {X} number from count piles =
    (place : ℕ) (pile : List X) → slice_get piles place ≡ Some pile → map number pile ≡ filter (λ n. n % length piles == place) (falling from count)

-- all values, of the numbers from 0 on, on some piles
pub record AreAllSpread {X : Type 0} (number : X → ℕ) (count : ℕ) (piles : List (List X)) : Type 0 where
  pub some : 0 < length piles
  pub spread : AreSpread number 0 count piles

-- a value stands on one of the piles
pub record IsOn {X : Type 0} (piles : List (List X)) (value : X) : Type 0 where
  pub place : ℕ
  pub pile : List X
  pub there : slice_get piles place ≡ Some pile
  pub at : ℕ
  pub stands : slice_get pile at ≡ Some value
