-- Piles of values, and what is taken from their tops.
use Rattle.std.specs.Prelude.{◌≡◌, ℕ, ◌<◌, List, [], ◌∷◌, ◌++◌, length, map, Some, Vec}
use Rattle.std.specs.Global.{Global}
use Rattle.std.specs.List.{slice_get}

-- the values of each pile
abbrev pub items_of : {X : Type 0} → List (Vec X Global) → List (List X)
items_of piles = map (λ pile. pile.items) piles

-- there are values on each
abbrev pub AreSome : {X : Type 0} → List (List X) → Type 0
AreSome {X} piles = (j : ℕ) (pile : List X) → slice_get piles j ≡ Some pile → 0 < length pile

-- these were the last value of each, which was taken from it
pub record AreTops {X : Type 0} (old now : List (List X)) (tops : List X) : Type 0 where
  pub wide : length now ≡ length old
  pub count : length tops ≡ length old
  pub each : (j : ℕ) (pile : List X) (top : X) → slice_get now j ≡ Some pile → slice_get tops j ≡ Some top → slice_get old j ≡ Some (pile ++ top ∷ [])
