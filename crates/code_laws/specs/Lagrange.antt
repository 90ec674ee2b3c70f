-- The Lagrange polynomials of distinct points.
use Rattle.std.specs.Prelude.{◌≡◌, ℕ, ◌*◌, ◌^◌, ◌<◌, ◌≤◌, ◌==◌, if◌then◌else◌, List, length, get_or}
use Rattle.clay_field.specs.Field.{product, power_of}
use Rattle.clay_model.specs.Sums.{sum_below}
use Rattle.clay_model.specs.Points.{AreDistinct, byte_of}

-- the value at x of the polynomial whose coefficients of the degrees below n are given
abbrev pub value_at : ℕ → (ℕ → ℕ) → ℕ → ℕ
value_at n coefficient x = sum_below n (λ j. product (power_of x j) (coefficient j))

-- the polynomial is 1 at the point e and 0 at the other points
abbrev pub IsLagrange : List ℕ → ℕ → (ℕ → ℕ) → Type 0
IsLagrange points e coefficient =
    (i : ℕ) → i < length points → value_at (length points) coefficient (get_or points i 0) ≡ (if i == e then 1 else 0)

-- for each point the coefficients of its Lagrange polynomial, one row after another
abbrev pub AreLagrange : List ℕ → List ℕ → Type 0
AreLagrange points coefficients =
    (e : ℕ) → e < length points → IsLagrange points e (λ j. byte_of coefficients (length points) j e)

-- what a solver keeps
pub record IsInterpolation (points coefficients : List ℕ) : Type 0 where
  pub few : length points ≤ 8
  pub bytes : (e : ℕ) → get_or points e 0 < 2 ^ 8
  pub distinct : AreDistinct points
  pub square : length coefficients ≡ length points * length points
  pub lagrange : AreLagrange points coefficients
