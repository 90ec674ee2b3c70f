-- Values at points of the field, and their weighted sums.
use Rattle.std.specs.Prelude.{◌≡◌, ◌≢◌, ℕ, ◌+◌, ◌*◌, ◌^◌, ◌<◌, List, length, get_or}
use Rattle.clay_field.specs.Field.{product, power_of}
use Rattle.clay_model.specs.Sums.{sum_below}

-- no two of the points are equal
abbrev pub AreDistinct : List ℕ → Type 0
AreDistinct points = (d e : ℕ) → d < e → e < length points → get_or points d 0 ≢ get_or points e 0

-- the sum over the points of the power j of each, times the value at it
abbrev pub sum_over : List ℕ → (ℕ → ℕ) → ℕ → ℕ
sum_over points f j = sum_below (length points) (λ e. product (power_of (get_or points e 0) j) (f e))

-- byte b of part e, where each part has w bytes
abbrev pub byte_of : List ℕ → ℕ → ℕ → ℕ → ℕ
byte_of parts w b e = get_or parts (e * w + b) 0

-- at each byte of the w bytes of a part, the values at the points have the given sums, of as many powers as there are points
abbrev pub HaveSums : List ℕ → ℕ → List ℕ → List ℕ → Type 0
HaveSums points w values sums =
    (j b : ℕ) → j < length points → b < w → sum_over points (byte_of values w b) j ≡ byte_of sums w b j

-- values below 256 at distinct points are known by as many sums as there are points
abbrev pub SumsTellValues : Type 0
SumsTellValues =
    (points : List ℕ) (f g : ℕ → ℕ) → AreDistinct points → ((e : ℕ) → get_or points e 0 < 2 ^ 8)
    → ((e : ℕ) → e < length points → f e < 2 ^ 8) → ((e : ℕ) → e < length points → g e < 2 ^ 8)
    → ((j : ℕ) → j < length points → sum_over points f j ≡ sum_over points g j)
    → (e : ℕ) → e < length points → f e ≡ g e
