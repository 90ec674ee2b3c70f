-- Values as lists of numbers, which contracts alone keep: how a value is written, and how it is read back.
use Rattle.std.specs.Prelude.{ℕ, zero, suc, List, [], ◌∷◌, ◌++◌, length, Option, None, Some}
use Rattle.std.specs.List.{flat_map}

-- reading leaves the numbers that come after the value
pub record Codec (X : Type 0) : Type 0 where
  pub write : X → List ℕ
  pub read : List ℕ → X × List ℕ

abbrev read_number : List ℕ → ℕ × List ℕ
read_number [] = (0, [])
read_number (n ∷ rest) = (n, rest)

abbrev pub number : Codec ℕ
number = record { write = λ n. n ∷ []; read = read_number }

-- one value after another
abbrev pub both : {X Y : Type 0} → Codec X → Codec Y → Codec (X × Y)
both x y =
    record {
      write = λ p. x.write p.0 ++ y.write p.1;
      read = λ told. (((x.read told).0, (y.read (x.read told).1).0), (y.read (x.read told).1).1);
    }

-- a value that stands for another
abbrev pub as_other : {X Y : Type 0} → Codec Y → (X → Y) → (Y → X) → Codec X
as_other y to from = record { write = λ x. y.write (to x); read = λ told. (from (y.read told).0, (y.read told).1) }

abbrev pub read_many : {X : Type 0} → Codec X → ℕ → List ℕ → List X × List ℕ
read_many x zero told = ([], told)
read_many x (suc n) told = ((x.read told).0 ∷ (read_many x n (x.read told).1).0, (read_many x n (x.read told).1).1)

-- how many values, and then each
abbrev pub many : {X : Type 0} → Codec X → Codec (List X)
many x =
    record {
      write = λ xs. length xs ∷ flat_map x.write xs;
      read = λ told. read_many x (read_number told).0 (read_number told).1;
    }

-- none as 0
abbrev to_optional : Option ℕ → ℕ
to_optional None = 0
to_optional (Some n) = suc n

abbrev from_optional : ℕ → Option ℕ
from_optional zero = None
from_optional (suc n) = Some n

abbrev pub optional : Codec (Option ℕ)
optional = as_other number to_optional from_optional
