-- A file cut into stripes, and their codewords.
use Rattle.std.specs.Prelude.{◌≡◌, ℕ, ◌+◌, ◌-◌, ◌/◌, ◌<◌, List, [], length, get_or}
use Rattle.clay_model.specs.Code.{stripes_below}
use Rattle.clay_aloof.specs.Shape.{AloofShape, stripe_bytes}
use Rattle.clay_aloof.specs.Code.{Codes}

-- how many stripes a file of so many bytes has
abbrev pub stripe_count : AloofShape → ℕ → ℕ
stripe_count a size = (size + stripe_bytes a - 1) / stripe_bytes a

-- the stripes of a file: cut at the stripe's length, the last filled up with zeros, and none for an empty file
abbrev pub file_stripes : AloofShape → List ℕ → List (List ℕ)
file_stripes a file = stripes_below (stripe_bytes a) (stripe_count a (length file)) file

-- the codewords of the file's stripes, one for each
pub record AreCodewords (a : AloofShape) (file : List ℕ) (words : List (List (List ℕ))) : Type 0 where
  pub count : length words ≡ stripe_count a (length file)
  pub codes : (i : ℕ) → i < length words → Codes a (get_or (file_stripes a file) i []) (get_or words i [])
