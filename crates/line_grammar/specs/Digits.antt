-- Hexadecimal digits.
use Rattle.std.specs.Prelude.{ℕ, Bool, ◌&&◌, ◌||◌, nat_le}

-- a digit, of which the letters are in lower case
abbrev pub is_lower_digit : ℕ → Bool
is_lower_digit byte = (nat_le 48 byte && nat_le byte 57) || (nat_le 97 byte && nat_le byte 102)
