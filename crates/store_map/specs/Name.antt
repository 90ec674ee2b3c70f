-- What a name is.
use Rattle.std.specs.Prelude.{ℕ, Bool, ◌&&◌, ◌||◌, List, length, nat_le, ◌==◌, IsTrue}
use Rattle.std.specs.List.{list_all}

-- whether a byte is one of a-z, 0-9, '.', '_' and '-'
abbrev pub is_name_byte : ℕ → Bool
is_name_byte byte =
    (nat_le 97 byte && nat_le byte 122) || (nat_le 48 byte && nat_le byte 57) || byte == 46 || byte == 95 || byte == 45

-- whether these are from 1 to 64 such bytes
abbrev pub is_name : List ℕ → Bool
is_name bytes = nat_le 1 (length bytes) && nat_le (length bytes) 64 && list_all is_name_byte bytes

-- the bytes are a name
abbrev pub IsName : List ℕ → Type 0
IsName bytes = IsTrue (is_name bytes)
