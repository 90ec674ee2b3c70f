-- The file that writes make.
use Rattle.std.specs.Prelude.{◌≡◌, ◌<◌, ℕ, ◌+◌, ◌-◌, List, [], ◌∷◌, ◌++◌, length, take, drop, replicate}
use Rattle.file_bytes.specs.Places.{Placed, placed_from}

-- the first bytes of a file, so many, with zeros where it has fewer
abbrev pub front : ℕ → List ℕ → List ℕ
front size file = take size file ++ replicate (size - length file) 0

-- a file with bytes laid over it from a position on
abbrev pub laid_at : ℕ → List ℕ → List ℕ → List ℕ
laid_at at bytes file = front at file ++ (bytes ++ drop (at + length bytes) file)

-- a file after these bytes were put into it, in this order
abbrev pub laid_over : List ℕ → List Placed → List ℕ
laid_over file [] = file
laid_over file (p ∷ ps) = laid_over (laid_at p.at (p.byte ∷ []) file) ps

-- the file that they make of an empty one
abbrev pub laid : List Placed → List ℕ
laid ps = laid_over [] ps

-- a sink took fewer bytes than these, from their front
pub record PutsFewer (put : List Placed) (at : ℕ) (bytes : List ℕ) (now : List Placed) : Type 0 where
  pub count : ℕ
  pub fewer : count < length bytes
  pub puts : now ≡ put ++ placed_from at (take count bytes)
