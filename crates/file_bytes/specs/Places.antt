-- Bytes with the positions at which they stand in a file.
use Rattle.std.specs.Prelude.{◌≡◌, ◌≤◌, ◌<◌, ℕ, zero, suc, ◌+◌, List, [], ◌∷◌, ◌++◌, length, Some, All, slice_get}

-- a byte and its position
pub record Placed : Type 0 where
  pub at : ℕ
  pub byte : ℕ

abbrev pub placed : ℕ → ℕ → Placed
placed at byte = record { at = at; byte = byte }

-- bytes that stand one behind another, from a position on
abbrev pub placed_from : ℕ → List ℕ → List Placed
placed_from at [] = []
placed_from at (byte ∷ bytes) = placed at byte ∷ placed_from (at + 1) bytes

-- the positions at which no byte was found, after a read of so many bytes at one more
abbrev pub ends_after : List ℕ → ℕ → ℕ → List ℕ
ends_after ends at zero = ends ++ (at ∷ [])
ends_after ends at (suc count) = ends

-- a file has these bytes where they were read, and ends where none was found or before
pub record Shows (file : List ℕ) (given : List Placed) (ends : List ℕ) : Type 0 where
  pub bytes : All (λ p. slice_get file p.at ≡ Some p.byte) given
  pub end : All (λ at. length file ≤ at) ends

-- a source handed out fewer than so many bytes in a row from a position on, and then told its end behind them: what it had given and told, then
-- both afterwards
pub record EndsBefore (given : List Placed) (ends : List ℕ) (at size : ℕ) (now : List Placed) (told : List ℕ) : Type 0 where
  pub got : List ℕ
  pub fewer : length got < size
  pub gives : now ≡ given ++ placed_from at got
  pub ended : told ≡ ends ++ ((at + length got) ∷ [])

-- the same, and then the read behind them failed
pub record FailsBefore (given : List Placed) (failed : List ℕ) (at size : ℕ) (now : List Placed) (told : List ℕ) : Type 0 where
  pub got : List ℕ
  pub fewer : length got < size
  pub gives : now ≡ given ++ placed_from at got
  pub fails : told ≡ failed ++ ((at + length got) ∷ [])

-- one more read failed, of one of so many bytes from a position on: where reads had failed, and where they have then
pub record FailsIn (at size : ℕ) (failed now : List ℕ) : Type 0 where
  pub place : ℕ
  pub from : at ≤ place
  pub before : place < at + size
  pub fails : now ≡ failed ++ (place ∷ [])
