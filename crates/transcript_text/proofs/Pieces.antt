-- Digits of bytes that are written piece by piece.
use Rattle.std.proofs.Common.{◌≡◌, ℕ, List, [], ◌∷◌, ◌++◌, length, refl, arith}
use Rattle.std.proofs.lemmas.List.{append_assoc, append-nil}
use Rattle.hex.specs.Hex.{encode_with, encode_lower, lower_digits}

-- the digits of bytes in a row are those of each in a row
encode-append : (t xs ys : List ℕ) → encode_with t (xs ++ ys) ≡ encode_with t xs ++ encode_with t ys
unfolding encode_with
encode-append t [] ys = refl
encode-append t (b ∷ xs) ys = rw (encode-append t xs ys) refl

-- a piece's digits are written, those of the rest are to come
pub piece_next : (out new rest piece left : List ℕ) → rest ≡ piece ++ left → new ≡ out ++ encode_lower piece
    → new ++ encode_lower left ≡ out ++ encode_lower rest
piece_next out new rest piece left split written =
    rw (split, written, encode-append lower_digits piece left) (append_assoc out (encode_lower piece) (encode_lower left))

-- no piece is left
pub pieces_done : (out rest all : List ℕ) → length rest ≡ 0 → out ++ encode_lower rest ≡ all → out ≡ all
unfolding encode_with
pieces_done out [] all none written = rw (append-nil out) at written
pieces_done out (b ∷ rest) all none written = absurd (omega arith)
