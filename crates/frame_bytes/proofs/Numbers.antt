-- A number in four bytes, read and written.
use Rattle.std.proofs.Common.{◌≡◌, ℕ, zero, suc, ◌+◌, ◌*◌, ◌^◌, ◌<◌, List, [], ◌∷◌, ◌++◌, length, get_or, None, refl, ap, ◌∙◌, arith, if◌then◌else◌}
use Rattle.std.specs.Int.{w32, from_be_bytes}
use Rattle.std.proofs.lemmas.Bool.{le-leb}
use Rattle.std.proofs.lemmas.Nat.{from_be_bytes-to_be_bytes_4, be_bytes_4}
use Rattle.byteorder.specs.Endian.{big_number, big_bytes}
use Rattle.session_rules.specs.Fields.{Reader, number_then}

-- the number in four bytes, as std says it
pub number_is : (a b c d : ℕ) (rest : List ℕ) → big_number 4 (a ∷ b ∷ c ∷ d ∷ rest) ≡ from_be_bytes w32 (a ∷ b ∷ c ∷ d ∷ [])
number_is a b c d rest =
    let x : big_number 4 (a ∷ b ∷ c ∷ d ∷ rest) ≡ a * 16777216 + (b * 65536 + (c * 256 + (d * 1 + 0))) = refl in
    let y : from_be_bytes w32 (a ∷ b ∷ c ∷ d ∷ []) ≡ a * 16777216 + b * 65536 + c * 256 + d = refl in
    omega (arith, x, y)

-- four bytes are there
pub number_at : {X : Type 0} (next : ℕ → Reader X) (a b c d : ℕ) (rest : List ℕ) → number_then next (a ∷ b ∷ c ∷ d ∷ rest) ≡ next (from_be_bytes w32 (a ∷ b ∷ c ∷ d ∷ [])) rest
number_at next a b c d rest =
    ap (λ t. if t then next (big_number 4 (a ∷ b ∷ c ∷ d ∷ rest)) rest else None) (le-leb 4 (length (a ∷ b ∷ c ∷ d ∷ rest)) (omega arith))
    ∙ ap (λ n. next n rest) (number_is a b c d rest)

-- a number that was written is read
pub number_read : {X : Type 0} (next : ℕ → Reader X) (n : ℕ) (rest : List ℕ) → n < 2 ^ 32 → number_then next (big_bytes 4 n ++ rest) ≡ next n rest
number_read next n rest fits = number_at next _ _ _ _ rest ∙ ap (λ m. next m rest) (from_be_bytes-to_be_bytes_4 n fits)

-- four bytes that were read are those of the number
pub number_written : (a b c d : ℕ) → a < 256 → b < 256 → c < 256 → d < 256 → big_bytes 4 (from_be_bytes w32 (a ∷ b ∷ c ∷ d ∷ [])) ≡ a ∷ b ∷ c ∷ d ∷ []
number_written a b c d ha hb hc hd = be_bytes_4 (a ∷ b ∷ c ∷ d ∷ []) (from_be_bytes w32 (a ∷ b ∷ c ∷ d ∷ [])) refl each refl
  where
    each : (i : ℕ) → get_or (a ∷ b ∷ c ∷ d ∷ []) i 0 < 256
    each zero = ha
    each (suc zero) = hb
    each (suc (suc zero)) = hc
    each (suc (suc (suc zero))) = hd
    each (suc (suc (suc (suc i)))) = omega arith
