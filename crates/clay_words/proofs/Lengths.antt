-- Lists of so many words.
use Rattle.std.proofs.Common.{◌≡◌, ℕ, zero, suc, List, [], ◌∷◌, length, arith}

-- a fact of each list of so many words, as one of the words
abbrev pub OfWords : ℕ → (List (List ℕ) → Type 0) → Type 0
OfWords zero P = P []
OfWords (suc n) P = (word : List ℕ) → OfWords n (λ words. P (word ∷ words))

pub by_length : (n : ℕ) (P : List (List ℕ) → Type 0) → OfWords n P → (words : List (List ℕ)) → length words ≡ n → P words
by_length zero P holds [] long = holds
by_length zero P holds (word ∷ words) long = absurd (let e : suc (length words) ≡ 0 = long in omega arith)
by_length (suc n) P holds [] long = absurd (let e : 0 ≡ suc n = long in omega arith)
by_length (suc n) P holds (word ∷ words) long = by_length n (λ rest. P (word ∷ rest)) (holds word) words (let e : suc (length words) ≡ suc n = long in omega arith)
