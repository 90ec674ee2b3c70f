-- The byte that two digits spell.
use Rattle.std.proofs.Common.{◌≡◌, ℕ, ◌*◌, ◌<◌, List, [], ◌∷◌, length, get_or, Result, Ok, Err, refl, sym, ap, ◌∙◌, arith, subst}
use Rattle.std.specs.Prelude.{MatchResult}
use Rattle.std.specs.List.{AllPass}
use Rattle.hex.specs.Hex.{encode_lower, decode_of, decode_sized}
use Rattle.hex.specs.declared.error.FromHexError.{FromHexError}
use Rattle.hex.proofs.HexLemmas.{decode_sized-twice, decode_sized-encode_lower, decode_of-ok}
use Rattle.line_grammar.specs.Digits.{is_lower_digit}
use Rattle.line_grammar.proofs.ContentLaws.{one_byte}
use Rattle.line_grammar.proofs.DigitLaws.{encode-decode_of}

-- a list of one entry
one_item : (xs : List ℕ) → length xs ≡ 1 → xs ≡ get_or xs 0 0 ∷ []
one_item [] h = absurd (omega arith)
one_item (x ∷ []) h = refl
one_item (x ∷ y ∷ xs) h = absurd (omega arith)

-- what a decoding into a slice answers
abbrev Decodes : Result (List ℕ) FromHexError → List ℕ → Result (Unit {0}) FromHexError → Type 0
Decodes d out r = MatchResult d (λ bytes. (r ≡ Ok tt) × (out ≡ bytes)) (λ e. r ≡ Err e)

-- two digits are one byte
halved : (m n : ℕ) → m ≡ 2 → m ≡ 2 * n → n ≡ 1
halved m n a b = omega (arith, a, b)

-- two digits that were decoded spell the byte
pub byte_found : (word out : List ℕ) → AllPass is_lower_digit word → length word ≡ 2 → Decodes (decode_sized word 1) out (Ok tt)
    → (get_or out 0 0 < 256) × (word ≡ encode_lower (get_or out 0 0 ∷ []))
byte_found word out lower two h = go (decode_sized word 1) (decode_sized-twice word 1 two) h
  where
    go : (d : Result (List ℕ) FromHexError) → d ≡ decode_of word → Decodes d out (Ok tt) → (get_or out 0 0 < 256) × (word ≡ encode_lower (get_or out 0 0 ∷ []))
    go (Ok bytes) e h =
        let same : encode_lower bytes ≡ word = encode-decode_of word bytes lower (sym e) in
        let ok = decode_of-ok word bytes (sym e) in
        let one : length out ≡ 1 = ap length h.1 ∙ halved (length word) (length bytes) two ok.2 in
        (rw h.1 (ok.3 0), sym same ∙ ap encode_lower (sym h.1 ∙ one_item out one))
    go (Err fault) e h = cc h

-- two digits that spell a byte are decoded
pub byte_refused : (word out : List ℕ) (fault : FromHexError) (b : ℕ) → b < 256 → word ≡ encode_lower (b ∷ []) → Decodes (decode_sized word 1) out (Err fault) → ⊥
byte_refused word out fault b h e d =
    let good : decode_sized word 1 ≡ Ok (b ∷ []) = ap (λ (w : List ℕ). decode_sized w 1) e ∙ decode_sized-encode_lower (b ∷ []) 1 refl (one_byte b h) in
    let P : Result (List ℕ) FromHexError → Type 0 = λ d. Decodes d out (Err fault) in
    let known = subst P good d in
    cc (known.0)
