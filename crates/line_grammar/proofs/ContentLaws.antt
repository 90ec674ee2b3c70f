-- Laws on the word of a call's data.
use Rattle.std.proofs.Common.{◌≡◌, ◌≢◌, ℕ, zero, suc, ◌*◌, ◌%◌, ◌<◌, ◌≤◌, List, [], ◌∷◌, ◌++◌, length, get_or, drop, Result, Ok, Err, refl, sym, ap, ◌∙◌, arith, subst}
use Rattle.std.specs.Prelude.{codes}
use Rattle.std.specs.List.{AllPass}
use Rattle.std.proofs.lemmas.Bool.{eqb-false}
use Rattle.std.proofs.lemmas.List.Sums.{list_all-from_AllPass}
use Rattle.hex.specs.Hex.{encode_lower, lower_digits, IsBytes}
use Rattle.hex.proofs.HexLemmas.{length-encode_with}
use Rattle.store_map.specs.declared.content.Content.{Content}
use Rattle.store_map.specs.declared.content.Content.TheVariants.{Hex, Fill, Ramp}
use Rattle.store_map.specs.declared.limits.TheConstants.{MAX_DATA}
use Rattle.line_grammar.specs.Words.{run_word, content_word}
use Rattle.line_grammar.specs.Lines.{Lacks}
use Rattle.line_grammar.specs.Numbers.{number_word}
use Rattle.line_grammar.specs.Reads.{IsRunForm, FitsContent, ReadsRun, ReadsContent}
use Rattle.line_grammar.specs.Forms.{IsContentForm}
use Rattle.line_grammar.specs.Digits.{is_lower_digit}
use Rattle.line_grammar.specs.declared.line_fault.FaultKind.{FaultKind}
use Rattle.line_grammar.specs.declared.line_fault.FaultKind.TheVariants.{Syntax, Geometry, Limit, NoSuchActor, NoSuchServer, MissingEnd, OutOfMemory}
use Rattle.line_grammar.proofs.DigitLaws.{lower-encode, spelled_by, never_spelled}
use Rattle.line_grammar.proofs.LineLaws.{same_parts, never_parted, Lacks-from_test}

-- one byte is bytes
pub one_byte : (b : ℕ) → b < 256 → IsBytes (b ∷ [])
one_byte b h zero = h
one_byte b h (suc i) = omega arith

-- a byte has two digits
pub byte_digits : (word : List ℕ) (b : ℕ) → b < 256 → word ≡ encode_lower (b ∷ []) → (length word ≡ 2) × AllPass is_lower_digit word
byte_digits word b h e = (ap length e ∙ length-encode_with lower_digits (b ∷ []), rw e (lower-encode (b ∷ []) (one_byte b h)))

-- ---- a byte and a length

-- and no colon
pub byte_lacks_colon : (b : ℕ) → b < 256 → Lacks 58 (encode_lower (b ∷ []))
byte_lacks_colon b h =
    Lacks-from_test is_lower_digit 58 refl (encode_lower (b ∷ [])) (list_all-from_AllPass is_lower_digit (encode_lower (b ∷ [])) (lower-encode (b ∷ []) (one_byte b h)))

-- a byte and a length have a colon
pub no_colon : (words : List ℕ) → Lacks 58 words → (run : ℕ × ℕ) → IsRunForm run → words ≢ run_word run.0 run.1
no_colon words lacks run h e =
    let P : List ℕ → Type 0 = Lacks 58 in
    never_parted 58 (encode_lower (run.0 ∷ [])) (number_word run.1) (subst P e lacks)

-- the first colon parts the byte from the length
pub run_parts : (words first rest : List ℕ) (run : ℕ × ℕ) → IsRunForm run → words ≡ first ++ 58 ∷ rest → Lacks 58 first → words ≡ run_word run.0 run.1
    → (first ≡ encode_lower (run.0 ∷ [])) × (rest ≡ number_word run.1)
run_parts words first rest run h is lacks e =
    same_parts 58 first rest (encode_lower (run.0 ∷ [])) (number_word run.1) lacks (byte_lacks_colon run.0 h) (sym is ∙ e)

-- a byte and a length make a run
pub run_made : (words first rest : List ℕ) (b n : ℕ) → words ≡ first ++ 58 ∷ rest → first ≡ encode_lower (b ∷ []) → rest ≡ number_word n → words ≡ run_word b n
run_made words first rest b n is first_is rest_is =
    is ∙ ap (λ (l : List ℕ). l ++ 58 ∷ rest) first_is ∙ ap (λ (l : List ℕ). encode_lower (b ∷ []) ++ 58 ∷ l) rest_is

-- ---- the three kinds of data

-- equal lists begin alike
heads : (xs ys : List ℕ) → xs ≡ ys → get_or xs 0 0 ≡ get_or ys 0 0
heads xs ys e = ap (λ (l : List ℕ). get_or l 0 0) e

-- what begins with `hex:` is bytes that are written out
pub hex_only : (digits : List ℕ) (content : Content) → IsContentForm content → codes "hex:" ++ digits ≡ content_word content
    → (bytes : List ℕ) × (content ≡ Hex bytes) × IsBytes bytes × (digits ≡ encode_lower bytes)
hex_only digits (Hex bytes) h e = (bytes, refl, h, ap (drop 4) e)
hex_only digits (Fill byte n) h e = absurd (eqb-false 104 102 refl (heads _ _ e))
hex_only digits (Ramp first n) h e = absurd (eqb-false 104 114 refl (heads _ _ e))

-- what begins with `fill:` is one byte, many times
pub fill_only : (words : List ℕ) (content : Content) → IsContentForm content → codes "fill:" ++ words ≡ content_word content
    → (run : ℕ × ℕ) × (content ≡ Fill run.0 run.1) × IsRunForm run × (words ≡ run_word run.0 run.1)
fill_only words (Fill byte n) h e = ((byte, n), refl, h, ap (drop 5) e)
fill_only words (Hex bytes) h e = absurd (eqb-false 102 104 refl (heads _ _ e))
fill_only words (Ramp first n) h e = absurd (eqb-false 102 114 refl (heads _ _ e))

-- what begins with `ramp:` is bytes that count up
pub ramp_only : (words : List ℕ) (content : Content) → IsContentForm content → codes "ramp:" ++ words ≡ content_word content
    → (run : ℕ × ℕ) × (content ≡ Ramp run.0 run.1) × IsRunForm run × (words ≡ run_word run.0 run.1)
ramp_only words (Ramp first n) h e = ((first, n), refl, h, ap (drop 5) e)
ramp_only words (Hex bytes) h e = absurd (eqb-false 114 104 refl (heads _ _ e))
ramp_only words (Fill byte n) h e = absurd (eqb-false 114 102 refl (heads _ _ e))

-- without an even number of digits no bytes are written out
pub no_hex_digits : (digits : List ℕ) → (AllPass is_lower_digit digits → length digits % 2 ≡ 0 → ⊥)
    → (content : Content) → IsContentForm content → codes "hex:" ++ digits ≢ content_word content
no_hex_digits digits none content h e =
    let only = hex_only digits content h e in
    let spelled = never_spelled digits only.0 only.2 only.3 in
    none spelled.0 spelled.1

-- too many digits write out bytes beyond the limit
pub hex_too_long : (digits : List ℕ) → AllPass is_lower_digit digits → length digits % 2 ≡ 0 → 2 * MAX_DATA < length digits
    → (content : Content) × IsContentForm content × (¬ FitsContent content) × (codes "hex:" ++ digits ≡ content_word content)
hex_too_long digits lower even long =
    let spelled = spelled_by digits lower even in
    let bytes = spelled.0 in
    let len = ap length spelled.2 ∙ length-encode_with lower_digits bytes in
    (Hex bytes, spelled.1, λ (fits : length bytes ≤ MAX_DATA). omega (arith, len, fits, long), ap (λ (l : List ℕ). codes "hex:" ++ l) spelled.2)

-- few digits write out few bytes
pub hex_few : (bytes digits : List ℕ) → digits ≡ encode_lower bytes → length digits ≤ 2 * MAX_DATA → length bytes ≤ MAX_DATA
hex_few bytes digits is few =
    let len = length-encode_with lower_digits bytes in
    let same = ap length is in
    omega (arith, len, same)

-- ---- from runs to data

-- data made of a run that was read, or its fault
abbrev pub with_run : (ℕ × ℕ → Content) → Result (ℕ × ℕ) FaultKind → Result Content FaultKind
with_run make (Ok run) = Ok (make run)
with_run make (Err kind) = Err kind

-- reading a run behind `fill:` is reading data
pub fill_reads : (words : List ℕ) (r : Result (ℕ × ℕ) FaultKind) → ReadsRun words r → ReadsContent (codes "fill:" ++ words) (with_run (λ run. Fill run.0 run.1) r)
fill_reads words (Ok run) h = (h.0, h.1, ap (λ (l : List ℕ). codes "fill:" ++ l) h.2)
fill_reads words (Err Syntax) h = λ content form e. let only = fill_only words content form e in h only.0 only.2 only.3
fill_reads words (Err Limit) h = (Fill h.0.0 h.0.1, h.1, h.2, ap (λ (l : List ℕ). codes "fill:" ++ l) h.3)
fill_reads words (Err OutOfMemory) h = tt
fill_reads words (Err Geometry) h = h
fill_reads words (Err NoSuchActor) h = h
fill_reads words (Err NoSuchServer) h = h
fill_reads words (Err MissingEnd) h = h

-- reading a run behind `ramp:` is reading data
pub ramp_reads : (words : List ℕ) (r : Result (ℕ × ℕ) FaultKind) → ReadsRun words r → ReadsContent (codes "ramp:" ++ words) (with_run (λ run. Ramp run.0 run.1) r)
ramp_reads words (Ok run) h = (h.0, h.1, ap (λ (l : List ℕ). codes "ramp:" ++ l) h.2)
ramp_reads words (Err Syntax) h = λ content form e. let only = ramp_only words content form e in h only.0 only.2 only.3
ramp_reads words (Err Limit) h = (Ramp h.0.0 h.0.1, h.1, h.2, ap (λ (l : List ℕ). codes "ramp:" ++ l) h.3)
ramp_reads words (Err OutOfMemory) h = tt
ramp_reads words (Err Geometry) h = h
ramp_reads words (Err NoSuchActor) h = h
ramp_reads words (Err NoSuchServer) h = h
ramp_reads words (Err MissingEnd) h = h
