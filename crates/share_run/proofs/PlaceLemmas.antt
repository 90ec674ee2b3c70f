-- Filled places, and their log.
use Rattle.std.proofs.Common.{◌≡◌, ◌<◌, ◌+◌, ℕ, List, [], ◌∷◌, ◌++◌, length, take, get_or, refl, sym, ◌∙◌, ap, arith, add-zero}
use Rattle.std.proofs.lemmas.List.{length-take-le, append_assoc, take_more}
use Rattle.share_run.specs.Places.{Filled, filled, filled_from}
use Rattle.share_run.specs.Logs.{file_numbers, numbers_of, with_byte, filled_of}

file_told : (place : ℕ) (bytes rest : List ℕ) → filled_of (file_numbers place bytes rest) ≡ filled place bytes ∷ filled_of rest
file_told place [] rest = refl
file_told place (byte ∷ bytes) rest = ap (with_byte byte) (file_told place bytes rest)

-- the numbers of a log tell the log
pub log_told : (fs : List Filled) → filled_of (numbers_of fs) ≡ fs
log_told [] = refl
log_told (f ∷ fs) = file_told f.place f.bytes (numbers_of fs) ∙ ap (λ rest. f ∷ rest) (log_told fs)

filled_more : (place : ℕ) (files : List (List ℕ)) (bytes : List ℕ) →
    filled_from place (files ++ bytes ∷ []) ≡ filled_from place files ++ filled (place + length files) bytes ∷ []
filled_more place [] bytes = ap (λ n. filled n bytes ∷ []) (sym (add-zero place))
filled_more place (file ∷ files) bytes =
    let shifted : place + 1 + length files ≡ place + length (file ∷ files) = omega arith in
    ap (λ rest. filled place file ∷ rest)
    (filled_more (place + 1) files bytes ∙ ap (λ n. filled_from (place + 1) files ++ filled n bytes ∷ []) shifted)

-- one place more is filled, of those in a row
pub place_next : (before now after : List Filled) (files : List (List ℕ)) (i : ℕ) (bytes : List ℕ) → i < length files → bytes ≡ get_or files i [] →
    now ≡ before ++ filled_from 0 (take i files) → after ≡ now ++ filled i bytes ∷ [] → after ≡ before ++ filled_from 0 (take (i + 1) files)
place_next before now after files i bytes less is was then_ =
    let count : length (take i files) ≡ i = length-take-le i files (omega (arith, less)) in
    let long : 0 + length (take i files) ≡ i = omega (arith, count) in
    let step : filled_from 0 (take (i + 1) files) ≡ filled_from 0 (take i files) ++ filled i bytes ∷ [] =
    ap (λ l. filled_from 0 l) (take_more files i [] less) ∙ filled_more 0 (take i files) (get_or files i [])
    ∙ ap (λ n. filled_from 0 (take i files) ++ filled n (get_or files i []) ∷ []) long
    ∙ ap (λ b. filled_from 0 (take i files) ++ filled i b ∷ []) (sym is) in
    then_ ∙ ap (λ l. l ++ filled i bytes ∷ []) was ∙ append_assoc before (filled_from 0 (take i files)) (filled i bytes ∷ [])
    ∙ ap (λ l. before ++ l) (sym step)
