-- Chunks that are joined.
use Rattle.std.proofs.Common.{◌≡◌, ℕ, zero, suc, ◌+◌, ◌*◌, ◌<◌, ◌≤◌, List, [], length, get_or, take, All, ap, ◌∙◌, arith, length-append}
use Rattle.std.specs.List.{concat}
use Rattle.std.proofs.lemmas.List.{take_more}
use Rattle.code_laws.proofs.Lists.{concat_push}

pub length-joined : (xs : List (List ℕ)) (len k : ℕ) → k ≤ length xs → All (λ x. length x ≡ len) xs → length (concat (take k xs)) ≡ k * len
length-joined xs len zero h each = omega arith
length-joined xs len (suc k) h each =
    let next : suc k ≡ k + 1 = omega arith in
    let within : k < length xs = omega arith in
    let rest : length (concat (take k xs)) ≡ k * len = length-joined xs len k (omega arith) each in
    let last : length (get_or xs k []) ≡ len = each k [] within in
    let more : length (concat (take (suc k) xs)) ≡ length (concat (take k xs)) + length (get_or xs k []) =
    ap (λ n. length (concat (take n xs))) next
    ∙ ap (λ l. length (concat l)) (take_more xs k [] within)
    ∙ ap length (concat_push (take k xs) (get_or xs k []))
    ∙ length-append (concat (take k xs)) (get_or xs k []) in
    omega (arith, more, rest, last)
