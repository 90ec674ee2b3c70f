-- Where the first piece of a text ends.
use Rattle.std.proofs.Common.{◌≡◌, ℕ, zero, suc, ◌+◌, ◌-◌, ◌<◌, ◌≤◌, Bool, true, false, ◌==◌, List, [], ◌∷◌, length, get_or, take, drop, sym, ap, ◌∙◌, refl, arith, if◌then◌else◌}
use Rattle.std.proofs.Common.{subst, length-drop, slice_range}
use Rattle.std.proofs.lemmas.List.{drop-drop, take_all, drop_all}
use Rattle.line_grammar.specs.ChunkEntries.{pieces_of, onto_first}

not_true : (b : Bool) → (b ≡ true → ⊥) → b ≡ false
not_true true h = absurd (h refl)
not_true false h = refl

pub first_piece : (xs : List ℕ) (n : ℕ) → n < length xs → ((k : ℕ) → k < n → (get_or xs k 0 == 10) ≡ true → ⊥) → (get_or xs n 0 == 10) ≡ true
    → pieces_of xs ≡ take (suc n) xs ∷ pieces_of (drop (suc n) xs)
first_piece [] n within before here = absurd (let h : n < 0 = within in omega arith)
first_piece (x ∷ xs) zero within before here =
    ap (λ b. if b then (x ∷ []) ∷ pieces_of xs else onto_first x (pieces_of xs)) here
first_piece (x ∷ xs) (suc n) within before here =
    let inside : suc n < suc (length xs) = within in
    ap (λ b. if b then (x ∷ []) ∷ pieces_of xs else onto_first x (pieces_of xs)) (not_true (x == 10) (before zero (omega arith)))
    ∙ ap (onto_first x) (first_piece xs n (omega arith) (λ k h. before (suc k) (omega arith)) here)

pub last_piece : (xs : List ℕ) → 0 < length xs → ((k : ℕ) → k < length xs → (get_or xs k 0 == 10) ≡ true → ⊥) → pieces_of xs ≡ xs ∷ []
last_piece [] some none = absurd (let h : 0 < 0 = some in omega arith)
last_piece (x ∷ []) some none =
    ap (λ b. if b then (x ∷ []) ∷ pieces_of [] else onto_first x (pieces_of [])) (not_true (x == 10) (none zero some))
last_piece (x ∷ y ∷ xs) some none =
    ap (λ b. if b then (x ∷ []) ∷ pieces_of (y ∷ xs) else onto_first x (pieces_of (y ∷ xs))) (not_true (x == 10) (none zero some))
    ∙ ap (onto_first x) (last_piece (y ∷ xs) (let h : 0 < suc (length xs) = omega arith in h)
    (λ k h. none (suc k) (let below : k < suc (length xs) = h in let goal' : suc k < suc (suc (length xs)) = omega arith in goal')))

rest_of : (text : List ℕ) (at : ℕ) → take (length text - at) (drop at text) ≡ drop at text
rest_of text at = take_all (length text - at) (drop at text) (let e = length-drop at text in omega arith)

pub piece_to_feed : (text : List ℕ) (at n : ℕ) → n < length (take (length text - at) (drop at text))
    → ((k : ℕ) → 0 ≤ k → k < n → (get_or (take (length text - at) (drop at text)) k 0 == 10) ≡ true → ⊥)
    → (get_or (take (length text - at) (drop at text)) n 0 == 10) ≡ true
    → pieces_of (drop at text) ≡ slice_range text at (at + n + 1) ∷ pieces_of (drop (at + n + 1) text)
piece_to_feed text at n within before here =
    let rest = rest_of text at in
    let long : at + n + 1 - at ≡ suc n = omega arith in
    let end : at + suc n ≡ at + n + 1 = omega arith in
    let P : List ℕ → Type 0 = λ hay. n < length hay in
    let Q : List ℕ → Type 0 = λ hay. (k : ℕ) → 0 ≤ k → k < n → (get_or hay k 0 == 10) ≡ true → ⊥ in
    let R : List ℕ → Type 0 = λ hay. (get_or hay n 0 == 10) ≡ true in
    let none = subst Q rest before in
    first_piece (drop at text) n (subst P rest within) (λ k h. none k (omega arith) h) (subst R rest here)
    ∙ ap (λ m. take m (drop at text) ∷ pieces_of (drop (suc n) (drop at text))) (sym long)
    ∙ ap (λ xs. take (at + n + 1 - at) (drop at text) ∷ pieces_of xs) (drop-drop (suc n) at text ∙ ap (λ m. drop m text) end)

pub piece_to_end : (text : List ℕ) (at : ℕ) → at < length text
    → ((k : ℕ) → 0 ≤ k → k < length (take (length text - at) (drop at text)) → (get_or (take (length text - at) (drop at text)) k 0 == 10) ≡ true → ⊥)
    → pieces_of (drop at text) ≡ slice_range text at (length text) ∷ pieces_of (drop (length text) text)
piece_to_end text at within none =
    let rest = rest_of text at in
    let Q : List ℕ → Type 0 = λ hay. (k : ℕ) → 0 ≤ k → k < length hay → (get_or hay k 0 == 10) ≡ true → ⊥ in
    let feedless = subst Q rest none in
    last_piece (drop at text) (let e = length-drop at text in omega arith) (λ k h. feedless k (omega arith) h)
    ∙ ap (λ xs. xs ∷ []) (sym rest)
    ∙ ap (λ xs. take (length text - at) (drop at text) ∷ pieces_of xs) (sym (drop_all (length text) text (omega arith)))
