-- The stripes of some bytes, joined and counted.
use Rattle.std.proofs.Common.{◌≡◌, ℕ, zero, suc, subst, ◌+◌, ◌-◌, ◌*◌, ◌/◌, ◌%◌, ◌<◌, ◌≤◌, List, [], ◌∷◌, ◌++◌, length, take, drop, replicate, refl, sym, ap, ◌∙◌, inl, inr, arith, append_assoc, length-append, length-drop}
use Rattle.std.specs.List.{concat}
use Rattle.std.specs.Prelude.{All}
use Rattle.std.proofs.lemmas.Bool.{cases_lt}
use Rattle.std.proofs.lemmas.Nat.{mod_below, div-add-mod'}
use Rattle.std.proofs.lemmas.List.{take_all, drop_all, take-append-drop, append-nil, length-take, length-replicate}
use Rattle.clay_grid.specs.Shape.{Shape, stripe_length}
use Rattle.clay_model.specs.Code.{padded, stripes_below, stripes_of}

abbrev zeros : ℕ → List ℕ
zeros n = replicate n 0

zeros-add : (m n : ℕ) → zeros (m + n) ≡ zeros m ++ zeros n
zeros-add zero n =
    let same : 0 + n ≡ n = omega arith in
    ap zeros same
zeros-add (suc m) n =
    let one_more : suc m + n ≡ suc (m + n) = omega arith in
    ap zeros one_more ∙ ap (λ l. 0 ∷ l) (zeros-add m n)

-- ---- the first n stripes

pub length-stripes_below : (s n : ℕ) (bytes : List ℕ) → length (stripes_below s n bytes) ≡ n
length-stripes_below s zero bytes = refl
length-stripes_below s (suc n) bytes = ap suc (length-stripes_below s n (drop s bytes))

length-padded : (s : ℕ) (bytes : List ℕ) → length bytes ≤ s → length (padded s bytes) ≡ s
length-padded s bytes h =
    let filled : length (zeros (s - length bytes)) ≡ s - length bytes = length-replicate (s - length bytes) 0 in
    length-append bytes (zeros (s - length bytes)) ∙ omega (arith, filled)

pub stripes_below-lengths : (s n : ℕ) (bytes : List ℕ) → All (λ stripe. length stripe ≡ s) (stripes_below s n bytes)
stripes_below-lengths s zero bytes i d h = absurd (omega arith)
stripes_below-lengths s (suc n) bytes zero d h =
    let shorter : length (take s bytes) ≤ s = subst (λ n. n ≤ s) (sym (length-take s bytes)) (omega arith) in
    length-padded s (take s bytes) shorter
stripes_below-lengths s (suc n) bytes (suc i) d h = stripes_below-lengths s n (drop s bytes) i d (omega arith)

-- the bytes reach to the end of the first stripe, or beyond
first_full : (s n : ℕ) (bytes : List ℕ) → s ≤ length bytes
    → padded s (take s bytes) ++ (drop s bytes ++ zeros (n * s - length (drop s bytes))) ≡ bytes ++ zeros (suc n * s - length bytes)
first_full s n bytes h =
    let long : length (take s bytes) ≡ s = length-take s bytes ∙ omega arith in
    let rest : length (drop s bytes) ≡ length bytes - s = length-drop s bytes in
    let whole : suc n * s ≡ s + n * s = omega arith in
    let none : s - length (take s bytes) ≡ 0 = omega arith in
    let left : n * s - length (drop s bytes) ≡ suc n * s - length bytes = omega arith in
    let unfilled : take s bytes ++ [] ≡ take s bytes = append-nil (take s bytes) in
    (λ i. (take s bytes ++ zeros (none i)) ++ (drop s bytes ++ zeros (left i)))
    ∙ ap (λ l. l ++ (drop s bytes ++ zeros (suc n * s - length bytes))) unfilled
    ∙ sym (append_assoc (take s bytes) (drop s bytes) (zeros (suc n * s - length bytes)))
    ∙ ap (λ l. l ++ zeros (suc n * s - length bytes)) (take-append-drop s bytes)

-- the bytes end in the first stripe
first_padded : (s n : ℕ) (bytes : List ℕ) → length bytes ≤ s
    → padded s (take s bytes) ++ (drop s bytes ++ zeros (n * s - length (drop s bytes))) ≡ bytes ++ zeros (suc n * s - length bytes)
first_padded s n bytes h =
    let all : take s bytes ≡ bytes = take_all s bytes h in
    let none : drop s bytes ≡ [] = drop_all s bytes h in
    let whole : suc n * s ≡ s + n * s = omega arith in
    let left : s - length bytes + n * s ≡ suc n * s - length bytes = omega arith in
    let all_left : n * s - 0 ≡ n * s = omega arith in
    (λ i. padded s (all i) ++ (none i ++ zeros (n * s - length (none i))))
    ∙ ap (λ k. padded s bytes ++ zeros k) all_left
    ∙ append_assoc bytes (zeros (s - length bytes)) (zeros (n * s))
    ∙ ap (λ l. bytes ++ l) (sym (zeros-add (s - length bytes) (n * s)) ∙ ap zeros left)

pub concat-stripes_below : (s n : ℕ) (bytes : List ℕ) → length bytes ≤ n * s → concat (stripes_below s n bytes) ≡ bytes ++ zeros (n * s - length bytes)
concat-stripes_below s zero bytes h =
    let empty : length bytes ≤ 0 = omega arith in
    let none : bytes ≡ [] = sym (take_all 0 bytes empty) in
    let nothing : 0 * s - length bytes ≡ 0 = omega arith in
    sym (λ i. none i ++ zeros (nothing i))
concat-stripes_below s (suc n) bytes h =
    let rest : length (drop s bytes) ≡ length bytes - s = length-drop s bytes in
    let fewer : length (drop s bytes) ≤ n * s = omega arith in
    ap (λ l. padded s (take s bytes) ++ l) (concat-stripes_below s n (drop s bytes) fewer)
    ∙ elim (cases_lt (length bytes) s) [
      | inl short ↦ first_padded s n bytes (omega arith)
      | inr long ↦ first_full s n bytes long
    ]

-- ---- the stripes of some bytes

pub stripes_of-lengths : (g : Shape) (bytes : List ℕ) → All (λ stripe. length stripe ≡ stripe_length g) (stripes_of g bytes)
stripes_of-lengths g bytes = stripes_below-lengths (stripe_length g) ((length bytes + stripe_length g - 1) / stripe_length g) bytes

-- the whole number of stripes is at least the bytes, and less than one stripe more
rounded_up : (s long : ℕ) → 0 < s → (long ≤ (long + s - 1) / s * s) × ((long + s - 1) / s * s < long + s)
rounded_up s long h =
    let n : ℕ = (long + s - 1) / s in
    let whole : n * s + (long + s - 1) % s ≡ long + s - 1 = div-add-mod' (long + s - 1) s in
    let rest : (long + s - 1) % s < s = mod_below (long + s - 1) s h in
    (omega arith, omega arith)

pub stripes_of-few : (g : Shape) (bytes : List ℕ) → 0 < stripe_length g → length (stripes_of g bytes) * stripe_length g < length bytes + stripe_length g
stripes_of-few g bytes h =
    let s : ℕ = stripe_length g in
    subst (λ n. n * s < length bytes + s) (sym (length-stripes_below s ((length bytes + s - 1) / s) bytes)) (rounded_up s (length bytes) h).1

pub concat-stripes_of : (g : Shape) (bytes : List ℕ) → 0 < stripe_length g
    → concat (stripes_of g bytes) ≡ bytes ++ zeros (length (stripes_of g bytes) * stripe_length g - length bytes)
concat-stripes_of g bytes h =
    let s : ℕ = stripe_length g in
    let n : ℕ = (length bytes + s - 1) / s in
    concat-stripes_below s n bytes (rounded_up s (length bytes) h).0
    ∙ ap (λ k. bytes ++ zeros (k * s - length bytes)) (sym (length-stripes_below s n bytes))
