-- Lists that grow by one.
use Rattle.std.proofs.Common.{◌≡◌, ◌≢◌, ℕ, zero, suc, ◌+◌, ◌<◌, Bool, true, false, cond, List, [], ◌∷◌, ◌++◌, length, map, get_or, set, slice_get, replicate, sum_by, All, Some, refl, sym, ap, ◌∙◌, arith}
use Rattle.std.proofs.lemmas.Option.{same_Some, none-some}
use Rattle.std.proofs.lemmas.List.Sums.{sum_by-cons}
use Rattle.std.proofs.lemmas.List.Elements.{All-cons, All-head, All-tail}
use Rattle.std.specs.List.{range_with_len}

pub range-snoc : (a n : ℕ) → range_with_len a (n + 1) ≡ range_with_len a n ++ (a + n) ∷ []
range-snoc a zero = ap (λ k. k ∷ []) first
  where
    first : a ≡ a + 0
    first = omega arith
range-snoc a (suc n) = ap (λ k. range_with_len a k) shift ∙ ap (λ l. a ∷ l) (range-snoc (a + 1) n) ∙ ap (λ k. a ∷ (range_with_len (a + 1) n ++ k ∷ [])) last
  where
    shift : suc n + 1 ≡ suc (n + 1)
    shift = omega arith

    last : a + 1 + n ≡ a + suc n
    last = omega arith

pub replicate-snoc : {X : Type 0} (n : ℕ) (x : X) → replicate (n + 1) x ≡ replicate n x ++ x ∷ []
replicate-snoc zero x = refl
replicate-snoc (suc n) x = ap (λ k. replicate k x) shift ∙ ap (λ l. x ∷ l) (replicate-snoc n x)
  where
    shift : suc n + 1 ≡ suc (n + 1)
    shift = omega arith

-- one element is changed where it alone passes
pub set-map : {X : Type 0} (test : X → Bool) (f : X → X) (xs : List X) (i : ℕ) (x : X) → slice_get xs i ≡ Some x → test x ≡ true → ((k : ℕ) (d : X) → k < length xs → k ≢ i → test (get_or xs k d) ≡ false)
    → set xs i (f x) ≡ map (λ y. cond {A = X} (test y) (f y) y) xs
set-map test f [] i x e t h = absurd (none-some x e)
set-map {X} test f (y ∷ xs) zero x e t h =
    (λ i. cond-way i ∷ rest i)
  where
    here : x ≡ y
    here = sym (same_Some y x e)

    cond-way : f x ≡ cond {A = X} (test y) (f y) y
    cond-way = ap f here ∙ ap (λ b. cond {A = X} b (f y) y) (sym (ap test (sym here) ∙ t))

    none : (zs : List X) → ((k : ℕ) (d : X) → k < length zs → test (get_or zs k d) ≡ false) → zs ≡ map (λ z. cond {A = X} (test z) (f z) z) zs
    none [] h = refl
    none (z ∷ zs) h = λ i. ap (λ b. cond {A = X} b (f z) z) (sym (h 0 z (omega arith))) i ∷ none zs (λ k d less. h (suc k) d (omega arith)) i

    rest : xs ≡ map (λ z. cond {A = X} (test z) (f z) z) xs
    rest = none xs (λ k d less. h (suc k) d (omega arith) (λ same. omega (arith, same)))
set-map {X} test f (y ∷ xs) (suc i) x e t h =
    let first : y ≡ cond {A = X} (test y) (f y) y = ap (λ b. cond {A = X} b (f y) y) (sym (h 0 y (omega arith) (λ same. omega (arith, same)))) in
    let rest : set xs i (f x) ≡ map (λ z. cond {A = X} (test z) (f z) z) xs = set-map test f xs i x e t (λ k d less apart. h (suc k) d (omega arith) (λ same. apart (omega arith))) in
    λ j. first j ∷ rest j

-- zeros at the end are as good as nothing
pub get_or-zeros : (counts : List ℕ) (n v : ℕ) → get_or (counts ++ replicate n 0) v 0 ≡ get_or counts v 0
get_or-zeros [] n v = all n v ∙ sym none
  where
    none : get_or {A = ℕ} [] v 0 ≡ 0
    none = refl

    zeros : ℕ → List ℕ
    zeros n = replicate n 0

    all : (n v : ℕ) → get_or (zeros n) v 0 ≡ 0
    all zero v = refl
    all (suc n) zero = refl
    all (suc n) (suc v) = all n v
get_or-zeros (x ∷ counts) n zero = refl
get_or-zeros (x ∷ counts) n (suc v) = get_or-zeros counts n v

-- a sum that a change doesn't touch
pub sum_by-changed : {X : Type 0} (f : X → ℕ) (change : X → X) → ((x : X) → f (change x) ≡ f x) → (xs : List X) → sum_by f (map change xs) ≡ sum_by f xs
sum_by-changed f change same [] = refl
sum_by-changed f change same (x ∷ xs) =
    sum_by-cons f (change x) (map change xs) ∙ (λ i. same x i + sum_by-changed f change same xs i) ∙ sym (sum_by-cons f x xs)

-- what a change keeps
pub all_changed : {X : Type 0} (P : X → Type 0) (change : X → X) → ((x : X) → P x → P (change x)) → (xs : List X) → All P xs → All P (map change xs)
all_changed P change keeps [] all = λ k d less. absurd (let no : k < 0 = less in omega (arith, no))
all_changed P change keeps (x ∷ xs) all = All-cons P (change x) (map change xs) (keeps x (All-head P x xs all)) (all_changed P change keeps xs (All-tail P x xs all))
