-- Lists of which each element stands in some relation to all that come after it.
use Rattle.std.proofs.Common.{◌≡◌, ℕ, zero, suc, ◌+◌, ◌-◌, ◌<◌, ◌≤◌, Bool, true, false, cond, List, [], ◌∷◌, ◌++◌, length, get_or, map, filter, take, flat_map, bytes_eq, refl, sym, ap, ◌∙◌, arith}
use Rattle.std.specs.Bool.{⊤}
use Rattle.std.specs.List.{AllByRecursion, IsDistinct, range_with_len, enumerate_from}
use Rattle.std.proofs.lemmas.Bool.{true≢false}
use Rattle.std.proofs.lemmas.Cmp.{nat_list_eq_equiv}
use Rattle.store_map.specs.Laws.{names_of}

-- each two, in their order
abbrev pub Pairs : {X : Type 0} → (X → X → Type 0) → List X → Type 0
Pairs R [] = ⊤
Pairs R (x ∷ xs) = AllByRecursion (R x) xs × Pairs R xs

-- ---- all
pub every_weaker : {X : Type 0} (P Q : X → Type 0) → ((x : X) → P x → Q x) → (xs : List X) → AllByRecursion P xs → AllByRecursion Q xs
every_weaker P Q so [] all = tt
every_weaker P Q so (x ∷ xs) all = (so x all.0, every_weaker P Q so xs all.1)

pub every_both : {X : Type 0} (P Q : X → Type 0) (xs : List X) → AllByRecursion P xs → AllByRecursion Q xs → AllByRecursion (λ x. P x × Q x) xs
every_both P Q [] all also = tt
every_both P Q (x ∷ xs) all also = ((all.0, also.0), every_both P Q xs all.1 also.1)

pub every_append : {X : Type 0} (P : X → Type 0) (xs ys : List X) → AllByRecursion P xs → AllByRecursion P ys → AllByRecursion P (xs ++ ys)
every_append P [] ys all also = also
every_append P (x ∷ xs) ys all also = (all.0, every_append P xs ys all.1 also)

pub every_map : {X Y : Type 0} (P : Y → Type 0) (f : X → Y) (xs : List X) → AllByRecursion (λ x. P (f x)) xs → AllByRecursion P (map f xs)
every_map P f [] all = tt
every_map P f (x ∷ xs) all = (all.0, every_map P f xs all.1)

pub every_filter : {X : Type 0} (P : X → Type 0) (p : X → Bool) (xs : List X) → AllByRecursion P xs → AllByRecursion P (filter p xs)
every_filter P p [] all = tt
every_filter {X = X} P p (x ∷ xs) all = by (p x) (every_filter P p xs all.1)
  where
    by : (b : Bool) → AllByRecursion P (filter p xs) → AllByRecursion P (cond b (x ∷ filter p xs) (filter p xs))
    by true rest = (all.0, rest)
    by false rest = rest

-- the test holds of what it keeps
pub every_kept : {X : Type 0} (p : X → Bool) (xs : List X) → AllByRecursion (λ x. p x ≡ true) (filter p xs)
every_kept p [] = tt
every_kept {X = X} p (x ∷ xs) = by (p x) refl (every_kept p xs)
  where
    by : (b : Bool) → p x ≡ b → AllByRecursion (λ x. p x ≡ true) (filter p xs) → AllByRecursion (λ x. p x ≡ true) (cond b (x ∷ filter p xs) (filter p xs))
    by true e rest = (e, rest)
    by false e rest = rest

pub every_take : {X : Type 0} (P : X → Type 0) (n : ℕ) (xs : List X) → AllByRecursion P xs → AllByRecursion P (take n xs)
every_take P zero xs all = tt
every_take P (suc n) [] all = tt
every_take P (suc n) (x ∷ xs) all = (all.0, every_take P n xs all.1)

pub every_flat : {X Y : Type 0} (P : Y → Type 0) (f : X → List Y) (xs : List X) → AllByRecursion (λ x. AllByRecursion P (f x)) xs → AllByRecursion P (flat_map f xs)
every_flat P f [] all = tt
every_flat P f (x ∷ xs) all = every_append P (f x) (flat_map f xs) all.0 (every_flat P f xs all.1)

-- ---- pairs
pub pairs_weaker : {X : Type 0} (R Q : X → X → Type 0) → ((x y : X) → R x y → Q x y) → (xs : List X) → Pairs R xs → Pairs Q xs
pairs_weaker R Q so [] all = tt
pairs_weaker R Q so (x ∷ xs) all = (every_weaker (R x) (Q x) (so x) xs all.0, pairs_weaker R Q so xs all.1)

-- the same where something is known of each
pub pairs_with : {X : Type 0} (P : X → Type 0) (R Q : X → X → Type 0) → ((x y : X) → P x → P y → R x y → Q x y) → (xs : List X) → AllByRecursion P xs → Pairs R xs → Pairs Q xs
pairs_with P R Q so [] each all = tt
pairs_with P R Q so (x ∷ xs) each all =
    (every_weaker (λ y. P y × R x y) (Q x) (λ y h. so x y each.0 h.0 h.1) xs (every_both P (R x) xs each.1 all.0), pairs_with P R Q so xs each.1 all.1)

pub pairs_append : {X : Type 0} (R : X → X → Type 0) (xs ys : List X) → Pairs R xs → Pairs R ys → AllByRecursion (λ x. AllByRecursion (R x) ys) xs → Pairs R (xs ++ ys)
pairs_append R [] ys first second across = second
pairs_append R (x ∷ xs) ys first second across = (every_append (R x) xs ys first.0 across.0, pairs_append R xs ys first.1 second across.1)

pub pairs_map : {X Y : Type 0} (R : Y → Y → Type 0) (f : X → Y) (xs : List X) → Pairs (λ x y. R (f x) (f y)) xs → Pairs R (map f xs)
pairs_map R f [] all = tt
pairs_map R f (x ∷ xs) all = (every_map (R (f x)) f xs all.0, pairs_map R f xs all.1)

pub pairs_filter : {X : Type 0} (R : X → X → Type 0) (p : X → Bool) (xs : List X) → Pairs R xs → Pairs R (filter p xs)
pairs_filter R p [] all = tt
pairs_filter {X = X} R p (x ∷ xs) all = by (p x) (pairs_filter R p xs all.1)
  where
    by : (b : Bool) → Pairs R (filter p xs) → Pairs R (cond b (x ∷ filter p xs) (filter p xs))
    by true rest = (every_filter (R x) p xs all.0, rest)
    by false rest = rest

pub pairs_take : {X : Type 0} (R : X → X → Type 0) (n : ℕ) (xs : List X) → Pairs R xs → Pairs R (take n xs)
pairs_take R zero xs all = tt
pairs_take R (suc n) [] all = tt
pairs_take R (suc n) (x ∷ xs) all = (every_take (R x) n xs all.0, pairs_take R n xs all.1)

-- ---- lists joined
-- what is known of all of one list and of all of another, across
pub across_by : {X : Type 0} (P Q : X → Type 0) (R : X → X → Type 0) → ((x y : X) → P x → Q y → R x y) → (xs ys : List X) → AllByRecursion P xs → AllByRecursion Q ys → AllByRecursion (λ x. AllByRecursion (R x) ys) xs
across_by P Q R so [] ys all also = tt
across_by P Q R so (x ∷ xs) ys all also = (every_weaker Q (R x) (λ y h. so x y all.0 h) ys also, across_by P Q R so xs ys all.1 also)

across_flat : {X Y : Type 0} (R : Y → Y → Type 0) (f : X → List Y) (ys : List Y) (xs : List X) → AllByRecursion (λ x. AllByRecursion (λ y. AllByRecursion (R y) (f x)) ys) xs → AllByRecursion (λ y. AllByRecursion (R y) (flat_map f xs)) ys
across_flat R f [] xs all = tt
across_flat {X = X} {Y = Y} R f (y ∷ ys) xs all = (
  every_flat (R y) f xs (every_weaker (λ x. AllByRecursion (R y) (f x) × AllByRecursion (λ y. AllByRecursion (R y) (f x)) ys) (λ x. AllByRecursion (R y) (f x)) (λ x h. h.0) xs all),
  across_flat R f ys xs
      (every_weaker (λ x. AllByRecursion (R y) (f x) × AllByRecursion (λ y. AllByRecursion (R y) (f x)) ys) (λ x. AllByRecursion (λ y. AllByRecursion (R y) (f x)) ys) (λ x h. h.1) xs all),
)

pub pairs_flat : {X Y : Type 0} (R : Y → Y → Type 0) (f : X → List Y) (xs : List X) → AllByRecursion (λ x. Pairs R (f x)) xs →
    Pairs (λ x z. AllByRecursion (λ y. AllByRecursion (R y) (f z)) (f x)) xs → Pairs R (flat_map f xs)
pairs_flat R f [] each apart = tt
pairs_flat R f (x ∷ xs) each apart = pairs_append R (f x) (flat_map f xs) each.0 (pairs_flat R f xs each.1 apart.1) (across_flat R f (f x) xs apart.0)

-- ---- rows, numbered lists and names
every_more : (a b n : ℕ) → a < b → AllByRecursion (λ m. a ≡ m → ⊥) (range_with_len b n)
every_more a b zero less = tt
every_more a b (suc n) less = (λ same. let e : a ≡ b = same in omega (arith, less, e), every_more a (b + 1) n (omega (arith, less)))

pub row_apart : (a n : ℕ) → Pairs (λ x y. x ≡ y → ⊥) (range_with_len a n)
row_apart a zero = tt
row_apart a (suc n) = (every_more a (a + 1) n (omega arith), row_apart (a + 1) n)

every_later : {X : Type 0} (a i : ℕ) (xs : List X) → a < i → AllByRecursion (λ (entry : ℕ × X). a ≡ entry.0 → ⊥) (enumerate_from i xs)
every_later a i [] less = tt
every_later a i (x ∷ xs) less = (λ same. let e : a ≡ i = same in omega (arith, less, e), every_later a (i + 1) xs (omega (arith, less)))

pub numbered_apart : {X : Type 0} (i : ℕ) (xs : List X) → Pairs (λ (x y : ℕ × X). x.0 ≡ y.0 → ⊥) (enumerate_from i xs)
numbered_apart i [] = tt
numbered_apart i (x ∷ xs) = (every_later i (i + 1) xs (omega arith), numbered_apart (i + 1) xs)

pub same_bytes : (name : List ℕ) → bytes_eq name name ≡ true
same_bytes name = nat_list_eq_equiv.refl name

other_names : (name : List ℕ) (objects : List (List ℕ × List ℕ)) → AllByRecursion (λ y. bytes_eq name y ≡ false) (names_of objects) → AllByRecursion (λ (object : List ℕ × List ℕ). name ≡ object.0 → ⊥) objects
other_names name [] all = tt
other_names name (object ∷ objects) all =
    (λ same. true≢false (sym (same_bytes name) ∙ ap (bytes_eq name) same ∙ all.0), other_names name objects all.1)

pub names_apart : (objects : List (List ℕ × List ℕ)) → IsDistinct bytes_eq (names_of objects) → Pairs (λ (x y : List ℕ × List ℕ). x.0 ≡ y.0 → ⊥) objects
unfolding IsDistinct
names_apart [] distinct = tt
names_apart (object ∷ objects) distinct = (other_names object.0 objects distinct.0, names_apart objects distinct.1)

pub every_unmap : {X Y : Type 0} (P : Y → Type 0) (f : X → Y) (xs : List X) → AllByRecursion P (map f xs) → AllByRecursion (λ x. P (f x)) xs
every_unmap P f [] all = tt
every_unmap P f (x ∷ xs) all = (all.0, every_unmap P f xs all.1)

pub row_less : (a n m : ℕ) → a + n ≤ m → AllByRecursion (λ x. x < m) (range_with_len a n)
row_less a zero m most = tt
row_less a (suc n) m most = (omega (arith, most), row_less (a + 1) n m (omega (arith, most)))

-- a numbered list's entries stand in it
pub numbered_in : (i : ℕ) (xs : List ℕ) → AllByRecursion (λ (entry : ℕ × ℕ). (i ≤ entry.0) × (entry.0 < i + length xs) × (get_or xs (entry.0 - i) 0 ≡ entry.1)) (enumerate_from i xs)
numbered_in i [] = tt
numbered_in i (x ∷ xs) = (
  (omega arith, omega arith, let none : i - i ≡ 0 = omega arith in ap (λ n. get_or (x ∷ xs) n 0) none),
  every_weaker (λ (entry : ℕ × ℕ). (i + 1 ≤ entry.0) × (entry.0 < i + 1 + length xs) × (get_or xs (entry.0 - (i + 1)) 0 ≡ entry.1))
      (λ (entry : ℕ × ℕ). (i ≤ entry.0) × (entry.0 < i + length (x ∷ xs)) × (get_or (x ∷ xs) (entry.0 - i) 0 ≡ entry.1)) later (enumerate_from (i + 1) xs) (numbered_in (i + 1) xs),
)
  where
    later : (entry : ℕ × ℕ) → (i + 1 ≤ entry.0) × (entry.0 < i + 1 + length xs) × (get_or xs (entry.0 - (i + 1)) 0 ≡ entry.1) →
        (i ≤ entry.0) × (entry.0 < i + length (x ∷ xs)) × (get_or (x ∷ xs) (entry.0 - i) 0 ≡ entry.1)
    later entry was =
        let low : i + 1 ≤ entry.0 = was.0 in
        let high : entry.0 < i + 1 + length xs = was.1 in
        let further : entry.0 - i ≡ suc (entry.0 - (i + 1)) = omega (arith, low) in
        (omega (arith, low), omega (arith, high), ap (λ n. get_or (x ∷ xs) n 0) further ∙ was.2)
