-- Lists that grow at their end, and what filters keep.
use Rattle.std.proofs.Common.{◌≡◌, ℕ, ◌+◌, ◌<◌, Bool, true, false, ◌&&◌, List, [], ◌∷◌, ◌++◌, length, map, get_or, take, filter, refl, sym, ap, subst, ◌∙◌, append_assoc, zero-add, if◌then◌else◌}
use Rattle.std.specs.List.{range_with_len, enumerate_from}
use Rattle.std.proofs.lemmas.List.{map-append, take_more, append-nil}
use Rattle.std.proofs.lemmas.List.Elements.{filter-append}
use Rattle.std.proofs.lemmas.List.FromFn.{length-enumerate_from, get_or-enumerate_from}
use Rattle.dir_parts.proofs.Growing.{range-snoc}

pub cases : {P : Type 0} (b : Bool) → (b ≡ true → P) → (b ≡ false → P) → P
cases true t f = t refl
cases false t f = f refl

-- one number more
pub numbers_more : (n : ℕ) → range_with_len 0 (n + 1) ≡ range_with_len 0 n ++ n ∷ []
numbers_more n = range-snoc 0 n ∙ ap (λ k. range_with_len 0 n ++ k ∷ []) (zero-add n)

-- one element more, read at its place
pub read_more : {X : Type 0} (xs : List X) (i : ℕ) (x : X) → i < length xs → x ≡ get_or xs i x → take (i + 1) xs ≡ take i xs ++ x ∷ []
read_more xs i x below is = take_more xs i x below ∙ ap (λ y. take i xs ++ y ∷ []) (sym is)

-- with its number
pub pairs_more : {X : Type 0} (xs : List X) (i : ℕ) (x : X) → i < length xs → x ≡ get_or xs i x
    → take (i + 1) (enumerate_from 0 xs) ≡ take i (enumerate_from 0 xs) ++ (i, x) ∷ []
pairs_more {X} xs i x below is =
    let one : ℕ × X = (i, x) in
    let within : i < length (enumerate_from 0 xs) = subst (λ n. i < n) (sym (length-enumerate_from 0 xs)) below in
    let read : get_or (enumerate_from 0 xs) i one ≡ one = get_or-enumerate_from 0 xs i one below ∙ (λ k. (zero-add i k, sym is k)) in
    take_more (enumerate_from 0 xs) i one within ∙ ap (λ y. take i (enumerate_from 0 xs) ++ y ∷ []) read

-- one element more of which a filter keeps those that pass
module _ {X Y : Type 0} (f : X → Y) (p : X → Bool) (before : List Y) (xs : List X) (x : X) where
  pub kept_more : p x ≡ true → (before ++ map f (filter p xs)) ++ f x ∷ [] ≡ before ++ map f (filter p (xs ++ x ∷ []))
  kept_more e =
      let filtered : filter p (xs ++ x ∷ []) ≡ filter p xs ++ x ∷ [] = filter-append p xs (x ∷ []) ∙ ap (λ b. filter p xs ++ (if b then x ∷ [] else [])) e in
      append_assoc before (map f (filter p xs)) (f x ∷ [])
      ∙ ap (λ l. before ++ l) (sym (map-append f (filter p xs) (x ∷ [])) ∙ sym (ap (map f) filtered))

  pub left_more : p x ≡ false → before ++ map f (filter p xs) ≡ before ++ map f (filter p (xs ++ x ∷ []))
  left_more e =
      let filtered : filter p (xs ++ x ∷ []) ≡ filter p xs = filter-append p xs (x ∷ []) ∙ ap (λ b. filter p xs ++ (if b then x ∷ [] else [])) e ∙ append-nil (filter p xs) in
      ap (λ l. before ++ map f l) (sym filtered)

-- two filters are one
pub filter_twice : {X : Type 0} (p q : X → Bool) (xs : List X) → filter p (filter q xs) ≡ filter (λ x. q x && p x) xs
filter_twice p q [] = refl
filter_twice {X} p q (x ∷ xs) = by (q x) (p x) (filter_twice p q xs)
  where
    by : (a b : Bool) → filter p (filter q xs) ≡ filter (λ x. q x && p x) xs
        → filter p (if a then x ∷ filter q xs else filter q xs) ≡ (if a && p x then x ∷ filter (λ x. q x && p x) xs else filter (λ x. q x && p x) xs)
    by true b rest = ap (λ l. if p x then x ∷ l else l) rest
    by false b rest = rest

-- filters by tests that agree
pub filter_alike : {X : Type 0} (p q : X → Bool) → ((x : X) → p x ≡ q x) → (xs : List X) → filter p xs ≡ filter q xs
filter_alike p q same [] = refl
filter_alike p q same (x ∷ xs) =
    ap (λ b. if b then x ∷ filter p xs else filter p xs) (same x) ∙ ap (λ l. if q x then x ∷ l else l) (filter_alike p q same xs)
