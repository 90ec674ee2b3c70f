-- One item more in lists of lines.
use Rattle.std.proofs.Common.{◌≡◌, ℕ, ◌+◌, ◌^◌, ◌<◌, zero, suc, List, [], ◌∷◌, ◌++◌, length, map, get_or, take, None, Some, refl, sym, ap, subst, ◌∙◌, arith, append_assoc, add-zero, zero-add}
use Rattle.std.specs.Prelude.{option_map}
use Rattle.std.specs.List.{flat_map, enumerate_from, slice_get}
use Rattle.std.proofs.lemmas.Option.{slice_get_within, get_or_from_slice_get}
use Rattle.std.proofs.lemmas.Grind.{flat_map-append}
use Rattle.std.proofs.lemmas.List.{length-map, map-append, take_more, length-take-le, get_or-map, append-nil}
use Rattle.std.proofs.lemmas.List.Elements.{All-get_or}
use Rattle.call_steps.specs.CallerCalls.{HaveNames}

-- numbers go on behind the first list
enumerate_from-append : {X : Type 0} (n : ℕ) (xs ys : List X) → enumerate_from n (xs ++ ys) ≡ enumerate_from n xs ++ enumerate_from (n + length xs) ys
enumerate_from-append n [] ys = ap (λ k. enumerate_from k ys) (sym (add-zero n))
enumerate_from-append n (x ∷ xs) ys =
    let e : n + 1 + length xs ≡ n + length (x ∷ xs) = omega arith in
    ap (λ l. (n, x) ∷ l) (enumerate_from-append (n + 1) xs ys ∙ ap (λ k. enumerate_from (n + 1) xs ++ enumerate_from k ys) e)

-- the items up to one of them, as they are seen
seen_more : {A B : Type 0} (see : A → B) (xs : List A) (i : ℕ) (x : A) → i < length xs → x ≡ get_or xs i x
    → enumerate_from 0 (map see (take (i + 1) xs)) ≡ enumerate_from 0 (map see (take i xs)) ++ (i, see x) ∷ []
seen_more see xs i x below is =
    let taken : take (i + 1) xs ≡ take i xs ++ x ∷ [] = take_more xs i x below ∙ ap (λ y. take i xs ++ y ∷ []) (sym is) in
    let count : 0 + length (map see (take i xs)) ≡ i = zero-add _ ∙ length-map (take i xs) see ∙ length-take-le i xs (omega arith) in
    ap (λ l. enumerate_from 0 (map see l)) taken
    ∙ ap (enumerate_from 0) (map-append see (take i xs) (x ∷ []))
    ∙ enumerate_from-append 0 (map see (take i xs)) (see x ∷ [])
    ∙ ap (λ k. enumerate_from 0 (map see (take i xs)) ++ (k, see x) ∷ []) count

module _ {A B Line : Type 0} (see : A → B) (lines : ℕ → B → List Line) where
  -- the lines of the items
  abbrev pub lines_of : List A → List Line
  lines_of xs = flat_map (λ entry. lines entry.0 entry.1) (enumerate_from 0 (map see xs))

  -- and with the next one's
  pub lines_more : (before now next : List Line) (xs : List A) (i : ℕ) (x : A) → i < length xs → x ≡ get_or xs i x
      → now ≡ before ++ lines_of (take i xs) → next ≡ now ++ lines i (see x) → next ≡ before ++ lines_of (take (i + 1) xs)
  lines_more before now next xs i x below is so_far one =
      let more : lines_of (take (i + 1) xs) ≡ lines_of (take i xs) ++ lines i (see x) =
      ap (flat_map (λ entry. lines entry.0 entry.1)) (seen_more see xs i x below is)
      ∙ flat_map-append (λ entry. lines entry.0 entry.1) (enumerate_from 0 (map see (take i xs))) ((i, see x) ∷ [])
      ∙ ap (λ l. lines_of (take i xs) ++ l) (append-nil (lines i (see x))) in
      one ∙ ap (λ l. l ++ lines i (see x)) so_far ∙ append_assoc before (lines_of (take i xs)) (lines i (see x)) ∙ ap (λ l. before ++ l) (sym more)

  -- the same of a list that is this one
  pub lines_more_of : (before now next : List Line) (xs ys : List A) (i : ℕ) (x : A) → ys ≡ xs → i < length ys → x ≡ get_or ys i x
      → now ≡ before ++ lines_of (take i xs) → next ≡ now ++ lines i (see x) → next ≡ before ++ lines_of (take (i + 1) xs)
  lines_more_of before now next xs ys i x e below is so_far one =
      lines_more before now next xs i x (subst (λ l. i < length l) e below) (subst (λ l. x ≡ get_or l i x) e is) so_far one

-- an actor and its calls have numbers
pub names_at : {A : Type 0} (count : A → ℕ) (xs : List A) (i : ℕ) (x : A) → HaveNames (map count xs) → i < length xs → x ≡ get_or xs i x
    → (i < 2 ^ 32) × (count x < 2 ^ 32)
names_at count xs i x have below is =
    let within : i < length (map count xs) = rw length-map below in
    let few : get_or (map count xs) i (count x) < 2 ^ 32 = All-get_or (λ n. n < 2 ^ 32) (map count xs) i (count x) within have.calls in
    let same : get_or (map count xs) i (count x) ≡ count x = get_or-map count xs i x (count x) below ∙ ap count (sym is) in
    let actors = have.actors in
    (omega arith, subst (λ n. n < 2 ^ 32) same few)

-- the same of lists with a line for each item
module _ {A B Line : Type 0} (see : A → B) (line : ℕ × B → Line) where
  pub line_more : (now next : List Line) (xs : List A) (i : ℕ) (x : A) → i < length xs → x ≡ get_or xs i x
      → now ≡ map line (enumerate_from 0 (map see (take i xs))) → next ≡ now ++ line (i, see x) ∷ [] → next ≡ map line (enumerate_from 0 (map see (take (i + 1) xs)))
  line_more now next xs i x below is so_far one =
      one ∙ ap (λ l. l ++ line (i, see x) ∷ []) so_far
      ∙ sym (ap (map line) (seen_more see xs i x below is) ∙ map-append line (enumerate_from 0 (map see (take i xs))) ((i, see x) ∷ []))

-- and without numbers
module _ {A Line : Type 0} (line : A → Line) where
  pub mapped_more : (now next : List Line) (xs : List A) (i : ℕ) (x : A) → slice_get xs i ≡ Some x
      → now ≡ map line (take i xs) → next ≡ now ++ line x ∷ [] → next ≡ map line (take (i + 1) xs)
  mapped_more now next xs i x found so_far one =
      one ∙ ap (λ l. l ++ line x ∷ []) so_far
      ∙ sym (ap (map line) (take_more xs i x (slice_get_within xs i x found) ∙ ap (λ y. take i xs ++ y ∷ []) (get_or_from_slice_get xs i x x found)) ∙ map-append line (take i xs) (x ∷ []))

-- what is seen of what is seen
pub map_twice : {A B C : Type 0} (f : A → B) (g : B → C) (xs : List A) → map g (map f xs) ≡ map (λ x. g (f x)) xs
map_twice f g [] = refl
map_twice f g (x ∷ xs) = ap (λ l. g (f x) ∷ l) (map_twice f g xs)

-- a place of a list has an item, as it is seen
pub none_mapped_within : {A B : Type 0} (see : A → B) (xs : List A) (i : ℕ) → None ≡ option_map see (slice_get xs i) → i < length xs → ⊥
none_mapped_within see [] i e below = absurd (omega arith)
none_mapped_within see (x ∷ xs) zero e below = cc
none_mapped_within see (x ∷ xs) (suc i) e below = none_mapped_within see xs i e (omega arith)
