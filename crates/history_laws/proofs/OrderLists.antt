-- Lines by actor and by call: what holds of all of them, of any two, and that each is there.
use Rattle.std.proofs.Common.{◌≡◌, ℕ, zero, suc, ◌+◌, ◌<◌, List, [], ◌∷◌, ◌++◌, map, flat_map, Contains, Some, option_map, All, AllPairs, refl, sym, ap, subst, ◌∙◌, arith}
use Rattle.std.proofs.lemmas.Option.{none-some, same_Some, slice_get-map}
use Rattle.std.proofs.lemmas.List.Elements.{All-nil, All-cons, All-head, All-tail, All-append, All-weaker, All-contains, Contains-append_left, Contains-append_right}
use Rattle.std.proofs.lemmas.List.Kept.{AllPairs-cons}
use Rattle.std.specs.List.{slice_get, enumerate_from}
use Rattle.hist_rules.specs.First.{AllAfter}
use Rattle.run_laws.proofs.SoundLists.{all_by, contains_at, at_contains}

-- ---- pairs
pub no_pairs : {X : Type 0} (R : X → X → Type 0) → AllPairs R []
no_pairs R i j d less inside = absurd (omega (arith, inside))

pub one_pair : {X : Type 0} (R : X → X → Type 0) (x : X) → AllPairs R (x ∷ [])
one_pair R x = AllPairs-cons R x [] (All-nil (R x)) (no_pairs R)

first_pairs : {X : Type 0} (R : X → X → Type 0) (x : X) (xs : List X) → AllPairs R (x ∷ xs) → All (R x) xs
first_pairs R x xs pairs k d low = pairs 0 (suc k) d (omega arith) (omega (arith, low))

rest_pairs : {X : Type 0} (R : X → X → Type 0) (x : X) (xs : List X) → AllPairs R (x ∷ xs) → AllPairs R xs
rest_pairs R x xs pairs i j d less low = pairs (suc i) (suc j) d (omega (arith, less)) (omega (arith, low))

pub pairs_append : {X : Type 0} (R : X → X → Type 0) (xs ys : List X) → AllPairs R xs → AllPairs R ys → All (λ x. All (R x) ys) xs → AllPairs R (xs ++ ys)
pairs_append R [] ys one two cross = two
pairs_append R (x ∷ xs) ys one two cross =
    AllPairs-cons R x (xs ++ ys) (All-append (R x) xs ys (first_pairs R x xs one) (All-head (λ y. All (R y) ys) x xs cross))
    (pairs_append R xs ys (rest_pairs R x xs one) two (All-tail (λ y. All (R y) ys) x xs cross))

-- each with those before it
pub after_pairs : {X : Type 0} (R : X → X → Type 0) (before xs : List X) → All (λ x. All (λ other. R other x) before) xs → AllPairs R xs → AllAfter (λ others x. All (λ other. R other x) others) before xs
after_pairs R before [] h pairs = tt
after_pairs R before (x ∷ xs) h pairs = (
  All-head (λ y. All (λ other. R other y) before) x xs h,
  after_pairs R (x ∷ before) xs (both xs (All-tail (λ y. All (λ other. R other y) before) x xs h) (first_pairs R x xs pairs)) (rest_pairs R x xs pairs),
)
  where
    both : (ys : List _) → All (λ y. All (λ other. R other y) before) ys → All (R x) ys → All (λ y. All (λ other. R other y) (x ∷ before)) ys
    both [] a b = All-nil (λ y. All (λ other. R other y) (x ∷ before))
    both (y ∷ ys) a b =
        All-cons (λ z. All (λ other. R other z) (x ∷ before)) y ys
        (All-cons (λ other. R other y) x before (All-head (R x) y ys b) (All-head (λ z. All (λ other. R other z) before) y ys a))
        (both ys (All-tail (λ z. All (λ other. R other z) before) y ys a) (All-tail (R x) y ys b))

pub none_before : {X : Type 0} (R : X → X → Type 0) (xs : List X) → All (λ x. All (λ other. R other x) []) xs
none_before R [] = All-nil (λ x. All (λ other. R other x) [])
none_before R (x ∷ xs) = All-cons (λ y. All (λ other. R other y) []) x xs (All-nil (λ other. R other x)) (none_before R xs)

-- ---- maps
pub map_all : {X Y : Type 0} (P : Y → Type 0) (f : X → Y) (xs : List X) → All (λ x. P (f x)) xs → All P (map f xs)
map_all P f [] h = All-nil P
map_all P f (x ∷ xs) h = All-cons P (f x) (map f xs) (All-head (λ y. P (f y)) x xs h) (map_all P f xs (All-tail (λ y. P (f y)) x xs h))

pub map_pairs : {X Y : Type 0} (R : X → X → Type 0) (S : Y → Y → Type 0) (f : X → Y) (xs : List X) → ((x y : X) → R x y → S (f x) (f y)) → AllPairs R xs → AllPairs S (map f xs)
map_pairs R S f [] there pairs = no_pairs S
map_pairs R S f (x ∷ xs) there pairs =
    AllPairs-cons S (f x) (map f xs) (map_all (S (f x)) f xs (All-weaker (R x) (λ y. S (f x) (f y)) (λ y r. there x y r) xs (first_pairs R x xs pairs)))
    (map_pairs R S f xs there (rest_pairs R x xs pairs))

pub map_contains : {X Y : Type 0} (f : X → Y) (xs : List X) (x : X) → Contains xs x → Contains (map f xs) (f x)
map_contains f xs x has =
    let at : (i : ℕ) × (slice_get xs i ≡ Some x) = at_contains xs x has in
    contains_at (map f xs) at.0 (f x) (slice_get-map f xs at.0 ∙ ap (option_map f) at.1)

-- ---- lines by number
module _ {X Line : Type 0} (lines : ℕ → X → List Line) where
  -- the lines of some elements, which have numbers from one on
  abbrev pub indexed : ℕ → List X → List Line
  indexed a xs = flat_map (λ entry. lines entry.0 entry.1) (enumerate_from a xs)

  all_from : (Q : Line → Type 0) (a : ℕ) (xs : List X) → ((k : ℕ) (x : X) → slice_get xs k ≡ Some x → All Q (lines (a + k) x)) → All Q (indexed a xs)
  all_from Q a [] h = All-nil Q
  all_from Q a (x ∷ xs) h =
      All-append Q (lines a x) (indexed (a + 1) xs) (let none : a + 0 ≡ a = omega arith in subst (λ m. All Q (lines m x)) none (h 0 x refl))
      (all_from Q (a + 1) xs (λ k y e. let one : a + suc k ≡ a + 1 + k = omega arith in subst (λ m. All Q (lines m y)) one (h (suc k) y e)))

  pub all_indexed : (Q : Line → Type 0) (xs : List X) → ((k : ℕ) (x : X) → slice_get xs k ≡ Some x → All Q (lines k x)) → All Q (indexed 0 xs)
  all_indexed Q xs h = all_from Q 0 xs (λ k x e. let same : 0 + k ≡ k = omega arith in subst (λ m. All Q (lines m x)) (sym same) (h k x e))

  in_from : (a : ℕ) (xs : List X) (k : ℕ) (x : X) (line : Line) → slice_get xs k ≡ Some x → Contains (lines (a + k) x) line → Contains (indexed a xs) line
  in_from a [] k x line e has = absurd (none-some x e)
  in_from a (y ∷ xs) zero x line e has =
      let none : a + 0 ≡ a = omega arith in
      Contains-append_left (lines a y) (indexed (a + 1) xs) line (subst (λ z. Contains (lines a z) line) (sym (same_Some y x e)) (subst (λ m. Contains (lines m x) line) none has))
  in_from a (y ∷ xs) (suc k) x line e has =
      let one : a + suc k ≡ a + 1 + k = omega arith in
      Contains-append_right (lines a y) (indexed (a + 1) xs) line (in_from (a + 1) xs k x line e (subst (λ m. Contains (lines m x) line) one has))

  pub in_indexed : (xs : List X) (k : ℕ) (x : X) (line : Line) → slice_get xs k ≡ Some x → Contains (lines k x) line → Contains (indexed 0 xs) line
  in_indexed xs k x line e has = in_from 0 xs k x line e (let same : 0 + k ≡ k = omega arith in subst (λ m. Contains (lines m x) line) (sym same) has)

  pairs_from : (R : Line → Line → Type 0) (a : ℕ) (xs : List X) → ((k : ℕ) (x : X) → slice_get xs k ≡ Some x → AllPairs R (lines (a + k) x))
      → ((j k : ℕ) (x y : X) → j < k → slice_get xs j ≡ Some x → slice_get xs k ≡ Some y → All (λ line. All (R line) (lines (a + k) y)) (lines (a + j) x)) → AllPairs R (indexed a xs)
  pairs_from R a [] own cross = no_pairs R
  pairs_from R a (x ∷ xs) own cross =
      pairs_append R (lines a x) (indexed (a + 1) xs) (let none : a + 0 ≡ a = omega arith in subst (λ m. AllPairs R (lines m x)) none (own 0 x refl))
      (pairs_from R (a + 1) xs (λ k y e. let one : a + suc k ≡ a + 1 + k = omega arith in subst (λ m. AllPairs R (lines m y)) one (own (suc k) y e))
      (λ j k y z less e f.
      let one : a + suc j ≡ a + 1 + j = omega arith in
      let two : a + suc k ≡ a + 1 + k = omega arith in
      subst (λ m. All (λ line. All (R line) (lines (a + 1 + k) z)) (lines m y)) one
      (subst (λ m. All (λ line. All (R line) (lines m z)) (lines (a + suc j) y)) two (cross (suc j) (suc k) y z (omega (arith, less)) e f))))
      (all_by (λ line. All (R line) (indexed (a + 1) xs)) (lines a x)
      (λ line has.
      all_from (R line) (a + 1) xs
      (λ k y e.
      let none : a + 0 ≡ a = omega arith in
      let one : a + suc k ≡ a + 1 + k = omega arith in
      All-contains (λ l. All (R l) (lines (a + 1 + k) y)) (lines a x) line
      (subst (λ m. All (λ l. All (R l) (lines (a + 1 + k) y)) (lines m x)) none
      (subst (λ m. All (λ l. All (R l) (lines m y)) (lines (a + 0) x)) one (cross 0 (suc k) x y (omega arith) refl e))) has)))

  pub pairs_indexed : (R : Line → Line → Type 0) (xs : List X) → ((k : ℕ) (x : X) → slice_get xs k ≡ Some x → AllPairs R (lines k x))
      → ((j k : ℕ) (x y : X) → j < k → slice_get xs j ≡ Some x → slice_get xs k ≡ Some y → All (λ line. All (R line) (lines k y)) (lines j x)) → AllPairs R (indexed 0 xs)
  pairs_indexed R xs own cross =
      pairs_from R 0 xs (λ k x e. let same : 0 + k ≡ k = omega arith in subst (λ m. AllPairs R (lines m x)) (sym same) (own k x e))
      (λ j k x y less e f.
      let one : 0 + j ≡ j = omega arith in
      let two : 0 + k ≡ k = omega arith in
      subst (λ m. All (λ line. All (R line) (lines (0 + k) y)) (lines m x)) (sym one) (subst (λ m. All (λ line. All (R line) (lines m y)) (lines j x)) (sym two) (cross j k x y less e f)))
