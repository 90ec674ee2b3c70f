-- Lists by their elements: what all, all pairs, a filter and a search say of one element.
use Rattle.std.proofs.Common.{nat_eq, ◌≡◌, ◌⊎◌, ℕ, zero, suc, ◌<◌, Bool, true, false, cond, List, [], ◌∷◌, length, get_or, map, filter, find, slice_get, Option, None, Some, All, AllPairs, Contains, refl, sym, ap, subst, subst₂, ◌∙◌, inl, inr, arith}
use Rattle.std.proofs.lemmas.Bool.{false≢true, true≢false, cases_order, or_cases, or_left, or_right, eq-eqb, eqb-true, cond-true}
use Rattle.std.proofs.lemmas.Option.{same_Some, none-some, slice_get-get_or, slice_get_within, get_or_from_slice_get}
use Rattle.std.proofs.lemmas.List.{length-map, get_or-map, get_or_default}
use Rattle.std.proofs.lemmas.List.Elements.{Contains-get_or, All-contains, All-filter, All-contains_itself, filter_passes}
use Rattle.store_core.specs.Lists.{is_among}

-- ---- all elements, one by one
-- by membership
pub all_by : {X : Type 0} (P : X → Type 0) (xs : List X) → ((x : X) → Contains xs x → P x) → All P xs
all_by P xs f = λ k d h. f (get_or xs k d) (Contains-get_or xs k d h)

-- by place
pub all_at : {X : Type 0} (P : X → Type 0) (xs : List X) → ((i : ℕ) (x : X) → slice_get xs i ≡ Some x → P x) → All P xs
all_at P xs f = λ k d h. f k (get_or xs k d) (slice_get-get_or xs k d h)

-- what holds of all holds at a place
pub at_all : {X : Type 0} (P : X → Type 0) (xs : List X) (i : ℕ) (x : X) → All P xs → slice_get xs i ≡ Some x → P x
at_all P xs i x all e = subst P (get_or_from_slice_get xs i x x e) (all i x (slice_get_within xs i x e))

-- what stands at a place is an element
pub contains_at : {X : Type 0} (xs : List X) (i : ℕ) (x : X) → slice_get xs i ≡ Some x → Contains xs x
contains_at xs i x e = (i, slice_get_within xs i x e, get_or_from_slice_get xs i x x e)

-- an element stands at some place
pub at_contains : {X : Type 0} (xs : List X) (x : X) → Contains xs x → (i : ℕ) × (slice_get xs i ≡ Some x)
at_contains xs x c = (c.0, slice_get-get_or xs c.0 x c.1 ∙ ap Some c.2)

-- ---- all pairs: of two elements one comes first, or they are one
-- of two elements of a list that are related by their order
pub pair_of : {X : Type 0} (R : X → X → Type 0) (xs : List X) (x y : X) → AllPairs R xs → Contains xs x → Contains xs y → (x ≡ y) ⊎ (R x y ⊎ R y x)
pair_of R xs x y pairs cx cy = by (cases_order cx.0 cy.0)
  where
    x_at : get_or xs cx.0 x ≡ x
    x_at = cx.2

    y_at : get_or xs cy.0 x ≡ y
    y_at = get_or_default xs cy.0 x y cy.1 ∙ cy.2

    apart : (cx.0 < cy.0) ⊎ (cy.0 < cx.0) → R x y ⊎ R y x
    apart (inl h) = inl (subst₂ R x_at y_at (pairs cx.0 cy.0 x h cy.1))
    apart (inr h) = inr (subst₂ R y_at x_at (pairs cy.0 cx.0 x h cx.1))

    by : (cx.0 ≡ cy.0) ⊎ ((cx.0 < cy.0) ⊎ (cy.0 < cx.0)) → (x ≡ y) ⊎ (R x y ⊎ R y x)
    by (inl e) = inl (sym x_at ∙ ap (λ i. get_or xs i x) e ∙ y_at)
    by (inr h) = inr (apart h)

-- all pairs after a change of each element
pub pairs_map : {X : Type 0} (R S : X → X → Type 0) (f : X → X) (xs : List X) → ((x y : X) → Contains xs x → Contains xs y → R x y → S (f x) (f y)) → AllPairs R xs → AllPairs S (map f xs)
pairs_map R S f xs step pairs = λ i j d less within.
    let w : j < length xs = subst (λ n. j < n) (length-map xs f) within in
    let v : i < length xs = omega (arith, less, w) in
    subst₂ S (sym (get_or-map f xs i d d v)) (sym (get_or-map f xs j d d w))
    (step (get_or xs i d) (get_or xs j d) (Contains-get_or xs i d v) (Contains-get_or xs j d w) (pairs i j d less w))

-- ---- one of some numbers
-- a number that stands in the list is among it
among_at : (n : ℕ) (ns : List ℕ) (k : ℕ) → slice_get ns k ≡ Some n → is_among n ns ≡ true
among_at n [] k e = absurd (none-some n e)
among_at n (m ∷ ms) zero e = or_left _ _ (eq-eqb n m (sym (same_Some m n e)))
among_at n (m ∷ ms) (suc k) e = or_right _ _ (among_at n ms k e)

-- so is an element
pub among : (n : ℕ) (ns : List ℕ) → Contains ns n → is_among n ns ≡ true
among n ns c = among_at n ns (at_contains ns n c).0 (at_contains ns n c).1

-- a number that is among the list stands in it
at_among : (n : ℕ) (ns : List ℕ) → is_among n ns ≡ true → (k : ℕ) × (slice_get ns k ≡ Some n)
at_among n [] e = absurd (false≢true e)
at_among n (m ∷ ms) e = by (λ h. at_among n ms h) (or_cases _ _ e)
  where
    by : (is_among n ms ≡ true → (k : ℕ) × (slice_get ms k ≡ Some n)) → ((nat_eq n m ≡ true) ⊎ (is_among n ms ≡ true)) → (k : ℕ) × (slice_get (m ∷ ms) k ≡ Some n)
    by rest (inl same) = (0, ap Some (sym (eqb-true n m same)))
    by rest (inr later) = (suc (rest later).0, (rest later).1)

-- so it is an element
pub is_in : (n : ℕ) (ns : List ℕ) → is_among n ns ≡ true → Contains ns n
is_in n ns e = contains_at ns (at_among n ns e).0 n (at_among n ns e).1

-- and none that is not among it
pub not_among : (n : ℕ) (ns : List ℕ) → is_among n ns ≡ false → Contains ns n → ⊥
not_among n ns none c = true≢false (sym (among n ns c) ∙ none)

-- ---- what a search finds
-- it stands at a place, and passes the test
pub found_at : {X : Type 0} (test : X → Bool) (xs : List X) (x : X) → find test xs ≡ Some x → (i : ℕ) × (slice_get xs i ≡ Some x) × (test x ≡ true)
found_at test [] x e = absurd (none-some x e)
found_at {X} test (y ∷ ys) x e = by (λ h. found_at test ys x h) (test y) refl e
  where
    by : (find test ys ≡ Some x → (i : ℕ) × (slice_get ys i ≡ Some x) × (test x ≡ true)) → (b : Bool) → test y ≡ b → cond {A = Option X} b (Some y) (find test ys) ≡ Some x
        → (i : ℕ) × (slice_get (y ∷ ys) i ≡ Some x) × (test x ≡ true)
    by rest true t found = (0, found, subst (λ z. test z ≡ true) (same_Some y x found) t)
    by rest false t found = (suc (rest found).0, (rest found).1, (rest found).2)

-- it is an element
pub found_in : {X : Type 0} (test : X → Bool) (xs : List X) (x : X) → find test xs ≡ Some x → Contains xs x × (test x ≡ true)
found_in test xs x e = (contains_at xs (found_at test xs x e).0 x (found_at test xs x e).1, (found_at test xs x e).2)

-- where nothing is found, nothing passes
none_at : {X : Type 0} (test : X → Bool) (xs : List X) (i : ℕ) (x : X) → find test xs ≡ None → slice_get xs i ≡ Some x → test x ≡ false
none_at test [] i x e at = absurd (none-some x at)
none_at {X} test (y ∷ ys) zero x e at = by (test y) refl e
  where
    by : (b : Bool) → test y ≡ b → cond {A = Option X} b (Some y) (find test ys) ≡ None → test x ≡ false
    by true t found = absurd (none-some y (sym found))
    by false t found = subst (λ z. test z ≡ false) (same_Some y x at) t
none_at {X} test (y ∷ ys) (suc i) x e at = by (λ none. none_at test ys i x none at) (test y) e
  where
    by : (find test ys ≡ None → test x ≡ false) → (b : Bool) → cond {A = Option X} b (Some y) (find test ys) ≡ None → test x ≡ false
    by rest true found = absurd (none-some y (sym found))
    by rest false found = rest found

-- no element does
pub none_found : {X : Type 0} (test : X → Bool) (xs : List X) (x : X) → find test xs ≡ None → Contains xs x → test x ≡ false
none_found test xs x e c = none_at test xs (at_contains xs x c).0 x e (at_contains xs x c).1

-- ---- what a filter keeps
-- it was there, and passes the test
pub in_filter : {X : Type 0} (p : X → Bool) (xs : List X) (x : X) → Contains (filter p xs) x → Contains xs x × (p x ≡ true)
in_filter p xs x c = (
  All-contains (Contains xs) (filter p xs) x (All-filter p (Contains xs) xs (All-contains_itself xs)) c,
  All-contains (λ y. p y ≡ true) (filter p xs) x (filter_passes p xs) c,
)

-- what passes the test stays
filtered_at : {X : Type 0} (p : X → Bool) (xs : List X) (i : ℕ) (x : X) → p x ≡ true → slice_get xs i ≡ Some x → (j : ℕ) × (slice_get (filter p xs) j ≡ Some x)
filtered_at p [] i x passes e = absurd (none-some x e)
filtered_at p (y ∷ ys) zero x passes e =
    (0, ap (λ zs. slice_get zs 0) (cond-true (p y) (y ∷ filter p ys) (filter p ys) (ap p (same_Some y x e) ∙ passes)) ∙ e)
filtered_at {X} p (y ∷ ys) (suc i) x passes e = by (filtered_at p ys i x passes e) (p y)
  where
    by : (j : ℕ) × (slice_get (filter p ys) j ≡ Some x) → (b : Bool) → (j : ℕ) × (slice_get (cond {A = List X} b (y ∷ filter p ys) (filter p ys)) j ≡ Some x)
    by rest true = (suc rest.0, rest.1)
    by rest false = rest

-- so does each element
pub filtered : {X : Type 0} (p : X → Bool) (xs : List X) (x : X) → p x ≡ true → Contains xs x → Contains (filter p xs) x
filtered p xs x passes c =
    let there : (j : ℕ) × (slice_get (filter p xs) j ≡ Some x) = filtered_at p xs (at_contains xs x c).0 x passes (at_contains xs x c).1 in
    contains_at (filter p xs) there.0 x there.1
