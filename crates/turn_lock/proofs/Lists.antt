-- Numbers in a list, beginnings of a list, and the entries of one number.
use Rattle.std.proofs.Common.{◌≡◌, ℕ, zero, suc, ◌≤◌, ◌==◌, ◌||◌, ◌≢◌, ◌⊎◌, Bool, true, false, cond, List, [], ◌∷◌, ◌++◌, length, filter, refl, ap, sym, ◌∙◌, subst, inl, inr, ⊎_elim, arith, append_assoc, length-append, eqb-true, ne_eqb, Option, None, Some, IfSome, slice_get}
use Rattle.std.proofs.lemmas.List.{append-nil}
use Rattle.std.proofs.lemmas.List.Elements.{filter-append}
use mathlib.Core.List.{IsPrefix}
use mathlib.Core.Option.{some, some-injective, some-ne-none}
use lib.ListN.{get_elem?}
use Rattle.turn_lock.specs.History.{is_among, Among, has_number, entries_of, with_entry, IsUnder}

or_cases : (a b : Bool) → (a || b) ≡ true → (a ≡ true) ⊎ (b ≡ true)
or_cases true b h = inl refl
or_cases false b h = inr h

or_left : (a b : Bool) → a ≡ true → (a || b) ≡ true
or_left true b h = refl
or_left false b h = absurd (cc)

or_right : (a b : Bool) → b ≡ true → (a || b) ≡ true
or_right true b h = refl
or_right false b h = h

pub among_append : (n : ℕ) (xs ys : List ℕ) → Among n (xs ++ ys) → Among n xs ⊎ Among n ys
among_append n [] ys h = inr h
among_append n (x ∷ xs) ys h = ⊎_elim (λ e. inl (or_left (n == x) (is_among n xs) e))
    (λ t. ⊎_elim (λ u. inl (or_right (n == x) (is_among n xs) u)) (λ u. inr u) (among_append n xs ys t)) (or_cases (n == x) (is_among n (xs ++ ys)) h)

pub among_one : (n m : ℕ) → Among n (m ∷ []) → n ≡ m
among_one n m h = ⊎_elim (λ e. eqb-true n m e) (λ e. absurd (cc)) (or_cases (n == m) false h)

module _ {A : Type 0} where
  pub prefix_self : (xs : List A) → IsPrefix xs xs
  prefix_self xs = ([], append-nil xs)

  pub prefix_trans : (xs ys zs : List A) → IsPrefix xs ys → IsPrefix ys zs → IsPrefix xs zs
  prefix_trans xs ys zs p q = (p.0 ++ q.0, sym (append_assoc xs p.0 q.0) ∙ (ap (λ w. w ++ q.0) p.1 ∙ q.1))

  -- of two beginnings of one list the shorter begins the longer
  pub prefix_shorter : (xs ys zs : List A) → IsPrefix xs zs → IsPrefix ys zs → length xs ≤ length ys → IsPrefix xs ys
  prefix_shorter [] ys zs p q le = (ys, refl)
  prefix_shorter (x ∷ xs) [] zs p q le = absurd (omega arith)
  prefix_shorter (x ∷ xs) (y ∷ ys) [] p q le = absurd (cc (p.1))
  prefix_shorter (x ∷ xs) (y ∷ ys) (z ∷ zs) p q le =
      let heads : x ≡ y = cc (p.1, q.1) in
      let rest = prefix_shorter xs ys zs (p.0, cc (p.1)) (q.0, cc (q.1)) (omega arith) in
      (rest.0, cc (heads, rest.1))

  nil_of : (xs : List A) → length xs ≡ 0 → xs ≡ []
  nil_of [] h = refl
  nil_of (x ∷ xs) h = absurd (omega arith)

  -- a list between two that have the same elements of a kind has just these
  pub between : (p : A → Bool) (xs ys zs : List A) → IsPrefix xs ys → IsPrefix ys zs → filter p xs ≡ filter p zs → filter p ys ≡ filter p zs
  between p xs ys zs f g e =
      let a : filter p ys ≡ filter p xs ++ filter p f.0 = ap (λ l. filter p l) (sym f.1) ∙ filter-append p xs f.0 in
      let b : filter p zs ≡ filter p ys ++ filter p g.0 = ap (λ l. filter p l) (sym g.1) ∙ filter-append p ys g.0 in
      let la = ap length a in let lb = ap length b in let le = ap length e in
      let none : filter p g.0 ≡ [] = nil_of (filter p g.0) (omega (arith, length-append (filter p xs) (filter p f.0), length-append (filter p ys) (filter p g.0))) in
      sym (b ∙ ap (λ l. filter p ys ++ l) none ∙ append-nil (filter p ys))

  pub at_one : (a b : A) (j : ℕ) → get_elem? (a ∷ []) j ≡ some b → (j ≡ 0) × (a ≡ b)
  at_one a b zero e = (refl, some-injective a b e)
  at_one a b (suc j) e = absurd (some-ne-none b (sym e))

module _ {E : Type 0} where
  one_other : (n : ℕ) (e : ℕ × E) → n ≢ e.0 → entries_of n (e ∷ []) ≡ []
  one_other n e ne = ap (λ b. cond b (e ∷ []) []) (ne_eqb e.0 n (λ q. ne (sym q)))

  -- an entry of another number adds nothing
  pub entries_of-with_entry : (n : ℕ) (log : List (ℕ × E)) (entry : Option (ℕ × E)) → ((e : ℕ × E) → entry ≡ Some e → n ≢ e.0) → entries_of n (with_entry log entry) ≡ entries_of n log
  entries_of-with_entry n log None h = refl
  entries_of-with_entry n log (Some e) h = filter-append (has_number n) log (e ∷ []) ∙ (ap (λ l. entries_of n log ++ l) (one_other n e (h e refl)) ∙ append-nil (entries_of n log))

  pub prefix_after : (log : List (ℕ × E)) (entry : Option (ℕ × E)) → IsPrefix log (with_entry log entry)
  prefix_after log None = prefix_self log
  prefix_after log (Some e) = (e ∷ [], refl)

  pub is_of_number : (numbers : List ℕ) (entry : Option (ℕ × E)) (e : ℕ × E) → IsUnder numbers entry → entry ≡ Some e → Among e.0 numbers
  is_of_number numbers entry e h q = subst (IsUnder numbers) q h

pub at_end : {A : Type 0} (l : List A) (a b : A) (j : ℕ) → get_elem? (l ++ a ∷ []) j ≡ some b → (get_elem? l j ≡ some b) ⊎ ((j ≡ length l) × (a ≡ b))
at_end [] a b zero e = inr (refl, some-injective a b e)
at_end [] a b (suc j) e = absurd (some-ne-none b (sym e))
at_end (x ∷ xs) a b zero e = inl e
at_end (x ∷ xs) a b (suc j) e = ⊎_elim (λ t. inl t) (λ t. inr (ap suc t.0, t.1)) (at_end xs a b j e)

pub each_snoc : {A : Type 0} (P : ℕ → A → Type 0) (xs : List A) (t : A) → ((k : ℕ) → IfSome (slice_get xs k) (P k)) → P (length xs) t → (k : ℕ) → IfSome (slice_get (xs ++ t ∷ []) k) (P k)
each_snoc P [] t h p zero = p
each_snoc P [] t h p (suc k) = tt
each_snoc P (x ∷ xs) t h p zero = h zero
each_snoc P (x ∷ xs) t h p (suc k) = each_snoc (λ i. P (suc i)) xs t (λ i. h (suc i)) p k

pub among_left : (n : ℕ) (xs ys : List ℕ) → Among n xs → Among n (xs ++ ys)
among_left n [] ys h = absurd (cc)
among_left n (x ∷ xs) ys h = ⊎_elim (λ e. or_left (n == x) (is_among n (xs ++ ys)) e) (λ t. or_right (n == x) (is_among n (xs ++ ys)) (among_left n xs ys t)) (or_cases (n == x) (is_among n xs) h)

pub among_right : (n : ℕ) (xs ys : List ℕ) → Among n ys → Among n (xs ++ ys)
among_right n [] ys h = h
among_right n (x ∷ xs) ys h = or_right (n == x) (is_among n (xs ++ ys)) (among_right n xs ys h)
