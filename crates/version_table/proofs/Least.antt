-- The least of the garbage, and the others once it is taken.
use Rattle.std.proofs.Common.{◌≡◌, ◌⊎◌, ℕ, suc, ◌+◌, ◌<◌, ◌≤◌, Bool, true, false, cond, ◌&&◌, not, nat_eq, nat_lt, List, [], ◌∷◌, length, map, get_or, find, is_some, option_map, Option, None, Some, All, slice_get, refl, sym, ap, subst, ◌∙◌, inl, inr, arith}
use Rattle.std.proofs.lemmas.Bool.{cases_Bool, ne_eqb, ltb-false, false≢true}
use Rattle.std.proofs.lemmas.List.Sorted.{IsPermutation-trans, IsPermutation-sym, length_permutation, All-permutation}
use Rattle.std.proofs.lemmas.List.Elements.{All-head, All-cons}
use Rattle.std.specs.Option.{option_and_then}
use Rattle.std.specs.List.{enumerate_from}
use Rattle.std.specs.List.Sorted.{IsPermutation}
use Rattle.std.specs.BinaryHeap.{IsUpperBound}
use Rattle.std.specs.Ordering.{is_lt}
use Rattle.std.specs.declared.cmp.Ordering.{Ordering}
use Rattle.std.specs.declared.cmp.Ordering.TheVariants as ordering
use Rattle.std.specs.declared.cmp.Reverse.{Reverse}
use Rattle.store_core.specs.Lists.{change_at}
use Rattle.store_core.specs.Lookups.{is_superseded_standing}
use Rattle.store_core.specs.Directory.{Version}
use Rattle.version_table.specs.Places.{places}
use Rattle.version_table.specs.Table.{version_in, number_in, least_first}
use Rattle.version_table.specs.TableSteps.{first_free}
use Rattle.version_table.specs.Told.{Entry}
use Rattle.version_table.specs.Rows.{is_garbage, kept_of, kept_at}
use Rattle.version_table.proofs.RowSteps.{kept_unswept, garbage_unswept}
use Rattle.version_table.proofs.TableSteps.{superseded_same}
use Rattle.version_table.proofs.Counting.{cancel}

none_cons : (x : ℕ) (xs : List ℕ) → [] ≡ x ∷ xs → ⊥
none_cons x xs e = let no : 0 ≡ suc (length xs) = ap length e in omega (arith, no)

head_is : (x y d : ℕ) (xs ys : List ℕ) → x ∷ xs ≡ y ∷ ys → x ≡ y
head_is x y d xs ys e = ap (λ l. get_or l 0 d) e

module _ {X : Type 0} (test : X → Bool) where
  -- places rise
  pub places-from : (n : ℕ) (xs : List X) → All (λ place. n ≤ place) (places test n xs)
  places-from n [] = λ k d less. absurd (let no : k < 0 = less in omega (arith, no))
  places-from n (x ∷ xs) = by (test x) (λ k d less. (let later : n + 1 ≤ get_or (places test (n + 1) xs) k d = places-from (n + 1) xs k d less in omega (arith, later)))
    where
      by : (b : Bool) → All (λ place. n ≤ place) (places test (n + 1) xs) → All (λ place. n ≤ place) (cond b (n ∷ places test (n + 1) xs) (places test (n + 1) xs))
      by true more = All-cons (λ place. n ≤ place) n (places test (n + 1) xs) (omega arith) more
      by false more = more

  pub places-below : (n : ℕ) (xs : List X) → All (λ place. place < n + length xs) (places test n xs)
  places-below n [] = λ k d less. absurd (let no : k < 0 = less in omega (arith, no))
  places-below n (x ∷ xs) = by (test x) (λ k d less. (let later : get_or (places test (n + 1) xs) k d < n + 1 + length xs = places-below (n + 1) xs k d less in omega (arith, later)))
    where
      by : (b : Bool) → All (λ place. place < n + suc (length xs)) (places test (n + 1) xs) → All (λ place. place < n + suc (length xs)) (cond b (n ∷ places test (n + 1) xs) (places test (n + 1) xs))
      by true more = All-cons (λ place. place < n + suc (length xs)) n (places test (n + 1) xs) (omega arith) more
      by false more = more

  -- the first is the least
  places-least : (n : ℕ) (xs : List X) (p : ℕ) (ps : List ℕ) → places test n xs ≡ p ∷ ps → All (λ place. p ≤ place) (p ∷ ps)
  places-least n [] p ps e = absurd (none_cons p ps e)
  places-least n (x ∷ xs) p ps e = by (test x) (places-from (n + 1) xs) (places-least (n + 1) xs p ps) e
    where
      by : (b : Bool) → All (λ place. n + 1 ≤ place) (places test (n + 1) xs) → (places test (n + 1) xs ≡ p ∷ ps → All (λ place. p ≤ place) (p ∷ ps))
          → cond b (n ∷ places test (n + 1) xs) (places test (n + 1) xs) ≡ p ∷ ps → All (λ place. p ≤ place) (p ∷ ps)
      by true from rest e =
          let same : n ≡ p = head_is n p 0 (places test (n + 1) xs) ps e in
          subst (λ (l : List ℕ). All (λ place. p ≤ place) l) e
          (All-cons (λ place. p ≤ place) n (places test (n + 1) xs) (omega (arith, same)) (λ k d less. (let later : n + 1 ≤ get_or (places test (n + 1) xs) k d = from k d less in omega (arith, later, same))))
      by false from rest e = rest e

  -- what the first place is, and what is left once its element fails
  pub record First (n : ℕ) (xs : List X) (x : ℕ) : Type 0 where
    pub at : ℕ
    pub element : X
    pub place : x ≡ n + at
    pub there : slice_get xs at ≡ Some element
    pub passes : test element ≡ true
    pub found : option_map (λ (e : ℕ × X). e.0) (find (λ (e : ℕ × X). test e.1) (enumerate_from n xs)) ≡ Some x
    pub left : (f : X → X) → test (f element) ≡ false → places test n xs ≡ x ∷ places test n (change_at at f xs)

  pub first_of : (n : ℕ) (xs : List X) (x : ℕ) (rest : List ℕ) → places test n xs ≡ x ∷ rest → First n xs x
  first_of n [] x rest e = absurd (none_cons x rest e)
  first_of n (y ∷ xs) x rest e = by (test y) refl (first_of (n + 1) xs x rest) e
    where
      by : (b : Bool) → test y ≡ b → (places test (n + 1) xs ≡ x ∷ rest → First (n + 1) xs x) → cond b (n ∷ places test (n + 1) xs) (places test (n + 1) xs) ≡ x ∷ rest → First n (y ∷ xs) x
      by true here later e =
          let same : n ≡ x = head_is n x 0 (places test (n + 1) xs) rest e in
          record {
            at = 0;
            element = y;
            place = omega (arith, same);
            there = refl;
            passes = here;
            found = ap (λ b. option_map (λ (e : ℕ × X). e.0) (cond {A = Option (ℕ × X)} b (Some (n, y)) (find (λ (e : ℕ × X). test e.1) (enumerate_from (n + 1) xs)))) here ∙ ap Some same;
            left = λ f fails.
                ap (λ b. cond {A = List ℕ} b (n ∷ places test (n + 1) xs) (places test (n + 1) xs)) here
                ∙ (λ i. same i ∷ ap (λ b. cond {A = List ℕ} b (n ∷ places test (n + 1) xs) (places test (n + 1) xs)) (sym fails) i);
          }
      by false here later e =
          let it : First (n + 1) xs x = later e in
          record {
            at = suc it.at;
            element = it.element;
            place = omega (arith, it.place);
            there = it.there;
            passes = it.passes;
            found = ap (λ b. option_map (λ (e : ℕ × X). e.0) (cond {A = Option (ℕ × X)} b (Some (n, y)) (find (λ (e : ℕ × X). test e.1) (enumerate_from (n + 1) xs)))) here ∙ it.found;
            left = λ f fails.
                ap (λ b. cond {A = List ℕ} b (n ∷ places test (n + 1) xs) (places test (n + 1) xs)) here ∙ it.left f fails
                ∙ ap (λ b. x ∷ cond {A = List ℕ} b (n ∷ places test (n + 1) (change_at it.at f xs)) (places test (n + 1) (change_at it.at f xs))) (sym here);
          }

  -- nothing is found where there are no places
  pub none_of : (n : ℕ) (xs : List X) → places test n xs ≡ [] → option_map (λ (e : ℕ × X). e.0) (find (λ (e : ℕ × X). test e.1) (enumerate_from n xs)) ≡ None
  none_of n [] e = refl
  none_of n (y ∷ xs) e = by (test y) (none_of (n + 1) xs) e
    where
      by : (b : Bool) → (places test (n + 1) xs ≡ [] → option_map (λ (e : ℕ × X). e.0) (find (λ (e : ℕ × X). test e.1) (enumerate_from (n + 1) xs)) ≡ None)
          → cond b (n ∷ places test (n + 1) xs) (places test (n + 1) xs) ≡ [] → option_map (λ (e : ℕ × X). e.0) (cond {A = Option (ℕ × X)} b (Some (n, y)) (find (λ (e : ℕ × X). test e.1) (enumerate_from (n + 1) xs))) ≡ None
      by true rest e = absurd (none_cons n (places test (n + 1) xs) (sym e))
      by false rest e = rest e

  -- a number that is least among the places is the first of them
  pub is_first : (xs : List X) (x : ℕ) (rest : List ℕ) → IsPermutation (x ∷ rest) (places test 0 xs) → All (λ y. x ≤ y) rest → (ps : List ℕ) × (places test 0 xs ≡ x ∷ ps)
  is_first xs x rest perm least = by (places test 0 xs) refl
    where
      by : (l : List ℕ) → places test 0 xs ≡ l → (ps : List ℕ) × (places test 0 xs ≡ x ∷ ps)
      by [] e = absurd (let size : length (places test 0 xs) ≡ suc (length rest) = length_permutation (x ∷ rest) (places test 0 xs) perm in let none : length (places test 0 xs) ≡ 0 = ap length e in omega (arith, size, none))
      by (p ∷ ps) e =
          let moved : IsPermutation (x ∷ rest) (p ∷ ps) = subst (IsPermutation (x ∷ rest)) e perm in
          let below : x ≤ p = All-head (λ y. x ≤ y) p ps (All-permutation (λ y. x ≤ y) (x ∷ rest) (p ∷ ps) moved (All-cons (λ y. x ≤ y) x rest (omega arith) least)) in
          let above : p ≤ x = All-head (λ y. p ≤ y) x rest (All-permutation (λ y. p ≤ y) (p ∷ ps) (x ∷ rest) (IsPermutation-sym (x ∷ rest) (p ∷ ps) moved) (places-least 0 xs p ps e)) in
          let same : p ≡ x = omega (arith, below, above) in
          (ps, e ∙ ap (λ q. q ∷ ps) same)

-- the heap's top, and what is left in it
module _ (entries : List Entry) (held left : List ℕ) (x : ℕ) (kept : IsPermutation held (places is_garbage 0 entries)) (popped : IsPermutation held (x ∷ left)) (least : All (λ y. x ≤ y) left) where
  all_places : IsPermutation (x ∷ left) (places is_garbage 0 entries)
  all_places = IsPermutation-trans (x ∷ left) held (places is_garbage 0 entries) (IsPermutation-sym held (x ∷ left) popped) kept

  pub top_is : First is_garbage 0 entries x
  top_is = let first : (ps : List ℕ) × (places is_garbage 0 entries ≡ x ∷ ps) = is_first is_garbage entries x left all_places least in
      first_of is_garbage 0 entries x first.0 first.1

  -- something is kept of it
  pub top_kept : is_some (kept_at entries x) ≡ true
  top_kept =
      let same : top_is.at ≡ x = omega (arith, top_is.place) in
      let there : slice_get entries x ≡ Some top_is.element = ap (slice_get entries) (sym same) ∙ top_is.there in
      ap (λ o. is_some (option_and_then kept_of o)) there ∙ kept_unswept top_is.element ∙ garbage_unswept top_is.element top_is.passes

  pub rest_is : (f : Entry → Entry) → ((e : Entry) → is_garbage (f e) ≡ false) → IsPermutation left (places is_garbage 0 (change_at x f entries))
  rest_is f never =
      let same : top_is.at ≡ x = omega (arith, top_is.place) in
      cancel x left (places is_garbage 0 (change_at x f entries))
      (subst (IsPermutation (x ∷ left)) (top_is.left f (never top_is.element) ∙ ap (λ k. x ∷ places is_garbage 0 (change_at k f entries)) same) all_places)

-- what nobody pins, by the counts of pins
free_from : (n : ℕ) (pins : ℕ → ℕ) (entries : List Entry) → ((k : ℕ) → k < length entries → pins (n + k) ≡ get_or (map (λ entry. entry.pins) entries) k 0)
    → option_map (λ (e : ℕ × Entry). e.0) (find (λ (e : ℕ × Entry). is_garbage e.1) (enumerate_from n entries))
    ≡ option_map (λ (e : ℕ × Version). e.0) (find (λ (e : ℕ × Version). is_superseded_standing e.1.standing && nat_eq (pins e.0) 0) (enumerate_from n (map version_in entries)))
free_from n pins [] same = refl
free_from n pins (entry ∷ entries) same =
    by (is_garbage entry) (is_superseded_standing (version_in entry).standing && nat_eq (pins n) 0) (λ i. sym (superseded_same entry.standing) i && nat_eq (here i) 0)
    (free_from (n + 1) pins entries (λ k less. (let next : n + 1 + k ≡ n + suc k = omega arith in ap pins next ∙ same (suc k) (omega (arith, less)))))
  where
    here : entry.pins ≡ pins n
    here = sym (ap pins (let none : n ≡ n + 0 = omega arith in none) ∙ same 0 (omega arith))

    by : (a b : Bool) → a ≡ b
        → option_map (λ (e : ℕ × Entry). e.0) (find (λ (e : ℕ × Entry). is_garbage e.1) (enumerate_from (n + 1) entries))
        ≡ option_map (λ (e : ℕ × Version). e.0) (find (λ (e : ℕ × Version). is_superseded_standing e.1.standing && nat_eq (pins e.0) 0) (enumerate_from (n + 1) (map version_in entries)))
        → option_map (λ (e : ℕ × Entry). e.0) (cond {A = Option (ℕ × Entry)} a (Some (n, entry)) (find (λ (e : ℕ × Entry). is_garbage e.1) (enumerate_from (n + 1) entries)))
        ≡ option_map (λ (e : ℕ × Version). e.0) (cond {A = Option (ℕ × Version)} b (Some (n, version_in entry)) (find (λ (e : ℕ × Version). is_superseded_standing e.1.standing && nat_eq (pins e.0) 0) (enumerate_from (n + 1) (map version_in entries))))
    by true true e rest = refl
    by true false e rest = absurd (false≢true (sym e))
    by false true e rest = absurd (false≢true e)
    by false false e rest = rest

pub free_is : (entries : List Entry) → option_map (λ (e : ℕ × Entry). e.0) (find (λ (e : ℕ × Entry). is_garbage e.1) (enumerate_from 0 entries))
    ≡ first_free (record { listed = map version_in entries; pins = map (λ entry. entry.pins) entries; room = 0 })
free_is entries = free_from 0 (λ k. get_or (map (λ entry. entry.pins) entries) k 0) entries (λ k less. ap (λ j. get_or (map (λ entry. entry.pins) entries) j 0) (let same : 0 + k ≡ k = omega arith in same))

-- there is garbage where the heap isn't empty
pub some_garbage : (entries : List Entry) (held : List ℕ) (size : ℕ) → IsPermutation held (places is_garbage 0 entries) → size ≡ length held
    → not (nat_eq size 0) ≡ is_some (first_free (record { listed = map version_in entries; pins = map (λ entry. entry.pins) entries; room = 0 }))
some_garbage entries held size kept count = by (places is_garbage 0 entries) refl
  where
    sizes : length (places is_garbage 0 entries) ≡ length held
    sizes = length_permutation held (places is_garbage 0 entries) kept

    by : (l : List ℕ) → places is_garbage 0 entries ≡ l → not (nat_eq size 0) ≡ is_some (first_free (record { listed = map version_in entries; pins = map (λ entry. entry.pins) entries; room = 0 }))
    by [] e =
        let none : size ≡ 0 = (let empty : length (places is_garbage 0 entries) ≡ 0 = ap length e in omega (arith, empty, count, sizes)) in
        ap (λ n. not (nat_eq n 0)) none ∙ ap is_some (sym (none_of is_garbage 0 entries e) ∙ free_is entries)
    by (p ∷ ps) e =
        let more : size ≡ suc (length ps) = (let some : length (places is_garbage 0 entries) ≡ suc (length ps) = ap length e in omega (arith, some, count, sizes)) in
        ap (λ n. not (nat_eq n 0)) more ∙ ap not (ne_eqb (suc (length ps)) 0 (λ same. omega (arith, same))) ∙ ap is_some (sym (First.found (first_of is_garbage 0 entries p ps e)) ∙ free_is entries)

pub no_garbage : (entries : List Entry) (held : List ℕ) → IsPermutation held (places is_garbage 0 entries) → length held ≡ 0
    → None ≡ first_free (record { listed = map version_in entries; pins = map (λ entry. entry.pins) entries; room = 0 })
no_garbage entries held kept count = by (places is_garbage 0 entries) refl
  where
    sizes : length (places is_garbage 0 entries) ≡ length held
    sizes = length_permutation held (places is_garbage 0 entries) kept

    by : (l : List ℕ) → places is_garbage 0 entries ≡ l → None ≡ first_free (record { listed = map version_in entries; pins = map (λ entry. entry.pins) entries; room = 0 })
    by [] e = sym (none_of is_garbage 0 entries e) ∙ free_is entries
    by (p ∷ ps) e = absurd (let some : length (places is_garbage 0 entries) ≡ suc (length ps) = ap length e in omega (arith, some, count, sizes))

after : (b : Bool) (rest : Ordering) → b ≡ true → is_lt (cond {A = Ordering} b ordering.Less rest) ≡ false → ⊥
after true rest e h = false≢true (sym h)
after false rest e h = false≢true e

-- no number in the heap is less than its top
pub least_below : (x : Reverse ℕ) (items : List (Reverse ℕ)) → IsUpperBound least_first x items → All (λ y. x.0 ≤ y) (map number_in items)
least_below x [] all = λ k d less. absurd (let no : k < 0 = less in omega (arith, no))
least_below x (y ∷ items) all = All-cons (λ n. x.0 ≤ n) y.0 (map number_in items) (here (cases_Bool (nat_lt y.0 x.0))) (least_below x items all.1)
  where
    here : (nat_lt y.0 x.0 ≡ true) ⊎ (nat_lt y.0 x.0 ≡ false) → x.0 ≤ y.0
    here (inr h) = ltb-false y.0 x.0 h
    here (inl h) = absurd (after (nat_lt y.0 x.0) _ h all.0)
