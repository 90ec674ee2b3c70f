-- The entries in the order of their births.
-- The view sorts the entries by insertion (by_birth). Two ascending lists of which the same predicates hold are one list (ascending_same:
-- the predicates "not before x" and "born with x, so x" settle the heads), so neither counts nor places come up, and entries that change
-- places have one order. A removal is then "the gone one before what is left", whatever the place that the last entry took; a changed
-- value and an appended one go by recursions of their own on the sorted list (ordered_changed, ordered_added), and the lemmas on lists of
-- objects serve the sorted entries unchanged.
use Rattle.std.proofs.Common.{◌≡◌, ℕ, zero, suc, ◌+◌, ◌<◌, ◌≤◌, Bool, true, false, cond, not, List, [], ◌∷◌, ◌++◌, length, get_or, map, bytes_eq, nat_lt, nat_eq, position, IsPermutation, Option, None, Some, IfSome, slice_get, All, true≢false, refl, sym, ap, subst, ◌∙◌, arith}
use Rattle.std.specs.Bool.{⊤}
use Rattle.std.specs.List.{AllByRecursion, IsDistinct, position_or_len}
use Rattle.std.specs.List.Sorted.{IsNonDecreasingBy}
use Rattle.std.specs.Map.{lookup, keys_of, values_of, remove_entry}
use Rattle.std.proofs.lemmas.Bool.{ltb-true, ltb-false, lt-ltb, eqb-false, ne_eqb}
use Rattle.std.proofs.lemmas.Cmp.{nat_eq_equiv, nat_list_eq_equiv}
use Rattle.std.proofs.lemmas.List.{get_or_default}
use Rattle.std.proofs.lemmas.List.Elements.{recursion_from_All, All-from_recursion, All-push, All-weaker}
use Rattle.std.proofs.lemmas.List.Sorted.{All-permutation, IsPermutation-map, IsPermutation-sym, IsPermutation-swap_remove}
use Rattle.std.proofs.lemmas.Map.{none_passes_from_lookup}
use Rattle.std.proofs.lemmas.Option.{none-some, same_Some}
use Rattle.std.proofs.lemmas.Slice.Eq.{bytes_eq-Decides}
use Rattle.indexmap.specs.IndexMap.{insert_entry, swap_remove_entry, set_value_at}
use Rattle.indexmap.proofs.MapLemmas.{Found-position, Missing-position, swap_remove_entry-found, swap_remove_entry-missing, distinct_permutation}
use Rattle.dir_parts.specs.Parts.{Held}
use Rattle.dir_parts.specs.Shelf.{birth_of, insert_by_birth, by_birth}

abbrev pub Named : Type 0
Named = List ℕ × Held

-- what holds of each holds of each in order, and back
module _ (P : Named → Type 0) where
  pub all_inserted : (x : Named) (es : List Named) → P x → AllByRecursion P es → AllByRecursion P (insert_by_birth x es)
  all_inserted x [] p h = (p, tt)
  all_inserted x (e ∷ es) p h = by (nat_lt (birth_of x) (birth_of e)) (all_inserted x es p h.1)
    where
      by : (b : Bool) → AllByRecursion P (insert_by_birth x es) → AllByRecursion P (cond {A = List Named} b (x ∷ e ∷ es) (e ∷ insert_by_birth x es))
      by true rest = (p, h)
      by false rest = (h.0, rest)

  pub inserted_all : (x : Named) (es : List Named) → AllByRecursion P (insert_by_birth x es) → P x × AllByRecursion P es
  inserted_all x [] h = h
  inserted_all x (e ∷ es) h = by (nat_lt (birth_of x) (birth_of e)) h (inserted_all x es)
    where
      by : (b : Bool) → AllByRecursion P (cond {A = List Named} b (x ∷ e ∷ es) (e ∷ insert_by_birth x es)) → (AllByRecursion P (insert_by_birth x es) → P x × AllByRecursion P es)
          → P x × AllByRecursion P (e ∷ es)
      by true h rest = h
      by false h rest = ((rest h.1).0, (h.0, (rest h.1).1))

  pub all_ordered : (es : List Named) → AllByRecursion P es → AllByRecursion P (by_birth es)
  all_ordered [] h = tt
  all_ordered (e ∷ es) h = all_inserted e (by_birth es) h.0 (all_ordered es h.1)

  pub ordered_all : (es : List Named) → AllByRecursion P (by_birth es) → AllByRecursion P es
  ordered_all [] h = tt
  ordered_all (e ∷ es) h = let both = inserted_all e (by_birth es) h in (both.0, ordered_all es both.1)

  pub all_moved : (xs ys : List Named) → IsPermutation xs ys → AllByRecursion P xs → AllByRecursion P ys
  all_moved xs ys moves h = recursion_from_All P ys (All-permutation P xs ys moves (All-from_recursion P xs h))

pub all_by : (P Q : Named → Type 0) → ((x : Named) → P x → Q x) → (xs : List Named) → AllByRecursion P xs → AllByRecursion Q xs
all_by P Q f [] h = tt
all_by P Q f (x ∷ xs) h = (f x h.0, all_by P Q f xs h.1)

all_of_both : (P Q R : Named → Type 0) → ((x : Named) → P x → Q x → R x) → (xs : List Named) → AllByRecursion P xs → AllByRecursion Q xs → AllByRecursion R xs
all_of_both P Q R f [] h k = tt
all_of_both P Q R f (x ∷ xs) h k = (f x h.0 k.0, all_of_both P Q R f xs h.1 k.1)

all_mapped : {Y : Type 0} (f : Named → Y) (P : Y → Type 0) (xs : List Named) → AllByRecursion P (map f xs) → AllByRecursion (λ x. P (f x)) xs
all_mapped f P [] h = tt
all_mapped f P (x ∷ xs) h = (h.0, all_mapped f P xs h.1)

-- each was born before those after it
abbrev pub Ascends : List Named → Type 0
Ascends [] = ⊤
Ascends (x ∷ xs) = AllByRecursion (λ y. birth_of x < birth_of y) xs × Ascends xs

strictly : (a b : ℕ) → a ≤ b → (b ≡ a → ⊥) → a < b
strictly a b le other = by (nat_lt a b) refl
  where
    by : (t : Bool) → nat_lt a b ≡ t → a < b
    by true e = ltb-true a b e
    by false e = absurd (other (let ge : b ≤ a = ltb-false a b e in omega (arith, ge, le)))

inserted_ascends : (x : Named) (es : List Named) → AllByRecursion (λ y. nat_eq (birth_of x) (birth_of y) ≡ false) es → Ascends es → Ascends (insert_by_birth x es)
inserted_ascends x [] apart h = (tt, tt)
inserted_ascends x (e ∷ es) apart h = by (nat_lt (birth_of x) (birth_of e)) refl (inserted_ascends x es apart.1 h.1)
  where
    by : (b : Bool) → nat_lt (birth_of x) (birth_of e) ≡ b → Ascends (insert_by_birth x es) → Ascends (cond {A = List Named} b (x ∷ e ∷ es) (e ∷ insert_by_birth x es))
    by true less rest =
        let before : birth_of x < birth_of e = ltb-true _ _ less in
        ((before, all_by (λ y. birth_of e < birth_of y) (λ y. birth_of x < birth_of y) (λ y after. omega (arith, before, after)) es h.0), h)
    by false more rest =
        let after : birth_of e ≤ birth_of x = ltb-false _ _ more in
        let other : birth_of x ≡ birth_of e → ⊥ = eqb-false _ _ apart.0 in
        (all_inserted (λ y. birth_of e < birth_of y) x es (strictly (birth_of e) (birth_of x) after other) h.0, rest)

pub ordered_ascends : (es : List Named) → IsDistinct nat_eq (map birth_of es) → Ascends (by_birth es)
unfolding IsDistinct
ordered_ascends [] d = tt
ordered_ascends (e ∷ es) d =
    inserted_ascends e (by_birth es) (all_ordered (λ y. nat_eq (birth_of e) (birth_of y) ≡ false) es (all_mapped birth_of (λ b. nat_eq (birth_of e) b ≡ false) es d.0)) (ordered_ascends es d.1)

-- ascending entries are the same where the same holds of all of them
pub ascending_same : (xs ys : List Named) → Ascends xs → Ascends ys → ((P : Named → Type 0) → AllByRecursion P xs → AllByRecursion P ys) → ((P : Named → Type 0) → AllByRecursion P ys → AllByRecursion P xs) → xs ≡ ys
ascending_same [] [] a b to back = refl
ascending_same [] (y ∷ ys) a b to back = absurd (to (λ z. ⊥) tt).0
ascending_same (x ∷ xs) [] a b to back = absurd (back (λ z. ⊥) tt).0
ascending_same (x ∷ xs) (y ∷ ys) a b to back =
    let below : birth_of x ≤ birth_of y = (to (λ z. birth_of x ≤ birth_of z) (omega arith, all_by (λ z. birth_of x < birth_of z) (λ z. birth_of x ≤ birth_of z) (λ z less. omega (arith, less)) xs a.0)).0 in
    let above : birth_of y ≤ birth_of x = (back (λ z. birth_of y ≤ birth_of z) (omega arith, all_by (λ z. birth_of y < birth_of z) (λ z. birth_of y ≤ birth_of z) (λ z less. omega (arith, less)) ys b.0)).0 in
    let one : (z : Named) → birth_of x < birth_of z → birth_of z ≡ birth_of x → z ≡ x = λ z less e. absurd (omega (arith, less, e)) in
    let first : y ≡ x = (to (λ z. birth_of z ≡ birth_of x → z ≡ x) ((λ e. refl), all_by (λ z. birth_of x < birth_of z) (λ z. birth_of z ≡ birth_of x → z ≡ x) one xs a.0)).0 (omega (arith, below, above)) in
    let rest : xs ≡ ys = ascending_same xs ys a.1 b.1
    (λ P h. all_of_both (λ z. birth_of y < birth_of z) (λ z. birth_of x < birth_of z → P z) P (λ z less p. p (omega (arith, less, below))) ys b.0
    (to (λ z. birth_of x < birth_of z → P z) ((λ less. absurd (omega (arith, less))), all_by P (λ z. birth_of x < birth_of z → P z) (λ z p less. p) xs h)).1)
    (λ P h. all_of_both (λ z. birth_of x < birth_of z) (λ z. birth_of y < birth_of z → P z) P (λ z less p. p (omega (arith, less, above))) xs a.0
    (back (λ z. birth_of y < birth_of z → P z) ((λ less. absurd (omega (arith, less))), all_by P (λ z. birth_of y < birth_of z → P z) (λ z p less. p) ys h)).1) in
    λ i. sym first i ∷ rest i

-- entries that change places have the same order of births
pub ordered_moved : (xs ys : List Named) → IsPermutation xs ys → IsDistinct nat_eq (map birth_of xs) → IsDistinct nat_eq (map birth_of ys) → by_birth xs ≡ by_birth ys
ordered_moved xs ys moves d e =
    ascending_same (by_birth xs) (by_birth ys) (ordered_ascends xs d) (ordered_ascends ys e)
    (λ P h. all_ordered P ys (all_moved P xs ys moves (ordered_all P xs h)))
    (λ P h. all_ordered P xs (all_moved P ys xs (IsPermutation-sym xs ys moves) (ordered_all P ys h)))

-- and those that ascend are in order
pub ascending_ordered : (xs ys : List Named) → IsPermutation xs ys → IsDistinct nat_eq (map birth_of xs) → Ascends ys → by_birth xs ≡ ys
ascending_ordered xs ys moves d up =
    ascending_same (by_birth xs) ys (ordered_ascends xs d) up
    (λ P h. all_moved P xs ys moves (ordered_all P xs h))
    (λ P h. all_ordered P xs (all_moved P ys xs (IsPermutation-sym xs ys moves) h))

-- as many
pub ordered_length : (es : List Named) → length (by_birth es) ≡ length es
ordered_length [] = refl
ordered_length (e ∷ es) = inserted_length e (by_birth es) ∙ ap suc (ordered_length es)
  where
    inserted_length : (x : Named) (es : List Named) → length (insert_by_birth x es) ≡ suc (length es)
    inserted_length x [] = refl
    inserted_length x (e ∷ es) = by (nat_lt (birth_of x) (birth_of e)) (inserted_length x es)
      where
        by : (b : Bool) → length (insert_by_birth x es) ≡ suc (length es) → length (cond {A = List Named} b (x ∷ e ∷ es) (e ∷ insert_by_birth x es)) ≡ suc (suc (length es))
        by true rest = refl
        by false rest = ap suc rest

-- what is sorted by births ascends
module _ {X : Type 0} (entry_of : X → Named) where
  pub sorted_ascends : (xs : List X) → IsNonDecreasingBy (λ x. birth_of (entry_of x)) xs → IsDistinct nat_eq (map birth_of (map entry_of xs)) → Ascends (map entry_of xs)
  unfolding IsDistinct
  sorted_ascends [] up d = tt
  sorted_ascends (x ∷ xs) up d = (after xs (λ k e less. up 0 (suc k) e (omega arith) (omega (arith, less))) d.0, sorted_ascends xs (λ i j e le less. up (suc i) (suc j) e (omega (arith, le)) (omega (arith, less))) d.1)
    where
      after : (xs : List X) → All (λ y. birth_of (entry_of x) ≤ birth_of (entry_of y)) xs → AllByRecursion (λ b. nat_eq (birth_of (entry_of x)) b ≡ false) (map birth_of (map entry_of xs))
          → AllByRecursion (λ y. birth_of (entry_of x) < birth_of y) (map entry_of xs)
      after [] le apart = tt
      after (y ∷ ys) le apart = (
        strictly (birth_of (entry_of x)) (birth_of (entry_of y)) (le 0 y (omega arith)) (λ same. eqb-false _ _ apart.0 (sym same)),
        after ys (λ k e less. le (suc k) e (omega (arith, less))) apart.1,
      )

-- one that was born after all others goes to the end
inserted_before : (e x : Named) (es : List Named) → birth_of e < birth_of x → insert_by_birth e (es ++ x ∷ []) ≡ insert_by_birth e es ++ x ∷ []
inserted_before e x [] less = ap (λ b. cond {A = List Named} b (e ∷ x ∷ []) (x ∷ e ∷ [])) (lt-ltb _ _ less)
inserted_before e x (y ∷ es) less = by (nat_lt (birth_of e) (birth_of y)) (inserted_before e x es less)
  where
    by : (b : Bool) → insert_by_birth e (es ++ x ∷ []) ≡ insert_by_birth e es ++ x ∷ []
        → cond {A = List Named} b (e ∷ y ∷ es ++ x ∷ []) (y ∷ insert_by_birth e (es ++ x ∷ [])) ≡ cond {A = List Named} b (e ∷ y ∷ es) (y ∷ insert_by_birth e es) ++ x ∷ []
    by true rest = refl
    by false rest = ap (λ (l : List Named). y ∷ l) rest

pub ordered_last : (es : List Named) (x : Named) → AllByRecursion (λ e. birth_of e < birth_of x) es → by_birth (es ++ x ∷ []) ≡ by_birth es ++ x ∷ []
ordered_last [] x h = refl
ordered_last (e ∷ es) x h = ap (insert_by_birth e) (ordered_last es x h.1) ∙ inserted_before e x (by_birth es) h.0

pub births_moved : (xs ys : List Named) → IsPermutation xs ys → IsDistinct nat_eq (map birth_of xs) → IsDistinct nat_eq (map birth_of ys)
births_moved xs ys moves d = distinct_permutation nat_eq_equiv (map birth_of xs) (map birth_of ys) (IsPermutation-map birth_of xs ys moves) d

-- a greater one more
distinct_pushed : (bs : List ℕ) (b : ℕ) → AllByRecursion (λ c. c < b) bs → IsDistinct nat_eq bs → IsDistinct nat_eq (bs ++ b ∷ [])
unfolding IsDistinct
distinct_pushed [] b less d = (tt, tt)
distinct_pushed (c ∷ bs) b less d = (apart bs d.0, distinct_pushed bs b less.1 d.1)
  where
    apart : (bs : List ℕ) → AllByRecursion (λ y. nat_eq c y ≡ false) bs → AllByRecursion (λ y. nat_eq c y ≡ false) (bs ++ b ∷ [])
    apart [] h = (ne_eqb c b (λ e. omega (arith, less.0, e)), tt)
    apart (y ∷ ys) h = (h.0, apart ys h.1)

-- what is found by a name, and what is left without it
module _ (name : List ℕ) where
  abbrev pub Unnamed : List Named → Type 0
  Unnamed es = AllByRecursion (λ e. bytes_eq name e.0 ≡ false) es

  unnamed_after : (x : Named) (es : List Named) → bytes_eq name x.0 ≡ true → AllByRecursion (λ k. bytes_eq x.0 k ≡ false) (keys_of es) → Unnamed es
  unnamed_after x es is apart =
      subst (λ n. AllByRecursion (λ e. bytes_eq n e.0 ≡ false) es) (sym ((bytes_eq-Decides name x.0).0 is)) (all_mapped (λ e. e.0) (λ k. bytes_eq x.0 k ≡ false) es apart)

  found_inserted : (x : Named) (es : List Named) → (bytes_eq name x.0 ≡ true → Unnamed es)
      → lookup (bytes_eq name) (insert_by_birth x es) ≡ cond {A = Option Held} (bytes_eq name x.0) (Some x.1) (lookup (bytes_eq name) es)
  found_inserted x [] apart = refl
  found_inserted x (e ∷ es) apart = by (nat_lt (birth_of x) (birth_of e)) (found_inserted x es (λ is. (apart is).1))
    where
      other : (b c : Bool) → bytes_eq name x.0 ≡ b → bytes_eq name e.0 ≡ c
          → cond {A = Option Held} c (Some e.1) (cond {A = Option Held} b (Some x.1) (lookup (bytes_eq name) es)) ≡ cond {A = Option Held} b (Some x.1) (cond {A = Option Held} c (Some e.1) (lookup (bytes_eq name) es))
      other true true is there = absurd (true≢false (sym there ∙ (apart is).0))
      other true false is there = refl
      other false c is there = refl

      by : (b : Bool) → lookup (bytes_eq name) (insert_by_birth x es) ≡ cond {A = Option Held} (bytes_eq name x.0) (Some x.1) (lookup (bytes_eq name) es)
          → lookup (bytes_eq name) (cond {A = List Named} b (x ∷ e ∷ es) (e ∷ insert_by_birth x es))
          ≡ cond {A = Option Held} (bytes_eq name x.0) (Some x.1) (cond {A = Option Held} (bytes_eq name e.0) (Some e.1) (lookup (bytes_eq name) es))
      by true rest = refl
      by false rest = ap (λ (o : Option Held). cond {A = Option Held} (bytes_eq name e.0) (Some e.1) o) rest ∙ other (bytes_eq name x.0) (bytes_eq name e.0) refl refl

  pub ordered_found : (es : List Named) → IsDistinct bytes_eq (keys_of es) → lookup (bytes_eq name) (by_birth es) ≡ lookup (bytes_eq name) es
  unfolding IsDistinct
  ordered_found [] d = refl
  ordered_found (e ∷ es) d =
      found_inserted e (by_birth es) (λ is. all_ordered (λ y. bytes_eq name y.0 ≡ false) es (unnamed_after e es is d.0))
      ∙ ap (λ (o : Option Held). cond {A = Option Held} (bytes_eq name e.0) (Some e.1) o) (ordered_found es d.1)

  removed_inserted : (x : Named) (es : List Named) → bytes_eq name x.0 ≡ true → Unnamed es → remove_entry (bytes_eq name) (insert_by_birth x es) ≡ es
  removed_inserted x [] is none = ap (λ b. cond {A = List Named} b [] (x ∷ [])) is
  removed_inserted x (e ∷ es) is none = by (nat_lt (birth_of x) (birth_of e)) (removed_inserted x es is none.1)
    where
      by : (b : Bool) → remove_entry (bytes_eq name) (insert_by_birth x es) ≡ es → remove_entry (bytes_eq name) (cond {A = List Named} b (x ∷ e ∷ es) (e ∷ insert_by_birth x es)) ≡ e ∷ es
      by true rest = ap (λ b. cond {A = List Named} b (e ∷ es) (x ∷ remove_entry (bytes_eq name) (e ∷ es))) is
      by false rest =
          ap (λ b. cond {A = List Named} b (insert_by_birth x es) (e ∷ remove_entry (bytes_eq name) (insert_by_birth x es))) none.0
          ∙ ap (λ (l : List Named). e ∷ l) rest

  removed_none : (es : List Named) → Unnamed es → remove_entry (bytes_eq name) es ≡ es
  removed_none [] none = refl
  removed_none (e ∷ es) none =
      ap (λ b. cond {A = List Named} b es (e ∷ remove_entry (bytes_eq name) es)) none.0 ∙ ap (λ (l : List Named). e ∷ l) (removed_none es none.1)

  pub unnamed_from_lookup : (es : List Named) → lookup (bytes_eq name) es ≡ None → Unnamed es
  unnamed_from_lookup es none = none_passes_from_lookup (bytes_eq name) es none

  abbrev at : List Named → ℕ
  at es = position_or_len (bytes_eq name) (keys_of es)

  named_at : (es : List Named) (d : Named) → at es < length es → bytes_eq name (get_or es (at es) d).0 ≡ true
  named_at [] d within = absurd (let no : 0 < 0 = within in omega (arith, no))
  named_at (e ∷ es) d within = by (bytes_eq name e.0) refl (named_at es d) within
    where
      by : (b : Bool) → bytes_eq name e.0 ≡ b → (at es < length es → bytes_eq name (get_or es (at es) d).0 ≡ true) → cond (not b) (1 + at es) 0 < suc (length es)
          → bytes_eq name (get_or (e ∷ es) (cond (not b) (1 + at es) 0) d).0 ≡ true
      by true is rest within = is
      by false is rest within =
          let next : 1 + at es ≡ suc (at es) = omega arith in
          ap (λ k. bytes_eq name (get_or (e ∷ es) k d).0) next ∙ rest (let less : 1 + at es < suc (length es) = within in omega (arith, less))

  -- the entry with the name, and what its removal leaves
  record Leaves (es left : List Named) : Type 0 where
    pub gone : Named
    pub is : bytes_eq name gone.0 ≡ true
    pub moves : IsPermutation es (gone ∷ left)

  leaves : (es : List Named) (i : ℕ) → position (bytes_eq name) (keys_of es) ≡ Some i → Leaves es (swap_remove_entry (bytes_eq name) es)
  leaves es i p =
      let nobody : Named = ([], record { length = 0; versions = []; birth = 0 }) in
      let found = Found-position (bytes_eq name) es i p in
      let gone : Named = get_or es i nobody in
      record {
        gone = gone;
        is = subst (λ k. bytes_eq name (get_or es k nobody).0 ≡ true) found.or_len (named_at es nobody (subst (λ k. k < length es) (sym found.or_len) found.within));
        moves =
            subst (λ l. IsPermutation es (gone ∷ l)) (sym (swap_remove_entry-found (bytes_eq name) es i gone p))
            (IsPermutation-swap_remove es i gone found.within (get_or_default es i nobody gone found.within));
      }

  -- the last entry in the place of the one with the name leaves the others in order
  pub ordered_removed : (es : List Named) → IsDistinct nat_eq (map birth_of es) → IsDistinct bytes_eq (keys_of es) → by_birth (swap_remove_entry (bytes_eq name) es) ≡ remove_entry (bytes_eq name) (by_birth es)
  unfolding IsDistinct
  ordered_removed es births names = by (position (bytes_eq name) (keys_of es)) refl
    where
      left : List Named
      left = swap_remove_entry (bytes_eq name) es

      by : (o : Option ℕ) → position (bytes_eq name) (keys_of es) ≡ o → by_birth (swap_remove_entry (bytes_eq name) es) ≡ remove_entry (bytes_eq name) (by_birth es)
      by None p =
          ap by_birth (swap_remove_entry-missing (bytes_eq name) es p)
          ∙ sym (removed_none (by_birth es) (all_ordered (λ e. bytes_eq name e.0 ≡ false) es (unnamed_from_lookup es (Missing-position (bytes_eq name) es p).value)))
      by (Some i) p =
          let there = leaves es i p in
          let others : IsDistinct bytes_eq (keys_of (there.gone ∷ left)) =
          distinct_permutation nat_list_eq_equiv (keys_of es) (keys_of (there.gone ∷ left)) (IsPermutation-map (λ e. e.0) es (there.gone ∷ left) there.moves) names in
          sym (removed_inserted there.gone (by_birth left) there.is (all_ordered (λ e. bytes_eq name e.0 ≡ false) left (unnamed_after there.gone left there.is others.0)))
          ∙ ap (remove_entry (bytes_eq name)) (sym (ordered_moved es (there.gone ∷ left) there.moves births (births_moved es (there.gone ∷ left) there.moves births)))

  pub births_left : (es : List Named) → IsDistinct nat_eq (map birth_of es) → IsDistinct nat_eq (map birth_of (swap_remove_entry (bytes_eq name) es))
  unfolding IsDistinct
  births_left es births = by (position (bytes_eq name) (keys_of es)) refl
    where
      by : (o : Option ℕ) → position (bytes_eq name) (keys_of es) ≡ o → IsDistinct nat_eq (map birth_of (swap_remove_entry (bytes_eq name) es))
      by None p = subst (λ l. IsDistinct nat_eq (map birth_of l)) (sym (swap_remove_entry-missing (bytes_eq name) es p)) births
      by (Some i) p =
          let there = leaves es i p in
          (births_moved es (there.gone ∷ swap_remove_entry (bytes_eq name) es) there.moves births).1

  pub later_left : (P : ℕ → Type 0) (es : List Named) → All P (map birth_of es) → All P (map birth_of (swap_remove_entry (bytes_eq name) es))
  later_left P es all = by (position (bytes_eq name) (keys_of es)) refl
    where
      by : (o : Option ℕ) → position (bytes_eq name) (keys_of es) ≡ o → All P (map birth_of (swap_remove_entry (bytes_eq name) es))
      by None p = subst (λ l. All P (map birth_of l)) (sym (swap_remove_entry-missing (bytes_eq name) es p)) all
      by (Some i) p =
          let there = leaves es i p in
          let left : List Named = swap_remove_entry (bytes_eq name) es in
          let both : All P (map birth_of (there.gone ∷ left)) = All-permutation P (map birth_of es) (map birth_of (there.gone ∷ left)) (IsPermutation-map birth_of es (there.gone ∷ left) there.moves) all in
          All-from_recursion P (map birth_of left) (recursion_from_All P (map birth_of (there.gone ∷ left)) both).1

  -- another value in the place of a name, with the same birth
  module _ (held : Held) where
    renewed : (x : Named) (es : List Named) → bytes_eq name x.0 ≡ true → birth_of x ≡ held.birth → Unnamed es
        → insert_by_birth (x.0, held) es ≡ insert_entry bytes_eq (insert_by_birth x es) name held
    renewed x [] is same none = ap (λ b. cond {A = List Named} b ((x.0, held) ∷ []) (x ∷ (name, held) ∷ [])) (sym is)
    renewed x (e ∷ es) is same none =
        ap (λ n. cond {A = List Named} (nat_lt n (birth_of e)) ((x.0, held) ∷ e ∷ es) (e ∷ insert_by_birth (x.0, held) es)) (sym same)
        ∙ by (nat_lt (birth_of x) (birth_of e)) (renewed x es is same none.1)
      where
        by : (b : Bool) → insert_by_birth (x.0, held) es ≡ insert_entry bytes_eq (insert_by_birth x es) name held
            → cond {A = List Named} b ((x.0, held) ∷ e ∷ es) (e ∷ insert_by_birth (x.0, held) es) ≡ insert_entry bytes_eq (cond {A = List Named} b (x ∷ e ∷ es) (e ∷ insert_by_birth x es)) name held
        by true rest = ap (λ b. cond {A = List Named} b ((x.0, held) ∷ e ∷ es) (x ∷ insert_entry bytes_eq (e ∷ es) name held)) (sym is)
        by false rest =
            ap (λ (l : List Named). e ∷ l) rest
            ∙ ap (λ b. cond {A = List Named} b ((e.0, held) ∷ insert_by_birth x es) (e ∷ insert_entry bytes_eq (insert_by_birth x es) name held)) (sym none.0)

    -- beside an entry of another name
    beside : (x : Named) (es : List Named) (was : Held) → bytes_eq name x.0 ≡ false → lookup (bytes_eq name) es ≡ Some was → was.birth ≡ held.birth
        → insert_by_birth x (insert_entry bytes_eq es name held) ≡ insert_entry bytes_eq (insert_by_birth x es) name held
    beside x [] was other there same = absurd (none-some was there)
    beside x (e ∷ es) was other there same = by (bytes_eq name e.0) refl there (beside x es was other)
      where
        passed : insert_entry bytes_eq (x ∷ e ∷ es) name held ≡ x ∷ insert_entry bytes_eq (e ∷ es) name held
        passed = ap (λ b. cond {A = List Named} b ((x.0, held) ∷ e ∷ es) (x ∷ insert_entry bytes_eq (e ∷ es) name held)) other

        this : (c : Bool) → bytes_eq name e.0 ≡ true
            → cond {A = List Named} c (x ∷ (e.0, held) ∷ es) ((e.0, held) ∷ insert_by_birth x es) ≡ insert_entry bytes_eq (cond {A = List Named} c (x ∷ e ∷ es) (e ∷ insert_by_birth x es)) name held
        this true is = sym (passed ∙ ap (λ b. x ∷ cond {A = List Named} b ((e.0, held) ∷ es) (e ∷ insert_entry bytes_eq es name held)) is)
        this false is = sym (ap (λ b. cond {A = List Named} b ((e.0, held) ∷ insert_by_birth x es) (e ∷ insert_entry bytes_eq (insert_by_birth x es) name held)) is)

        past : (c : Bool) → bytes_eq name e.0 ≡ false → insert_by_birth x (insert_entry bytes_eq es name held) ≡ insert_entry bytes_eq (insert_by_birth x es) name held
            → cond {A = List Named} c (x ∷ e ∷ insert_entry bytes_eq es name held) (e ∷ insert_by_birth x (insert_entry bytes_eq es name held))
            ≡ insert_entry bytes_eq (cond {A = List Named} c (x ∷ e ∷ es) (e ∷ insert_by_birth x es)) name held
        past true away rest = sym (passed ∙ ap (λ b. x ∷ cond {A = List Named} b ((e.0, held) ∷ es) (e ∷ insert_entry bytes_eq es name held)) away)
        past false away rest =
            ap (λ (l : List Named). e ∷ l) rest
            ∙ sym (ap (λ b. cond {A = List Named} b ((e.0, held) ∷ insert_by_birth x es) (e ∷ insert_entry bytes_eq (insert_by_birth x es) name held)) away)

        by : (b : Bool) → bytes_eq name e.0 ≡ b → cond {A = Option Held} b (Some e.1) (lookup (bytes_eq name) es) ≡ Some was
            → (lookup (bytes_eq name) es ≡ Some was → was.birth ≡ held.birth → insert_by_birth x (insert_entry bytes_eq es name held) ≡ insert_entry bytes_eq (insert_by_birth x es) name held)
            → insert_by_birth x (cond {A = List Named} b ((e.0, held) ∷ es) (e ∷ insert_entry bytes_eq es name held)) ≡ insert_entry bytes_eq (insert_by_birth x (e ∷ es)) name held
        by true is there rest =
            let born : held.birth ≡ birth_of e = sym same ∙ ap (λ (h : Held). h.birth) (sym (same_Some e.1 was there)) in
            ap (λ n. cond {A = List Named} (nat_lt (birth_of x) n) (x ∷ (e.0, held) ∷ es) ((e.0, held) ∷ insert_by_birth x es)) born
            ∙ this (nat_lt (birth_of x) (birth_of e)) is
        by false away there rest = past (nat_lt (birth_of x) (birth_of e)) away (rest there same)

    pub ordered_changed : (es : List Named) (was : Held) → IsDistinct bytes_eq (keys_of es) → lookup (bytes_eq name) es ≡ Some was → was.birth ≡ held.birth
        → by_birth (insert_entry bytes_eq es name held) ≡ insert_entry bytes_eq (by_birth es) name held
    unfolding IsDistinct
    ordered_changed [] was d there same = absurd (none-some was there)
    ordered_changed (e ∷ es) was d there same = by (bytes_eq name e.0) refl there (ordered_changed es was d.1)
      where
        by : (b : Bool) → bytes_eq name e.0 ≡ b → cond {A = Option Held} b (Some e.1) (lookup (bytes_eq name) es) ≡ Some was
            → (lookup (bytes_eq name) es ≡ Some was → was.birth ≡ held.birth → by_birth (insert_entry bytes_eq es name held) ≡ insert_entry bytes_eq (by_birth es) name held)
            → by_birth (cond {A = List Named} b ((e.0, held) ∷ es) (e ∷ insert_entry bytes_eq es name held)) ≡ insert_entry bytes_eq (by_birth (e ∷ es)) name held
        by true is there rest =
            renewed e (by_birth es) is (ap (λ (h : Held). h.birth) (same_Some e.1 was there) ∙ same) (all_ordered (λ y. bytes_eq name y.0 ≡ false) es (unnamed_after e es is d.0))
        by false away there rest =
            ap (insert_by_birth e) (rest there same)
            ∙ beside e (by_birth es) was away (ordered_found es d.1 ∙ there) same

    appended : (es : List Named) → Unnamed es → insert_entry bytes_eq es name held ≡ es ++ (name, held) ∷ []
    appended [] none = refl
    appended (e ∷ es) none =
        ap (λ b. cond {A = List Named} b ((e.0, held) ∷ es) (e ∷ insert_entry bytes_eq es name held)) none.0 ∙ ap (λ (l : List Named). e ∷ l) (appended es none.1)

    -- a new name goes to the end
    pub ordered_added : (es : List Named) → lookup (bytes_eq name) es ≡ None → All (λ b. b < held.birth) (map birth_of es)
        → by_birth (insert_entry bytes_eq es name held) ≡ insert_entry bytes_eq (by_birth es) name held
    ordered_added es none later =
        ap by_birth (appended es (unnamed_from_lookup es none))
        ∙ ordered_last es (name, held) (all_mapped birth_of (λ b. b < held.birth) es (recursion_from_All (λ b. b < held.birth) (map birth_of es) later))
        ∙ sym (appended (by_birth es) (all_ordered (λ e. bytes_eq name e.0 ≡ false) es (unnamed_from_lookup es none)))

    births_added : (es : List Named) → lookup (bytes_eq name) es ≡ None → map birth_of (insert_entry bytes_eq es name held) ≡ map birth_of es ++ held.birth ∷ []
    births_added es none = ap (map birth_of) (appended es (unnamed_from_lookup es none)) ∙ pushed es
      where
        pushed : (es : List Named) → map birth_of (es ++ (name, held) ∷ []) ≡ map birth_of es ++ held.birth ∷ []
        pushed [] = refl
        pushed (e ∷ es) = ap (λ (l : List ℕ). birth_of e ∷ l) (pushed es)

    pub births_with : (es : List Named) → lookup (bytes_eq name) es ≡ None → All (λ b. b < held.birth) (map birth_of es) → IsDistinct nat_eq (map birth_of es) → IsDistinct nat_eq (map birth_of (insert_entry bytes_eq es name held))
    births_with es none later births = subst (IsDistinct nat_eq) (sym (births_added es none)) (distinct_pushed (map birth_of es) held.birth (recursion_from_All (λ b. b < held.birth) (map birth_of es) later) births)

    pub later_with : (es : List Named) → lookup (bytes_eq name) es ≡ None → All (λ b. b < held.birth) (map birth_of es) → All (λ b. b < held.birth + 1) (map birth_of (insert_entry bytes_eq es name held))
    later_with es none later =
        subst (All (λ b. b < held.birth + 1)) (sym (births_added es none))
        (All-push (λ b. b < held.birth + 1) (map birth_of es) held.birth (All-weaker (λ b. b < held.birth) (λ b. b < held.birth + 1) (λ b less. omega (arith, less)) (map birth_of es) later) (omega arith))

    -- another value in the place of the name
    pub set_changed : (es : List Named) → at es < length es → set_value_at es (at es) held ≡ insert_entry bytes_eq es name held
    set_changed [] within = absurd (let no : 0 < 0 = within in omega (arith, no))
    set_changed (e ∷ es) within = by (bytes_eq name e.0) (set_changed es) within
      where
        by : (b : Bool) → (at es < length es → set_value_at es (at es) held ≡ insert_entry bytes_eq es name held) → cond (not b) (1 + at es) 0 < suc (length es)
            → set_value_at (e ∷ es) (cond (not b) (1 + at es) 0) held ≡ cond {A = List Named} b ((e.0, held) ∷ es) (e ∷ insert_entry bytes_eq es name held)
        by true rest within = refl
        by false rest within =
            let next : 1 + at es ≡ suc (at es) = omega arith in
            ap (λ k. set_value_at (e ∷ es) k held) next ∙ ap (λ (l : List Named). e ∷ l) (rest (let less : 1 + at es < suc (length es) = within in omega (arith, less)))

-- another value at a place, with the same birth
pub births_set : (es : List Named) (i : ℕ) (held : Held) → IfSome (slice_get (values_of es) i) (λ was. held.birth ≡ was.birth) → map birth_of (set_value_at es i held) ≡ map birth_of es
births_set [] i held same = refl
births_set (e ∷ es) zero held same = ap (λ b. b ∷ map birth_of es) same
births_set (e ∷ es) (suc i) held same = ap (λ (l : List ℕ). birth_of e ∷ l) (births_set es i held same)
