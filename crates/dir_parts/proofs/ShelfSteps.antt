-- The objects by the entries of their map.
use Rattle.std.proofs.Common.{◌≡◌, ℕ, zero, suc, ◌+◌, ◌<◌, Bool, true, false, cond, List, [], ◌∷◌, ◌++◌, length, map, take, drop, max, bytes_eq, nat_eq, All, IsPermutation, Option, None, Some, option_map, is_some, IfSome, position, nat_lt, true≢false, subst, unwrap_or, slice_get, refl, sym, ap, ◌∙◌, arith}
use Rattle.std.proofs.lemmas.Bool.{ltb-true}
use Rattle.std.proofs.lemmas.Slice.Eq.{bytes_eq-Decides}
use Rattle.std.proofs.lemmas.Option.{none-some, same_Some}
use Rattle.std.specs.List.{position_or_len, IsDistinct}
use Rattle.std.specs.Map.{lookup, keys_of, values_of, remove_entry}
use Rattle.std.proofs.lemmas.List.{length-map}
use Rattle.std.proofs.lemmas.List.Sorted.{IsPermutation-map}
use Rattle.std.specs.List.Sorted.{IsNonDecreasingBy}
use Rattle.indexmap.specs.IndexMap.{insert_entry, swap_remove_entry, set_value_at}
use Rattle.store_core.specs.Directory.{Object}
use Rattle.store_core.specs.Lookups.{find_object}
use Rattle.store_core.specs.Look.{remove_object}
use Rattle.store_core.specs.Commit.{put_object}
use Rattle.dir_parts.specs.Parts.{Held, object_of, object_or_new, written_over, written_by, written_object}
use Rattle.dir_parts.specs.Shelf.{object_in, birth_of, by_birth}
use Rattle.dir_parts.proofs.Births.{ordered_found, ordered_removed, ordered_added, ordered_changed, set_changed, births_set, ascending_ordered, sorted_ascends, births_moved}

-- an entry that comes is an object that comes
pub objects-insert : (name : List ℕ) (held : Held) (entries : List (List ℕ × Held)) → map object_in (insert_entry bytes_eq entries name held) ≡ put_object (object_of name held) (map object_in entries)
objects-insert name held [] = refl
objects-insert name held (entry ∷ entries) = by (bytes_eq name entry.0) refl (objects-insert name held entries)
  where
    by : (b : Bool) → bytes_eq name entry.0 ≡ b → map object_in (insert_entry bytes_eq entries name held) ≡ put_object (object_of name held) (map object_in entries)
        → map object_in (cond {A = List (List ℕ × Held)} b ((entry.0, held) ∷ entries) (entry ∷ insert_entry bytes_eq entries name held))
        ≡ cond {A = List Object} b (object_of name held ∷ map object_in entries) (object_in entry ∷ put_object (object_of name held) (map object_in entries))
    by true e rest = ap (λ (n : List ℕ). object_of n held ∷ map object_in entries) (sym ((bytes_eq-Decides name entry.0).0 e))
    by false e rest = ap (λ (l : List Object). object_in entry ∷ l) rest

-- an entry that is found is an object that is found
pub objects-found : (name : List ℕ) (entries : List (List ℕ × Held)) → find_object name (map object_in entries) ≡ option_map (object_of name) (lookup (bytes_eq name) entries)
objects-found name [] = refl
objects-found name (entry ∷ entries) = by (bytes_eq name entry.0) refl (objects-found name entries)
  where
    by : (b : Bool) → bytes_eq name entry.0 ≡ b → find_object name (map object_in entries) ≡ option_map (object_of name) (lookup (bytes_eq name) entries)
        → cond {A = Option Object} b (Some (object_in entry)) (find_object name (map object_in entries)) ≡ option_map (object_of name) (cond {A = Option Held} b (Some entry.1) (lookup (bytes_eq name) entries))
    by true e rest = ap (λ (n : List ℕ). Some (object_of n entry.1)) (sym ((bytes_eq-Decides name entry.0).0 e))
    by false e rest = rest

-- an entry that goes is an object that goes
pub objects-remove : (name : List ℕ) (entries : List (List ℕ × Held)) → map object_in (remove_entry (bytes_eq name) entries) ≡ remove_object name (map object_in entries)
objects-remove name [] = refl
objects-remove name (entry ∷ entries) = by (bytes_eq name entry.0) (objects-remove name entries)
  where
    by : (b : Bool) → map object_in (remove_entry (bytes_eq name) entries) ≡ remove_object name (map object_in entries)
        → map object_in (cond {A = List (List ℕ × Held)} b entries (entry ∷ remove_entry (bytes_eq name) entries)) ≡ cond {A = List Object} b (map object_in entries) (object_in entry ∷ remove_object name (map object_in entries))
    by true rest = refl
    by false rest = ap (λ (l : List Object). object_in entry ∷ l) rest

-- the versions of what is found
abbrev pub versions_of : Option Held → List ℕ
versions_of None = []
versions_of (Some held) = held.versions

-- what is found in order
module _ (name : List ℕ) (entries : List (List ℕ × Held)) (names : IsDistinct bytes_eq (keys_of entries)) where
  abbrev pub ordered : List Object
  ordered = map object_in (by_birth entries)

  pub shelf-found : find_object name ordered ≡ option_map (object_of name) (lookup (bytes_eq name) entries)
  shelf-found = objects-found name (by_birth entries) ∙ ap (option_map (object_of name)) (ordered_found name entries names)

  pub versions-found : (object_or_new name ordered).versions ≡ versions_of (lookup (bytes_eq name) entries)
  versions-found = ap (λ (o : Option Object). (unwrap_or o (record { name = name; length = 0; versions = [] })).versions) shelf-found ∙ by (lookup (bytes_eq name) entries)
    where
      by : (o : Option Held) → (unwrap_or (option_map (object_of name) o) (record { name = name; length = 0; versions = [] })).versions ≡ versions_of o
      by None = refl
      by (Some held) = refl

-- the object of an entry, or a new one
abbrev pub object_by : List ℕ → Option Held → Object
object_by name None = record { name = name; length = 0; versions = [] }
object_by name (Some held) = object_of name held

module _ (name : List ℕ) (entries : List (List ℕ × Held)) (names : IsDistinct bytes_eq (keys_of entries)) where
  pub object-found : object_or_new name (ordered name entries names) ≡ object_by name (lookup (bytes_eq name) entries)
  object-found = ap (λ (o : Option Object). unwrap_or o (record { name = name; length = 0; versions = [] })) (shelf-found name entries names) ∙ by (lookup (bytes_eq name) entries)
    where
      by : (o : Option Held) → unwrap_or (option_map (object_of name) o) (record { name = name; length = 0; versions = [] }) ≡ object_by name o
      by None = refl
      by (Some held) = refl

-- all drawn versions, where there is no object yet
pub written-new : (first : ℕ) (drawn : List ℕ) → drawn ≡ written_over first drawn []
written-new first drawn = sym ((λ i. take-none first i ++ drawn ++ drop-none (first + length drawn) i) ∙ append-none drawn)
  where
    take-none : (n : ℕ) → take {A = ℕ} n [] ≡ []
    take-none zero = refl
    take-none (suc n) = refl

    drop-none : (n : ℕ) → drop {A = ℕ} n [] ≡ []
    drop-none zero = refl
    drop-none (suc n) = refl

    append-none : (xs : List ℕ) → xs ++ [] ≡ xs
    append-none [] = refl
    append-none (x ∷ xs) = ap (λ l. x ∷ l) (append-none xs)

pub none-replaced : (first : ℕ) (drawn : List ℕ) → [] ≡ take (length drawn) (drop {A = ℕ} first [])
none-replaced first drawn = sym (ap (take (length drawn)) (drop-none first) ∙ take-none (length drawn))
  where
    take-none : (n : ℕ) → take {A = ℕ} n [] ≡ []
    take-none zero = refl
    take-none (suc n) = refl

    drop-none : (n : ℕ) → drop {A = ℕ} n [] ≡ []
    drop-none zero = refl
    drop-none (suc n) = refl

-- where a search says, the place is
place_is : (name : List ℕ) (names : List (List ℕ)) (at : ℕ) → position (bytes_eq name) names ≡ Some at → (position_or_len (bytes_eq name) names ≡ at) × (position_or_len (bytes_eq name) names < length names)
place_is name names at e = by (nat_lt (position_or_len (bytes_eq name) names) (length names)) refl e
  where
    by : (b : Bool) → nat_lt (position_or_len (bytes_eq name) names) (length names) ≡ b → cond {A = Option ℕ} b (Some (position_or_len (bytes_eq name) names)) None ≡ Some at
        → (position_or_len (bytes_eq name) names ≡ at) × (position_or_len (bytes_eq name) names < length names)
    by false less h = absurd (none-some at h)
    by true less h = (same_Some _ at h, ltb-true _ _ less)

pub unfound : (name : List ℕ) (entries : List (List ℕ × Held)) (names : IsDistinct bytes_eq (keys_of entries)) → lookup (bytes_eq name) entries ≡ None → find_object name (map object_in (by_birth entries)) ≡ None
unfound name entries names none = shelf-found name entries names ∙ ap (option_map (object_of name)) none

pub unfound-entry : (name : List ℕ) (entries : List (List ℕ × Held)) (names : IsDistinct bytes_eq (keys_of entries)) → find_object name (map object_in (by_birth entries)) ≡ None → lookup (bytes_eq name) entries ≡ None
unfound-entry name entries names none = by (lookup (bytes_eq name) entries) (sym (shelf-found name entries names) ∙ none)
  where
    by : (o : Option Held) → option_map (object_of name) o ≡ None → o ≡ None
    by None e = refl
    by (Some held) e = absurd (none-some (object_of name held) (sym e))

-- the entries, sorted by their births, are the objects
pub shelf-listed : {X : Type 0} (entry_of : X → List ℕ × Held) (entries : List (List ℕ × Held)) (listed sorted : List X) → map entry_of listed ≡ entries → IsPermutation listed sorted
    → IsNonDecreasingBy (λ x. birth_of (entry_of x)) sorted → IsDistinct nat_eq (map birth_of entries) → map (λ x. object_in (entry_of x)) sorted ≡ map object_in (by_birth entries)
shelf-listed {X} entry_of entries listed sorted is moves up births =
    let moved : IsPermutation entries (map entry_of sorted) = subst (λ l. IsPermutation l (map entry_of sorted)) is (IsPermutation-map entry_of listed sorted moves) in
    both sorted ∙ ap (map object_in) (sym (ascending_ordered entries (map entry_of sorted) moved births (sorted_ascends entry_of sorted up (births_moved entries (map entry_of sorted) moved births))))
  where
    both : (xs : List X) → map (λ x. object_in (entry_of x)) xs ≡ map object_in (map entry_of xs)
    both [] = refl
    both (x ∷ xs) = ap (λ (l : List Object). object_in (entry_of x) ∷ l) (both xs)

-- an entry that goes is an object that goes
pub shelf-removed : (name : List ℕ) (entries : List (List ℕ × Held)) → IsDistinct nat_eq (map birth_of entries) → IsDistinct bytes_eq (keys_of entries)
    → map object_in (by_birth (swap_remove_entry (bytes_eq name) entries)) ≡ remove_object name (map object_in (by_birth entries))
shelf-removed name entries births names = ap (map object_in) (ordered_removed name entries births names) ∙ objects-remove name (by_birth entries)

-- an entry that comes is an object that comes
pub shelf-added : (name : List ℕ) (held : Held) (entries : List (List ℕ × Held)) → lookup (bytes_eq name) entries ≡ None → All (λ birth. birth < held.birth) (map birth_of entries)
    → map object_in (by_birth (insert_entry bytes_eq entries name held)) ≡ put_object (object_of name held) (map object_in (by_birth entries))
shelf-added name held entries none later = ap (map object_in) (ordered_added name held entries none later) ∙ objects-insert name held (by_birth entries)

-- what becomes of an object that is there
module _ (name : List ℕ) (entries : List (List ℕ × Held)) (names : IsDistinct bytes_eq (keys_of entries)) (at : ℕ) (is : position (bytes_eq name) (keys_of entries) ≡ Some at)
    (value : slice_get (values_of entries) at ≡ lookup (bytes_eq name) entries) (there : true ≡ is_some (lookup (bytes_eq name) entries)) where
  abbrev found : Option Held → Type 0
  found o = (h : Held) × (o ≡ Some h)

  pub found_there : (o : Option Held) → true ≡ is_some o → found o
  found_there None e = absurd (true≢false e)
  found_there (Some h) e = (h, refl)

  abbrev it : found (lookup (bytes_eq name) entries)
  it = found_there (lookup (bytes_eq name) entries) there

  module _ (new : List (List ℕ × Held)) (held : Held → Held) (kept : (was : Held) → (held was).birth ≡ was.birth) (said : IfSome (slice_get (values_of entries) at) (λ was. new ≡ set_value_at entries at (held was))) where
    pub shelf-changed : map object_in (by_birth new) ≡ put_object (object_of name (held it.0)) (map object_in (by_birth entries))
    shelf-changed =
        let here = place_is name (keys_of entries) at is in
        let set : new ≡ set_value_at entries at (held it.0) = subst (λ (o : Option Held). IfSome o (λ was. new ≡ set_value_at entries at (held was))) (value ∙ it.1) said in
        let changed : set_value_at entries at (held it.0) ≡ insert_entry bytes_eq entries name (held it.0) =
        ap (λ k. set_value_at entries k (held it.0)) (sym here.0) ∙ set_changed name (held it.0) entries (let less : position_or_len (bytes_eq name) (keys_of entries) < length (keys_of entries) = here.1 in omega (arith, less, length-map entries (λ e. e.0))) in
        ap (λ l. map object_in (by_birth l)) (set ∙ changed)
        ∙ ap (map object_in) (ordered_changed name (held it.0) entries it.0 names it.1 (sym (kept it.0)))
        ∙ objects-insert name (held it.0) (by_birth entries)

    pub births-changed : map birth_of new ≡ map birth_of entries
    births-changed =
        ap (map birth_of) (subst (λ (o : Option Held). IfSome o (λ was. new ≡ set_value_at entries at (held was))) (value ∙ it.1) said)
        ∙ births_set entries at (held it.0) (subst (λ (o : Option Held). IfSome o (λ was. (held it.0).birth ≡ was.birth)) (sym (value ∙ it.1)) (kept it.0))

  object_there : object_or_new name (map object_in (by_birth entries)) ≡ object_of name it.0
  object_there = object-found name entries names ∙ ap (object_by name) it.1

  pub replaced-whole : (result : List ℕ) → IfSome (slice_get (values_of entries) at) (λ held. result ≡ held.versions) → result ≡ (object_or_new name (map object_in (by_birth entries))).versions
  replaced-whole result said =
      subst (λ (o : Option Held). IfSome o (λ held. result ≡ held.versions)) (value ∙ it.1) said ∙ ap (λ (o : Object). o.versions) (sym object_there)

  -- a write
  module _ (end first : ℕ) (drawn : List ℕ) where
    pub written-there : (new : List (List ℕ × Held)) → IfSome (slice_get (values_of entries) at) (λ held. new ≡ set_value_at entries at (written_by end first drawn held))
        → map object_in (by_birth new) ≡ put_object (written_object end first drawn (object_or_new name (map object_in (by_birth entries)))) (map object_in (by_birth entries))
    written-there new said =
        shelf-changed new (written_by end first drawn) (λ was. refl) said
        ∙ ap (λ (o : Object). put_object (written_object end first drawn o) (map object_in (by_birth entries))) (sym object_there)

    pub replaced-there : (result : List ℕ) → IfSome (slice_get (values_of entries) at) (λ held. result ≡ take (length drawn) (drop first held.versions))
        → result ≡ take (length drawn) (drop first (object_or_new name (map object_in (by_birth entries))).versions)
    replaced-there result said =
        subst (λ (o : Option Held). IfSome o (λ held. result ≡ take (length drawn) (drop first held.versions))) (value ∙ it.1) said
        ∙ ap (λ (o : Object). take (length drawn) (drop first o.versions)) (sym object_there)

-- a write to an object that isn't there
module _ (name : List ℕ) (objects : List Object) (none : find_object name objects ≡ None) where
  new_object : object_or_new name objects ≡ record { name = name; length = 0; versions = [] }
  new_object = ap (λ (o : Option Object). unwrap_or o (record { name = name; length = 0; versions = [] })) none

  pub replaced-none : [] ≡ (object_or_new name objects).versions
  replaced-none = sym (ap (λ (o : Object). o.versions) new_object)

  module _ (end first : ℕ) (drawn : List ℕ) where
    pub written-anew : put_object (record { name = name; length = end; versions = drawn }) objects ≡ put_object (written_object end first drawn (object_or_new name objects)) objects
    written-anew =
        (λ i. put_object (record { name = name; length = longer i; versions = written-new first drawn i }) objects)
        ∙ ap (λ (o : Object). put_object (written_object end first drawn o) objects) (sym new_object)
      where
        longer : end ≡ max 0 end
        longer = omega arith

    pub replaced-anew : [] ≡ take (length drawn) (drop first (object_or_new name objects).versions)
    replaced-anew = none-replaced first drawn ∙ ap (λ (o : Object). take (length drawn) (drop first o.versions)) (sym new_object)
