-- The laws of the plain map.
-- The plain map is a recursion on the list of names and bytes; ObjectMap keeps an indexmap whose order is that list's. That a call leaves
-- the map is one case analysis with both maps in it (CallMaps: before its point, after it); a rebuild is the instance in which they are
-- the same.
use Rattle.std.proofs.Common.{◌≡◌, ◌≢◌, ℕ, ◌+◌, ◌%◌, ◌≤◌, Bool, true, false, cond, List, [], ◌∷◌, ◌++◌, length, take, drop, Option, None, Some, bytes_eq, nat_lt, refl, sym, ap, subst, ◌∙◌, arith, length-append, length-drop}
use Rattle.std.proofs.lemmas.Bool.{false_from_ne_true, cond-true, cond-false, ltb-false}
use Rattle.std.proofs.lemmas.Cmp.{nat_list_eq_equiv}
use Rattle.std.proofs.lemmas.List.{length-take, length-replicate}
use Rattle.std.proofs.lemmas.List.Elements.{All-from_recursion}
use Rattle.std.proofs.lemmas.List.FromFn.{length-map-range_with_len}
use Rattle.std.specs.Cmp.Lexicographic.{bytes_decides}
use Rattle.std.specs.List.{AllByRecursion, IsDistinct}
use Rattle.store_map.specs.Content.{content_bytes, content_length, overwrite}
use Rattle.store_map.specs.History.{apply_all, replies_from, reply_of, map_after}
use Rattle.store_map.specs.Laws.{names_of, IsMap}
use Rattle.store_map.specs.PlainMap.{Objects, bytes_of, put, delete, put_sized, write_at, delete_found, apply}
use Rattle.store_map.proofs.MapLemmas.{none_is_some, same_some}
use Rattle.store_map.specs.declared.call.Call.{Call}
use Rattle.store_map.specs.declared.call.Call.TheVariants.{Put, Write, Get, ReadAt, Stat, Delete}
use Rattle.store_map.specs.declared.content.Content.{Content}
use Rattle.store_map.specs.declared.content.Content.TheVariants.{Hex, Fill, Ramp}
use Rattle.store_map.specs.declared.reply.Reply.{Reply}
use Rattle.store_map.specs.declared.reply.Reply.TheVariants.{Done, OutRange, TooLarge}

pub bytes_eq-same : (name : List ℕ) → bytes_eq name name ≡ true
bytes_eq-same name = (bytes_decides name name).1 refl

pub bytes_eq-other : (name other : List ℕ) → other ≢ name → bytes_eq other name ≡ false
bytes_eq-other name other differ = false_from_ne_true (bytes_eq other name) (λ same. differ ((bytes_decides other name).0 same))

-- ---- what a name finds after a put or a delete
pub bytes_of-put : (name bytes : List ℕ) (objects : Objects) → bytes_of name (put name bytes objects) ≡ Some bytes
bytes_of-put name bytes [] = cond-true (bytes_eq name name) (Some bytes) None (bytes_eq-same name)
bytes_of-put name bytes (object ∷ others) = by (bytes_eq name object.0) refl (bytes_of-put name bytes others)
  where
    by : (same : Bool) → bytes_eq name object.0 ≡ same → bytes_of name (put name bytes others) ≡ Some bytes
        → bytes_of name (cond same ((object.0, bytes) ∷ others) (object ∷ put name bytes others)) ≡ Some bytes
    by true e rest = cond-true (bytes_eq name object.0) (Some bytes) (bytes_of name others) e
    by false e rest = cond-false (bytes_eq name object.0) (Some object.1) (bytes_of name (put name bytes others)) e ∙ rest

pub bytes_of-put_others : (name other bytes : List ℕ) (objects : Objects) → other ≢ name → bytes_of other (put name bytes objects) ≡ bytes_of other objects
bytes_of-put_others name other bytes [] differ = cond-false (bytes_eq other name) (Some bytes) None (bytes_eq-other name other differ)
bytes_of-put_others name other bytes (object ∷ others) differ = by (bytes_eq name object.0) refl (bytes_of-put_others name other bytes others differ)
  where
    by : (same : Bool) → bytes_eq name object.0 ≡ same → bytes_of other (put name bytes others) ≡ bytes_of other others
        → bytes_of other (cond same ((object.0, bytes) ∷ others) (object ∷ put name bytes others)) ≡ cond (bytes_eq other object.0) (Some object.1) (bytes_of other others)
    by true e rest =
        let apart : bytes_eq other object.0 ≡ false = ap (bytes_eq other) (sym ((bytes_decides name object.0).0 e)) ∙ bytes_eq-other name other differ in
        cond-false (bytes_eq other object.0) (Some bytes) (bytes_of other others) apart
        ∙ sym (cond-false (bytes_eq other object.0) (Some object.1) (bytes_of other others) apart)
    by false e rest = ap (cond (bytes_eq other object.0) (Some object.1)) rest

absent : (name : List ℕ) (objects : Objects) → AllByRecursion (λ y. bytes_eq name y ≡ false) (names_of objects) → bytes_of name objects ≡ None
absent name [] h = refl
absent name (object ∷ others) h = cond-false (bytes_eq name object.0) (Some object.1) (bytes_of name others) h.0 ∙ absent name others h.1

pub bytes_of-delete : (name : List ℕ) (objects : Objects) → IsDistinct bytes_eq (names_of objects) → bytes_of name (delete name objects) ≡ None
unfolding IsDistinct
bytes_of-delete name [] distinct = refl
bytes_of-delete name (object ∷ others) distinct = by (bytes_eq name object.0) refl (bytes_of-delete name others distinct.1)
  where
    by : (same : Bool) → bytes_eq name object.0 ≡ same → bytes_of name (delete name others) ≡ None
        → bytes_of name (cond same others (object ∷ delete name others)) ≡ None
    by true e rest =
        absent name others (subst (λ n. AllByRecursion (λ y. bytes_eq n y ≡ false) (names_of others)) (sym ((bytes_decides name object.0).0 e)) distinct.0)
    by false e rest = cond-false (bytes_eq name object.0) (Some object.1) (bytes_of name (delete name others)) e ∙ rest

pub bytes_of-delete_others : (name other : List ℕ) (objects : Objects) → other ≢ name → bytes_of other (delete name objects) ≡ bytes_of other objects
bytes_of-delete_others name other [] differ = refl
bytes_of-delete_others name other (object ∷ others) differ = by (bytes_eq name object.0) refl (bytes_of-delete_others name other others differ)
  where
    by : (same : Bool) → bytes_eq name object.0 ≡ same → bytes_of other (delete name others) ≡ bytes_of other others
        → bytes_of other (cond same others (object ∷ delete name others)) ≡ cond (bytes_eq other object.0) (Some object.1) (bytes_of other others)
    by true e rest =
        let apart : bytes_eq other object.0 ≡ false = ap (bytes_eq other) (sym ((bytes_decides name object.0).0 e)) ∙ bytes_eq-other name other differ in
        sym (cond-false (bytes_eq other object.0) (Some object.1) (bytes_of other others) apart)
    by false e rest = ap (cond (bytes_eq other object.0) (Some object.1)) rest

-- ---- calls after calls
pub apply_all-append : (max : ℕ) (first rest : List Call) (objects : Objects) → apply_all max (first ++ rest) objects ≡ apply_all max rest (apply_all max first objects)
apply_all-append max [] rest objects = refl
apply_all-append max (call ∷ first) rest objects = apply_all-append max first rest (apply max call objects).0

pub replies_from-append : (max : ℕ) (first rest : List Call) (objects : Objects)
    → replies_from max (first ++ rest) objects ≡ replies_from max first objects ++ replies_from max rest (apply_all max first objects)
replies_from-append max [] rest objects = refl
replies_from-append max (call ∷ first) rest objects =
    ap (λ l. reply_of max call objects ∷ l) (replies_from-append max first rest (apply max call objects).0)

-- ---- each name once
absent_after_put : (other name bytes : List ℕ) (objects : Objects) → bytes_eq other name ≡ false
    → AllByRecursion (λ y. bytes_eq other y ≡ false) (names_of objects) → AllByRecursion (λ y. bytes_eq other y ≡ false) (names_of (put name bytes objects))
absent_after_put other name bytes [] apart h = (apart, tt)
absent_after_put other name bytes (object ∷ others) apart h =
    by (bytes_eq name object.0) (absent_after_put other name bytes others apart h.1)
  where
    by : (same : Bool) → AllByRecursion (λ y. bytes_eq other y ≡ false) (names_of (put name bytes others))
        → AllByRecursion (λ y. bytes_eq other y ≡ false) (names_of (cond same ((object.0, bytes) ∷ others) (object ∷ put name bytes others)))
    by true rest = h
    by false rest = (h.0, rest)

pub IsDistinct-put : (name bytes : List ℕ) (objects : Objects) → IsDistinct bytes_eq (names_of objects) → IsDistinct bytes_eq (names_of (put name bytes objects))
unfolding IsDistinct
IsDistinct-put name bytes [] distinct = (tt, tt)
IsDistinct-put name bytes (object ∷ others) distinct = by (bytes_eq name object.0) refl (IsDistinct-put name bytes others distinct.1)
  where
    by : (same : Bool) → bytes_eq name object.0 ≡ same → IsDistinct bytes_eq (names_of (put name bytes others))
        → IsDistinct bytes_eq (names_of (cond same ((object.0, bytes) ∷ others) (object ∷ put name bytes others)))
    by true e rest = distinct
    by false e rest = (absent_after_put object.0 name bytes others (nat_list_eq_equiv.symm object.0 name ∙ e) distinct.0, rest)

absent_after_delete : (other name : List ℕ) (objects : Objects)
    → AllByRecursion (λ y. bytes_eq other y ≡ false) (names_of objects) → AllByRecursion (λ y. bytes_eq other y ≡ false) (names_of (delete name objects))
absent_after_delete other name [] h = tt
absent_after_delete other name (object ∷ others) h = by (bytes_eq name object.0) (absent_after_delete other name others h.1)
  where
    by : (same : Bool) → AllByRecursion (λ y. bytes_eq other y ≡ false) (names_of (delete name others))
        → AllByRecursion (λ y. bytes_eq other y ≡ false) (names_of (cond same others (object ∷ delete name others)))
    by true rest = h.1
    by false rest = (h.0, rest)

pub IsDistinct-delete : (name : List ℕ) (objects : Objects) → IsDistinct bytes_eq (names_of objects) → IsDistinct bytes_eq (names_of (delete name objects))
unfolding IsDistinct
IsDistinct-delete name [] distinct = tt
IsDistinct-delete name (object ∷ others) distinct = by (bytes_eq name object.0) (IsDistinct-delete name others distinct.1)
  where
    by : (same : Bool) → IsDistinct bytes_eq (names_of (delete name others)) → IsDistinct bytes_eq (names_of (cond same others (object ∷ delete name others)))
    by true rest = distinct.1
    by false rest = (absent_after_delete object.0 name others distinct.0, rest)

-- ---- no object above max bytes
abbrev AreWithinMax : ℕ → Objects → Type 0
AreWithinMax max objects = AllByRecursion (λ object. length object.1 ≤ max) objects

short_after_put : (max : ℕ) (name bytes : List ℕ) (objects : Objects) → length bytes ≤ max → AreWithinMax max objects → AreWithinMax max (put name bytes objects)
short_after_put max name bytes [] fits h = (fits, tt)
short_after_put max name bytes (object ∷ others) fits h = by (bytes_eq name object.0) (short_after_put max name bytes others fits h.1)
  where
    by : (same : Bool) → AreWithinMax max (put name bytes others) → AreWithinMax max (cond same ((object.0, bytes) ∷ others) (object ∷ put name bytes others))
    by true rest = (fits, h.1)
    by false rest = (h.0, rest)

short_after_delete : (max : ℕ) (name : List ℕ) (objects : Objects) → AreWithinMax max objects → AreWithinMax max (delete name objects)
short_after_delete max name [] h = tt
short_after_delete max name (object ∷ others) h = by (bytes_eq name object.0) (short_after_delete max name others h.1)
  where
    by : (same : Bool) → AreWithinMax max (delete name others) → AreWithinMax max (cond same others (object ∷ delete name others))
    by true rest = h.1
    by false rest = (h.0, rest)

short_found : (max : ℕ) (name bytes : List ℕ) (objects : Objects) → AreWithinMax max objects → bytes_of name objects ≡ Some bytes → length bytes ≤ max
short_found max name bytes [] h found = absurd (none_is_some found)
short_found max name bytes (object ∷ others) h found = by (bytes_eq name object.0) found (short_found max name bytes others h.1)
  where
    by : (same : Bool) → cond same (Some object.1) (bytes_of name others) ≡ Some bytes → (bytes_of name others ≡ Some bytes → length bytes ≤ max) → length bytes ≤ max
    by true e rest = let P : List ℕ → Type 0 = λ l. length l ≤ max in subst P (same_some e) h.0
    by false e rest = rest e

pub length-content_bytes : (content : Content) → length (content_bytes content) ≡ content_length content
length-content_bytes (Hex bytes) = refl
length-content_bytes (Fill byte n) = length-replicate n byte
length-content_bytes (Ramp first n) = length-map-range_with_len (λ i. (first + i) % 256) 0 n

length-overwrite-le : (bytes new : List ℕ) (offset max : ℕ) → length bytes ≤ max → offset + length new ≤ max → length (overwrite bytes offset new) ≤ max
length-overwrite-le bytes new offset max long fits =
    omega (
      arith,
      length-append (take offset bytes ++ new) (drop (offset + length new) bytes),
      length-append (take offset bytes) new,
      length-append new (drop (offset + length new) bytes),
      length-append (take offset bytes) (new ++ drop (offset + length new) bytes),
      length-take offset bytes,
      length-drop (offset + length new) bytes,
    )

-- ---- both, kept by each call
record Keeps (max : ℕ) (objects : Objects) : Type 0 where
  pub names : IsDistinct bytes_eq (names_of objects)
  pub short : AreWithinMax max objects

kept_by_put : (max : ℕ) (name bytes : List ℕ) (objects : Objects) → length bytes ≤ max → Keeps max objects → Keeps max (put name bytes objects)
kept_by_put max name bytes objects fits keeps =
    record { names = IsDistinct-put name bytes objects keeps.names; short = short_after_put max name bytes objects fits keeps.short }

kept_by_put_sized : (max : ℕ) (name : List ℕ) (content : Content) (objects : Objects) → Keeps max objects → Keeps max (put_sized max name content objects).0
kept_by_put_sized max name content objects keeps = by (nat_lt max (content_length content)) refl
  where
    by : (large : Bool) → nat_lt max (content_length content) ≡ large
        → Keeps max (cond {A = Objects × Reply} large (objects, TooLarge) (put name (content_bytes content) objects, Done)).0
    by true e = keeps
    by false e =
        kept_by_put max name (content_bytes content) objects (omega (arith, length-content_bytes content, ltb-false max (content_length content) e)) keeps

kept_by_write_at : (max : ℕ) (name : List ℕ) (offset : ℕ) (content : Content) (objects : Objects) (found : Option (List ℕ))
    → bytes_of name objects ≡ found → Keeps max objects → Keeps max (write_at max name offset content objects found).0
kept_by_write_at max name offset content objects None is keeps = keeps
kept_by_write_at max name offset content objects (Some bytes) is keeps =
    by (nat_lt (length bytes) offset) (nat_lt max (offset + content_length content)) refl
  where
    by : (out large : Bool) → nat_lt max (offset + content_length content) ≡ large
        → Keeps max (cond {A = Objects × Reply} out (objects, OutRange) (cond {A = Objects × Reply} large (objects, TooLarge) (put name (overwrite bytes offset (content_bytes content)) objects, Done))).0
    by true large e = keeps
    by false true e = keeps
    by false false e =
        kept_by_put max name (overwrite bytes offset (content_bytes content)) objects
        (length-overwrite-le bytes (content_bytes content) offset max (short_found max name bytes objects keeps.short is)
        (omega (arith, length-content_bytes content, ltb-false max (offset + content_length content) e)))
        keeps

kept_by_delete : (max : ℕ) (name : List ℕ) (objects : Objects) (found : Option (List ℕ)) → Keeps max objects → Keeps max (delete_found name objects found).0
kept_by_delete max name objects None keeps = keeps
kept_by_delete max name objects (Some bytes) keeps =
    record { names = IsDistinct-delete name objects keeps.names; short = short_after_delete max name objects keeps.short }

kept_by : (max : ℕ) (call : Call) (objects : Objects) → Keeps max objects → Keeps max (apply max call objects).0
kept_by max (Put name content) objects keeps = kept_by_put_sized max name content objects keeps
kept_by max (Write name offset content) objects keeps = kept_by_write_at max name offset content objects (bytes_of name objects) refl keeps
kept_by max (Get name) objects keeps = keeps
kept_by max (ReadAt name offset count) objects keeps = keeps
kept_by max (Stat name) objects keeps = keeps
kept_by max (Delete name) objects keeps = kept_by_delete max name objects (bytes_of name objects) keeps

kept_by_all : (max : ℕ) (calls : List Call) (objects : Objects) → Keeps max objects → Keeps max (apply_all max calls objects)
kept_by_all max [] objects keeps = keeps
kept_by_all max (call ∷ calls) objects keeps = kept_by_all max calls (apply max call objects).0 (kept_by max call objects keeps)

kept_at_first : (max : ℕ) → Keeps max []
unfolding IsDistinct
kept_at_first max = record { names = tt; short = tt }

pub IsMap-map_after : (max : ℕ) (calls : List Call) → IsMap max (map_after max calls)
IsMap-map_after max calls =
    let keeps : Keeps max (map_after max calls) = kept_by_all max calls [] (kept_at_first max) in
    record { names = keeps.names; lengths = All-from_recursion (λ object. length object.1 ≤ max) (map_after max calls) keeps.short }
