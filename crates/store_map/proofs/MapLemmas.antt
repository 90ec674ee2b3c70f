-- The plain map's words are those of a map in order of insertion, at the names' comparison.
use Rattle.std.proofs.Common.{◌≡◌, ℕ, Bool, true, false, cond, List, [], ◌∷◌, Option, None, Some, bytes_eq, refl, sym, ap, ◌∙◌, true≢false, is_some, unwrap_or, Result, Ok, Err, OnErr}
use Rattle.std.specs.Map.{lookup, remove_entry, set_value}
use Rattle.indexmap.specs.IndexMap.{insert_entry}
use Rattle.store_map.specs.PlainMap.{Objects, bytes_of, put, delete}

pub none_is_some : {A : Type 0} {x : A} → None ≡ Some x → ⊥
none_is_some e = true≢false (sym (ap is_some e))

pub same_some : {A : Type 0} {x y : A} → Some x ≡ Some y → x ≡ y
same_some {A} {x} e = ap (λ r. unwrap_or r x) e

module _ (name : List ℕ) where
  pub bytes_of-lookup : (objects : Objects) → lookup (bytes_eq name) objects ≡ bytes_of name objects
  bytes_of-lookup [] = refl
  bytes_of-lookup (object ∷ others) = ap (λ found. cond (bytes_eq name object.0) (Some object.1) found) (bytes_of-lookup others)

  pub delete-remove_entry : (objects : Objects) → remove_entry (bytes_eq name) objects ≡ delete name objects
  delete-remove_entry [] = refl
  delete-remove_entry (object ∷ others) =
      ap (λ rest. cond (bytes_eq name object.0) others (object ∷ rest)) (delete-remove_entry others)

  pub put-insert_entry : (bytes : List ℕ) (objects : Objects) → insert_entry bytes_eq objects name bytes ≡ put name bytes objects
  put-insert_entry bytes [] = refl
  put-insert_entry bytes (object ∷ others) =
      ap (λ rest. cond (bytes_eq name object.0) ((object.0, bytes) ∷ others) (object ∷ rest)) (put-insert_entry bytes others)

  -- a write through a found object's loan is a put
  pub put-set_value : (old bytes : List ℕ) (objects : Objects) → bytes_of name objects ≡ Some old → set_value (bytes_eq name) objects bytes ≡ put name bytes objects
  put-set_value old bytes [] found = absurd (none_is_some found)
  put-set_value old bytes (object ∷ others) found = by (bytes_eq name object.0) found (put-set_value old bytes others)
    where
      by : (same : Bool) → cond same (Some object.1) (bytes_of name others) ≡ Some old
          → (bytes_of name others ≡ Some old → set_value (bytes_eq name) others bytes ≡ put name bytes others)
          → cond same ((object.0, bytes) ∷ others) (object ∷ set_value (bytes_eq name) others bytes) ≡ cond same ((object.0, bytes) ∷ others) (object ∷ put name bytes others)
      by true e rest = refl
      by false e rest = ap (λ l. object ∷ l) (rest e)

  -- and of the bytes that it had is no change
  pub set_value-same : (old : List ℕ) (objects : Objects) → bytes_of name objects ≡ Some old → set_value (bytes_eq name) objects old ≡ objects
  set_value-same old [] found = absurd (none_is_some found)
  set_value-same old (object ∷ others) found = by (bytes_eq name object.0) found (set_value-same old others)
    where
      by : (same : Bool) → cond same (Some object.1) (bytes_of name others) ≡ Some old
          → (bytes_of name others ≡ Some old → set_value (bytes_eq name) others old ≡ others)
          → cond same ((object.0, old) ∷ others) (object ∷ set_value (bytes_eq name) others old) ≡ object ∷ others
      by true e rest = ap (λ bytes. (object.0, bytes) ∷ others) (sym (same_some e))
      by false e rest = ap (λ l. object ∷ l) (rest e)

  -- a map that is held under one name and spoken of under another
  module _ (inside objects : Objects) (held : inside ≡ objects) where
    pub bytes_of-found : (r : Option (List ℕ)) → r ≡ lookup (bytes_eq name) inside → bytes_of name objects ≡ r
    bytes_of-found r found = sym (found ∙ bytes_of-lookup inside ∙ ap (bytes_of name) held)

    -- what it is after a write of these bytes through the loan of a found object
    module _ (old : List ℕ) (found : bytes_of name objects ≡ Some old) (after : Objects) where
      pub lent-put : (bytes : List ℕ) → after ≡ set_value (bytes_eq name) inside bytes → after ≡ put name bytes objects
      lent-put bytes written = written ∙ ap (λ es. set_value (bytes_eq name) es bytes) held ∙ put-set_value old bytes objects found

      pub lent-same : (bytes : List ℕ) → after ≡ set_value (bytes_eq name) inside bytes → bytes ≡ old → after ≡ objects
      lent-same bytes written same =
          written ∙ (λ i. set_value (bytes_eq name) (held i) (same i)) ∙ set_value-same old objects found

-- what holds in any case holds at an error
pub on_err : {T E P : Type 0} (r : Result T E) → P → OnErr r P
on_err (Ok x) p = tt
on_err (Err e) p = p
