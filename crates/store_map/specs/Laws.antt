-- What the plain map's definitions say of it.
use Rattle.std.specs.Prelude.{◌≡◌, ◌≢◌, ℕ, ◌≤◌, List, ◌++◌, length, map, All, bytes_eq, None, Some}
use Rattle.std.specs.List.{IsDistinct}
use Rattle.store_map.specs.PlainMap.{Objects, bytes_of, put, delete}
use Rattle.store_map.specs.History.{apply_all, replies_from, map_after, replies_of}
use Rattle.store_map.specs.declared.call.Call.{Call}

-- the objects' names in order
abbrev pub names_of : Objects → List (List ℕ)
names_of objects = map (λ object. object.0) objects

-- no name stands twice, and no object has more than max bytes
pub record IsMap (max : ℕ) (objects : Objects) : Type 0 where
  pub names : IsDistinct bytes_eq (names_of objects)
  pub lengths : All (λ object. length object.1 ≤ max) objects

-- so it is of each map that calls lead to
abbrev pub CallsLeadToMaps : Type 0
CallsLeadToMaps = (max : ℕ) (calls : List Call) → IsMap max (map_after max calls)

-- a put or a delete changes what one name finds, and no other
pub record ChangesOneName : Type 0 where
  pub after_put : (name bytes : List ℕ) (objects : Objects) → bytes_of name (put name bytes objects) ≡ Some bytes
  pub others_after_put : (name other bytes : List ℕ) (objects : Objects) → other ≢ name → bytes_of other (put name bytes objects) ≡ bytes_of other objects
  pub after_delete : (name : List ℕ) (objects : Objects) → IsDistinct bytes_eq (names_of objects) → bytes_of name (delete name objects) ≡ None
  pub others_after_delete : (name other : List ℕ) (objects : Objects) → other ≢ name → bytes_of other (delete name objects) ≡ bytes_of other objects

-- calls that follow others begin with the map that those leave
pub record GoesOn (max : ℕ) (first rest : List Call) : Type 0 where
  pub objects : map_after max (first ++ rest) ≡ apply_all max rest (map_after max first)
  pub replies : replies_of max (first ++ rest) ≡ replies_of max first ++ replies_from max rest (map_after max first)

-- so it is of all calls
abbrev pub CallsGoOn : Type 0
CallsGoOn = (max : ℕ) (first rest : List Call) → GoesOn max first rest
