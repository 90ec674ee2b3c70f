-- The objects after one is put or removed, place by place, and their lengths.
use Rattle.std.proofs.Common.{◌≡◌, ℕ, zero, suc, ◌<◌, ◌≤◌, Bool, true, false, cond, List, [], ◌∷◌, map, slice_get, Option, None, Some, option_map, bytes_eq, refl, sym, ap, ◌∙◌, arith}
use Rattle.std.proofs.lemmas.Bool.{cond-false}
use Rattle.store_core.specs.Directory.{Object}
use Rattle.store_core.specs.Lookups.{find_object}
use Rattle.store_core.specs.Look.{remove_object}
use Rattle.store_core.specs.Commit.{put_object}
use Rattle.store_core.specs.Lengths.{Lengths, length_in, put_length, delete_length}
use Rattle.run_laws.proofs.SoundHistory.{same_name}

-- some objects' names and lengths
abbrev pub lengths_in : List Object → Lengths
lengths_in objects = map (λ object. (object.name, object.length)) objects

-- ---- an object put in the place of another, or at the end
pub record PutAt (objects result : List Object) (found : Option Object) (new : Object) : Type 0 where
  pub place : ℕ
  pub was : slice_get objects place ≡ found
  pub here : slice_get result place ≡ Some new
  pub other : (i : ℕ) → (i ≡ place → ⊥) → slice_get result i ≡ slice_get objects i

-- each put is such a one
pub put_at : (new : Object) (objects : List Object) → PutAt objects (put_object new objects) (find_object new.name objects) new
put_at new [] = record { place = 0; was = refl; here = refl; other = none }
  where
    none : (i : ℕ) → (i ≡ 0 → ⊥) → slice_get (new ∷ []) i ≡ None
    none zero apart = absurd (apart refl)
    none (suc i) apart = refl
put_at new (object ∷ objects) = by (put_at new objects) (bytes_eq new.name object.name)
  where
    by : PutAt objects (put_object new objects) (find_object new.name objects) new → (b : Bool)
        → PutAt (object ∷ objects) (cond {A = List Object} b (new ∷ objects) (object ∷ put_object new objects)) (cond {A = Option Object} b (Some object) (find_object new.name objects)) new
    by rest true = record { place = 0; was = refl; here = refl; other = none }
      where
        none : (i : ℕ) → (i ≡ 0 → ⊥) → slice_get (new ∷ objects) i ≡ slice_get (object ∷ objects) i
        none zero apart = absurd (apart refl)
        none (suc i) apart = refl
    by rest false = record { place = suc rest.place; was = rest.was; here = rest.here; other = later }
      where
        later : (i : ℕ) → (i ≡ suc rest.place → ⊥) → slice_get (object ∷ put_object new objects) i ≡ slice_get (object ∷ objects) i
        later zero apart = refl
        later (suc i) apart = rest.other i (λ e. apart (ap suc e))

-- ---- an object removed
pub record RemovedAt (objects result : List Object) (found : Option Object) : Type 0 where
  pub place : ℕ
  pub was : slice_get objects place ≡ found
  pub before : (i : ℕ) → i < place → slice_get result i ≡ slice_get objects i
  pub after : (i : ℕ) → place ≤ i → slice_get result i ≡ slice_get objects (suc i)

-- each removal is such a one
pub removed_at : (name : List ℕ) (objects : List Object) → RemovedAt objects (remove_object name objects) (find_object name objects)
removed_at name [] = record { place = 0; was = refl; before = λ i less. absurd (omega (arith, less)); after = λ i more. refl }
removed_at name (object ∷ objects) = by (removed_at name objects) (bytes_eq name object.name)
  where
    by : RemovedAt objects (remove_object name objects) (find_object name objects) → (b : Bool)
        → RemovedAt (object ∷ objects) (cond {A = List Object} b objects (object ∷ remove_object name objects)) (cond {A = Option Object} b (Some object) (find_object name objects))
    by rest true = record { place = 0; was = refl; before = λ i less. absurd (omega (arith, less)); after = λ i more. refl }
    by rest false = record { place = suc rest.place; was = rest.was; before = earlier; after = later }
      where
        earlier : (i : ℕ) → i < suc rest.place → slice_get (object ∷ remove_object name objects) i ≡ slice_get (object ∷ objects) i
        earlier zero less = refl
        earlier (suc i) less = rest.before i (omega (arith, less))

        later : (i : ℕ) → suc rest.place ≤ i → slice_get (object ∷ remove_object name objects) i ≡ slice_get (object ∷ objects) (suc i)
        later zero more = absurd (omega (arith, more))
        later (suc i) more = rest.after i (omega (arith, more))

-- ---- objects of other names
-- after a put
pub found_after_put : (name : List ℕ) (new : Object) (objects : List Object) → bytes_eq name new.name ≡ false → find_object name (put_object new objects) ≡ find_object name objects
found_after_put name new [] apart = cond-false (bytes_eq name new.name) (Some new) None apart
found_after_put name new (object ∷ objects) apart = by (found_after_put name new objects apart) (bytes_eq new.name object.name) refl
  where
    by : find_object name (put_object new objects) ≡ find_object name objects → (b : Bool) → bytes_eq new.name object.name ≡ b
        → find_object name (cond {A = List Object} b (new ∷ objects) (object ∷ put_object new objects)) ≡ find_object name (object ∷ objects)
    by rest true same =
        let far : bytes_eq name object.name ≡ false = sym (ap (bytes_eq name) (same_name new.name object.name same)) ∙ apart in
        cond-false (bytes_eq name new.name) (Some new) (find_object name objects) apart ∙ sym (cond-false (bytes_eq name object.name) (Some object) (find_object name objects) far)
    by rest false same = ap (λ o. cond {A = Option Object} (bytes_eq name object.name) (Some object) o) rest

-- after a removal
pub found_after_removal : (name other : List ℕ) (objects : List Object) → bytes_eq name other ≡ false → find_object name (remove_object other objects) ≡ find_object name objects
found_after_removal name other [] apart = refl
found_after_removal name other (object ∷ objects) apart = by (found_after_removal name other objects apart) (bytes_eq other object.name) refl
  where
    by : find_object name (remove_object other objects) ≡ find_object name objects → (b : Bool) → bytes_eq other object.name ≡ b
        → find_object name (cond {A = List Object} b objects (object ∷ remove_object other objects)) ≡ find_object name (object ∷ objects)
    by rest true same =
        let far : bytes_eq name object.name ≡ false = sym (ap (bytes_eq name) (same_name other object.name same)) ∙ apart in
        sym (cond-false (bytes_eq name object.name) (Some object) (find_object name objects) far)
    by rest false same = ap (λ o. cond {A = Option Object} (bytes_eq name object.name) (Some object) o) rest

-- ---- names and lengths
-- an object's length is the one of its name
pub length_found : (name : List ℕ) (objects : List Object) → option_map (λ (object : Object). object.length) (find_object name objects) ≡ length_in name (lengths_in objects)
length_found name [] = refl
length_found name (object ∷ objects) = by (length_found name objects) (bytes_eq name object.name)
  where
    by : option_map (λ (object : Object). object.length) (find_object name objects) ≡ length_in name (lengths_in objects) → (b : Bool)
        → option_map (λ (object : Object). object.length) (cond {A = Option Object} b (Some object) (find_object name objects)) ≡ cond {A = Option ℕ} b (Some object.length) (length_in name (lengths_in objects))
    by rest true = refl
    by rest false = rest

-- the lengths after a put
pub lengths_put : (new : Object) (objects : List Object) → lengths_in (put_object new objects) ≡ put_length new.name new.length (lengths_in objects)
lengths_put new [] = refl
lengths_put new (object ∷ objects) = by (lengths_put new objects) (bytes_eq new.name object.name) refl
  where
    by : lengths_in (put_object new objects) ≡ put_length new.name new.length (lengths_in objects) → (b : Bool) → bytes_eq new.name object.name ≡ b
        → lengths_in (cond {A = List Object} b (new ∷ objects) (object ∷ put_object new objects))
        ≡ cond {A = Lengths} b ((object.name, new.length) ∷ lengths_in objects) ((object.name, object.length) ∷ put_length new.name new.length (lengths_in objects))
    by rest true same = ap (λ (n : List ℕ). (n, new.length) ∷ lengths_in objects) (same_name new.name object.name same)
    by rest false same = ap (λ l. (object.name, object.length) ∷ l) rest

-- the lengths after a removal
pub lengths_removed : (name : List ℕ) (objects : List Object) → lengths_in (remove_object name objects) ≡ delete_length name (lengths_in objects)
lengths_removed name [] = refl
lengths_removed name (object ∷ objects) = by (lengths_removed name objects) (bytes_eq name object.name)
  where
    by : lengths_in (remove_object name objects) ≡ delete_length name (lengths_in objects) → (b : Bool)
        → lengths_in (cond {A = List Object} b objects (object ∷ remove_object name objects)) ≡ cond {A = Lengths} b (lengths_in objects) ((object.name, object.length) ∷ delete_length name (lengths_in objects))
    by rest true = refl
    by rest false = ap (λ l. (object.name, object.length) ∷ l) rest
