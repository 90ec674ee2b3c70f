-- What objects' versions stand for and what the map's bytes are cut into, as lists by name: put, deleted and found alike.
use Rattle.std.proofs.Common.{◌≡◌, ℕ, ◌<◌, Bool, true, false, cond, List, [], ◌∷◌, ◌++◌, length, get_or, map, Option, None, Some, option_map, All, bytes_eq, refl, ap}
use Rattle.std.proofs.lemmas.List.{get_or_append_left}
use Rattle.std.proofs.lemmas.List.Elements.{All-head, All-tail}
use Rattle.clay_grid.specs.Shape.{Shape}
use Rattle.clay_model.specs.Code.{stripes_of}
use Rattle.store_map.specs.PlainMap.{Objects, bytes_of, put, delete}
use Rattle.store_core.specs.Directory.{Object}
use Rattle.store_core.specs.Lookups.{find_object}
use Rattle.store_core.specs.Look.{remove_object}
use Rattle.store_core.specs.Commit.{put_object}
use Rattle.run_laws.proofs.SoundHistory.{same_name}
use Rattle.run_laws.specs.Contents.{stripes_in, stored_in}

-- stripes by name
abbrev pub Entries : Type 0
Entries = List (List ℕ × List (List ℕ))

-- the stripes with this name
abbrev pub entry_of : List ℕ → Entries → Option (List (List ℕ))
entry_of name [] = None
entry_of name (entry ∷ entries) = cond {A = Option (List (List ℕ))} (bytes_eq name entry.0) (Some entry.1) (entry_of name entries)

-- they get a value
abbrev pub put_entry : List ℕ → List (List ℕ) → Entries → Entries
put_entry name stripes [] = (name, stripes) ∷ []
put_entry name stripes (entry ∷ entries) = cond {A = Entries} (bytes_eq name entry.0) ((entry.0, stripes) ∷ entries) (entry ∷ put_entry name stripes entries)

-- they go
abbrev pub delete_entry : List ℕ → Entries → Entries
delete_entry name [] = []
delete_entry name (entry ∷ entries) = cond {A = Entries} (bytes_eq name entry.0) entries (entry ∷ delete_entry name entries)

-- ---- the objects
module _ (contents : List (List ℕ)) where
  -- a version's content
  abbrev pub at : ℕ → List ℕ
  at version = get_or contents version []

  -- after a put
  pub stored_put : (new : Object) (objects : List Object) → stored_in contents (put_object new objects) ≡ put_entry new.name (map at new.versions) (stored_in contents objects)
  stored_put new [] = refl
  stored_put new (object ∷ objects) = by (stored_put new objects) (bytes_eq new.name object.name) refl
    where
      by : stored_in contents (put_object new objects) ≡ put_entry new.name (map at new.versions) (stored_in contents objects) → (b : Bool) → bytes_eq new.name object.name ≡ b
          → stored_in contents (cond {A = List Object} b (new ∷ objects) (object ∷ put_object new objects))
          ≡ cond {A = Entries} b ((object.name, map at new.versions) ∷ stored_in contents objects)
          ((object.name, map at object.versions) ∷ put_entry new.name (map at new.versions) (stored_in contents objects))
      by rest true same = ap (λ (n : List ℕ). (n, map at new.versions) ∷ stored_in contents objects) (same_name new.name object.name same)
      by rest false same = ap (λ (l : Entries). (object.name, map at object.versions) ∷ l) rest

  -- after a removal
  pub stored_removed : (name : List ℕ) (objects : List Object) → stored_in contents (remove_object name objects) ≡ delete_entry name (stored_in contents objects)
  stored_removed name [] = refl
  stored_removed name (object ∷ objects) = by (stored_removed name objects) (bytes_eq name object.name)
    where
      by : stored_in contents (remove_object name objects) ≡ delete_entry name (stored_in contents objects) → (b : Bool)
          → stored_in contents (cond {A = List Object} b objects (object ∷ remove_object name objects))
          ≡ cond {A = Entries} b (stored_in contents objects) ((object.name, map at object.versions) ∷ delete_entry name (stored_in contents objects))
      by rest true = refl
      by rest false = ap (λ (l : Entries). (object.name, map at object.versions) ∷ l) rest

  -- what is found
  pub stored_found : (name : List ℕ) (objects : List Object) → entry_of name (stored_in contents objects) ≡ option_map (λ (object : Object). map at object.versions) (find_object name objects)
  stored_found name [] = refl
  stored_found name (object ∷ objects) = by (stored_found name objects) (bytes_eq name object.name)
    where
      by : entry_of name (stored_in contents objects) ≡ option_map (λ (object : Object). map at object.versions) (find_object name objects) → (b : Bool)
          → cond {A = Option (List (List ℕ))} b (Some (map at object.versions)) (entry_of name (stored_in contents objects))
          ≡ option_map (λ (object : Object). map at object.versions) (cond {A = Option Object} b (Some object) (find_object name objects))
      by rest true = refl
      by rest false = rest

-- ---- more contents
-- equal functions of all elements
pub map_same : {X Y : Type 0} (f h : X → Y) (xs : List X) → All (λ x. f x ≡ h x) xs → map f xs ≡ map h xs
map_same f h [] all = refl
map_same f h (x ∷ xs) all = (λ i. (All-head (λ y. f y ≡ h y) x xs all) i ∷ (map_same f h xs (All-tail (λ y. f y ≡ h y) x xs all)) i)

-- versions that are there stand for what they stood for
pub map_grown : (contents more : List (List ℕ)) (versions : List ℕ) → All (λ n. n < length contents) versions → map (at (contents ++ more)) versions ≡ map (at contents) versions
map_grown contents more versions within =
    map_same (at (contents ++ more)) (at contents) versions (λ k d less. get_or_append_left contents more [] (get_or versions k d) (within k d less))

-- so do objects
pub stored_grown : (contents more : List (List ℕ)) (objects : List Object) → All (λ (object : Object). All (λ n. n < length contents) object.versions) objects
    → stored_in (contents ++ more) objects ≡ stored_in contents objects
stored_grown contents more objects within =
    map_same (λ (object : Object). (object.name, map (at (contents ++ more)) object.versions)) (λ (object : Object). (object.name, map (at contents) object.versions)) objects
    (λ k d less. ap (λ (l : List (List ℕ)). ((get_or objects k d).name, l)) (map_grown contents more (get_or objects k d).versions (within k d less)))

-- ---- the map
module _ (g : Shape) where
  -- after a put
  pub cut_put : (name bytes : List ℕ) (objects : Objects) → stripes_in g (put name bytes objects) ≡ put_entry name (stripes_of g bytes) (stripes_in g objects)
  cut_put name bytes [] = refl
  cut_put name bytes (object ∷ others) = by (cut_put name bytes others) (bytes_eq name object.0)
    where
      by : stripes_in g (put name bytes others) ≡ put_entry name (stripes_of g bytes) (stripes_in g others) → (b : Bool)
          → stripes_in g (cond {A = Objects} b ((object.0, bytes) ∷ others) (object ∷ put name bytes others))
          ≡ cond {A = Entries} b ((object.0, stripes_of g bytes) ∷ stripes_in g others) ((object.0, stripes_of g object.1) ∷ put_entry name (stripes_of g bytes) (stripes_in g others))
      by rest true = refl
      by rest false = ap (λ (l : Entries). (object.0, stripes_of g object.1) ∷ l) rest

  -- after a delete
  pub cut_deleted : (name : List ℕ) (objects : Objects) → stripes_in g (delete name objects) ≡ delete_entry name (stripes_in g objects)
  cut_deleted name [] = refl
  cut_deleted name (object ∷ others) = by (cut_deleted name others) (bytes_eq name object.0)
    where
      by : stripes_in g (delete name others) ≡ delete_entry name (stripes_in g others) → (b : Bool)
          → stripes_in g (cond {A = Objects} b others (object ∷ delete name others))
          ≡ cond {A = Entries} b (stripes_in g others) ((object.0, stripes_of g object.1) ∷ delete_entry name (stripes_in g others))
      by rest true = refl
      by rest false = ap (λ (l : Entries). (object.0, stripes_of g object.1) ∷ l) rest

  -- what is found
  pub cut_found : (name : List ℕ) (objects : Objects) → entry_of name (stripes_in g objects) ≡ option_map (λ (bytes : List ℕ). stripes_of g bytes) (bytes_of name objects)
  cut_found name [] = refl
  cut_found name (object ∷ others) = by (cut_found name others) (bytes_eq name object.0)
    where
      by : entry_of name (stripes_in g others) ≡ option_map (λ (bytes : List ℕ). stripes_of g bytes) (bytes_of name others) → (b : Bool)
          → cond {A = Option (List (List ℕ))} b (Some (stripes_of g object.1)) (entry_of name (stripes_in g others))
          ≡ option_map (λ (bytes : List ℕ). stripes_of g bytes) (cond {A = Option (List ℕ)} b (Some object.1) (bytes_of name others))
      by rest true = refl
      by rest false = rest
