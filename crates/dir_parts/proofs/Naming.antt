-- The points and the names after one more name.
use Rattle.std.proofs.Common.{◌≡◌, ◌⊎◌, ℕ, zero, suc, ◌+◌, ◌<◌, Bool, true, false, cond, ◌&&◌, bytes_eq, List, [], ◌∷◌, ◌++◌, length, map, get_or, Option, None, Some, is_some, All, Contains, refl, sym, ap, ◌∙◌, inl, inr, arith, length-append}
use Rattle.std.proofs.Math.ListN.{get_or-append}
use Rattle.std.proofs.lemmas.Bool.{false≢true, cases_Bool}
use Rattle.std.proofs.lemmas.List.Elements.{All-head, All-tail}
use Rattle.std.proofs.lemmas.Slice.Eq.{bytes_eq-Decides}
use Rattle.std.specs.Map.{lookup, keys_of}
use Rattle.store_core.specs.Lookups.{is_change}
use Rattle.dir_parts.specs.PointLog.{point_in}
use Rattle.dir_parts.specs.declared.history.PointRow.{PointRow}
use Rattle.dir_parts.proofs.LogSteps.{is_there, last_from}

pub keys-push : {X : Type 0} (entries : List (List ℕ × X)) (name : List ℕ) (x : X) → keys_of (entries ++ (name, x) ∷ []) ≡ keys_of entries ++ name ∷ []
keys-push [] name x = refl
keys-push (entry ∷ entries) name x = ap (λ ks. entry.0 ∷ ks) (keys-push entries name x)

-- the points keep their names
pub points-named : (names : List (List ℕ)) (name : List ℕ) (entries : List PointRow) → All (λ entry. entry.name < length names) entries → map (point_in (names ++ name ∷ [])) entries ≡ map (point_in names) entries
points-named names name [] all = refl
points-named names name (entry ∷ entries) all =
    λ i. record (point_in names entry) { note = record { kind = (point_in names entry).note.kind; name = same i; offset = entry.offset; length = entry.length } } ∷ points-named names name entries (All-tail (λ (e : PointRow). e.name < length names) entry entries all) i
  where
    same : get_or (names ++ name ∷ []) entry.name [] ≡ get_or names entry.name []
    same = get_or-append names (name ∷ []) [] entry.name (All-head (λ (e : PointRow). e.name < length names) entry entries all)

-- inside a list the value for past its end doesn't matter
get_or_any : {X : Type 0} (xs : List X) (k : ℕ) (d e : X) → k < length xs → get_or xs k d ≡ get_or xs k e
get_or_any [] k d e less = absurd (let no : k < 0 = less in omega (arith, no))
get_or_any (x ∷ xs) zero d e less = refl
get_or_any (x ∷ xs) (suc k) d e less = get_or_any xs k d e (let h : suc k < suc (length xs) = less in omega (arith, h))

-- a name that isn't there is no point's
apart_from : {X : Type 0} (name : List ℕ) (entries : List (List ℕ × X)) → lookup (bytes_eq name) entries ≡ None → (k : ℕ) → k < length (keys_of entries) → bytes_eq name (get_or (keys_of entries) k []) ≡ false
apart_from {X} name entries none k less = by (cases_Bool (bytes_eq name (get_or (keys_of entries) k [])))
  where
    by : (bytes_eq name (get_or (keys_of entries) k []) ≡ true) ⊎ (bytes_eq name (get_or (keys_of entries) k []) ≡ false) → bytes_eq name (get_or (keys_of entries) k []) ≡ false
    by (inr h) = h
    by (inl h) =
        let same : get_or (keys_of entries) k [] ≡ name = sym ((bytes_eq-Decides name (get_or (keys_of entries) k [])).0 h) in
        let there : Contains (keys_of entries) name = (k, less, get_or_any (keys_of entries) k name [] less ∙ same) in
        absurd (false≢true (sym (ap is_some none) ∙ is_there name entries there))

pub none_changed : {X : Type 0} (name : List ℕ) (known : List (List ℕ × X)) → lookup (bytes_eq name) known ≡ None → (start : ℕ) (entries : List PointRow) → All (λ entry. entry.name < length (keys_of known)) entries
    → last_from name start None (map (point_in (keys_of known)) entries) ≡ None
none_changed name known none start [] all = refl
none_changed name known none start (entry ∷ entries) all =
    ap (λ b. last_from name (start + 1) (cond {A = Option ℕ} (b && is_change (point_in (keys_of known) entry).event) (Some start) None) (map (point_in (keys_of known)) entries))
    (apart_from name known none entry.name (All-head (λ (e : PointRow). e.name < length (keys_of known)) entry entries all))
    ∙ none_changed name known none (start + 1) entries (All-tail (λ (e : PointRow). e.name < length (keys_of known)) entry entries all)

-- what is there stays there
pub contains-push : {X : Type 0} (xs : List X) (x y : X) → Contains xs y → Contains (xs ++ x ∷ []) y
contains-push xs x y c = (c.0, (let less : c.0 < length xs = c.1 in omega (arith, less, length-append xs (x ∷ []))), get_or-append xs (x ∷ []) y c.0 c.1 ∙ c.2)

-- what is found is there
pub there_in : {X : Type 0} (name : List ℕ) (entries : List (List ℕ × X)) → is_some (lookup (bytes_eq name) entries) ≡ true → Contains (keys_of entries) name
there_in name [] h = absurd (false≢true h)
there_in {X} name (entry ∷ entries) h = by (bytes_eq name entry.0) refl (there_in name entries) h
  where
    by : (b : Bool) → bytes_eq name entry.0 ≡ b → (is_some (lookup (bytes_eq name) entries) ≡ true → Contains (keys_of entries) name) → is_some (cond {A = Option X} b (Some entry.1) (lookup (bytes_eq name) entries)) ≡ true → Contains (entry.0 ∷ keys_of entries) name
    by true e rest h = (0, omega arith, sym ((bytes_eq-Decides name entry.0).0 e))
    by false e rest h =
        let c : Contains (keys_of entries) name = rest h in
        (suc c.0, (let less : c.0 < length (keys_of entries) = c.1 in omega (arith, less)), c.2)

pub none_is : {X : Type 0} (o : Option X) → is_some o ≡ false → o ≡ None
none_is None h = refl
none_is (Some x) h = absurd (false≢true (sym h))

pub contains-last : {X : Type 0} (xs : List X) (x : X) → Contains (xs ++ x ∷ []) x
contains-last {X} xs x = (length xs, omega (arith, length-append xs (x ∷ [])), last xs)
  where
    last : (ys : List X) → get_or (ys ++ x ∷ []) (length ys) x ≡ x
    last [] = refl
    last (y ∷ ys) = last ys
