-- The points and the names after one more point.
use Rattle.std.proofs.Common.{◌≡◌, ◌⊎◌, ℕ, zero, suc, ◌+◌, ◌<◌, Bool, true, false, cond, ◌&&◌, nat_lt, bytes_eq, List, [], ◌∷◌, ◌++◌, length, get_or, find, fold, position, Option, None, Some, is_some, All, Contains, refl, sym, ap, subst, ◌∙◌, inl, inr, arith, true≢false}
use Rattle.std.proofs.lemmas.Bool.{false≢true, cases_Bool, ltb-true}
use Rattle.std.proofs.lemmas.Option.{none-some, same_Some, slice_get-get_or}
use Rattle.std.proofs.lemmas.List.Folds.{find_at}
use Rattle.std.proofs.lemmas.List.Elements.{All-head, All-tail, All-cons}
use Rattle.std.proofs.lemmas.Slice.Eq.{bytes_eq-Decides}
use Rattle.std.specs.List.{enumerate_from, IsDistinct, AllByRecursion, position_or_len}
use Rattle.std.specs.Map.{lookup, keys_of}
use Rattle.indexmap.specs.IndexMap.{set_value_at}
use Rattle.store_core.specs.Directory.{Point}
use Rattle.store_core.specs.Lookups.{last_change, is_change}
use Rattle.dir_parts.proofs.Actors.{find_passes}

-- a name that is there is found
pub is_there : {X : Type 0} (name : List ℕ) (entries : List (List ℕ × X)) → Contains (keys_of entries) name → is_some (lookup (bytes_eq name) entries) ≡ true
is_there name [] c = absurd (let no : c.0 < 0 = c.1 in omega (arith, no))
is_there {X} name (entry ∷ entries) c = by (bytes_eq name entry.0) refl (is_there name entries) c
  where
    by : (b : Bool) → bytes_eq name entry.0 ≡ b → (Contains (keys_of entries) name → is_some (lookup (bytes_eq name) entries) ≡ true) → Contains (keys_of (entry ∷ entries)) name
        → is_some (cond {A = Option X} b (Some entry.1) (lookup (bytes_eq name) entries)) ≡ true
    by true e rest c = refl
    by false e rest c = at c.0 c.1 c.2
      where
        at : (k : ℕ) → k < suc (length (keys_of entries)) → get_or (entry.0 ∷ keys_of entries) k name ≡ name → is_some (lookup (bytes_eq name) entries) ≡ true
        at zero less is = absurd (true≢false (sym ((bytes_eq-Decides name entry.0).1 (sym is)) ∙ e))
        at (suc k) less is = rest (k, omega arith, is)

-- where a search says, the name stands
pub stands_at : (name : List ℕ) (names : List (List ℕ)) (at : ℕ) → position (bytes_eq name) names ≡ Some at → get_or names at [] ≡ name
stands_at name names at is = by (nat_lt (position_or_len (bytes_eq name) names) (length names)) refl is
  where
    by : (b : Bool) → nat_lt (position_or_len (bytes_eq name) names) (length names) ≡ b → cond {A = Option ℕ} b (Some (position_or_len (bytes_eq name) names)) None ≡ Some at → get_or names at [] ≡ name
    by false e h = absurd (none-some at h)
    by true e h =
        let within : position_or_len (bytes_eq name) names < length names = ltb-true _ _ e in
        let here : find (bytes_eq name) names ≡ Some (get_or names (position_or_len (bytes_eq name) names) []) = find_at (bytes_eq name) names ∙ slice_get-get_or names (position_or_len (bytes_eq name) names) [] within in
        let same : name ≡ get_or names (position_or_len (bytes_eq name) names) [] = (bytes_eq-Decides name _).0 (find_passes (bytes_eq name) names _ here) in
        ap (λ (k : ℕ). get_or names k []) (sym (same_Some _ at h)) ∙ sym same

-- what holds of each
by_at : {X : Type 0} (P : X → Type 0) (xs : List X) → AllByRecursion P xs → (k : ℕ) (d : X) → k < length xs → P (get_or xs k d)
by_at P [] all k d less = absurd (let no : k < 0 = less in omega (arith, no))
by_at P (x ∷ xs) all zero d less = all.0
by_at P (x ∷ xs) all (suc k) d less = by_at P xs all.1 k d (let h : suc k < suc (length xs) = less in omega (arith, h))

-- two names differ either way
other_way : (a b : List ℕ) → bytes_eq a b ≡ false → bytes_eq b a ≡ false
other_way a b h = by (cases_Bool (bytes_eq b a))
  where
    by : (bytes_eq b a ≡ true) ⊎ (bytes_eq b a ≡ false) → bytes_eq b a ≡ false
    by (inr e) = e
    by (inl e) = absurd (false≢true (sym h ∙ (bytes_eq-Decides a b).1 (sym ((bytes_eq-Decides b a).0 e))))

-- the last change, from a place on
abbrev pub last_from : List ℕ → ℕ → Option ℕ → List Point → Option ℕ
last_from name start found points =
    fold (λ found entry. cond {A = Option ℕ} (bytes_eq name entry.1.note.name && is_change entry.1.event) (Some entry.0) found) found (enumerate_from start points)

last_more : (name : List ℕ) (start : ℕ) (found : Option ℕ) (points : List Point) (point : Point)
    → last_from name start found (points ++ point ∷ []) ≡ cond (bytes_eq name point.note.name && is_change point.event) (Some (start + length points)) (last_from name start found points)
last_more name start found [] point = ap (λ n. cond {A = Option ℕ} (bytes_eq name point.note.name && is_change point.event) (Some n) found) (omega arith)
last_more name start found (first ∷ points) point =
    last_more name (start + 1) (cond (bytes_eq name first.note.name && is_change first.event) (Some start) found) points point
    ∙ ap (λ n. cond {A = Option ℕ} (bytes_eq name point.note.name && is_change point.event) (Some n) (last_from name (start + 1) (cond (bytes_eq name first.note.name && is_change first.event) (Some start) found) points)) shifted
  where
    shifted : start + 1 + length points ≡ start + suc (length points)
    shifted = omega arith

module _ (points : List Point) (point : Point) (changes : is_change point.event ≡ true) where
  last_here : (name : List ℕ) → name ≡ point.note.name → last_change name (points ++ point ∷ []) ≡ Some (length points)
  last_here name same =
      last_more name 0 None points point
      ∙ (λ i. cond {A = Option ℕ} ((bytes_eq-Decides name point.note.name).1 same i && changes i) (Some (0 + length points)) (last_change name points))
      ∙ ap Some (omega arith)

  last_other : (name : List ℕ) → bytes_eq name point.note.name ≡ false → last_change name (points ++ point ∷ []) ≡ last_change name points
  last_other name apart =
      last_more name 0 None points point ∙ ap (λ b. cond {A = Option ℕ} (b && is_change point.event) (Some (0 + length points)) (last_change name points)) apart

  others : (rest : List (List ℕ × Option ℕ)) → AllByRecursion (λ y. bytes_eq point.note.name y ≡ false) (keys_of rest) → All (λ entry. entry.1 ≡ last_change entry.0 points) rest
      → All (λ entry. entry.1 ≡ last_change entry.0 (points ++ point ∷ [])) rest
  others [] apart all = λ k d less. absurd (let no : k < 0 = less in omega (arith, no))
  others (entry ∷ rest) apart all =
      All-cons (λ (entry : List ℕ × Option ℕ). entry.1 ≡ last_change entry.0 (points ++ point ∷ [])) entry rest
      (All-head (λ (entry : List ℕ × Option ℕ). entry.1 ≡ last_change entry.0 points) entry rest all ∙ sym (last_other entry.0 (other_way point.note.name entry.0 apart.0)))
      (others rest apart.1 (All-tail (λ (entry : List ℕ × Option ℕ). entry.1 ≡ last_change entry.0 points) entry rest all))

  -- each name's last change, where the point's name gets the new one
  pub last_kept : (entries : List (List ℕ × Option ℕ)) (at : ℕ) → at < length (keys_of entries) → get_or (keys_of entries) at [] ≡ point.note.name → IsDistinct bytes_eq (keys_of entries)
      → All (λ entry. entry.1 ≡ last_change entry.0 points) entries → All (λ entry. entry.1 ≡ last_change entry.0 (points ++ point ∷ [])) (set_value_at entries at (Some (length points)))
  unfolding IsDistinct
  last_kept [] at within name unique all = absurd (let no : at < 0 = within in omega (arith, no))
  last_kept (entry ∷ entries) zero within name unique all =
      All-cons (λ (entry : List ℕ × Option ℕ). entry.1 ≡ last_change entry.0 (points ++ point ∷ [])) (entry.0, Some (length points)) entries (sym (last_here entry.0 name))
      (others entries (subst (λ (n : List ℕ). AllByRecursion (λ y. bytes_eq n y ≡ false) (keys_of entries)) name unique.0) (All-tail (λ (entry : List ℕ × Option ℕ). entry.1 ≡ last_change entry.0 points) entry entries all))
  last_kept (entry ∷ entries) (suc at) within name unique all =
      let inside : at < length (keys_of entries) = (let h : suc at < suc (length (keys_of entries)) = within in omega (arith, h)) in
      All-cons (λ (entry : List ℕ × Option ℕ). entry.1 ≡ last_change entry.0 (points ++ point ∷ [])) entry (set_value_at entries at (Some (length points)))
      (All-head (λ (entry : List ℕ × Option ℕ). entry.1 ≡ last_change entry.0 points) entry entries all
      ∙ sym (last_other entry.0 (ap (bytes_eq entry.0) (sym name) ∙ by_at (λ (y : List ℕ). bytes_eq entry.0 y ≡ false) (keys_of entries) unique.0 at [] inside)))
      (last_kept entries at inside name unique.1 (All-tail (λ (entry : List ℕ × Option ℕ). entry.1 ≡ last_change entry.0 points) entry entries all))

-- a point that changes no object
pub last_still : (points : List Point) (point : Point) → is_change point.event ≡ false → (name : List ℕ) → last_change name (points ++ point ∷ []) ≡ last_change name points
last_still points point still name =
    last_more name 0 None points point ∙ (λ i. cond {A = Option ℕ} (bytes_eq name point.note.name && still i) (Some (0 + length points)) (last_change name points)) ∙ by (bytes_eq name point.note.name)
  where
    by : (b : Bool) → cond {A = Option ℕ} (b && false) (Some (0 + length points)) (last_change name points) ≡ last_change name points
    by true = refl
    by false = refl

-- the last change that stands with a name
pub found_last : (points : List Point) (name : List ℕ) (known : List (List ℕ × Option ℕ)) (last : Option ℕ) → All (λ entry. entry.1 ≡ last_change entry.0 points) known → lookup (bytes_eq name) known ≡ Some last
    → last ≡ last_change name points
found_last points name [] last all found = absurd (none-some last found)
found_last points name (entry ∷ known) last all found = by (bytes_eq name entry.0) refl (found_last points name known last (All-tail (λ (e : List ℕ × Option ℕ). e.1 ≡ last_change e.0 points) entry known all)) found
  where
    by : (b : Bool) → bytes_eq name entry.0 ≡ b → (lookup (bytes_eq name) known ≡ Some last → last ≡ last_change name points) → cond {A = Option (Option ℕ)} b (Some entry.1) (lookup (bytes_eq name) known) ≡ Some last
        → last ≡ last_change name points
    by true e rest found =
        sym (same_Some entry.1 last found) ∙ All-head (λ (e : List ℕ × Option ℕ). e.1 ≡ last_change e.0 points) entry known all
        ∙ ap (λ n. last_change n points) (sym ((bytes_eq-Decides name entry.0).0 e))
    by false e rest found = rest found
