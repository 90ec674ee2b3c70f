-- What stands under a name, in lists that are alike but for what is read of their elements.
use Rattle.std.proofs.Common.{◌≡◌, ℕ, Bool, true, false, ◌||◌, List, [], ◌∷◌, ◌++◌, map, cond, bytes_eq, flat_map, Option, None, Some, option_map, refl, sym, ap, ◌∙◌}
use Rattle.std.proofs.lemmas.Bool.{or_left, or_right}
use Rattle.std.proofs.lemmas.Option.{same_Some, none-some}
use Rattle.store_map.specs.PlainMap.{Objects, bytes_of}
use Rattle.store_core.specs.Lists.{is_among}
use Rattle.store_core.specs.Directory.{Object}
use Rattle.store_core.specs.Lookups.{find_object}
use Rattle.session_rules.proofs.Counting.{among_append}

-- what stands under a name
abbrev pub under : {X : Type 0} → List ℕ → List (List ℕ × X) → Option X
under name [] = None
under name (pair ∷ pairs) = cond (bytes_eq name pair.0) (Some pair.1) (under name pairs)

-- of objects, by what is read of them
pub under_objects : {X : Type 0} (f : Object → X) (name : List ℕ) (objects : List Object) →
    under name (map (λ object. let pair : List ℕ × X = (object.name, f object) in pair) objects) ≡ option_map f (find_object name objects)
under_objects f name [] = refl
under_objects {X = X} f name (object ∷ objects) = by (bytes_eq name object.name) (under_objects f name objects)
  where
    by : (b : Bool) → under name (map (λ object. let pair : List ℕ × X = (object.name, f object) in pair) objects) ≡ option_map f (find_object name objects) →
        cond b (Some (f object)) (under name (map (λ object. let pair : List ℕ × X = (object.name, f object) in pair) objects)) ≡ option_map f (cond b (Some object) (find_object name objects))
    by true rest = refl
    by false rest = rest

-- of a map, likewise
pub under_map : {X : Type 0} (f : List ℕ → X) (name : List ℕ) (objects : Objects) →
    under name (map (λ object. let pair : List ℕ × X = (object.0, f object.1) in pair) objects) ≡ option_map f (bytes_of name objects)
under_map f name [] = refl
under_map {X = X} f name (object ∷ objects) = by (bytes_eq name object.0) (under_map f name objects)
  where
    by : (b : Bool) → under name (map (λ object. let pair : List ℕ × X = (object.0, f object.1) in pair) objects) ≡ option_map f (bytes_of name objects) →
        cond b (Some (f object.1)) (under name (map (λ object. let pair : List ℕ × X = (object.0, f object.1) in pair) objects)) ≡ option_map f (cond b (Some object.1) (bytes_of name objects))
    by true rest = refl
    by false rest = rest

-- there is something where there is something alike
pub is_some_by : {X Y : Type 0} (f : X → Y) (found : Option X) (y : Y) → option_map f found ≡ Some y → (x : X) × (found ≡ Some x) × (f x ≡ y)
is_some_by f None y e = absurd (none-some y e)
is_some_by f (Some x) y e = (x, refl, same_Some (f x) y e)

pub is_none_by : {X Y : Type 0} (f : X → Y) (found : Option X) → option_map f found ≡ None → found ≡ None
is_none_by f None e = refl
is_none_by f (Some x) e = absurd (none-some (f x) (sym e))

-- a number of an object is among all
pub among_all : (name : List ℕ) (numbers : List ℕ) (n : ℕ) (objects : Objects) → bytes_of name objects ≡ Some numbers → is_among n numbers ≡ true →
    is_among n (flat_map (λ object. object.1) objects) ≡ true
among_all name numbers n [] found here = absurd (none-some numbers found)
among_all name numbers n (object ∷ objects) found here = by (bytes_eq name object.0) found (among_all name numbers n objects)
  where
    joined : is_among n (object.1 ++ flat_map (λ object. object.1) objects) ≡ (is_among n object.1 || is_among n (flat_map (λ object. object.1) objects))
    joined = among_append n object.1 (flat_map (λ object. object.1) objects)

    by : (b : Bool) → cond b (Some object.1) (bytes_of name objects) ≡ Some numbers →
        (bytes_of name objects ≡ Some numbers → is_among n numbers ≡ true → is_among n (flat_map (λ object. object.1) objects) ≡ true) →
        is_among n (object.1 ++ flat_map (λ object. object.1) objects) ≡ true
    by true e rest = joined ∙ or_left (is_among n object.1) (is_among n (flat_map (λ object. object.1) objects)) (ap (is_among n) (same_Some object.1 numbers e) ∙ here)
    by false e rest = joined ∙ or_right (is_among n object.1) (is_among n (flat_map (λ object. object.1) objects)) (rest e here)
