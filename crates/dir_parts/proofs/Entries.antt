-- The versions and the counts of pins of entries, one of which is changed.
use Rattle.std.proofs.Common.{◌≡◌, ℕ, zero, suc, ◌+◌, ◌<◌, length, drop, get_or, arith, List, [], ◌∷◌, map, set, None, Some, slice_get, refl, sym, ap, ◌∙◌}
use Rattle.std.proofs.lemmas.Option.{same_Some, none-some}
use Rattle.store_core.specs.Lists.{change_at}

-- what is read of the elements changes at that place alone
pub map-change_at : {X Y : Type 0} (g : X → Y) (i : ℕ) (f : X → X) (h : Y → Y) (xs : List X) → ((x : X) → slice_get xs i ≡ Some x → g (f x) ≡ h (g x))
    → map g (change_at i f xs) ≡ change_at i h (map g xs)
map-change_at g i f h [] same = refl
map-change_at g zero f h (x ∷ xs) same = ap (λ y. y ∷ map g xs) (same x refl)
map-change_at g (suc i) f h (x ∷ xs) same = ap (λ ys. g x ∷ ys) (map-change_at g i f h xs (λ y e. same y e))

-- nothing where what is read stays
pub map-change_same : {X Y : Type 0} (g : X → Y) (i : ℕ) (f : X → X) (xs : List X) → ((x : X) → slice_get xs i ≡ Some x → g (f x) ≡ g x)
    → map g (change_at i f xs) ≡ map g xs
map-change_same g i f [] same = refl
map-change_same g zero f (x ∷ xs) same = ap (λ y. y ∷ map g xs) (same x refl)
map-change_same g (suc i) f (x ∷ xs) same = ap (λ ys. g x ∷ ys) (map-change_same g i f xs (λ y e. same y e))

-- what is found of what is read
pub slice_get-map : {X Y : Type 0} (g : X → Y) (xs : List X) (i : ℕ) (x : X) → slice_get xs i ≡ Some x → slice_get (map g xs) i ≡ Some (g x)
slice_get-map g [] i x e = absurd (none-some x e)
slice_get-map g (y ∷ xs) zero x e = ap (λ z. Some (g z)) (same_Some y x e)
slice_get-map g (y ∷ xs) (suc i) x e = slice_get-map g xs i x e

pub slice_get-map_none : {X Y : Type 0} (g : X → Y) (xs : List X) (i : ℕ) → slice_get xs i ≡ None → slice_get (map g xs) i ≡ None
slice_get-map_none g [] i e = refl
slice_get-map_none g (y ∷ xs) zero e = absurd (none-some y (sym e))
slice_get-map_none g (y ∷ xs) (suc i) e = slice_get-map_none g xs i e

-- the next element and the rest
pub drop-next : {X : Type 0} (xs : List X) (i : ℕ) (d : X) → i < length xs → drop i xs ≡ get_or xs i d ∷ drop (i + 1) xs
drop-next [] i d h = absurd (omega arith)
drop-next (x ∷ xs) zero d h = refl
drop-next (x ∷ xs) (suc i) d h =
    let later : suc (i + 1) ≡ suc i + 1 = omega arith in
    drop-next xs i d (omega arith) ∙ ap (λ k. get_or xs i d ∷ drop k (x ∷ xs)) later

-- what is read where one element is another
pub map-set : {X Y : Type 0} (g : X → Y) (h : Y → Y) (xs : List X) (i : ℕ) (x y : X) → i < length xs → x ≡ get_or xs i x → g y ≡ h (g x) → map g (set xs i y) ≡ change_at i h (map g xs)
map-set g h [] i x y less read same = absurd (omega arith)
map-set g h (z ∷ xs) zero x y less read same = ap (λ w. w ∷ map g xs) (same ∙ ap (λ w. h (g w)) read)
map-set g h (z ∷ xs) (suc i) x y less read same = ap (λ l. g z ∷ l) (map-set g h xs i x y (omega arith) read same)
