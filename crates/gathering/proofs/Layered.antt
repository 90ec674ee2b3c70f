-- Lists of layers are below the count of layers.
use Rattle.std.proofs.Common.{◌≡◌, ℕ, zero, suc, ◌+◌, ◌*◌, ◌-◌, ◌<◌, ◌≤◌, nat_lt, max, min, Bool, true, false, cond, List, [], ◌∷◌, ◌++◌, All, filter, refl, sym, ap, subst, ◌∙◌, arith}
use Rattle.std.specs.List.{range_with_len}
use Rattle.std.proofs.lemmas.List.Elements.{All-nil, All-cons, All-filter}
use Rattle.std.proofs.lemmas.Bool.{lt-ltb, le-ltb}
use Rattle.clay_grid.specs.Shape.{Shape, layer_count, chunk_length}
use Rattle.clay_grid.specs.Repair.{all_layers, layers_in_range, repair_layers_of}
use Rattle.store_core.specs.GatheringParts.{layers_for}
use Rattle.run_laws.specs.Stage.{Aim}
use Rattle.run_laws.specs.StageAfter.{wanted_layers}

pub range_more : (a n : ℕ) → range_with_len a (suc n) ≡ range_with_len a n ++ (a + n) ∷ []
range_more a zero = ap (λ (k : ℕ). k ∷ []) (none a)
  where
    none : (a : ℕ) → a ≡ a + 0
    none a = omega arith
range_more a (suc n) = ap (λ (l : List ℕ). a ∷ l) (range_more (a + 1) n ∙ ap (λ (k : ℕ). range_with_len (a + 1) n ++ k ∷ []) (one a n))
  where
    one : (a n : ℕ) → a + 1 + n ≡ a + suc n
    one a n = omega arith

pub range_push : (n : ℕ) → range_with_len 0 (n + 1) ≡ range_with_len 0 n ++ n ∷ []
range_push n = ap (λ (k : ℕ). range_with_len 0 k) (one n) ∙ range_more 0 n ∙ ap (λ (k : ℕ). range_with_len 0 n ++ k ∷ []) (none n)
  where
    one : (n : ℕ) → n + 1 ≡ suc n
    one n = omega arith

    none : (n : ℕ) → 0 + n ≡ n
    none n = omega arith

abbrev pub meets : ℕ → ℕ → ℕ → ℕ → Bool
meets start end width z = nat_lt (max start (z * width)) (min end ((z + 1) * width))

abbrev pub layers_below : ℕ → ℕ → ℕ → ℕ → List ℕ
layers_below start end width n = filter (λ z. meets start end width z) (range_with_len 0 n)

filter_push : (f : ℕ → Bool) (xs : List ℕ) (x : ℕ) → filter f (xs ++ x ∷ []) ≡ filter f xs ++ filter f (x ∷ [])
filter_push f [] x = refl
filter_push f (y ∷ xs) x = by (f y) (filter_push f xs x)
  where
    by : (b : Bool) → filter f (xs ++ x ∷ []) ≡ filter f xs ++ filter f (x ∷ [])
        → cond b (y ∷ filter f (xs ++ x ∷ [])) (filter f (xs ++ x ∷ [])) ≡ cond b (y ∷ filter f xs) (filter f xs) ++ filter f (x ∷ [])
    by true e = ap (λ (l : List ℕ). y ∷ l) e
    by false e = e

append_nothing : (xs : List ℕ) → xs ++ [] ≡ xs
append_nothing [] = refl
append_nothing (x ∷ xs) = ap (λ (l : List ℕ). x ∷ l) (append_nothing xs)

row : (z width : ℕ) → z * width + width ≡ (z + 1) * width
row z width = omega arith

pub range_pass : (start end width z : ℕ) → max start (z * width) < min end (z * width + width) → layers_below start end width (z + 1) ≡ layers_below start end width z ++ z ∷ []
range_pass start end width z h =
    ap (λ (l : List ℕ). filter (λ (z : ℕ). meets start end width z) l) (range_push z)
    ∙ filter_push (λ (z : ℕ). meets start end width z) (range_with_len 0 z) z
    ∙ ap (λ (b : Bool). layers_below start end width z ++ cond b (z ∷ []) [])
    (lt-ltb (max start (z * width)) (min end ((z + 1) * width)) (subst (λ (k : ℕ). max start (z * width) < min end k) (row z width) h))

pub range_fail : (start end width z : ℕ) → min end (z * width + width) ≤ max start (z * width) → layers_below start end width (z + 1) ≡ layers_below start end width z
range_fail start end width z h =
    ap (λ (l : List ℕ). filter (λ (z : ℕ). meets start end width z) l) (range_push z)
    ∙ filter_push (λ (z : ℕ). meets start end width z) (range_with_len 0 z) z
    ∙ ap (λ (b : Bool). layers_below start end width z ++ cond b (z ∷ []) [])
    (le-ltb (max start (z * width)) (min end ((z + 1) * width)) (subst (λ (k : ℕ). min end k ≤ max start (z * width)) (row z width) h))
    ∙ append_nothing (layers_below start end width z)

pub within : (a n m : ℕ) → a + n ≤ m → All (λ (x : ℕ). x < m) (range_with_len a n)
within a zero m h = All-nil (λ (x : ℕ). x < m)
within a (suc n) m h = All-cons (λ (x : ℕ). x < m) a (range_with_len (a + 1) n) (omega (arith, h)) (within (a + 1) n m (omega (arith, h)))

pub below_all : (g : Shape) (l : List ℕ) → l ≡ all_layers g → All (λ (x : ℕ). x < layer_count g) l
below_all g l e = subst (λ (k : List ℕ). All (λ (x : ℕ). x < layer_count g) k) (sym e) (within 0 (layer_count g) (layer_count g) (omega arith))

below_of : (g : Shape) (aim : Aim) (server : ℕ) → All (λ (x : ℕ). x < layer_count g) (wanted_layers g aim server)
below_of g (Aim.Range part) server = All-filter _ (λ (x : ℕ). x < layer_count g) (all_layers g) (within 0 (layer_count g) (layer_count g) (omega arith))
below_of g (Aim.Chunk seen target) server = All-nil (λ (x : ℕ). x < layer_count g)

pub below_wanted : (g : Shape) (aim : Aim) (server : ℕ) (l : List ℕ) → l ≡ wanted_layers g aim server → All (λ (x : ℕ). x < layer_count g) l
below_wanted g aim server l e = subst (λ (k : List ℕ). All (λ (x : ℕ). x < layer_count g) k) (sym e) (below_of g aim server)

pub below_repair : (g : Shape) (chunk : ℕ) (l : List ℕ) → l ≡ repair_layers_of g chunk → All (λ (x : ℕ). x < layer_count g) l
below_repair g chunk l e =
    subst (λ (k : List ℕ). All (λ (x : ℕ). x < layer_count g) k) (sym e)
    (All-filter _ (λ (x : ℕ). x < layer_count g) (all_layers g) (within 0 (layer_count g) (layer_count g) (omega arith)))
