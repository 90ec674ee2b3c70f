-- Lists to which elements come that a function makes.
use Rattle.std.proofs.Common.{◌≡◌, ℕ, zero, suc, ◌+◌, Bool, false, cond, List, [], ◌∷◌, ◌++◌, map, replicate, refl, ap, ◌∙◌}
use Rattle.std.specs.List.{range_with_len}
use Rattle.version_table.specs.Places.{places}

-- what is read of what is made
pub map-map : {X Y Z : Type 0} (read : Y → Z) (make : X → Y) (both : X → Z) → ((x : X) → read (make x) ≡ both x) → (xs : List X) → map read (map make xs) ≡ map both xs
map-map read make both same [] = refl
map-map read make both same (x ∷ xs) = λ i. same x i ∷ map-map read make both same xs i

pub zeros : {Y : Type 0} (read : Y → ℕ) (make : ℕ → Y) → ((x : ℕ) → read (make x) ≡ 0) → (first count : ℕ) → map read (map make (range_with_len first count)) ≡ replicate count 0
zeros read make none first zero = refl
zeros read make none first (suc count) = λ i. none first i ∷ zeros read make none (first + 1) count i

-- elements that fail add no place
pub places-added : {X Y : Type 0} (test : Y → Bool) (make : X → Y) → ((x : X) → test (make x) ≡ false) → (n : ℕ) (ys : List Y) (xs : List X) → places test n (ys ++ map make xs) ≡ places test n ys
places-added test make fails n [] [] = refl
places-added test make fails n [] (x ∷ xs) =
    ap (λ b. cond {A = List ℕ} b (n ∷ places test (n + 1) (map make xs)) (places test (n + 1) (map make xs))) (fails x) ∙ places-added test make fails (n + 1) [] xs
places-added test make fails n (y ∷ ys) xs = ap (λ rest. cond {A = List ℕ} (test y) (n ∷ rest) rest) (places-added test make fails (n + 1) ys xs)
