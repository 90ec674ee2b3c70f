-- The erased nodes of a layer, and the values that are found at them.
use Rattle.std.specs.Prelude.{◌≡◌, ℕ, zero, suc, ◌^◌, ◌<◌, ◌≤◌, Bool, false, if◌then◌else◌, List, [], ◌∷◌, ◌++◌, length, get_or}
use Rattle.clay_model.specs.Sums.{weighted_sum}
use Rattle.clay_model.specs.Points.{sum_over}

-- the erased nodes below n, rising
abbrev pub erased_below : List Bool → ℕ → List ℕ
erased_below erased zero = []
erased_below erased (suc n) =
    if get_or erased n false then erased_below erased n ++ n ∷ [] else erased_below erased n

-- the value at a node that is there, and 0 at an erased one
abbrev pub present : List Bool → (ℕ → ℕ) → ℕ → ℕ
present erased f i = if get_or erased i false then 0 else f i

-- where the weighted sums of the values f at n nodes are zero, values at the erased nodes that have the sums of the present ones are f's
abbrev pub ErasedValuesAreSolved : Type 0
ErasedValuesAreSolved =
    (n : ℕ) (erased : List Bool) (f found : ℕ → ℕ) → n ≤ 2 ^ 8 → ((i : ℕ) → i < n → f i < 2 ^ 8)
    → ((e : ℕ) → e < length (erased_below erased n) → found e < 2 ^ 8)
    → ((j : ℕ) → j < length (erased_below erased n) → weighted_sum n f j ≡ 0)
    → ((j : ℕ) → j < length (erased_below erased n) → sum_over (erased_below erased n) found j ≡ weighted_sum n (present erased f) j)
    → (e : ℕ) → e < length (erased_below erased n) → found e ≡ f (get_or (erased_below erased n) e 0)
