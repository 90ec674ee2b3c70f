-- Words on lists that the store's definitions use.
use Rattle.std.specs.Prelude.{ℕ, zero, suc, Bool, nat_eq, List, [], ◌∷◌, map}
use Rattle.std.specs.List.{list_any, range_with_len, flat_map}

-- the list with its element at a place changed
abbrev pub change_at : {X : Type 0} → ℕ → (X → X) → List X → List X
change_at i f [] = []
change_at zero f (x ∷ xs) = f x ∷ xs
change_at (suc i) f (x ∷ xs) = x ∷ change_at i f xs

-- whether a number is one of some
abbrev pub is_among : ℕ → List ℕ → Bool
is_among n ns = list_any (nat_eq n) ns

-- each version with each server, version by version: where the chunks of these versions go
abbrev pub places_of : ℕ → List ℕ → List (ℕ × ℕ)
places_of servers versions = flat_map (λ version. map (λ server. (server, version)) (range_with_len 0 servers)) versions
