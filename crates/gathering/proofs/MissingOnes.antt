-- The missing servers of a course.
use Rattle.std.proofs.Common.{◌≡◌, ◌<◌, ℕ, min, List, [], ◌∷◌, length, map, take, get_or, All, refl, sym, ap, subst, arith}
use Rattle.std.proofs.lemmas.List.{length-take, get_or-take}
use Rattle.store_core.specs.Told.{Lost}
use Rattle.store_map.specs.declared.placement.LostChunk.{LostChunk}
use Rattle.store_core.specs.Told.{lost_in}

-- their numbers are those of the store's definitions
pub servers_in : (missing : List LostChunk) → map (λ (lost : LostChunk). lost.server) missing ≡ map (λ (lost : Lost). lost.server) (map lost_in missing)
servers_in [] = refl
servers_in (lost ∷ missing) = ap (λ servers. lost.server ∷ servers) (servers_in missing)

-- the first of them are in range
pub first_below : (n count : ℕ) (missing : List LostChunk) → ((i : ℕ) → i < count → (other : LostChunk) → (get_or missing i other).server < n)
    → All (λ (lost : LostChunk). lost.server < n) (take count missing)
first_below n count missing below = λ k d h.
    let within : k < count = omega (arith, h, length-take count missing) in
    subst (λ (lost : LostChunk). lost.server < n) (sym (get_or-take count missing k d within)) (below k within d)
