-- Rows of placements that grow by one server more.
use Rattle.std.proofs.Common.{◌≡◌, ℕ, suc, ◌+◌, ◌≤◌, List, [], ◌∷◌, ◌++◌, length, refl, ap, arith}
use Rattle.store_map.specs.declared.placement.Placement.{Placement}
use Rattle.store_map.specs.declared.placement.Placement.TheVariants as placement
use Rattle.store_core.specs.Placements.{skipped_from, skipped_count}

-- as many servers are named as the row skips
pub length-skipped : (server : ℕ) (row : List Placement) → length (skipped_from server row) ≡ skipped_count row
length-skipped server [] = refl
length-skipped server (placement.At epoch ∷ row) = length-skipped (server + 1) row
length-skipped server (placement.Skipped downs ∷ row) = ap suc (length-skipped (server + 1) row)

-- one server more is at most one that was away
pub skipped_push : (row : List Placement) (last : Placement) → skipped_count (row ++ last ∷ []) ≤ skipped_count row + 1
skipped_push [] (placement.At epoch) = omega arith
skipped_push [] (placement.Skipped downs) = omega arith
skipped_push (placement.At epoch ∷ row) last = skipped_push row last
skipped_push (placement.Skipped downs ∷ row) last = let rest = skipped_push row last in omega (arith, rest)
