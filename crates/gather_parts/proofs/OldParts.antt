-- What a write gathers.
use Rattle.std.proofs.Common.{◌≡◌, ℕ, ◌-◌, ◌*◌, min, List, [], ◌∷◌, map, refl, arith}
use Rattle.clay_grid.specs.Shape.{Shape, stripe_length}
use Rattle.store_core.specs.Told.{Seen}
use Rattle.store_core.specs.Read.{part_of}
use Rattle.store_core.specs.Write.{old_part, old_parts}

no_start : (first : ℕ) → 0 - first ≡ 0
no_start first = omega arith

same_end : (long stripe : ℕ) → min long stripe ≡ min stripe long
same_end long stripe = omega arith

old_is_part : (g : Shape) (length : ℕ) (seen : Seen) → part_of g 0 length seen ≡ old_part g length seen
old_is_part g length seen = λ i.
    record { seen = seen; start = no_start (seen.stripe * stripe_length g) i; end = same_end (length - seen.stripe * stripe_length g) (stripe_length g) i }

-- the parts are those of a read of all bytes
pub old_are_parts : (g : Shape) (length : ℕ) (stripes : List Seen) → map (part_of g 0 length) stripes ≡ old_parts g length stripes
old_are_parts g length [] = refl
old_are_parts g length (seen ∷ stripes) = λ i. old_is_part g length seen i ∷ old_are_parts g length stripes i
