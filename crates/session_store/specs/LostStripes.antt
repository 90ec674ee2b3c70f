-- Lost chunks by their stripes.
use Rattle.std.specs.Prelude.{◌≡◌, ⊤, ℕ, Bool, ◌&&◌, nat_eq, nat_le, bytes_eq, List, [], ◌∷◌, length, filter, take}
use Rattle.session_rules.specs.declared.session_answer.LostChunk.{LostChunk}

-- another lost chunk is of the same stripe
abbrev pub is_beside : LostChunk → LostChunk → Bool
is_beside chunk other = nat_eq other.stripe chunk.stripe && bytes_eq other.name chunk.name

-- how many are
abbrev pub beside : List LostChunk → LostChunk → ℕ
beside lost chunk = length (filter (is_beside chunk) lost)

-- those of stripes of which at most so many are lost
abbrev pub healable : ℕ → List LostChunk → List LostChunk
healable most lost = filter (λ chunk. nat_le (beside lost chunk) most) lost

-- the chunks of a list that are of a chunk's stripe are its first ones
abbrev pub AreFirst : LostChunk → List LostChunk → Type 0
AreFirst chunk lost = filter (is_beside chunk) lost ≡ take (beside lost chunk) lost

-- those of one stripe stand together
abbrev pub StandTogether : List LostChunk → Type 0
StandTogether [] = ⊤
StandTogether (chunk ∷ lost) = AreFirst chunk lost × StandTogether lost
