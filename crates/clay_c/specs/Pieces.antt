-- Pieces of one length that stand one behind another.
use Rattle.std.specs.Prelude.{◌≡◌, ℕ, ◌+◌, ◌*◌, ◌<◌, Bool, cond, List, [], map, length, get_or, slice_range, Option, Some, None}
use Rattle.std.specs.List.{range_with_len}

-- piece c of pieces of len bytes
abbrev pub piece_at : ℕ → List ℕ → ℕ → List ℕ
piece_at len bytes c = slice_range bytes (c * len) (c * len + len)

-- where the pieces of len bytes at these places start, but for those that are gone, of as many chunks as count
abbrev pub starts_of : (ℕ → Bool) → (ℕ → ℕ) → ℕ → ℕ → List (Option ℕ)
starts_of gone place len count = map (λ c. cond (gone c) None (Some (place c * len))) (range_with_len 0 count)

-- chunks of len bytes stand one behind another
pub record AreLaid (len : ℕ) (chunks : List (List ℕ)) (bytes : List ℕ) : Type 0 where
  pub at : (c b : ℕ) → c < length chunks → b < len → get_or bytes (c * len + b) 0 ≡ get_or (get_or chunks c []) b 0
