-- Servers one after another, without those that are left out.
use Rattle.std.specs.Prelude.{◌≡◌, ℕ, ◌+◌, ◌-◌, ◌<◌, not, List, [], ◌∷◌, filter, Option, None, Some}
use Rattle.std.specs.List.{range_with_len}
use Rattle.store_core.specs.Lists.{is_among}

-- those from one on
abbrev pub asked_from : List ℕ → ℕ → ℕ → List ℕ
asked_from left_out count from = filter (λ server. not (is_among server left_out)) (range_with_len from (count - from))

-- the first of them, where there is one
abbrev pub NextIs : List ℕ → ℕ → ℕ → Option ℕ → Type 0
NextIs left_out count from None = asked_from left_out count from ≡ []
NextIs left_out count from (Some server) = (asked_from left_out count from ≡ server ∷ asked_from left_out count (server + 1)) × (server < count)
