-- The first of the servers from one on.
use Rattle.std.proofs.Common.{◌≡◌, ℕ, ◌+◌, ◌-◌, ◌<◌, suc, Bool, true, false, not, cond, List, [], ◌∷◌, filter, refl, sym, ap, ◌∙◌, arith}
use Rattle.std.specs.List.{range_with_len}
use Rattle.store_core.specs.Lists.{is_among}
use Rattle.gathering.specs.CourseServers.{asked_from}

one_less : (count from : ℕ) → from < count → count - from ≡ suc (count - (from + 1))
one_less count from h = omega arith

module _ (left_out : List ℕ) (count from : ℕ) where
  open_state : from < count → asked_from left_out count from ≡ filter (λ (server : ℕ). not (is_among server left_out)) (from ∷ range_with_len (from + 1) (count - (from + 1)))
  open_state h = ap (λ (n : ℕ). filter (λ (server : ℕ). not (is_among server left_out)) (range_with_len from n)) (one_less count from h)

  abbrev by : Bool → List ℕ
  by b = cond (not b) (from ∷ asked_from left_out count (from + 1)) (asked_from left_out count (from + 1))

  pub asked_next : from < count → is_among from left_out ≡ false → asked_from left_out count from ≡ from ∷ asked_from left_out count (from + 1)
  asked_next h e = open_state h ∙ ap by e

  pub asked_passed : from < count → is_among from left_out ≡ true → asked_from left_out count from ≡ asked_from left_out count (from + 1)
  asked_passed h e = open_state h ∙ ap by e
