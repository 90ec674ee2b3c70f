-- The old bytes of a stripe as they are put together.
use Rattle.std.proofs.Common.{◌≡◌, ℕ, ◌+◌, ◌-◌, ◌*◌, ◌≤◌, Bool, true, false, cond, min, List, ◌++◌, length, take, drop, replicate, ap, ◌∙◌, arith, length-drop}
use Rattle.std.proofs.lemmas.List.{take_all, take_min, drop_min, length-take}
use Rattle.clay_grid.specs.Shape.{Shape, stripe_length}
use Rattle.clay_model.specs.Code.{padded}
use Rattle.store_core.specs.Look.{keeps_old}
use Rattle.client_patch.specs.Kept.{kept_count}

-- no more than a stripe is kept
pub kept_few : (g : Shape) (size start end stripe : ℕ) → kept_count g size start end stripe ≤ stripe_length g
kept_few g size start end stripe = by (keeps_old g size start end stripe) (stripe_length g) (size - stripe * stripe_length g)
  where
    by : (b : Bool) (s n : ℕ) → cond {A = ℕ} b (min s n) 0 ≤ s
    by true s n = omega arith
    by false s n = omega arith

-- a piece of the kept bytes, filled up
pub piece_padded : (s n m : ℕ) (kept piece : List ℕ) → n ≤ s
    → piece ≡ take (min m (length kept) + min n (length kept - min m (length kept)) - min m (length kept)) (drop (min m (length kept)) kept)
    → take s piece ++ replicate {A = ℕ} (s - length piece) 0 ≡ padded s (take n (drop m kept))
piece_padded s n m kept piece few is =
    (λ i. take_all s piece short i ++ replicate {A = ℕ} (s - length piece) 0) ∙ ap (padded s) same
  where
    rest : List ℕ
    rest = drop (min m (length kept)) kept

    count : min m (length kept) + min n (length kept - min m (length kept)) - min m (length kept) ≡ min n (length (drop (min m (length kept)) kept))
    count = counts (min m (length kept)) (length kept) (length (drop (min m (length kept)) kept)) (length-drop (min m (length kept)) kept)
      where
        counts : (a l r : ℕ) → r ≡ l - a → a + min n (l - a) - a ≡ min n r
        counts a l r e = omega (arith, e)

    same : piece ≡ take n (drop m kept)
    same = is ∙ ap (λ k. take k (drop (min m (length kept)) kept)) count ∙ take_min n (drop (min m (length kept)) kept) ∙ ap (take n) (drop_min m kept)

    short : length piece ≤ s
    short = few_of (length piece) (length (drop m kept)) (ap length same ∙ length-take n (drop m kept))
      where
        few_of : (a r : ℕ) → a ≡ min n r → a ≤ s
        few_of a r e = omega (arith, e, few)
