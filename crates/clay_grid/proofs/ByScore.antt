-- The layers by rising score.
use Rattle.std.proofs.Common.{◌≡◌, ℕ, subst, ◌+◌, ◌<◌, inl, inr, Bool, eqb, List, [], ◌++◌, length, get_or, map, sym, ◌∙◌, arith}
use Rattle.std.proofs.lemmas.Bool.{cases_lt, eqb-true, eq-eqb}
use Rattle.std.proofs.lemmas.List.FromFn.{length-map-range_with_len, get_or-map-range_with_len}
use Rattle.clay_grid.specs.Shape.{Shape, row_count, column_count, layer_count}
use Rattle.clay_grid.specs.Score.{score_at, GoesBefore, IsByScore, places_of}
use Rattle.clay_grid.specs.Repair.{all_layers}
use Rattle.clay_grid.proofs.ScoreLaws.{score_at-le}
use Rattle.clay_grid.proofs.Rising.{Lists, Lists-none, Lists-same, Lists-append, Lists-filter}

-- the layers below a score, in order
abbrev pub IsBelowScore : Shape → List Bool → ℕ → List ℕ → Type 0
IsBelowScore g erased s layers = Lists (GoesBefore g erased) (λ w. (w < layer_count g) × (score_at g erased w < s)) layers

pub IsBelowScore-none : (g : Shape) (erased : List Bool) → IsBelowScore g erased 0 []
IsBelowScore-none g erased = Lists-none _ _ (λ w h. omega (arith, h.1))

places_are : (g : Shape) (erased : List Bool) (s : ℕ) → Lists (λ v w. v < w) (λ w. (w < layer_count g) × (score_at g erased w ≡ s)) (places_of (map (score_at g erased) (all_layers g)) s)
places_are g erased s =
    let f : ℕ → ℕ = score_at g erased in
    let long : length (map f (all_layers g)) ≡ layer_count g = length-map-range_with_len f 0 (layer_count g) in
    let entry : (w : ℕ) → w < layer_count g → get_or (map f (all_layers g)) w 0 ≡ f w = λ w h. get_or-map-range_with_len f 0 (layer_count g) w w 0 h (omega arith) in
    Lists-same _ _ _ _ _ (λ v w hv hw h. h)
    (λ w h. let below : w < layer_count g = subst (λ n. w < n) long h.0 in (below, sym (entry w below) ∙ eqb-true _ _ h.1))
    (λ w h. (subst (λ n. w < n) (sym long) h.0, eq-eqb _ _ (entry w h.0 ∙ h.1)))
    (Lists-filter (λ z. eqb (get_or (map f (all_layers g)) z 0) s) (length (map f (all_layers g))))

pub IsBelowScore-more : (g : Shape) (erased : List Bool) (s : ℕ) (layers : List ℕ) → IsBelowScore g erased s layers → IsBelowScore g erased (s + 1) (layers ++ places_of (map (score_at g erased) (all_layers g)) s)
IsBelowScore-more g erased s layers l =
    let places = Lists-same _ (GoesBefore g erased) _ _ _ (λ v w hv hw h. inr (hv.1 ∙ sym hw.1, h)) (λ w h. h) (λ w h. h) (places_are g erased s) in
    Lists-same _ _ _ _ _ (λ v w hv hw h. h)
    (λ w either. elim either [ inl h ↦ (h.0, omega (arith, h.1)) | inr h ↦ (h.0, omega (arith, h.1)) ])
    (λ w h. elim (cases_lt (score_at g erased w) s) [ inl lower ↦ inl (h.0, lower) | inr least ↦ inr (h.0, omega (arith, least, h.1)) ])
    (Lists-append _ _ _ _ _ l places (λ v w hv hw. inl (omega (arith, hv.1, hw.1))))

pub IsByScore-all : (g : Shape) (erased : List Bool) (s : ℕ) (layers : List ℕ) → 0 < row_count g → column_count g < s → IsBelowScore g erased s layers → IsByScore g erased layers
IsByScore-all g erased s layers rows enough l = record {
  rising = l.rising;
  only_layers = λ i h. (l.only i h).0;
  each_layer = λ z h. l.each z (h, omega (arith, score_at-le g erased z rows));
}
