-- Chunks that are pushed one by one.
use Rattle.std.proofs.Common.{◌≡◌, ℕ, subst, ◌+◌, ◌<◌, List, [], ◌∷◌, ◌++◌, length, get_or, inl, inr, sym, ap, ◌∙◌, ◌⊎◌, refl, arith, Vec, Global}
use Rattle.std.specs.List.{concat}
use Rattle.std.proofs.lemmas.Bool.{cases_eq}
use Rattle.std.proofs.lemmas.List.{map_push, get_or_append_left, get_or_push, length_push, append-nil, append_assoc}
use Rattle.clay_grid.specs.Shape.{Shape, layer_count, chunk_length}
use Rattle.clay_model.specs.Chunks.{contents}
use Rattle.code_laws.specs.Columns.{HoldsCoupled, AddsParity}

pub contents_push : (vs : List (Vec ℕ Global)) (v : Vec ℕ Global) → contents (vs ++ v ∷ []) ≡ contents vs ++ v.items ∷ []
contents_push vs v = map_push (λ (w : Vec ℕ Global). w.items) vs v

-- one list more is joined
pub concat_push : (xs : List (List ℕ)) (x : List ℕ) → concat (xs ++ x ∷ []) ≡ concat xs ++ x
concat_push [] x = append-nil x
concat_push (y ∷ xs) x = ap (λ l. y ++ l) (concat_push xs x) ∙ sym (append_assoc y (concat xs) x)

-- each chunk has its value, also the one that is pushed
pub more_chunks : (value : ℕ → List ℕ) (xs : List (List ℕ)) (y : List ℕ) (c : ℕ) → length xs ≡ c → ((i : ℕ) → i < c → get_or xs i [] ≡ value i) → y ≡ value c
    → (i : ℕ) → i < c + 1 → get_or (xs ++ y ∷ []) i [] ≡ value i
more_chunks value xs y c long each new i h =
    elim (cases_eq i c) [
      | inl same ↦ get_or_push xs y [] i (long ∙ sym same) ∙ new ∙ ap value (sym same)
      | inr other ↦
          let below : i < c = omega (arith, other) in
          get_or_append_left xs (y ∷ []) [] i (subst (λ n. i < n) (sym long) below) ∙ each i below
    ]

pub no_parity : (g : Shape) (column : List ℕ) (old : List (List ℕ)) → AddsParity g column 0 old old
no_parity g column old = record {
  count_is = omega arith;
  before = λ c h. refl;
  lengths = λ x h. absurd (omega arith);
  coupled = λ x h. absurd (omega arith);
}

pub one_more_parity : (g : Shape) (column : List ℕ) (x : ℕ) (old new : List (List ℕ)) (y : List ℕ) → AddsParity g column x old new
    → length y ≡ chunk_length g → HoldsCoupled g column x (layer_count g) y → AddsParity g column (x + 1) old (new ++ y ∷ [])
one_more_parity g column x old new y adds long holds =
    let size : length (new ++ y ∷ []) ≡ length new + 1 = length_push new y in
    let at_row : (v : ℕ) → v < x + 1 → (v < x) × (get_or (new ++ y ∷ []) (length old + v) [] ≡ get_or new (length old + v) []) ⊎ (v ≡ x) × (get_or (new ++ y ∷ []) (length old + v) [] ≡ y) =
    λ v h. elim (cases_eq v x) [
      | inl same ↦ inr (same, get_or_push new y [] (length old + v) (adds.count_is ∙ ap (λ n. length old + n) (sym same)))
      | inr other ↦
          let below : v < x = omega (arith, other) in
          inl (below, get_or_append_left new (y ∷ []) [] (length old + v) (omega (arith, adds.count_is)))
    ] in
    record {
      count_is = size ∙ omega (arith, adds.count_is);
      before = λ c h. get_or_append_left new (y ∷ []) [] c (omega (arith, adds.count_is)) ∙ adds.before c h;
      lengths = λ v h. elim (at_row v h) [
        | inl earlier ↦ ap length earlier.1 ∙ adds.lengths v earlier.0
        | inr late ↦ ap length late.1 ∙ long
      ];
      coupled = λ v h. elim (at_row v h) [
        | inl earlier ↦ subst (HoldsCoupled g column v (layer_count g)) (sym earlier.1) (adds.coupled v earlier.0)
        | inr late ↦ subst (λ n. HoldsCoupled g column n (layer_count g) (get_or (new ++ y ∷ []) (length old + v) [])) (sym late.0)
            (subst (HoldsCoupled g column x (layer_count g)) (sym late.1) holds)
      ];
    }
