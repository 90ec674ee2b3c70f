-- The pieces of the last column that a solver gives for a layer.
use Rattle.std.proofs.Common.{◌≡◌, ℕ, subst, ◌+◌, ◌*◌, ◌<◌, ◌≤◌, Bool, not, List, length, get_or, inl, inr, sym, ap, ◌∙◌, arith}
use Rattle.std.proofs.lemmas.Bool.{cases_lt, cond-true, cond-false, lt-ltb, le-ltb}
use Rattle.clay_field.specs.Field.{product, power_of}
use Rattle.clay_grid.specs.Shape.{Shape, row_count, node_count, layer_count}
use Rattle.clay_grid.specs.Layers.{layer_of}
use Rattle.clay_model.specs.Sums.{sum_below, weighted_sum, present_value}
use Rattle.clay_model.proofs.SumLaws.{sum_below_same}
use Rattle.clay_model.specs.Points.{byte_of, HaveSums}
use Rattle.code_laws.specs.Columns.{first_parity, known_value, HoldsUncoupled, last_value, IsSolved, IsLastColumn}
use Rattle.code_laws.proofs.StripeVertices.{index_of-layer_of}
use Rattle.code_laws.proofs.Pieces.{put_mid_before, put_mid_within, place_below}
use borrow.Rule.Slice.PartMut.{put_mid}

module _ (g : Shape) (stripe : List ℕ) (n : ℕ) where
  -- the nodes that are not erased have their uncoupled values
  present_known : (points layer : List ℕ) (erased : List Bool) → IsLastColumn g points erased → HoldsUncoupled g stripe n (first_parity g) layer → (b i : ℕ) → b < g.width → i < node_count g
      → present_value layer erased g.width b i ≡ known_value g stripe b (layer_of g n) i
  present_known points layer erased last holds b i hb hi =
      elim (cases_lt i (first_parity g)) [
        | inl low ↦
            cond-false _ _ _ (last.erased_are i hi ∙ ap not (lt-ltb i (first_parity g) low))
            ∙ holds.at i b low hb
            ∙ sym (cond-true _ _ _ (lt-ltb i (first_parity g) low))
        | inr high ↦
            cond-true _ _ _ (last.erased_are i hi ∙ ap not (le-ltb i (first_parity g) high))
            ∙ sym (cond-false _ _ _ (le-ltb i (first_parity g) high))
      ]

  pub known_sums : (points layer : List ℕ) (erased : List Bool) → IsLastColumn g points erased → HoldsUncoupled g stripe n (first_parity g) layer → (j b : ℕ) → b < g.width
      → weighted_sum (node_count g) (present_value layer erased g.width b) j ≡ weighted_sum (node_count g) (known_value g stripe b (layer_of g n)) j
  known_sums points layer erased last holds j b hb =
      sum_below_same (node_count g) _ (λ i. product (power_of i j) (known_value g stripe b (layer_of g n) i))
      (λ i h. ap (product (power_of i j)) (present_known points layer erased last holds b i hb h))

  pub solved_piece : (points layer sums column : List ℕ) (erased : List Bool) → 0 < row_count g → n < layer_count g
      → IsLastColumn g points erased → HoldsUncoupled g stripe n (first_parity g) layer
      → ((j b : ℕ) → j < g.parity_count → b < g.width → byte_of sums g.width b j ≡ weighted_sum (node_count g) (present_value layer erased g.width b) j)
      → (ys : List ℕ) → HaveSums points g.width ys sums
      → ((p : ℕ) → p < g.parity_count * g.width → get_or column (n * (g.parity_count * g.width) + p) 0 ≡ get_or ys p 0)
      → IsSolved g stripe n column
  solved_piece points layer sums column erased rows below last holds summed ys have placed = record {
    sums = λ j b hj hb.
        let each : (e : ℕ) → e < g.parity_count → product (power_of (first_parity g + e) j) (last_value g column b e (layer_of g n)) ≡ product (power_of (get_or points e 0) j) (byte_of ys g.width b e) =
        λ e h.
        let place : (n * row_count g + e) * g.width + b ≡ n * (g.parity_count * g.width) + (e * g.width + b) = omega arith in
        λ i. product (power_of (sym (last.points_are e h) i) j)
        ((ap (λ v. get_or column ((v * row_count g + e) * g.width + b) 0) (index_of-layer_of g n rows below)
        ∙ ap (λ p. get_or column p 0) place
        ∙ placed (e * g.width + b) (place_below e g.parity_count g.width b h hb)) i) in
        sum_below_same g.parity_count _ (λ e. product (power_of (get_or points e 0) j) (byte_of ys g.width b e)) each
        ∙ ap (λ c. sum_below c (λ e. product (power_of (get_or points e 0) j) (byte_of ys g.width b e))) (sym last.count)
        ∙ have j b (subst (λ c. j < c) (sym last.count) hj) hb
        ∙ summed j b hj hb
        ∙ known_sums points layer erased last holds j b hb;
  }

  pub same_piece : (column other : List ℕ) → 0 < row_count g → n < layer_count g → IsSolved g stripe n column
      → ((p : ℕ) → p < g.parity_count * g.width → get_or other (n * (g.parity_count * g.width) + p) 0 ≡ get_or column (n * (g.parity_count * g.width) + p) 0)
      → IsSolved g stripe n other
  same_piece column other rows below solved same = record {
    sums = λ j b hj hb.
        sum_below_same g.parity_count _ (λ e. product (power_of (first_parity g + e) j) (last_value g column b e (layer_of g n)))
        (λ e h.
        let place : (n * row_count g + e) * g.width + b ≡ n * (g.parity_count * g.width) + (e * g.width + b) = omega arith in
        let at : (xs : List ℕ) → last_value g xs b e (layer_of g n) ≡ get_or xs (n * (g.parity_count * g.width) + (e * g.width + b)) 0 =
        λ xs. ap (λ v. get_or xs ((v * row_count g + e) * g.width + b) 0) (index_of-layer_of g n rows below) ∙ ap (λ p. get_or xs p 0) place in
        ap (product (power_of (first_parity g + e) j)) (at other ∙ same (e * g.width + b) (place_below e g.parity_count g.width b h hb) ∙ sym (at column)))
        ∙ solved.sums j b hj hb;
  }

-- with the layer that is written
pub one_more_layer : (g : Shape) (stripe : List ℕ) (n k : ℕ) (points layer sums column : List ℕ) (erased : List Bool) → 0 < row_count g → n < layer_count g
    → n * (g.parity_count * g.width) ≤ length column
    → ((i : ℕ) → i < n → IsSolved g stripe i column)
    → IsLastColumn g points erased → HoldsUncoupled g stripe n (first_parity g) layer
    → ((j b : ℕ) → j < g.parity_count → b < g.width → byte_of sums g.width b j ≡ weighted_sum (node_count g) (present_value layer erased g.width b) j)
    → (ys : List ℕ) → length ys ≡ g.parity_count * g.width → HaveSums points g.width ys sums
    → (i : ℕ) → i < n + 1 → IsSolved g stripe i (put_mid (n * (g.parity_count * g.width)) k column ys)
one_more_layer g stripe n k points layer sums column erased rows below fits before last holds summed ys long have i hi =
    let part : ℕ = g.parity_count * g.width in
    let new : List ℕ = put_mid (n * part) k column ys in
    elim (cases_lt i n) [
      | inl early ↦
          same_piece g stripe i column new rows (omega arith) (before i early)
          (λ p h. put_mid_before (n * part) k column ys (i * part + p) fits (place_below i n part p early h))
      | inr late ↦
          let same : n ≡ i = omega arith in
          subst (λ v. IsSolved g stripe v new) same
          (solved_piece g stripe n points layer sums new erased rows below last holds summed ys have
          (λ p h. put_mid_within (n * part) k column ys p fits (subst (λ v. p < v) (sym long) h)))
    ]
