-- The values of a vertex from those of the vertex and its partner.
use Rattle.std.proofs.Common.{◌≡◌, ◌≢◌, ℕ, subst, ◌+◌, ◌*◌, ◌/◌, ◌%◌, ◌<◌, Bool, true, false, List, length, get_or, set, sym, ap, ◌∙◌, arith, bit_xor}
use Rattle.std.proofs.lemmas.Nat.{div-add-mod', div-mul-add, mod-mul-add}
use lib.Bits.{xor_assoc, xor_self, xor_zero_r}
use Rattle.clay_field.specs.Field.{product, quotient}
use Rattle.clay_grid.specs.Shape.{Shape, row_count, column_count}
use Rattle.clay_grid.specs.Layers.{layer_of, IsLayer}
use Rattle.clay_grid.specs.Score.{score_at, count_below}
use Rattle.clay_grid.proofs.LayerLaws.{IsLayer-digits_of}
use Rattle.clay_grid.proofs.ScoreLaws.{score_at-columns}
use Rattle.clay_model.specs.Coupling.{node_at, uncoupled}
use Rattle.clay_model.specs.Code.{IsCodeword, coupled_value}
use Rattle.clay_model.specs.Pairs.{AreUncoupled}
use Rattle.clay_model.proofs.Unique.{uncoupled_alone, uncoupled_paired, uncoupled_partner, row_of, score_of_partner}
use Rattle.clay_model.proofs.PairLaws.{from_partner, AreCoupled-uncoupled}
use Rattle.clay_model.specs.Partners.{ArePartners}
use Rattle.code_laws.specs.Solved.{coupled_byte, uncoupled_byte}
use Rattle.code_laws.proofs.Layer.{coupled_below}

module _ (g : Shape) (i n other p : ℕ) (pair : ArePartners g i n other p) where
  q : ℕ
  q = row_count g

  x : ℕ
  x = i % row_count g

  y : ℕ
  y = i / row_count g

  d : ℕ
  d = get_or (layer_of g n) (i / row_count g) 0

  own_is : y * q + x ≡ i
  unfolding q x y
  own_is = div-add-mod' i (row_count g)

  other_is : y * q + d ≡ other
  unfolding q y d
  other_is = sym pair.node_is

  column : y < column_count g
  unfolding y
  column = row_of (row_count g) (column_count g) i pair.rows pair.node

  layer : IsLayer q (column_count g) (layer_of g n)
  unfolding q
  layer = IsLayer-digits_of (row_count g) (column_count g) n pair.rows

  long : y < length (layer_of g n)
  long = subst (λ t. y < t) (sym layer.long) column

  digit : d < q
  unfolding d y q
  digit = layer.digits (i / row_count g) column

  alone : other ≡ i → d ≡ x
  alone same = let own = own_is in let there = other_is in omega arith

  apart : other ≢ i → d ≢ x
  apart differ e = let own = own_is in let there = other_is in differ (omega (arith, ap (λ v. y * q + v) e))

  -- row and column of the partner
  other_row : other % row_count g ≡ d
  unfolding q y d
  other_row = ap (λ v. v % row_count g) pair.node_is ∙ mod-mul-add (i / row_count g) (row_count g) (get_or (layer_of g n) (i / row_count g) 0) digit

  other_column : other / row_count g ≡ y
  unfolding q y d
  other_column = ap (λ v. v / row_count g) pair.node_is ∙ div-mul-add (i / row_count g) (row_count g) (get_or (layer_of g n) (i / row_count g) 0) digit

  module _ (word : List (List ℕ)) (w : IsCodeword g word) (b : ℕ) where
    own_value : coupled_value g word b (y * q + x) (layer_of g n) ≡ coupled_byte g word b i n
    own_value = ap (λ v. coupled_value g word b v (layer_of g n)) own_is

    other_value : coupled_value g word b (y * q + d) (set (layer_of g n) y x) ≡ coupled_byte g word b other p
    unfolding x y
    other_value = λ k. coupled_value g word b (other_is k) (sym pair.layer_is k)

    -- an unpaired vertex
    pub alone_value : other ≡ i → coupled_byte g word b i n ≡ uncoupled_byte g word b i n
    unfolding q x y d
    alone_value same = sym (uncoupled_alone (row_count g) (coupled_value g word b) (i % row_count g) (i / row_count g) (layer_of g n) (alone same) ∙ own_value)

    pub paired_value : other ≢ i → uncoupled_byte g word b i n ≡ bit_xor (coupled_byte g word b i n) (product 2 (coupled_byte g word b other p))
    unfolding q x y d
    paired_value differ =
        uncoupled_paired (row_count g) (coupled_value g word b) (i % row_count g) (i / row_count g) (layer_of g n) (apart differ)
        ∙ (λ k. bit_xor (own_value k) (product 2 (other_value k)))

    -- the partner's uncoupled value, from the same two
    partner_value : other ≢ i → uncoupled_byte g word b other p ≡ bit_xor (coupled_byte g word b other p) (product 2 (coupled_byte g word b i n))
    unfolding q x y d
    partner_value differ =
        (λ k. uncoupled (row_count g) (coupled_value g word b) (other_row k) (other_column k) (pair.layer_is k))
        ∙ uncoupled_partner (row_count g) (coupled_value g word b) (i % row_count g) (i / row_count g) (layer_of g n) long (apart differ)
        ∙ (λ k. bit_xor (other_value k) (product 2 (own_value k)))

    are_uncoupled : other ≢ i → AreUncoupled (coupled_byte g word b i n) (coupled_byte g word b other p) (uncoupled_byte g word b i n) (uncoupled_byte g word b other p)
    are_uncoupled differ = record { own = paired_value differ; partner = partner_value differ }

    pub value_from_partner : other ≢ i → uncoupled_byte g word b i n ≡ bit_xor (product 5 (coupled_byte g word b i n)) (product 2 (uncoupled_byte g word b other p))
    value_from_partner differ =
        from_partner (coupled_byte g word b i n) (coupled_byte g word b other p) (uncoupled_byte g word b i n) (uncoupled_byte g word b other p)
        (coupled_below g word w b i (layer_of g n)) (are_uncoupled differ)

    pub coupled_from_pair : other ≢ i → coupled_byte g word b i n ≡ quotient (bit_xor (uncoupled_byte g word b i n) (product 2 (uncoupled_byte g word b other p))) 5
    coupled_from_pair differ =
        (AreCoupled-uncoupled (coupled_byte g word b i n) (coupled_byte g word b other p) (uncoupled_byte g word b i n) (uncoupled_byte g word b other p)
        (coupled_below g word w b i (layer_of g n)) (coupled_below g word w b other (layer_of g p)) (are_uncoupled differ)).own

    pub coupled_from_partner : other ≢ i → coupled_byte g word b i n ≡ bit_xor (uncoupled_byte g word b i n) (product 2 (coupled_byte g word b other p))
    coupled_from_partner differ =
        let c : ℕ = coupled_byte g word b i n in
        let v : ℕ = product 2 (coupled_byte g word b other p) in
        sym (ap (λ u. bit_xor u v) (paired_value differ) ∙ xor_assoc c v v ∙ ap (bit_xor c) (xor_self v) ∙ xor_zero_r c)

  -- the partner of a node that is not erased stands in a layer of lower score, if it is erased
  pub lower_score : (erased : List Bool) → get_or erased i false ≡ false → get_or erased other false ≡ true → score_at g erased p < score_at g erased n
  unfolding q x y d
  lower_score erased here gone =
      let less = score_of_partner (row_count g) (column_count g) (λ v. get_or erased v false) (i % row_count g) (i / row_count g) (layer_of g n) column layer.long
      (ap (λ v. get_or erased v false) own_is ∙ here) (ap (λ v. get_or erased v false) other_is ∙ gone) in
      let own = score_at-columns g erased n pair.rows in
      let lower = score_at-columns g erased p pair.rows in
      let moved = ap (λ l. count_below (column_count g) (λ v. get_or erased (node_at (row_count g) (get_or l v 0) v) false)) pair.layer_is in
      omega (arith, less, own, lower, moved)
