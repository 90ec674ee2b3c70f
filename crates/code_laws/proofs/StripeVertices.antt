-- The uncoupled value of a vertex outside the last column, and the coupled value of one in it, from the bytes of the vertex and its partner.
use Rattle.std.proofs.Common.{◌≡◌, ◌≢◌, ℕ, ◌+◌, ◌-◌, ◌*◌, ◌/◌, ◌%◌, ◌<◌, List, get_or, set, sym, ap, ◌∙◌, bit_xor}
use Rattle.std.proofs.lemmas.Bool.{cond-true, cond-false, eq-eqb, ne_eqb}
use Rattle.std.proofs.lemmas.Nat.{div-add-mod'}
use Rattle.clay_field.specs.Field.{product, quotient}
use Rattle.clay_grid.specs.Shape.{Shape, row_count, column_count, node_count, layer_count}
use Rattle.clay_grid.specs.Layers.{layer_of, index_of, vertex_at, partner_of}
use Rattle.clay_grid.proofs.LayerLaws.{index_of-digits_of, IsLayer-digits_of}
use Rattle.clay_model.specs.Coupling.{node_at}
use Rattle.clay_model.proofs.Unique.{uncoupled_alone, uncoupled_paired, row_of}
use Rattle.code_laws.specs.Columns.{data_byte, data_value, uncoupled_value, last_value, coupled_last}

pub index_of-layer_of : (g : Shape) (n : ℕ) → 0 < row_count g → n < layer_count g → index_of (row_count g) (layer_of g n) ≡ n
index_of-layer_of g n rows h = index_of-digits_of (row_count g) (column_count g) n rows h

-- a partner that a call gave, in terms of the layer
pub partner_row : (g : Shape) (x y z px py pz : ℕ) → vertex_at g px py pz ≡ partner_of (vertex_at g x y z) → px ≡ get_or (layer_of g z) y 0
partner_row g x y z px py pz e = ap (λ v. v.row) e

pub partner_layer : (g : Shape) (x y z px py pz : ℕ) → vertex_at g px py pz ≡ partner_of (vertex_at g x y z) → layer_of g pz ≡ set (layer_of g z) y x
partner_layer g x y z px py pz e = ap (λ v. v.layer) e

pub column_below : (g : Shape) (i : ℕ) → 0 < row_count g → i < node_count g → i / row_count g < column_count g
column_below g i rows h = row_of (row_count g) (column_count g) i rows h

pub digit_below : (g : Shape) (n y : ℕ) → 0 < row_count g → y < column_count g → get_or (layer_of g n) y 0 < row_count g
digit_below g n y rows h = (IsLayer-digits_of (row_count g) (column_count g) n rows).digits y h

module _ (g : Shape) (rows : 0 < row_count g) (stripe : List ℕ) (b node n : ℕ) (below : n < layer_count g) where
  own_value : data_value g stripe b (node_at (row_count g) (node % row_count g) (node / row_count g)) (layer_of g n) ≡ data_byte g stripe b node n
  own_value = λ i. data_byte g stripe b (div-add-mod' node (row_count g) i) (index_of-layer_of g n rows below i)

  pub alone_value : get_or (layer_of g n) (node / row_count g) 0 ≡ node % row_count g → data_byte g stripe b node n ≡ uncoupled_value g stripe b node (layer_of g n)
  alone_value same =
      sym (uncoupled_alone (row_count g) (data_value g stripe b) (node % row_count g) (node / row_count g) (layer_of g n) same ∙ own_value)

  pub paired_value : (p : ℕ) → p < layer_count g → get_or (layer_of g n) (node / row_count g) 0 ≢ node % row_count g
      → layer_of g p ≡ set (layer_of g n) (node / row_count g) (node % row_count g)
      → bit_xor (data_byte g stripe b node n) (product 2 (data_byte g stripe b (node / row_count g * row_count g + get_or (layer_of g n) (node / row_count g) 0) p))
      ≡ uncoupled_value g stripe b node (layer_of g n)
  paired_value p hp other partner =
      let d : ℕ = get_or (layer_of g n) (node / row_count g) 0 in
      let there : index_of (row_count g) (set (layer_of g n) (node / row_count g) (node % row_count g)) ≡ p =
      ap (index_of (row_count g)) (sym partner) ∙ index_of-layer_of g p rows hp in
      sym (uncoupled_paired (row_count g) (data_value g stripe b) (node % row_count g) (node / row_count g) (layer_of g n) other
      ∙ (λ i. bit_xor (own_value i) (product 2 (data_byte g stripe b (node / row_count g * row_count g + d) (there i)))))

module _ (g : Shape) (rows : 0 < row_count g) (column : List ℕ) (b x n : ℕ) (below : n < layer_count g) where
  last_byte : ℕ → ℕ → ℕ
  last_byte v m = get_or column ((m * row_count g + v) * g.width + b) 0

  own_last : last_value g column b x (layer_of g n) ≡ last_byte x n
  unfolding last_byte
  own_last = ap (last_byte x) (index_of-layer_of g n rows below)

  pub alone_last : get_or (layer_of g n) (column_count g - 1) 0 ≡ x → get_or column ((n * row_count g + x) * g.width + b) 0 ≡ coupled_last g column b x (layer_of g n)
  unfolding last_byte
  alone_last same = sym (cond-true _ _ _ (eq-eqb (get_or (layer_of g n) (column_count g - 1) 0) x same) ∙ own_last)

  pub paired_last : (p : ℕ) → p < layer_count g → get_or (layer_of g n) (column_count g - 1) 0 ≢ x → layer_of g p ≡ set (layer_of g n) (column_count g - 1) x
      → quotient (bit_xor (get_or column ((n * row_count g + x) * g.width + b) 0)
      (product 2 (get_or column ((p * row_count g + get_or (layer_of g n) (column_count g - 1) 0) * g.width + b) 0))) 5
      ≡ coupled_last g column b x (layer_of g n)
  unfolding last_byte
  paired_last p hp other partner =
      let d : ℕ = get_or (layer_of g n) (column_count g - 1) 0 in
      let there : index_of (row_count g) (set (layer_of g n) (column_count g - 1) x) ≡ p =
      ap (index_of (row_count g)) (sym partner) ∙ index_of-layer_of g p rows hp in
      sym (cond-false _ _ _ (ne_eqb d x other)
      ∙ (λ i. quotient (bit_xor (own_last i) (product 2 (last_byte d (there i)))) 5))
