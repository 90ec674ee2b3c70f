-- The layers of a group, which differ in the last digit alone, lie side by side in each data chunk, and outside the last column so do their partners' subchunks.
use Rattle.std.proofs.Common.{◌≡◌, ℕ, suc, subst, ◌+◌, ◌-◌, ◌*◌, ◌/◌, ◌%◌, ◌^◌, ◌<◌, ◌≤◌, List, length, get_or, set, cond, eqb, nat_lt, inl, inr, sym, ap, ◌∙◌, arith, bit_xor}
use Rattle.std.proofs.lemmas.Bool.{cases_lt}
use Rattle.std.proofs.lemmas.Nat.{mod_below, div-mul-add, mod-mul-add, div-add-mod', mul-le}
use Rattle.std.proofs.lemmas.List.{get_or-set_other}
use Rattle.std.proofs.Math.Nat.{mul_comm, pow-zero, pow-suc, div-one, mul-div_cancel, div-div-eq-div-mul}
use Rattle.clay_field.specs.Field.{product}
use Rattle.clay_grid.specs.Shape.{Shape, row_count, column_count, node_count, layer_count}
use Rattle.clay_grid.specs.Layers.{layer_of, index_of, vertex_at, partner_of}
use Rattle.clay_grid.specs.Limits.{IsGeometry}
use Rattle.clay_grid.proofs.LayerLaws.{get_or-digits_of, length-digits_of, index_of-set}
use Rattle.clay_model.specs.Coupling.{node_at}
use Rattle.clay_model.proofs.SumLaws.{sum_below_same}
use Rattle.clay_model.proofs.Unique.{row_of}
use Rattle.code_laws.specs.Columns.{first_parity, data_byte, data_value, uncoupled_value, HoldsPieces}
use Rattle.code_laws.proofs.Pieces.{place_below, piece_fits}
use Rattle.code_laws.proofs.StripeVertices.{index_of-layer_of, partner_layer}
use Rattle.generator_matrix.specs.Generated.{factor_at}
use Rattle.clay_parity.specs.Solved.{solved_value, layer_value}
use Rattle.clay_parity.specs.Blocks.{place_of, HoldsGroup}
use Rattle.clay_parity.specs.Short.{HoldsShort}
use Rattle.clay_parity.proofs.BlockPlaces.{place_in}

-- where whole groups of q layers end
ends_within : (q p z : ℕ) → 0 < q → z < p * q → z + (q - z % q) ≤ p * q
ends_within q p z rows h =
    let low : z % q < q = mod_below z q rows in
    let own : z / q * q + z % q ≡ z = div-add-mod' z q in
    elim (cases_lt (z / q) p) [
      | inl below ↦
          let all : (z / q + 1) * q ≤ p * q = mul-le (z / q + 1) q p q (omega arith) (omega arith) in
          let next : (z / q + 1) * q ≡ z / q * q + q = omega arith in
          omega arith
      | inr past ↦
          let all : p * q ≤ z / q * q = mul-le p q (z / q) q past (omega arith) in
          absurd (omega arith)
    ]

-- bytes that end in a group end in the stripe
pub in_stripe : (layers k w chunk z room end : ℕ) → z + room ≤ layers → chunk < k → end ≤ room * w → (chunk * layers + z) * w + end ≤ k * (layers * w)
in_stripe layers k w chunk z room end inside below within =
    let group : (z + room) * w ≤ layers * w = mul-le (z + room) w layers w inside (omega arith) in
    let pieces : chunk * (layers * w) + layers * w ≤ k * (layers * w) = piece_fits chunk k (layers * w) below in
    let opened : (z + room) * w ≡ z * w + room * w = omega arith in
    let start : (chunk * layers + z) * w ≡ chunk * (layers * w) + z * w = omega arith in
    omega arith

-- the nodes of a column other than the last stand before that
pub column_known : (g : Shape) (y : ℕ) → y + 1 < column_count g → y * row_count g + row_count g ≤ first_parity g
column_known g y h =
    let more : (y + 2) * row_count g ≤ column_count g * row_count g = mul-le (y + 2) (row_count g) (column_count g) (row_count g) (omega arith) (omega arith) in
    let turn : column_count g * row_count g ≡ row_count g * column_count g = mul_comm (column_count g) (row_count g) in
    let opened : (y + 2) * row_count g ≡ y * row_count g + row_count g + row_count g = omega arith in
    omega arith

module _ (g : Shape) (geometry : IsGeometry g) where
  rows : 0 < row_count g
  rows = let some = geometry.limits.parity_chunks.0 in omega arith

  columns : 2 ≤ column_count g
  columns = geometry.columns.0

  grouped : row_count g ^ (column_count g - 1) * row_count g ≡ layer_count g
  grouped =
      let s : ℕ = column_count g - 1 in
      let after : column_count g ≡ suc s = let some = columns in omega arith in
      sym (ap (λ t. row_count g ^ t) after ∙ pow-suc (row_count g) s)

  -- the room from a layer on up to the end of its group
  pub group_end : (z : ℕ) → z < layer_count g → z + (row_count g - z % row_count g) ≤ layer_count g
  group_end z h =
      subst (λ n. z + (row_count g - z % row_count g) ≤ n) grouped
      (ends_within (row_count g) (row_count g ^ (column_count g - 1)) z rows (subst (λ n. z < n) (sym grouped) h))

  pub last_digit : (n : ℕ) → get_or (layer_of g n) (column_count g - 1) 0 ≡ n % row_count g
  last_digit n =
      let t : ℕ = column_count g in
      let last : t - 1 - (t - 1) ≡ 0 = omega arith in
      get_or-digits_of (row_count g) t n (t - 1) (let some = columns in omega arith)
      ∙ ap (λ e. n / row_count g ^ e % row_count g) last
      ∙ ap (λ p. n / p % row_count g) (pow-zero (row_count g))
      ∙ ap (λ v. v % row_count g) (div-one n)

  -- a node outside the last column
  pub before_last : (node : ℕ) → node < first_parity g → node / row_count g < column_count g - 1
  before_last node h =
      let q : ℕ = row_count g in
      let s : ℕ = column_count g - 1 in
      let after : column_count g ≡ s + 1 = let some = columns in omega arith in
      let nodes : node_count g ≡ q * (s + 1) = ap (λ v. q * v) after in
      let more : q * (s + 1) ≡ q * s + q = omega arith in
      row_of q s node rows (omega arith)

  -- a partner outside the last column has the same last digit
  pub partner_digit : (x y z px py pz : ℕ) → y < column_count g - 1 → vertex_at g px py pz ≡ partner_of (vertex_at g x y z) → pz % row_count g ≡ z % row_count g
  partner_digit x y z px py pz before partner =
      sym (last_digit pz)
      ∙ ap (λ l. get_or l (column_count g - 1) 0) (partner_layer g x y z px py pz partner)
      ∙ get_or-set_other (layer_of g z) y (column_count g - 1) x 0 (omega arith)
      ∙ last_digit z

  -- the room in the partner's group
  pub partner_room : (node x y z px py pz end : ℕ) → node < first_parity g → y ≡ node / row_count g → vertex_at g px py pz ≡ partner_of (vertex_at g x y z)
      → end ≤ (row_count g - z % row_count g) * g.width → end ≤ (row_count g - pz % row_count g) * g.width
  partner_room node x y z px py pz end known column partner within =
      subst (λ d. end ≤ (row_count g - d) * g.width)
      (sym (partner_digit x y z px py pz (subst (λ v. v < column_count g - 1) (sym column) (before_last node known)) partner)) within

  -- a block that ends in its layer ends in its group
  pub one_layer : (z end : ℕ) → end ≤ g.width → end ≤ (row_count g - z % row_count g) * g.width
  one_layer z end within =
      let low : z % row_count g < row_count g = mod_below z (row_count g) rows in
      let one : 1 * g.width ≤ (row_count g - z % row_count g) * g.width = mul-le 1 g.width (row_count g - z % row_count g) g.width (omega arith) (omega arith) in
      omega arith

  -- a row of a whole group
  pub group_room : (number end : ℕ) → end ≤ row_count g * g.width → end ≤ (row_count g - number * row_count g % row_count g) * g.width
  group_room number end within =
      let q : ℕ = row_count g in
      let place : number * q ≡ number * q + 0 = omega arith in
      let even : number * q % q ≡ 0 = ap (λ v. v % q) place ∙ mod-mul-add number q 0 rows in
      let all : q - number * q % q ≡ q = omega (arith, even) in
      subst (λ r. end ≤ r * g.width) (sym all) within

  pub first_row : g.parity_count * g.width ≤ g.parity_count * (g.parity_count * g.width)
  first_row =
      let one : 1 * (g.parity_count * g.width) ≤ g.parity_count * (g.parity_count * g.width) = mul-le 1 (g.parity_count * g.width) g.parity_count (g.parity_count * g.width) (let some = rows in omega arith) (omega arith) in
      omega arith

  -- the digits but the last are those of the group
  earlier_digit : (n y : ℕ) → y < column_count g - 1 → get_or (layer_of g n) y 0 ≡ n / row_count g / row_count g ^ (column_count g - 2 - y) % row_count g
  earlier_digit n y before =
      let q : ℕ = row_count g in
      let e : ℕ = column_count g - 2 - y in
      let more : column_count g - 1 - y ≡ suc e = omega arith in
      get_or-digits_of q (column_count g) n y (omega arith)
      ∙ ap (λ k. n / q ^ k % q) more
      ∙ ap (λ p. n / p % q) (pow-suc q e ∙ mul_comm (q ^ e) q)
      ∙ ap (λ v. v % q) (sym (div-div-eq-div-mul n q (q ^ e)))

  module _ (number d : ℕ) (digit : d < row_count g) (inside : number * row_count g + row_count g ≤ layer_count g) where
    same_digit : (y : ℕ) → y < column_count g - 1 → get_or (layer_of g (number * row_count g)) y 0 ≡ get_or (layer_of g (number * row_count g + d)) y 0
    same_digit y before =
        let q : ℕ = row_count g in
        let e : ℕ = column_count g - 2 - y in
        earlier_digit (number * q) y before
        ∙ ap (λ v. v / q ^ e % q) (mul-div_cancel number rows ∙ sym (div-mul-add number q d digit))
        ∙ sym (earlier_digit (number * q + d) y before)

    same_index : index_of (row_count g) (layer_of g (number * row_count g)) + d ≡ index_of (row_count g) (layer_of g (number * row_count g + d))
    same_index =
        ap (λ n. n + d) (index_of-layer_of g (number * row_count g) rows (omega arith))
        ∙ sym (index_of-layer_of g (number * row_count g + d) rows (omega arith))

    -- the numbers of the partners' layers differ as those of the layers
    set_index : (x y : ℕ) → y < column_count g - 1
        → index_of (row_count g) (set (layer_of g (number * row_count g)) y x) + d ≡ index_of (row_count g) (set (layer_of g (number * row_count g + d)) y x)
    set_index x y before =
        let q : ℕ = row_count g in
        let t : ℕ = column_count g in
        let n : ℕ = number * q in
        let l0 : List ℕ = layer_of g n in
        let l1 : List ℕ = layer_of g (n + d) in
        let p : ℕ = q ^ (t - 1 - y) in
        let v : ℕ = get_or l0 y 0 in
        let long0 : length l0 ≡ t = length-digits_of q t n in
        let long1 : length l1 ≡ t = length-digits_of q t (n + d) in
        let e0 : index_of q (set l0 y x) + v * p ≡ index_of q l0 + x * p =
        ap (λ k. index_of q (set l0 y x) + v * q ^ (k - 1 - y)) (sym long0)
        ∙ index_of-set q l0 y x (subst (λ k. y < k) (sym long0) (omega arith))
        ∙ ap (λ k. index_of q l0 + x * q ^ (k - 1 - y)) long0 in
        let e1 : index_of q (set l1 y x) + v * p ≡ index_of q l1 + x * p =
        (λ i. index_of q (set l1 y x) + same_digit y before i * q ^ (sym long1 i - 1 - y))
        ∙ index_of-set q l1 y x (subst (λ k. y < k) (sym long1) (omega arith))
        ∙ ap (λ k. index_of q l1 + x * q ^ (k - 1 - y)) long1 in
        let i = same_index in
        omega arith

    byte_moved : (stripe : List ℕ) (b i n n' : ℕ) → n + d ≡ n' → data_byte g stripe (d * g.width + b) i n ≡ data_byte g stripe b i n'
    byte_moved stripe b i n n' next =
        let place : (i * layer_count g + n) * g.width + (d * g.width + b) ≡ (i * layer_count g + (n + d)) * g.width + b = omega arith in
        ap (λ p. cond (nat_lt i g.data_count) (get_or stripe p 0) 0) (place ∙ ap (λ v. (i * layer_count g + v) * g.width + b) next)

    pub value_moved : (stripe : List ℕ) (i b : ℕ) → i < first_parity g
        → uncoupled_value g stripe (d * g.width + b) i (layer_of g (number * row_count g)) ≡ uncoupled_value g stripe b i (layer_of g (number * row_count g + d))
    value_moved stripe i b known =
        let q : ℕ = row_count g in
        let x : ℕ = i % q in
        let y : ℕ = i / q in
        let n : ℕ = number * q in
        let l0 : List ℕ = layer_of g n in
        let l1 : List ℕ = layer_of g (n + d) in
        let before : y < column_count g - 1 = before_last i known in
        let row : get_or l0 y 0 ≡ get_or l1 y 0 = same_digit y before in
        let own : data_value g stripe (d * g.width + b) (node_at q x y) l0 ≡ data_value g stripe b (node_at q x y) l1 =
        byte_moved stripe b (node_at q x y) (index_of q l0) (index_of q l1) same_index in
        let other : data_value g stripe (d * g.width + b) (node_at q (get_or l0 y 0) y) (set l0 y x) ≡ data_value g stripe b (node_at q (get_or l1 y 0) y) (set l1 y x) =
        byte_moved stripe b (node_at q (get_or l0 y 0) y) (index_of q (set l0 y x)) (index_of q (set l1 y x)) (set_index x y before)
        ∙ ap (λ v. data_value g stripe b (node_at q v y) (set l1 y x)) row in
        λ j. cond (eqb (row j) x) (own j) (bit_xor (own j) (product 2 (other j)))

    pub solved_moved : (factors stripe : List ℕ) (e b : ℕ)
        → solved_value g factors stripe (d * g.width + b) e (layer_of g (number * row_count g)) ≡ layer_value g factors stripe (number * row_count g + d) e b
    solved_moved factors stripe e b =
        sum_below_same (first_parity g)
        (λ i. product (factor_at factors g.parity_count i e) (uncoupled_value g stripe (d * g.width + b) i (layer_of g (number * row_count g))))
        (λ i. product (factor_at factors g.parity_count i e) (uncoupled_value g stripe b i (layer_of g (number * row_count g + d))))
        (λ i h. ap (product (factor_at factors g.parity_count i e)) (value_moved stripe i b h))

  -- rows of a group's bytes
  pub rows_hold : (number : ℕ) (factors stripe rows_of : List ℕ) → number * row_count g + row_count g ≤ layer_count g
      → ((e b : ℕ) → e < g.parity_count → b < g.parity_count * g.width
      → get_or rows_of (e * (g.parity_count * g.width) + b) 0 ≡ solved_value g factors stripe b e (layer_of g (number * row_count g)))
      → HoldsShort g.parity_count g.width number (layer_value g factors stripe) rows_of
  rows_hold number factors stripe rows_of inside solved = record {
    at = λ e d b he hd hb.
        let m : ℕ = g.parity_count in
        let w : ℕ = g.width in
        let to : (e * m + d) * w + b ≡ e * (m * w) + (d * w + b) = omega arith in
        ap (λ p. get_or rows_of p 0) to
        ∙ solved e (d * w + b) he (place_below d m w b hd hb)
        ∙ solved_moved number d hd inside factors stripe e b;
  }

-- the rows with their subchunks as rows are the layers
pub transposed : (m w number : ℕ) (value : ℕ → ℕ → ℕ → ℕ) (rows group : List ℕ) → 0 < m → m * w ≤ 1024 → HoldsShort m w number value rows
    → HoldsPieces (m * w) m (λ x o. get_or rows ((o / w * m + x) * w + o % w) 0) group
    → HoldsGroup m w number m value group
transposed m w number value rows group some short holds pieces = record {
  at = λ d e b hd he hb.
      let narrow : 1 * w ≤ m * w = mul-le 1 w m w (omega arith) (omega arith) in
      let there : place_of m w e b ≡ m * 0 + (e * w + (b - 0)) = place_in m w e 0 w b (omega arith) (omega arith) (omega arith) (omega arith) in
      let from : m * 0 + (e * w + (b - 0)) ≡ e * w + b = omega arith in
      ap (λ p. get_or group (d * (m * w) + p) 0) (there ∙ from)
      ∙ pieces.at d (e * w + b) hd (place_below e m w b he hb)
      ∙ (λ i. get_or rows ((div-mul-add e w b hb i * m + d) * w + mod-mul-add e w b hb i) 0)
      ∙ holds.at e d b he hd hb;
}
