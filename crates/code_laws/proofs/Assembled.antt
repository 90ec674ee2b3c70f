-- The data chunks and the coupled last column are the codeword of the stripe.
-- All partners of a vertex outside the last column stay in its column, so all their uncoupled values come from the stripe. The solved
-- values of the last column, coupled, uncouple to themselves again; so the sums of the chunks are those that were solved for.
use Rattle.std.proofs.Common.{◌≡◌, ℕ, zero, suc, subst, ◌+◌, ◌-◌, ◌*◌, ◌/◌, ◌%◌, ◌^◌, ◌<◌, ◌≤◌, cond, not, nat_lt, ◌&&◌, eqb, List, [], ◌++◌, length, get_or, set, take, drop, slice_range, sym, ap, ◌∙◌, inl, inr, arith, lit<, bit_xor}
use Rattle.std.specs.List.{concat}
use Rattle.std.proofs.lemmas.Bool.{cases_lt, cond-true, cond-false, cond_both, lt-ltb, le-ltb}
use Rattle.std.proofs.lemmas.Nat.{mod_below, div_below, div-add-mod'}
use Rattle.std.proofs.lemmas.List.{take_more, take_all, get_or_past}
use Rattle.std.proofs.lemmas.List.Edits.{get_or-between, length-between}
use Rattle.std.proofs.Math.Seq.{take-add}
use Rattle.std.proofs.Math.Nat.{mul_comm}
use Rattle.clay_field.specs.Field.{product, power_of, inverse_of}
use Rattle.clay_field.proofs.FieldLaws.{product_lt}
use Rattle.clay_grid.specs.Shape.{Shape, chunk_count, row_count, column_count, node_count, virtual_count, layer_count, chunk_length, stripe_length}
use Rattle.clay_grid.specs.Layers.{layer_of, index_of, IsLayer}
use Rattle.clay_grid.specs.Limits.{IsGeometry}
use Rattle.clay_grid.proofs.LayerLaws.{index_of-lt, digits_of-index_of}
use Rattle.clay_model.specs.Sums.{sum_below, weighted_sum}
use Rattle.clay_model.specs.Coupling.{node_at, uncoupled, HasZeroSums}
use Rattle.clay_model.specs.Code.{is_virtual, coupled_value, Codes}
use Rattle.code_laws.specs.Columns.{first_parity, data_value, last_value, IsSolved, coupled_last, HoldsCoupled}
use Rattle.code_laws.proofs.Lists.{concat_push}
use Rattle.code_laws.proofs.Pieces.{piece_fits, place_below, bytes_everywhere}
use Rattle.code_laws.proofs.Filled.{filled_sums, below_column}

-- what encoding has made
pub record IsAssembled (g : Shape) (stripe column : List ℕ) (chunks : List (List ℕ)) : Type 0 where
  pub geometry : IsGeometry g
  pub whole : length stripe ≡ stripe_length g
  pub stripe_bytes : (i : ℕ) → get_or stripe i 0 < 2 ^ 8
  pub column_bytes : (i : ℕ) → get_or column i 0 < 2 ^ 8
  pub solved : (n : ℕ) → n < layer_count g → IsSolved g stripe n column
  pub count : length chunks ≡ chunk_count g
  pub pieces : (c : ℕ) → c < g.data_count → get_or chunks c [] ≡ slice_range stripe (c * chunk_length g) ((c + 1) * chunk_length g)
  pub lengths : (x : ℕ) → x < g.parity_count → length (get_or chunks (g.data_count + x) []) ≡ chunk_length g
  pub coupled : (x : ℕ) → x < g.parity_count → HoldsCoupled g column x (layer_count g) (get_or chunks (g.data_count + x) [])

-- pieces joined
joined_below : (xs : List (List ℕ)) (stripe : List ℕ) (k len : ℕ) → k ≤ length xs → length stripe ≡ k * len
    → ((c : ℕ) → c < k → get_or xs c [] ≡ slice_range stripe (c * len) ((c + 1) * len)) → (i : ℕ) → i ≤ k → concat (take i xs) ≡ take (i * len) stripe
joined_below xs stripe k len many long pieces zero h =
    let none : 0 ≡ 0 * len = omega arith in
    ap (λ n. take n stripe) none
joined_below xs stripe k len many long pieces (suc i) h =
    let next : suc i ≡ i + 1 = omega arith in
    let width : (i + 1) * len - i * len ≡ len = omega arith in
    let end : i * len + len ≡ suc i * len = omega arith in
    ap (λ n. concat (take n xs)) next
    ∙ ap concat (take_more xs i [] (omega arith))
    ∙ concat_push (take i xs) (get_or xs i [])
    ∙ (λ v. joined_below xs stripe k len many long pieces i (omega arith) v ++ (pieces i h ∙ ap (λ n. take n (drop (i * len) stripe)) width) v)
    ∙ sym (take-add (i * len) len stripe)
    ∙ ap (λ n. take n stripe) end

module _ (g : Shape) (stripe column : List ℕ) (chunks : List (List ℕ)) (a : IsAssembled g stripe column chunks) where
  q : ℕ
  q = row_count g

  s : ℕ
  s = column_count g - 1

  columns : column_count g ≡ suc s
  unfolding s
  columns = let many = a.geometry.columns.0 in omega arith

  rows : 0 < q
  unfolding q
  rows = let some = a.geometry.limits.parity_chunks.0 in omega arith

  first_is : first_parity g ≡ q * s
  unfolding q
  first_is = ap (λ n. q * n - q) columns ∙ omega arith

  virtual_end : g.data_count + virtual_count g ≡ q * s
  unfolding q
  virtual_end = let fit = a.geometry.chunks in let parts = first_is in omega arith

  piece_byte : (c p : ℕ) → c < g.data_count → p < chunk_length g → get_or (get_or chunks c []) p 0 ≡ get_or stripe (c * chunk_length g + p) 0
  piece_byte c p h hp =
      let within : c * chunk_length g + p < (c + 1) * chunk_length g = omega arith in
      ap (λ l. get_or l p 0) (a.pieces c h) ∙ get_or-between stripe (c * chunk_length g) ((c + 1) * chunk_length g) p 0 within

  before : (b i : ℕ) (z : List ℕ) → b < g.width → i < q * s → IsLayer q (column_count g) z → coupled_value g chunks b i z ≡ data_value g stripe b i z
  unfolding q s
  before b i z hb h layer =
      let n : ℕ = index_of (row_count g) z in
      let below : n < layer_count g = index_of-lt (row_count g) (column_count g) z layer in
      elim (cases_lt i g.data_count) [
        | inl real ↦
            let own : i < g.data_count = real in
            let place : i * chunk_length g + (n * g.width + b) ≡ (i * layer_count g + n) * g.width + b = omega arith in
            cond-false (is_virtual g i) 0 _ (ap (λ v. not v && nat_lt i (g.data_count + virtual_count g)) (lt-ltb i g.data_count real))
            ∙ ap (λ c. get_or (get_or chunks c []) (n * g.width + b) 0) (cond-true (nat_lt i g.data_count) i (i - virtual_count g) (lt-ltb i g.data_count real))
            ∙ piece_byte i (n * g.width + b) real (place_below n (layer_count g) g.width b below hb)
            ∙ ap (λ p. get_or stripe p 0) place
            ∙ sym (cond-true (nat_lt i g.data_count) (get_or stripe ((i * layer_count g + n) * g.width + b) 0) 0 (lt-ltb i g.data_count real))
        | inr past ↦
            let end = virtual_end in
            let low : i < g.data_count + virtual_count g = omega arith in
            cond-true (is_virtual g i) 0 _ (λ k. not (le-ltb i g.data_count past k) && lt-ltb i (g.data_count + virtual_count g) low k)
            ∙ sym (cond-false (nat_lt i g.data_count) (get_or stripe ((i * layer_count g + n) * g.width + b) 0) 0 (le-ltb i g.data_count past))
      ]

  layer_is : (z : List ℕ) → IsLayer q (column_count g) z → layer_of g (index_of q z) ≡ z
  unfolding q
  layer_is z layer = digits_of-index_of (row_count g) (column_count g) z rows layer

  last : (b x : ℕ) (z : List ℕ) → b < g.width → x < q → IsLayer q (column_count g) z → coupled_value g chunks b (node_at q x s) z ≡ coupled_last g column b x z
  unfolding q s
  last b x z hb hx layer =
      let n : ℕ = index_of (row_count g) z in
      let below : n < layer_count g = index_of-lt (row_count g) (column_count g) z layer in
      let i : ℕ = node_at (row_count g) x (column_count g - 1) in
      let end = virtual_end in
      let turned : row_count g * (column_count g - 1) ≡ (column_count g - 1) * row_count g = mul_comm (row_count g) (column_count g - 1) in
      let node : i ≡ g.data_count + virtual_count g + x = omega arith in
      let past : g.data_count ≤ i = omega arith in
      let beyond : g.data_count + virtual_count g ≤ i = omega arith in
      let chunk : i - virtual_count g ≡ g.data_count + x = omega arith in
      cond-false (is_virtual g i) 0 _ (λ k. not (le-ltb i g.data_count past k) && le-ltb i (g.data_count + virtual_count g) beyond k)
      ∙ ap (λ c. get_or (get_or chunks c []) (n * g.width + b) 0) (cond-false (nat_lt i g.data_count) i (i - virtual_count g) (le-ltb i g.data_count past) ∙ chunk)
      ∙ (a.coupled x hx).at n b below hb
      ∙ ap (coupled_last g column b x) (layer_is z layer)

  solved : (b : ℕ) (z : List ℕ) (j : ℕ) → b < g.width → IsLayer q (column_count g) z → j < g.parity_count
      → sum_below q (λ e. product (power_of (q * s + e) j) (last_value g column b e z)) ≡ weighted_sum (q * column_count g) (below_column q s (data_value g stripe b) z) j
  unfolding q s
  solved b z j hb layer hj =
      let n : ℕ = index_of (row_count g) z in
      let below : n < layer_count g = index_of-lt (row_count g) (column_count g) z layer in
      (λ k. sum_below (row_count g) (λ e. product (power_of (sym first_is k + e) j) (last_value g column b e (sym (layer_is z layer) k))))
      ∙ (a.solved n below).sums j b hj hb
      ∙ (λ k. weighted_sum (node_count g) (λ i. cond (nat_lt i (first_is k)) (uncoupled (row_count g) (data_value g stripe b) (i % row_count g) (i / row_count g) (layer_is z layer k)) 0) j)

  sums : (b : ℕ) → b < g.width → HasZeroSums (row_count g) (column_count g) g.parity_count (coupled_value g chunks b)
  unfolding q s
  sums b hb =
      filled_sums q s (column_count g) g.parity_count (data_value g stripe b) (last_value g column b) (coupled_value g chunks b) (record {
        rows = rows;
        columns = columns;
        bytes = λ x z. a.column_bytes ((index_of (row_count g) z * row_count g + x) * g.width + b);
        before = λ i z h layer. before b i z hb h layer;
        last = λ x z h layer. last b x z hb h layer;
        solved = λ z j layer hj. solved b z j hb layer hj;
      })

  lengths : (c : ℕ) → c < chunk_count g → length (get_or chunks c []) ≡ chunk_length g
  lengths c h =
      elim (cases_lt c g.data_count) [
        | inl real ↦
            let end : c * chunk_length g + chunk_length g ≤ g.data_count * chunk_length g = piece_fits c g.data_count (chunk_length g) real in
            let fits : (c + 1) * chunk_length g ≤ length stripe = omega (arith, a.whole) in
            let width : (c + 1) * chunk_length g - c * chunk_length g ≡ chunk_length g = omega arith in
            ap length (a.pieces c real) ∙ length-between stripe (c * chunk_length g) ((c + 1) * chunk_length g) fits ∙ width
        | inr past ↦
            let there : c ≡ g.data_count + (c - g.data_count) = omega arith in
            ap (λ v. length (get_or chunks v [])) there ∙ a.lengths (c - g.data_count) (omega arith)
      ]

  coupled_byte : (b x : ℕ) (z : List ℕ) → coupled_last g column b x z < 2 ^ 8
  coupled_byte b x z =
      let y : ℕ = column_count g - 1 in
      cond_both (eqb (get_or z y 0) x) _ _ (λ v. v < 2 ^ 8) (λ e. a.column_bytes ((index_of (row_count g) z * row_count g + x) * g.width + b))
      (λ e. product_lt (bit_xor (last_value g column b x z) (product 2 (last_value g column b (get_or z y 0) (set z y x)))) (inverse_of 5))

  bytes : (c p : ℕ) → get_or (get_or chunks c []) p 0 < 2 ^ 8
  bytes c p =
      elim (cases_lt c (chunk_count g)) [
        | inl there ↦ bytes_everywhere (get_or chunks c []) (λ i h.
            let place : i < chunk_length g = subst (λ n. i < n) (lengths c there) h in
            elim (cases_lt c g.data_count) [
              | inl real ↦ subst (λ v. v < 2 ^ 8) (sym (piece_byte c i real place)) (a.stripe_bytes (c * chunk_length g + i))
              | inr past ↦
                  let row : ℕ = c - g.data_count in
                  let chunk : g.data_count + row ≡ c = omega arith in
                  let wide : 0 < g.width = let some = a.geometry.limits.width.0 in omega arith in
                  let n : ℕ = i / g.width in
                  let b : ℕ = i % g.width in
                  let byte : coupled_last g column b row (layer_of g n) ≡ get_or (get_or chunks c []) i 0 =
                  sym ((a.coupled row (omega arith)).at n b (div_below i g.width (layer_count g) wide place) (mod_below i g.width wide))
                  ∙ (λ k. get_or (get_or chunks (chunk k) []) (div-add-mod' i g.width k) 0) in
                  subst (λ v. v < 2 ^ 8) byte (coupled_byte b row (layer_of g n))
            ]) p
        | inr past ↦ subst (λ l. get_or l p 0 < 2 ^ 8) (sym (get_or_past chunks c [] (omega (arith, a.count)))) (lit< tt)
      ]

  joined : concat (take g.data_count chunks) ≡ stripe
  joined =
      let some : g.data_count ≤ length chunks = omega (arith, a.count) in
      joined_below chunks stripe g.data_count (chunk_length g) some a.whole a.pieces g.data_count (omega arith)
      ∙ take_all (g.data_count * chunk_length g) stripe (omega (arith, a.whole))

  pub assembled : Codes g stripe chunks
  assembled = record { codeword = record { count = a.count; lengths = lengths; bytes = bytes; sums = sums }; joined = joined }
