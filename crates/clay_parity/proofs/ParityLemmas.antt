-- The bytes that are appended to the parity chunks are those of the stripe's codeword.
-- Encoding appends (Appends), with the rows of a group in one buffer, so chunks are filled in order and never cleared; a list that
-- tabulates the solved values stands for the column that the plain encoder keeps, so its theorem (assembled) serves unchanged.
use Rattle.std.proofs.Common.{◌≡◌, ℕ, zero, suc, subst, ◌+◌, ◌-◌, ◌*◌, ◌/◌, ◌%◌, ◌^◌, ◌<◌, ◌≤◌, List, [], ◌∷◌, ◌++◌, length, get_or, set, take, drop, slice_range, map, inl, inr, refl, sym, ap, ◌∙◌, arith, lit<, bit_xor, Vec, Global}
use Rattle.std.specs.List.{range_with_len}
use Rattle.std.proofs.lemmas.Bool.{cases_eq, cond-true, cond-false, lt-ltb, le-ltb, eq-eqb, ne_eqb}
use Rattle.std.proofs.lemmas.Nat.{mod_below, div-mul-add, mod-mul-add, div-add-mod', mul-le, xor_lt}
use Rattle.std.proofs.lemmas.List.{get_or_append_left, get_or-append_right, length-append, drop_all, append-nil, take_all}
use Rattle.std.proofs.lemmas.List.FromFn.{get_or-map-range_with_len, length-map-range_with_len}
use Rattle.std.proofs.Math.Nat.{pow-zero, pow-suc, div-one, mul-div_cancel}
use lib.Bits.{xor_zero_r}
use Rattle.clay_field.specs.Field.{product, power_of, quotient}
use Rattle.clay_field.proofs.FieldLaws.{product_lt, product_zero}
use Rattle.clay_grid.specs.Shape.{Shape, row_count, column_count, node_count, layer_count, chunk_length, stripe_length}
use Rattle.clay_grid.specs.Layers.{layer_of, index_of}
use Rattle.clay_grid.specs.Limits.{IsGeometry}
use Rattle.clay_grid.proofs.LayerLaws.{index_of-lt, IsLayer-digits_of, IsLayer-set, digits_of-index_of, partner_number}
use Rattle.clay_model.specs.Sums.{sum_below, weighted_sum}
use Rattle.clay_model.proofs.SumLaws.{sum_below_same, sum_below-zero}
use Rattle.clay_model.specs.Chunks.{contents}
use Rattle.code_laws.specs.Columns.{first_parity, uncoupled_value, known_value, last_value, IsSolved, coupled_last}
use Rattle.code_laws.proofs.Pieces.{place_below, bytes_everywhere}
use Rattle.code_laws.proofs.Filled.{sum_below-add}
use Rattle.code_laws.proofs.StripeVertices.{index_of-layer_of, alone_last, paired_last}
use Rattle.code_laws.proofs.Assembled.{assembled}
use Rattle.generator_matrix.specs.Generated.{IsLastGenerator, factor_at}
use Rattle.clay_parity.specs.Solved.{layer_value}
use Rattle.clay_parity.specs.Blocks.{coupled_of, Appends}
use Rattle.clay_parity.specs.Parity.{data_pieces, AreParity}
use Rattle.clay_parity.proofs.GroupLaws.{last_digit}

pub sum_byte : (n : ℕ) (f : ℕ → ℕ) → ((e : ℕ) → f e < 2 ^ 8) → sum_below n f < 2 ^ 8
sum_byte zero f each = lit< tt
sum_byte (suc n) f each = xor_lt 8 (sum_below n f) (f n) (sum_byte n f each) (each n)

value_byte : (g : Shape) (factors stripe : List ℕ) (n e b : ℕ) → layer_value g factors stripe n e b < 2 ^ 8
value_byte g factors stripe n e b =
    sum_byte (first_parity g) (λ i. product (factor_at factors g.parity_count i e) (uncoupled_value g stripe b i (layer_of g n)))
    (λ i. product_lt (factor_at factors g.parity_count i e) (uncoupled_value g stripe b i (layer_of g n)))

-- a list of all values of the last column, layer after layer
abbrev solved_column : Shape → List ℕ → List ℕ → List ℕ
solved_column g factors stripe =
    let part : ℕ = g.parity_count * g.width in
    map (λ p. layer_value g factors stripe (p / part) (p % part / g.width) (p % part % g.width)) (range_with_len 0 (layer_count g * part))

-- whole groups of layers make a chunk
pub groups : (g : Shape) → IsGeometry g → layer_count g / row_count g * (g.parity_count * g.width) ≡ chunk_length g
groups g geometry =
    let q : ℕ = row_count g in
    let s : ℕ = column_count g - 1 in
    let rows : 0 < row_count g = let some = geometry.limits.parity_chunks.0 in omega arith in
    let after : column_count g ≡ suc s = let some = geometry.columns.0 in omega arith in
    let power : layer_count g ≡ q ^ s * q = ap (λ t. q ^ t) after ∙ pow-suc q s in
    let over : layer_count g / q ≡ q ^ s = ap (λ v. v / q) power ∙ mul-div_cancel (q ^ s) rows in
    let grouped : q ^ s * (q * g.width) ≡ q ^ s * q * g.width = omega arith in
    ap (λ v. v * (q * g.width)) over ∙ grouped ∙ ap (λ v. v * g.width) (sym power)

-- as many groups lie in all layers
pub group_below : (g : Shape) → IsGeometry g → (number : ℕ) → number < layer_count g / row_count g → number * (g.parity_count * g.width) + g.parity_count * g.width ≤ chunk_length g
group_below g geometry number h =
    let all = groups g geometry in
    let more = mul-le (number + 1) (g.parity_count * g.width) (layer_count g / row_count g) (g.parity_count * g.width) (omega arith) (omega arith) in
    let next : (number + 1) * (g.parity_count * g.width) ≡ number * (g.parity_count * g.width) + g.parity_count * g.width = omega arith in
    omega (arith, all, more, next)

module _ (g : Shape) (geometry : IsGeometry g) (factors stripe : List ℕ) (unknown : ℕ) (gen : IsLastGenerator g unknown factors) where
  m : ℕ
  m = g.parity_count

  w : ℕ
  w = g.width

  column : List ℕ
  column = solved_column g factors stripe

  rows : 0 < row_count g
  rows = let some = geometry.limits.parity_chunks.0 in omega arith

  columns : 2 ≤ column_count g
  columns = geometry.columns.0

  column_at : (n e b : ℕ) → n < layer_count g → e < g.parity_count → b < g.width → get_or column ((n * row_count g + e) * g.width + b) 0 ≡ layer_value g factors stripe n e b
  unfolding column
  column_at n e b hn he hb =
      let part : ℕ = g.parity_count * g.width in
      let r : ℕ = e * g.width + b in
      let small : r < part = place_below e g.parity_count g.width b he hb in
      let inside : n * part + r < layer_count g * part = place_below n (layer_count g) part r hn small in
      let place : (n * g.parity_count + e) * g.width + b ≡ n * part + r = omega arith in
      ap (λ p. get_or (solved_column g factors stripe) p 0) place
      ∙ get_or-map-range_with_len (λ p. layer_value g factors stripe (p / part) (p % part / g.width) (p % part % g.width)) 0 (layer_count g * part) (n * part + r) (n * part + r) 0 inside (omega arith)
      ∙ (λ i. layer_value g factors stripe (div-mul-add n part r small i) (mod-mul-add n part r small i / g.width) (mod-mul-add n part r small i % g.width))
      ∙ (λ i. layer_value g factors stripe n (div-mul-add e g.width b hb i) (mod-mul-add e g.width b hb i))

  column_bytes : (i : ℕ) → get_or column i 0 < 2 ^ 8
  unfolding column
  column_bytes = bytes_everywhere (solved_column g factors stripe) (λ i h.
      let part : ℕ = g.parity_count * g.width in
      let f : ℕ → ℕ = λ p. layer_value g factors stripe (p / part) (p % part / g.width) (p % part % g.width) in
      let long : length (solved_column g factors stripe) ≡ layer_count g * part = length-map-range_with_len f 0 (layer_count g * part) in
      subst (λ v. v < 2 ^ 8) (sym (get_or-map-range_with_len f 0 (layer_count g * part) i i 0 (subst (λ n. i < n) long h) (omega arith)))
      (value_byte g factors stripe (i / part) (i % part / g.width) (i % part % g.width)))

  -- the sums of the known values leave the last column out
  known_sum : (b j n : ℕ) → weighted_sum (node_count g) (known_value g stripe b (layer_of g n)) j ≡ weighted_sum (first_parity g) (λ i. uncoupled_value g stripe b i (layer_of g n)) j
  known_sum b j n =
      let first : ℕ = first_parity g in
      let one_column : row_count g * 1 ≤ row_count g * column_count g = mul-le (row_count g) 1 (row_count g) (column_count g) (omega arith) (let some = columns in omega arith) in
      let nodes : node_count g ≡ first + row_count g = omega arith in
      let term : ℕ → ℕ = λ i. product (power_of i j) (known_value g stripe b (layer_of g n) i) in
      ap (λ c. sum_below c term) nodes
      ∙ sum_below-add first (row_count g) term
      ∙ ap (bit_xor (sum_below first term)) (sum_below-zero (row_count g) (λ e. term (first + e))
      (λ e h. ap (product (power_of (first + e) j)) (cond-false _ _ _ (le-ltb (first + e) first (omega arith))) ∙ product_zero (power_of (first + e) j)))
      ∙ xor_zero_r (sum_below first term)
      ∙ sum_below_same first term (λ i. product (power_of i j) (uncoupled_value g stripe b i (layer_of g n)))
      (λ i h. ap (product (power_of i j)) (cond-true _ _ _ (lt-ltb i first h)))

  solved : (n : ℕ) → n < layer_count g → IsSolved g stripe n column
  solved n hn = record {
    sums = λ j b hj hb.
        sum_below_same g.parity_count (λ e. product (power_of (first_parity g + e) j) (last_value g column b e (layer_of g n)))
        (λ e. product (power_of (first_parity g + e) j) (layer_value g factors stripe n e b))
        (λ e h. ap (product (power_of (first_parity g + e) j))
        (ap (λ v. get_or column ((v * row_count g + e) * g.width + b) 0) (index_of-layer_of g n rows hn) ∙ column_at n e b hn h hb))
        ∙ gen.generates (λ i. uncoupled_value g stripe b i (layer_of g n)) j hj
        ∙ sym (known_sum b j n);
  }

  -- the layer with another last digit
  with_digit : (n x : ℕ) → n < layer_count g → n / row_count g * row_count g + x ≡ index_of (row_count g) (set (layer_of g n) (column_count g - 1) x)
  with_digit n x hn =
      let t : ℕ = column_count g in
      let q : ℕ = row_count g in
      let last : 0 ≡ t - 1 - (t - 1) = omega arith in
      let whole = div-add-mod' n q in
      let moved : n / q * q + x ≡ n - n % q * 1 + x * 1 = omega arith in
      moved ∙ partner_number q t n (t - 1) x 1 (n % q) rows hn (let some = columns in omega arith) (sym (pow-zero q) ∙ ap (λ e. q ^ e) last) (ap (λ v. v % q) (sym (div-one n)))

  coupled_at : (n x b : ℕ) → n < layer_count g → x < g.parity_count → b < g.width → coupled_of g.parity_count (layer_value g factors stripe) x n b ≡ coupled_last g column b x (layer_of g n)
  coupled_at n x b hn hx hb =
      let q : ℕ = row_count g in
      let d : ℕ = n % q in
      let p : ℕ = n / q * q + x in
      let t : ℕ = column_count g in
      let hd : d < q = mod_below n q rows in
      let layer : layer_of g p ≡ set (layer_of g n) (t - 1) x =
      ap (layer_of g) (with_digit n x hn)
      ∙ digits_of-index_of q t (set (layer_of g n) (t - 1) x) rows (IsLayer-set q t (layer_of g n) (t - 1) x hx (let some = columns in omega arith) (IsLayer-digits_of q t n rows)) in
      let hp : p < layer_count g = subst (λ v. v < layer_count g) (sym (with_digit n x hn))
      (index_of-lt q t (set (layer_of g n) (t - 1) x) (IsLayer-set q t (layer_of g n) (t - 1) x hx (let some = columns in omega arith) (IsLayer-digits_of q t n rows))) in
      elim (cases_eq x d) [
        | inl same ↦
            cond-true _ _ _ (eq-eqb x d same)
            ∙ sym (column_at n x b hn hx hb)
            ∙ alone_last g rows column b x n hn (last_digit g geometry n ∙ sym same)
        | inr other ↦
            cond-false _ _ _ (ne_eqb x d other)
            ∙ (λ i. quotient (bit_xor (sym (column_at n x b hn hx hb) i) (product 2 (sym (column_at p d b hp hd hb) i))) 5)
            ∙ ap (λ v. quotient (bit_xor (get_or column ((n * q + x) * g.width + b) 0) (product 2 (get_or column ((p * q + v) * g.width + b) 0))) 5) (sym (last_digit g geometry n))
            ∙ paired_last g rows column b x n hn p hp (λ e. other (sym e ∙ last_digit g geometry n)) layer
      ]

  pub parity_codes : (chunks : List (List ℕ)) → length stripe ≡ stripe_length g → ((i : ℕ) → get_or stripe i 0 < 2 ^ 8) → length chunks ≡ g.parity_count
      → ((x : ℕ) → x < g.parity_count → Appends (layer_count g / row_count g * (g.parity_count * g.width)) (λ o. coupled_of g.parity_count (layer_value g factors stripe) x (o / g.width) (o % g.width)) [] (get_or chunks x []))
      → AreParity g stripe chunks
  parity_codes chunks whole bytes count appended =
      let piece : ℕ → List ℕ = λ c. slice_range stripe (c * chunk_length g) ((c + 1) * chunk_length g) in
      let front = data_pieces g stripe in
      let front_long : length front ≡ g.data_count = length-map-range_with_len piece 0 g.data_count in
      let all = front ++ chunks in
      let at_row : (x : ℕ) → get_or all (g.data_count + x) [] ≡ get_or chunks x [] =
      λ x. get_or-append_right front chunks g.data_count (g.data_count + x) [] front_long (omega arith) ∙ ap (λ v. get_or chunks v []) {x = g.data_count + x - g.data_count} {y = x} (omega arith) in
      assembled g stripe column all (record {
        geometry = geometry;
        whole = whole;
        stripe_bytes = bytes;
        column_bytes = column_bytes;
        solved = solved;
        count = length-append front chunks ∙ (λ i. front_long i + count i);
        pieces = λ c h. get_or_append_left front chunks [] c (subst (λ n. c < n) (sym front_long) h) ∙ get_or-map-range_with_len piece 0 g.data_count c c [] h (omega arith);
        lengths = λ x h. ap length (at_row x) ∙ (appended x h).long ∙ (let all = groups g geometry in omega (arith, all));
        coupled = λ x h. record {
          at = λ n b hn hb.
              let o : ℕ = n * g.width + b in
              let inside : o < layer_count g * g.width = place_below n (layer_count g) g.width b hn hb in
              let front_none : o ≡ 0 + o = omega arith in
              ap (λ l. get_or l o 0) (at_row x)
              ∙ ap (λ p. get_or (get_or chunks x []) p 0) front_none
              ∙ (appended x h).at o (let all = groups g geometry in omega (arith, all, inside))
              ∙ (λ i. coupled_of g.parity_count (layer_value g factors stripe) x (div-mul-add n g.width b hb i) (mod-mul-add n g.width b hb i))
              ∙ coupled_at n x b hn h hb;
        };
      })

-- a list of vectors that is written whole
pub written_chunks : (len : ℕ) (xs ys : List (Vec ℕ Global)) → len ≡ length xs → length ys ≡ length xs → take len (ys ++ drop (length ys) xs) ≡ ys
written_chunks len xs ys whole long =
    ap (λ l. take len (ys ++ l)) (drop_all (length ys) xs (omega arith))
    ∙ ap (take len) (append-nil ys)
    ∙ take_all len ys (omega arith)

-- an empty chunk more
pub empty_push : (vs : List (Vec ℕ Global)) (v : Vec ℕ Global) → ((x : ℕ) → get_or (contents vs) x [] ≡ []) → v.items ≡ [] → (x : ℕ) → get_or (contents (vs ++ v ∷ [])) x [] ≡ []
empty_push [] v each none zero = none
empty_push [] v each none (suc x) = refl
empty_push (u ∷ vs) v each none zero = each 0
empty_push (u ∷ vs) v each none (suc x) = empty_push vs v (λ y. each (suc y)) none x

pub contents_append : (us vs : List (Vec ℕ Global)) → contents (us ++ vs) ≡ contents us ++ contents vs
contents_append [] vs = refl
contents_append (u ∷ us) vs = ap (λ l. u.items ∷ l) (contents_append us vs)
