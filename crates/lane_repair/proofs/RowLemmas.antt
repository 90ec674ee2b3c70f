-- The rows of a block of bytes, which the factors make of the present nodes' values, and the bytes of a chunk.
-- A piece is right for every word that fits (fits : List (List ℕ) → Type 0, which is Completes in decoding and FitsPieces in repair): one
-- set of lemmas serves both. A byte of a chunk is right (HoldsByte fits c chunk p) by its place alone: a write keeps it at every place,
-- also where it writes, since what it writes is right. So blocks need no argument that places differ, and no order of writes.
use Rattle.std.proofs.Common.{◌≡◌, ℕ, zero, suc, subst, ◌+◌, ◌-◌, ◌*◌, ◌/◌, ◌%◌, ◌^◌, ◌<◌, ◌≤◌, Bool, true, false, List, [], length, get_or, replicate, sym, ap, ◌∙◌, inl, inr, arith, lit<, bit_xor}
use Rattle.std.proofs.lemmas.Bool.{cases_lt, cond-true, cond-false}
use Rattle.std.proofs.lemmas.Nat.{xor_lt}
use Rattle.std.proofs.lemmas.List.{get_or-replicate}
use lib.Bits.{xor_zero_r}
use Rattle.clay_field.specs.Field.{product}
use Rattle.clay_field.proofs.FieldLaws.{product_lt, product_zero}
use Rattle.clay_grid.specs.Shape.{Shape, row_count, column_count, node_count, layer_count}
use Rattle.clay_grid.specs.Layers.{layer_of}
use Rattle.clay_grid.specs.Limits.{IsGeometry}
use Rattle.clay_grid.proofs.LayerLaws.{IsLayer-digits_of}
use Rattle.clay_model.specs.Sums.{sum_below}
use Rattle.clay_model.specs.Code.{IsCodeword, coupled_value}
use Rattle.clay_model.proofs.Unique.{uncoupled_byte as uncoupled_below}
use Rattle.clay_model.specs.Points.{sum_over}
use Rattle.clay_model.specs.Erased.{erased_below, present}
use Rattle.code_laws.proofs.ErasedNodes.{erased_values_solved}
use Rattle.code_laws.proofs.Pieces.{put_mid_before, put_mid_within, put_mid_past, place_below}
use borrow.Rule.Slice.PartMut.{put_mid}
use Rattle.code_laws.specs.Solved.{uncoupled_byte}
use Rattle.code_laws.proofs.Layer.{coupled_below}
use Rattle.code_laws.proofs.Nodes.{IsNodeOf, chunk_byte}
use Rattle.clay_kernels.specs.Lanes.{AddsRows}
use Rattle.generator_matrix.specs.Generated.{factor_at, generated, IsGeneratorOf}
use Rattle.lane_repair.specs.Pieces.{IsCoupled, IsUncoupled, HoldsRows, HoldsByte}

-- ---- the rows of a layer

sum_byte : (n : ℕ) (f : ℕ → ℕ) → ((e : ℕ) → f e < 2 ^ 8) → sum_below n f < 2 ^ 8
sum_byte zero f each = lit< tt
sum_byte (suc n) f each = xor_lt 8 (sum_below n f) (f n) (sum_byte n f each) (each n)

-- what the factors make of the present nodes' values in a codeword are its values at the erased nodes
pub generated_values : (g : Shape) (erased : List Bool) (points : List ℕ) (m : ℕ) (factors : List ℕ) → IsGeometry g → IsGeneratorOf g points m factors → length points ≤ g.parity_count → points ≡ erased_below erased (node_count g)
    → (word : List (List ℕ)) → IsCodeword g word → (b n e : ℕ) → b < g.width → e < length points
    → generated factors (length points) (node_count g) (present erased (λ i. uncoupled_byte g word b i n)) e ≡ uncoupled_byte g word b (get_or points e 0) n
generated_values g erased points m factors geometry gen few same word w b n e hb he =
    let rows : 0 < row_count g = let some = geometry.limits.parity_chunks.0 in omega arith in
    let small : node_count g ≤ 2 ^ 8 = let few = geometry.nodes in omega arith in
    let all : ℕ = node_count g in
    let f : ℕ → ℕ = λ i. uncoupled_byte g word b i n in
    let found : ℕ → ℕ = generated factors (length points) all (present erased f) in
    let count : (v : ℕ) → v < length (erased_below erased all) → v < length points = λ v h. subst (λ l. v < length l) (sym same) h in
    erased_values_solved all erased f found small
    (λ i h. uncoupled_below (row_count g) (coupled_value g word b) (coupled_below g word w b) (i % row_count g) (i / row_count g) (layer_of g n))
    (λ v h. sum_byte all (λ i. product (factor_at factors (length points) i v) (present erased f i)) (λ i. product_lt (factor_at factors (length points) i v) (present erased f i)))
    (λ j h. w.sums b hb (layer_of g n) (IsLayer-digits_of (row_count g) (column_count g) n rows) j (let low = count j h in omega arith))
    (λ j h. ap (λ l. sum_over l found j) (sym same) ∙ gen.generates (present erased f) j (count j h))
    e (subst (λ l. e < length l) same he)
    ∙ ap (λ l. f (get_or l e 0)) (sym same)

sum_below-next : (n : ℕ) (f : ℕ → ℕ) → bit_xor (sum_below n f) (f n) ≡ sum_below (n + 1) f
sum_below-next n f = let next : suc n ≡ n + 1 = omega arith in ap (λ k. sum_below k f) next

-- the rows that the nodes below count have made
pub record HoldsSums (g : Shape) (fits : List (List ℕ) → Type 0) (at len : ℕ) (erased : List Bool) (points factors : List ℕ) (n count : ℕ) (rows : List ℕ) : Type 0 where
  pub bytes : (word : List (List ℕ)) → fits word → (e b : ℕ) → e < length points → b < len
      → get_or rows (e * len + b) 0 ≡ sum_below count (λ i. product (factor_at factors (length points) i e) (present erased (λ i. uncoupled_byte g word (at + b) i n) i))

pub no_sums : (g : Shape) (fits : List (List ℕ) → Type 0) (at len : ℕ) (erased : List Bool) (points factors : List ℕ) (n : ℕ) (rows : List ℕ) → length rows ≡ length points * len → rows ≡ replicate (length rows) 0
    → HoldsSums g fits at len erased points factors n 0 rows
no_sums g fits at len erased points factors n rows long empty = record {
  bytes = λ word fit e b he hb.
      ap (λ l. get_or l (e * len + b) 0) empty
      ∙ get_or-replicate (length rows) (e * len + b) 0 0 (subst (λ l. e * len + b < l) (sym long) (place_below e (length points) len b he hb));
}

pub sums_more : (g : Shape) (fits : List (List ℕ) → Type 0) (at len : ℕ) (erased : List Bool) (points factors : List ℕ) (n node m : ℕ) (values rows new : List ℕ) → m ≡ length points → length values ≡ len
    → get_or erased node false ≡ false → IsUncoupled g fits at len node n values
    → AddsRows m (length values) (λ e. factor_at factors m node e) (λ b. get_or values b 0) rows new
    → HoldsSums g fits at len erased points factors n node rows → HoldsSums g fits at len erased points factors n (node + 1) new
sums_more g fits at len erased points factors n node m values rows new count long here value adds before = record {
  bytes = λ word fit e b he hb.
      let adds_as : AddsRows (length points) len (λ e. factor_at factors (length points) node e) (λ b. get_or values b 0) rows new =
      subst (λ l. AddsRows (length points) l (λ e. factor_at factors (length points) node e) (λ b. get_or values b 0) rows new) long
      (subst (λ c. AddsRows c (length values) (λ e. factor_at factors c node e) (λ b. get_or values b 0) rows new) count adds) in
      let f : ℕ → ℕ = λ i. uncoupled_byte g word (at + b) i n in
      adds_as.at e b he hb
      ∙ (λ k. bit_xor (before.bytes word fit e b he hb k)
      (product (factor_at factors (length points) node e) ((value.bytes word fit b hb ∙ sym (cond-false (get_or erased node false) 0 (f node) here)) k)))
      ∙ sum_below-next node (λ i. product (factor_at factors (length points) i e) (present erased f i));
}

pub sums_skipped : (g : Shape) (fits : List (List ℕ) → Type 0) (at len : ℕ) (erased : List Bool) (points factors : List ℕ) (n node : ℕ) (rows : List ℕ)
    → get_or erased node false ≡ true → HoldsSums g fits at len erased points factors n node rows → HoldsSums g fits at len erased points factors n (node + 1) rows
sums_skipped g fits at len erased points factors n node rows gone before = record {
  bytes = λ word fit e b he hb.
      let f : ℕ → ℕ = λ i. uncoupled_byte g word (at + b) i n in
      let sum : ℕ = sum_below node (λ i. product (factor_at factors (length points) i e) (present erased f i)) in
      let none : product (factor_at factors (length points) node e) (present erased f node) ≡ 0 =
      ap (product (factor_at factors (length points) node e)) (cond-true (get_or erased node false) 0 (f node) gone) ∙ product_zero (factor_at factors (length points) node e) in
      before.bytes word fit e b he hb ∙ sym (ap (bit_xor sum) none ∙ xor_zero_r sum) ∙ sum_below-next node (λ i. product (factor_at factors (length points) i e) (present erased f i));
}

pub rows_of_sums : (g : Shape) (fits : List (List ℕ) → Type 0) (at len : ℕ) (erased : List Bool) (points : List ℕ) (m : ℕ) (factors : List ℕ) (n : ℕ) (rows : List ℕ) → IsGeometry g → IsGeneratorOf g points m factors → length points ≤ g.parity_count → points ≡ erased_below erased (node_count g)
    → ((word : List (List ℕ)) → fits word → IsCodeword g word) → at + len ≤ g.width
    → HoldsSums g fits at len erased points factors n (node_count g) rows → HoldsRows g fits at len points n rows
rows_of_sums g fits at len erased points m factors n rows geometry gen few same codeword room sums = record {
  bytes = λ word fit e b he hb.
      sums.bytes word fit e b he hb
      ∙ generated_values g erased points m factors geometry gen few same word (codeword word fit) (at + b) n e (omega arith) he;
}

-- ---- the bytes of a chunk

-- a piece that is written has the chunk's bytes
pub piece_written : (g : Shape) (fits : List (List ℕ) → Type 0) (at len c i n start k : ℕ) (chunk out : List ℕ) → 0 < row_count g → n < layer_count g → IsNodeOf g c i → start ≡ n * g.width + at → start ≤ length chunk → length out ≡ len
    → IsCoupled g fits at len i n out → (b : ℕ) → b < len → HoldsByte fits c (put_mid start k chunk out) (start + b)
piece_written g fits at len c i n start k chunk out rows below node start_is within long new b hb = record {
  at = λ word fit.
      let place : n * g.width + at + b ≡ n * g.width + (at + b) = omega arith in
      put_mid_within start k chunk out b within (subst (λ l. b < l) (sym long) hb)
      ∙ new.bytes word fit b hb
      ∙ chunk_byte g word c i n (at + b) rows below node
      ∙ ap (λ p. get_or (get_or word c []) p 0) (sym (ap (λ s. s + b) start_is ∙ place));
}

-- a byte stays right, also where it is written
pub byte_kept : (g : Shape) (fits : List (List ℕ) → Type 0) (at len c i n start k : ℕ) (chunk out : List ℕ) → 0 < row_count g → n < layer_count g → IsNodeOf g c i → start ≡ n * g.width + at → k ≡ len → start + len ≤ length chunk → length out ≡ len
    → IsCoupled g fits at len i n out → (p : ℕ) → HoldsByte fits c chunk p → HoldsByte fits c (put_mid start k chunk out) p
byte_kept g fits at len c i n start k chunk out rows below node start_is width room long new p before =
    elim (cases_lt p start) [
      | inl early ↦ record { at = λ word fit. put_mid_before start k chunk out p (omega arith) early ∙ before.at word fit }
      | inr late ↦ elim (cases_lt p (start + len)) [
        | inl inside ↦
            let back : start + (p - start) ≡ p = omega arith in
            subst (HoldsByte fits c (put_mid start k chunk out)) back
            (piece_written g fits at len c i n start k chunk out rows below node start_is (omega arith) long new (p - start) (omega arith))
        | inr past ↦ record { at = λ word fit. put_mid_past start k chunk out p (omega (arith, width, room)) (long ∙ sym width) (omega (arith, width, past)) ∙ before.at word fit }
      ]
    ]
