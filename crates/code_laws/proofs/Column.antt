-- The values of the lost node's column in one layer, and the bytes of the parts.
use Rattle.std.proofs.Common.{◌≡◌, ◌≢◌, ℕ, suc, subst, ◌+◌, ◌-◌, ◌*◌, ◌/◌, ◌%◌, ◌^◌, ◌<◌, ◌≤◌, Bool, true, false, eqb, nat_lt, List, [], length, get_or, take, drop, Option, Some, None, Vec, Global, All, sym, ap, ◌∙◌, inl, inr, arith}
use Rattle.std.specs.List.{range_with_len}
use Rattle.std.specs.Option.{option_map}
use Rattle.std.proofs.lemmas.Bool.{cases_eq, cases_lt, cases_Bool, cond-true, cond-false, eqb-true, lt-ltb, le-ltb, true≢false}
use Rattle.std.proofs.lemmas.Nat.{div-mul-add}
use Rattle.std.proofs.lemmas.List.{get_or-take, get_or-drop}
use Rattle.std.proofs.lemmas.List.{length-map}
use Rattle.std.proofs.lemmas.List as lists
use Rattle.std.proofs.lemmas.List.FromFn.{length-range_with_len, get_or-range_with_len}
use Rattle.std.proofs.Math.ListN.{get_or-map}
use Rattle.std.proofs.Math.Nat.{mul_comm, pow-suc, eq_of_mul-eq-mul_left}
use Rattle.clay_field.specs.Field.{product, power_of}
use Rattle.clay_grid.specs.Shape.{Shape, chunk_count, row_count, column_count, node_count, virtual_count, layer_count, chunk_length, node_of_chunk}
use Rattle.clay_grid.specs.Limits.{IsGeometry}
use Rattle.clay_grid.specs.Layers.{layer_of}
use Rattle.clay_grid.specs.Repair.{layers_with_digit, repair_layers_of}
use Rattle.clay_grid.proofs.LayerLaws.{IsLayer-digits_of}
use Rattle.clay_grid.proofs.RepairLaws.{length-repair_layers_of}
use Rattle.clay_grid.proofs.Rising.{Lists-filter}
use Rattle.clay_model.specs.Sums.{weighted_sum, present_value}
use Rattle.clay_model.specs.Code.{IsCodeword, coupled_value}
use Rattle.clay_model.proofs.SumLaws.{sum_below_same}
use Rattle.clay_model.proofs.Unique.{row_of, uncoupled_byte as uncoupled_below}
use Rattle.clay_model.specs.Points.{sum_over, byte_of, HaveSums}
use Rattle.clay_model.specs.Erased.{erased_below, present}
use Rattle.code_laws.proofs.ErasedNodes.{erased_values_solved}
use Rattle.code_laws.proofs.Pieces.{place_below, piece_fits, put_mid_before, put_mid_within}
use borrow.Rule.Slice.PartMut.{put_mid}
use Rattle.code_laws.specs.Solved.{uncoupled_byte}
use Rattle.code_laws.proofs.Layer.{coupled_below}
use Rattle.code_laws.proofs.Nodes.{IsNodeOf, chunk_byte}
use Rattle.clay_model.specs.RepairParts.{subchunks_at, repair_parts, part_length, HasParts}
use Rattle.code_laws.specs.Rebuilt.{IsReadFor, IsCoupled, IsUncoupled, HoldsOthers}
use Rattle.code_laws.proofs.Places.{StandsAt, subchunk_at, length-subchunks}
use Rattle.code_laws.proofs.ColumnPoints.{column_erased}

-- ---- the nodes and the layers that are read

pub node_inside : (g : Shape) (c : ℕ) → IsGeometry g → c < chunk_count g → node_of_chunk g c < node_count g
node_inside g c geometry h =
    let fit = geometry.chunks in
    elim (cases_lt c g.data_count) [
      | inl early ↦ subst (λ n. n < node_count g) (sym (cond-true (nat_lt c g.data_count) c (c + virtual_count g) (lt-ltb c g.data_count early))) (omega arith)
      | inr late ↦ subst (λ n. n < node_count g) (sym (cond-false (nat_lt c g.data_count) c (c + virtual_count g) (le-ltb c g.data_count late))) (omega arith)
    ]

-- a partner stands in the same column
pub partner_outside : (g : Shape) (i z other lost : ℕ) → 0 < row_count g → i < node_count g → other ≡ i / row_count g * row_count g + get_or (layer_of g z) (i / row_count g) 0
    → i / row_count g ≢ node_of_chunk g lost / row_count g → other ≢ node_of_chunk g lost
partner_outside g i z other lost rows inside is apart same =
    let q : ℕ = row_count g in
    let digit : get_or (layer_of g z) (i / q) 0 < q = (IsLayer-digits_of q (column_count g) z rows).digits (i / q) (row_of q (column_count g) i rows inside) in
    apart (sym (ap (λ n. n / q) is ∙ div-mul-add (i / q) q (get_or (layer_of g z) (i / q) 0) digit) ∙ ap (λ n. n / q) same)

pub read_layers : (g : Shape) (lost y z : ℕ) → y ≡ node_of_chunk g lost / row_count g → IsReadFor g lost z → layers_with_digit g y (get_or (layer_of g z) y 0) ≡ repair_layers_of g lost
read_layers g lost y z here read =
    ap (λ v. layers_with_digit g v (get_or (layer_of g z) v 0)) here
    ∙ ap (layers_with_digit g (node_of_chunk g lost / row_count g)) read.digit

-- the place of a layer that is read
pub stands_at : (g : Shape) (lost y z place : ℕ) → y ≡ node_of_chunk g lost / row_count g → IsReadFor g lost z
    → place < length (layers_with_digit g y (get_or (layer_of g z) y 0)) → get_or (layers_with_digit g y (get_or (layer_of g z) y 0)) place 0 ≡ z → StandsAt (repair_layers_of g lost) place z
stands_at g lost y z place here read within is = subst (λ l. StandsAt l place z) (read_layers g lost y z here read) (record { within = within; is = is })

-- each layer of the list is read
pub is_read : (g : Shape) (lost k : ℕ) → k < length (repair_layers_of g lost) → IsReadFor g lost (get_or (repair_layers_of g lost) k 0)
is_read g lost k h =
    let test : ℕ → Bool = λ z. eqb (get_or (layer_of g z) (node_of_chunk g lost / row_count g) 0) (node_of_chunk g lost % row_count g) in
    let found = (Lists-filter test (layer_count g)).only k h in
    record {
      layer = found.0;
      digit = eqb-true _ _ found.1;
    }

-- a part has the bytes of its layers
pub length-part : (g : Shape) (lost : ℕ) → IsGeometry g → node_of_chunk g lost < node_count g → length (repair_layers_of g lost) * g.width ≡ part_length g
length-part g lost geometry below =
    let rows : 0 < row_count g = let some = geometry.limits.parity_chunks.0 in omega arith in
    let two = geometry.columns.0 in
    let q : ℕ = row_count g in
    let t : ℕ = column_count g in
    let next : suc (t - 1) ≡ t = omega arith in
    let power : q * q ^ (t - 1) ≡ q ^ t = mul_comm q (q ^ (t - 1)) ∙ sym (pow-suc q (t - 1)) ∙ ap (λ e. q ^ e) next in
    let counted : length (repair_layers_of g lost) * q ≡ q ^ t = length-repair_layers_of g lost rows below in
    let same : length (repair_layers_of g lost) ≡ q ^ (t - 1) =
    eq_of_mul-eq-mul_left q rows (length (repair_layers_of g lost)) (q ^ (t - 1)) (mul_comm q (length (repair_layers_of g lost)) ∙ counted ∙ sym power) in
    ap (λ n. n * g.width) same

-- ---- the bytes of a part

-- the layers fit a chunk
layers_fit : (g : Shape) (lost : ℕ) (chunk : List ℕ) → length chunk ≡ chunk_length g → (i : ℕ) → i < length (repair_layers_of g lost) → get_or (repair_layers_of g lost) i 0 * g.width + g.width ≤ length chunk
layers_fit g lost chunk long i h =
    let n : ℕ = get_or (repair_layers_of g lost) i 0 in
    let room : n * g.width + g.width ≤ layer_count g * g.width = piece_fits n (layer_count g) g.width (is_read g lost i h).layer in
    omega arith

pub length-repair_parts : (g : Shape) (lost : ℕ) (word : List (List ℕ)) → IsGeometry g → lost < chunk_count g → IsCodeword g word → All (λ part. length part ≡ part_length g) (repair_parts g lost word)
length-repair_parts g lost word geometry within w c d h =
    let part : List ℕ → List ℕ = λ chunk. subchunks_at g.width chunk (repair_layers_of g lost) in
    let place : c < length word = subst (λ n. c < n) (length-map word part) h in
    let below : c < chunk_count g = subst (λ n. c < n) w.count place in
    ap length (lists.get_or-map part word c [] d place)
    ∙ length-subchunks g.width (get_or word c []) (repair_layers_of g lost) (layers_fit g lost (get_or word c []) (w.lengths c below))
    ∙ length-part g lost geometry (node_inside g lost geometry within)

agreeing_part : (g : Shape) (lost : ℕ) (have : List (Option (Vec ℕ Global))) (word : List (List ℕ)) → HasParts g lost have word → (c : ℕ) (v : Vec ℕ Global) → c < chunk_count g → get_or have c None ≡ Some v
    → subchunks_at g.width (get_or word c []) (repair_layers_of g lost) ≡ v.items
agreeing_part g lost have word fits c v below there =
    let items : Option (Vec ℕ Global) → Option (List ℕ) = option_map (λ (w : Vec ℕ Global). w.items) in
    let part : List ℕ → List ℕ = λ chunk. subchunks_at g.width chunk (repair_layers_of g lost) in
    sym (lists.get_or-map part word c [] [] (subst (λ n. c < n) (sym fits.codeword.count) below))
    ∙ fits.agrees c v.items (get_or-map items have c None ∙ ap items there)

pub held_piece : (g : Shape) (lost : ℕ) (have : List (Option (Vec ℕ Global))) (c i z place at k : ℕ) (v : Vec ℕ Global) → 0 < row_count g → c < chunk_count g → z < layer_count g → IsNodeOf g c i
    → get_or have c None ≡ Some v → StandsAt (repair_layers_of g lost) place z → at ≡ place * g.width → k ≡ g.width → IsCoupled g lost have i z (take k (drop at v.items))
held_piece g lost have c i z place at k v rows below layer node there stands at_is width = record {
  at = λ word fits b hb.
      let layers : List ℕ = repair_layers_of g lost in
      let chunk : List ℕ = get_or word c [] in
      get_or-take k (drop at v.items) b 0 (subst (λ w. b < w) (sym width) hb)
      ∙ get_or-drop at v.items b 0
      ∙ ap (λ p. get_or v.items (p + b) 0) at_is
      ∙ ap (λ l. get_or l (place * g.width + b) 0) (sym (agreeing_part g lost have word fits c v below there))
      ∙ subchunk_at g.width chunk layers place b
      (layers_fit g lost chunk (fits.codeword.lengths c below)) stands.within hb
      ∙ ap (λ n. get_or chunk (n * g.width + b) 0) stands.is
      ∙ sym (chunk_byte g word c i z b rows layer node);
}

-- ---- the nodes outside the column, one after another

pub no_others : (g : Shape) (lost : ℕ) (have : List (Option (Vec ℕ Global))) (erased : List Bool) (n : ℕ) (layer : List ℕ) → HoldsOthers g lost have erased n 0 layer
no_others g lost have erased n layer = record { at = λ word fits i b hi here hb. absurd (omega arith) }

pub others_more : (g : Shape) (lost : ℕ) (have : List (Option (Vec ℕ Global))) (erased : List Bool) (n node k : ℕ) (layer out : List ℕ) → node * g.width ≤ length layer → length out ≡ g.width
    → HoldsOthers g lost have erased n node layer → IsUncoupled g lost have node n out → HoldsOthers g lost have erased n (node + 1) (put_mid (node * g.width) k layer out)
others_more g lost have erased n node k layer out start long before new = record {
  at = λ word fits i b hi here hb. elim (cases_eq i node) [
    | inl same ↦
        ap (λ v. get_or (put_mid (node * g.width) k layer out) (v * g.width + b) 0) same
        ∙ put_mid_within (node * g.width) k layer out b start (subst (λ v. b < v) (sym long) hb)
        ∙ new.at word fits b hb
        ∙ ap (λ v. uncoupled_byte g word b v n) (sym same)
    | inr other ↦
        let below : i < node = omega (arith, other) in
        put_mid_before (node * g.width) k layer out (i * g.width + b) start (place_below i node g.width b below hb)
        ∙ before.at word fits i b below here hb
  ];
}

pub others_skipped : (g : Shape) (lost : ℕ) (have : List (Option (Vec ℕ Global))) (erased : List Bool) (n node : ℕ) (layer : List ℕ) → get_or erased node false ≡ true
    → HoldsOthers g lost have erased n node layer → HoldsOthers g lost have erased n (node + 1) layer
others_skipped g lost have erased n node layer gone before = record {
  at = λ word fits i b hi here hb. elim (cases_eq i node) [
    | inl same ↦ let both : true ≡ false = sym gone ∙ ap (λ v. get_or erased v false) (sym same) ∙ here in absurd (true≢false both)
    | inr other ↦ before.at word fits i b (omega (arith, other)) here hb
  ];
}

-- ---- the column

-- the column's values are those of which the others' sums tell
pub solved_column : (g : Shape) (lost : ℕ) (have : List (Option (Vec ℕ Global))) (erased : List Bool) (y n : ℕ) (layer sums column : List ℕ) → IsGeometry g → y < column_count g
    → ((i : ℕ) → i < node_count g → get_or erased i false ≡ eqb (i / row_count g) y)
    → HoldsOthers g lost have erased n (node_count g) layer
    → ((j b : ℕ) → j < row_count g → b < g.width → byte_of sums g.width b j ≡ weighted_sum (node_count g) (present_value layer erased g.width b) j)
    → HaveSums (range_with_len (y * row_count g) (row_count g)) g.width column sums
    → ((p : ℕ) → get_or column p 0 < 2 ^ 8)
    → (word : List (List ℕ)) → HasParts g lost have word → (x b : ℕ) → x < row_count g → b < g.width
    → byte_of column g.width b x ≡ uncoupled_byte g word b (y * row_count g + x) n
solved_column g lost have erased y n layer sums column geometry hy erased_are holds summed solved bytes word fits x b hx hb =
    let rows : 0 < row_count g = let some = geometry.limits.parity_chunks.0 in omega arith in
    let small : node_count g ≤ 2 ^ 8 = let few = geometry.nodes in omega arith in
    let all : ℕ = node_count g in
    let q : ℕ = row_count g in
    let points : List ℕ = range_with_len (y * q) q in
    let long : length points ≡ q = length-range_with_len (y * q) q in
    let f : ℕ → ℕ = λ i. uncoupled_byte g word b i n in
    let found : ℕ → ℕ = byte_of column g.width b in
    let same : points ≡ erased_below erased all = sym (column_erased q (column_count g) y erased rows hy erased_are) in
    let count : (v : ℕ) → v < length (erased_below erased all) → v < q = λ v h. subst (λ l. v < l) (ap length (sym same) ∙ long) h in
    let value : (i : ℕ) → i < all → present_value layer erased g.width b i ≡ present erased f i =
    λ i h. elim (cases_Bool (get_or erased i false)) [
      | inl gone ↦ cond-true (get_or erased i false) 0 (get_or layer (i * g.width + b) 0) gone ∙ sym (cond-true (get_or erased i false) 0 (f i) gone)
      | inr there ↦
          cond-false (get_or erased i false) 0 (get_or layer (i * g.width + b) 0) there
          ∙ holds.at word fits i b h there hb
          ∙ sym (cond-false (get_or erased i false) 0 (f i) there)
    ] in
    erased_values_solved all erased f found small
    (λ i h. uncoupled_below (row_count g) (coupled_value g word b) (coupled_below g word fits.codeword b) (i % row_count g) (i / row_count g) (layer_of g n))
    (λ v h. bytes (v * g.width + b))
    (λ j h. fits.codeword.sums b hb (layer_of g n) (IsLayer-digits_of (row_count g) (column_count g) n rows) j (count j h))
    (λ j h.
    ap (λ l. sum_over l found j) (sym same)
    ∙ solved j b (subst (λ l. j < l) (sym long) (count j h)) hb
    ∙ summed j b (count j h) hb
    ∙ sum_below_same all (λ i. product (power_of i j) (present_value layer erased g.width b i)) (λ i. product (power_of i j) (present erased f i))
    (λ i l. ap (product (power_of i j)) (value i l)))
    x (subst (λ l. x < l) (sym long ∙ ap length same) hx)
    ∙ ap (λ l. f (get_or l x 0)) (sym same)
    ∙ ap f (get_or-range_with_len (y * q) q x 0 hx)
