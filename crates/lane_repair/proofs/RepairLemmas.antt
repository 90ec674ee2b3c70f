-- The lost node's column and its chunk, block by block.
-- The same invariant as decoding, over the repair layers alone. The solved column's values are the lost node's subchunk of that layer, or
-- cross to its subchunks of the layers that differ in the lost column's digit; that each layer is one of these is arithmetic on digits. A
-- write keeps HoldsSubchunk for every layer, also for the one that is written, so no layer need be shown different from another.
use Rattle.std.proofs.Common.{◌≡◌, ◌≢◌, ℕ, subst, ◌+◌, ◌*◌, ◌/◌, ◌%◌, ◌<◌, ◌≤◌, Bool, false, eqb, List, [], length, get_or, set, take, drop, Option, Some, None, refl, sym, ap, ◌∙◌, arith, bit_xor}
use Rattle.std.proofs.lemmas.Nat.{mod_below, div_below, div-mul-add, mod-mul-add, div-add-mod', mul-add-lt}
use Rattle.std.proofs.lemmas.List.{ext_get_or, get_or-take, get_or-drop}
use Rattle.std.proofs.lemmas.List as lists
use Rattle.std.proofs.lemmas.List.FromFn.{length-range_with_len, get_or-range_with_len}
use Rattle.clay_field.specs.Field.{product, quotient}
use Rattle.clay_grid.specs.Shape.{Shape, chunk_count, row_count, column_count, node_count, layer_count, chunk_length, node_of_chunk}
use Rattle.clay_grid.specs.Layers.{layer_of}
use Rattle.clay_grid.specs.Repair.{repair_layers_of}
use Rattle.clay_model.proofs.PairLaws.{crossed}
use Rattle.clay_model.specs.Erased.{erased_below}
use Rattle.code_laws.specs.Solved.{coupled_byte, uncoupled_byte}
use Rattle.code_laws.proofs.Layer.{coupled_below}
use Rattle.clay_model.specs.Partners.{ArePartners}
use Rattle.code_laws.proofs.Vertices.{alone_value, paired_value}
use Rattle.code_laws.specs.Rebuilt.{IsReadFor, with_digit}
use Rattle.code_laws.proofs.Column.{is_read}
use Rattle.code_laws.proofs.Pieces.{piece_fits}
use Rattle.code_laws.proofs.Places.{StandsAt, subchunk_at}
use Rattle.code_laws.proofs.Nodes.{IsNodeOf, chunk_byte}
use Rattle.code_laws.proofs.ColumnPoints.{column_erased}
use Rattle.code_laws.proofs.Rows.{column_below, layer_of-with_digit, with_digit-own, with_digit-back}
use Rattle.lane_repair.specs.Pieces.{IsCoupled, IsUncoupled, HoldsRows, HoldsByte}
use Rattle.lane_repair.specs.Repaired.{column_nodes}
use Rattle.lane_repair.specs.Views.{FitsPieces, IsRebuiltFrom}
use Rattle.clay_model.specs.RepairParts.{subchunks_at}

-- ---- pieces

-- the layers that are read fit a chunk
layers_fit : (g : Shape) (lost : ℕ) (chunk : List ℕ) → length chunk ≡ chunk_length g → (i : ℕ) → i < length (repair_layers_of g lost) → get_or (repair_layers_of g lost) i 0 * g.width + g.width ≤ length chunk
layers_fit g lost chunk long i h =
    let n : ℕ = get_or (repair_layers_of g lost) i 0 in
    let room : n * g.width + g.width ≤ layer_count g * g.width = piece_fits n (layer_count g) g.width (is_read g lost i h).layer in
    omega arith

agreeing : (g : Shape) (lost : ℕ) (pieces : List (Option (List ℕ))) (word : List (List ℕ)) → FitsPieces g lost pieces word → (c : ℕ) (piece : List ℕ) → c < chunk_count g → get_or pieces c None ≡ Some piece
    → subchunks_at g.width (get_or word c []) (repair_layers_of g lost) ≡ piece
agreeing g lost pieces word fits c piece below there =
    let part : List ℕ → List ℕ = λ chunk. subchunks_at g.width chunk (repair_layers_of g lost) in
    sym (lists.get_or-map part word c [] [] (subst (λ n. c < n) (sym fits.codeword.count) below)) ∙ fits.agrees c piece there

-- the bytes of a subchunk that is read
pub part_of_piece : (g : Shape) (lost : ℕ) (pieces : List (Option (List ℕ))) (c i z place at len start k : ℕ) (piece : List ℕ) → 0 < row_count g → c < chunk_count g → z < layer_count g → IsNodeOf g c i → at + len ≤ g.width
    → get_or pieces c None ≡ Some piece → StandsAt (repair_layers_of g lost) place z → start ≡ place * g.width + at → k ≡ len
    → IsCoupled g (λ word. FitsPieces g lost pieces word) at len i z (take k (drop start piece))
part_of_piece g lost pieces c i z place at len start k piece rows below layer node room there stands start_is width = record {
  bytes = λ word fits b hb.
      let inside : at + b < g.width = omega arith in
      let grouped : place * g.width + at + b ≡ place * g.width + (at + b) = omega arith in
      let layers : List ℕ = repair_layers_of g lost in
      let chunk : List ℕ = get_or word c [] in
      get_or-take k (drop start piece) b 0 (subst (λ w. b < w) (sym width) hb)
      ∙ get_or-drop start piece b 0
      ∙ ap (λ s. get_or piece (s + b) 0) start_is
      ∙ ap (λ p. get_or piece p 0) grouped
      ∙ ap (λ l. get_or l (place * g.width + (at + b)) 0) (sym (agreeing g lost pieces word fits c piece below there))
      ∙ subchunk_at g.width chunk layers place (at + b) (layers_fit g lost chunk (fits.codeword.lengths c below)) stands.within inside
      ∙ ap (λ n. get_or chunk (n * g.width + (at + b)) 0) stands.is
      ∙ sym (chunk_byte g word c i z (at + b) rows layer node);
}

-- a row
pub row_piece : (g : Shape) (fits : List (List ℕ) → Type 0) (at len : ℕ) (points : List ℕ) (n : ℕ) (rows : List ℕ) (e i from k : ℕ) → HoldsRows g fits at len points n rows → e < length points → get_or points e 0 ≡ i
    → from ≡ e * len → k ≡ len → IsUncoupled g fits at len i n (take k (drop from rows))
row_piece g fits at len points n rows e i from k holds within point from_is width = record {
  bytes = λ word fit b hb.
      get_or-take k (drop from rows) b 0 (subst (λ w. b < w) (sym width) hb)
      ∙ get_or-drop from rows b 0
      ∙ ap (λ s. get_or rows (s + b) 0) from_is
      ∙ holds.bytes word fit e b within hb
      ∙ ap (λ v. uncoupled_byte g word (at + b) v n) point;
}

-- ---- the column

pub length-column_nodes : (g : Shape) (y : ℕ) → length (column_nodes g y) ≡ row_count g
length-column_nodes g y = length-range_with_len (y * row_count g) (row_count g)

pub column_node_at : (g : Shape) (y x : ℕ) → x < row_count g → get_or (column_nodes g y) x 0 ≡ y * row_count g + x
column_node_at g y x h = get_or-range_with_len (y * row_count g) (row_count g) x 0 h

pub column_points_are : (g : Shape) (y : ℕ) (erased : List Bool) → 0 < row_count g → y < column_count g → ((i : ℕ) → i < node_count g → get_or erased i false ≡ eqb (i / row_count g) y) → column_nodes g y ≡ erased_below erased (node_count g)
column_points_are g y erased rows below are = sym (column_erased (row_count g) (column_count g) y erased rows below are)

-- ---- the values of a subchunk

-- node i is that of row x of the lost node's column
partners : (g : Shape) (lost x z i : ℕ) → 0 < row_count g → node_of_chunk g lost < node_count g → x < row_count g → IsReadFor g lost z → i ≡ node_of_chunk g lost / row_count g * row_count g + x
    → ArePartners g i z (node_of_chunk g lost) (with_digit g lost z x)
partners g lost x z i rows inside hx read is =
    let q : ℕ = row_count g in
    let v : ℕ = node_of_chunk g lost / q in
    let column : i / q ≡ v = ap (λ n. n / q) is ∙ div-mul-add v q x hx in
    let row : i % q ≡ x = ap (λ n. n % q) is ∙ mod-mul-add v q x hx in
    let node : v * q + node_of_chunk g lost % q ≡ node_of_chunk g lost = div-add-mod' (node_of_chunk g lost) q in
    record {
      rows = rows;
      node = subst (λ n. n < node_count g) (sym is) (mul-add-lt v q x (column_count g) (column_below g lost rows inside) hx);
      node_is = sym node ∙ ap (λ d. v * q + d) (sym read.digit) ∙ (λ k. sym column k * q + get_or (layer_of g z) (sym column k) 0);
      layer_is = layer_of-with_digit g lost rows inside z x hx ∙ (λ k. set (layer_of g z) (sym column k) (sym row k));
    }

module _ (g : Shape) (lost : ℕ) (pieces : List (Option (List ℕ))) (at len x z i : ℕ) (rows : 0 < row_count g) (inside : node_of_chunk g lost < node_count g) (read : IsReadFor g lost z)
    (hx : x < row_count g) (is : i ≡ node_of_chunk g lost / row_count g * row_count g + x) where
  -- the subchunk of a layer that is read is the uncoupled value there
  pub own_piece : (piece out : List ℕ) → x ≡ node_of_chunk g lost % row_count g
      → IsUncoupled g (λ word. FitsPieces g lost pieces word) at len i z piece → out ≡ piece → IsCoupled g (λ word. FitsPieces g lost pieces word) at len (node_of_chunk g lost) (with_digit g lost z x) out
  own_piece piece out row uncoupled copied =
      let q : ℕ = row_count g in
      let node : ℕ = node_of_chunk g lost in
      let split : node / q * q + node % q ≡ node = div-add-mod' node q in
      let same : node ≡ i = sym split ∙ ap (λ d. node / q * q + d) (sym row) ∙ sym is in
      let back : with_digit g lost z x ≡ z = with_digit-own g lost rows inside z x read.layer (read.digit ∙ sym row) in
      record {
        bytes = λ word fits b hb.
            ap (λ l. get_or l b 0) copied
            ∙ uncoupled.bytes word fits b hb
            ∙ sym (alone_value g i z node (with_digit g lost z x) (partners g lost x z i rows inside hx read is) word fits.codeword (at + b) same)
            ∙ (λ k. coupled_byte g word (at + b) (sym same k) (sym back k));
      }

  -- the subchunk of another layer is that of the partner of a vertex of which both values are known
  pub crossed_piece : (own piece out : List ℕ) → x ≢ node_of_chunk g lost % row_count g
      → IsUncoupled g (λ word. FitsPieces g lost pieces word) at len i z own → IsCoupled g (λ word. FitsPieces g lost pieces word) at len i z piece
      → ((b : ℕ) → b < len → get_or out b 0 ≡ quotient (bit_xor (get_or own b 0) (get_or piece b 0)) 2)
      → IsCoupled g (λ word. FitsPieces g lost pieces word) at len (node_of_chunk g lost) (with_digit g lost z x) out
  crossed_piece own piece out other uncoupled coupled written =
      let q : ℕ = row_count g in
      let node : ℕ = node_of_chunk g lost in
      let p : ℕ = with_digit g lost z x in
      let split : node / q * q + node % q ≡ node = div-add-mod' node q in
      let apart : node ≢ i = λ e. other (omega (arith, e, is, split)) in
      record {
        bytes = λ word fits b hb.
            let c : ℕ = coupled_byte g word (at + b) i z in
            let d : ℕ = coupled_byte g word (at + b) node p in
            let u : ℕ = uncoupled_byte g word (at + b) i z in
            written b hb
            ∙ (λ k. quotient (bit_xor (uncoupled.bytes word fits b hb k) (coupled.bytes word fits b hb k)) 2)
            ∙ sym (crossed c d u (bit_xor d (product 2 c)) (coupled_below g word fits.codeword (at + b) node (layer_of g p)) (record {
              own = paired_value g i z node p (partners g lost x z i rows inside hx read is) word fits.codeword (at + b) apart;
              partner = refl;
            }));
      }

-- a chunk of which each byte is written
pub rebuilt_chunk : (g : Shape) (lost : ℕ) (pieces : List (Option (List ℕ))) (chunk : List ℕ) → 0 < row_count g → 0 < g.width → lost < chunk_count g → node_of_chunk g lost < node_count g → length chunk ≡ chunk_length g
    → ((k x b : ℕ) → k < length (repair_layers_of g lost) → x < row_count g → b < g.width
    → HoldsByte (λ word. FitsPieces g lost pieces word) lost chunk (with_digit g lost (get_or (repair_layers_of g lost) k 0) x * g.width + b))
    → IsRebuiltFrom g lost pieces chunk
rebuilt_chunk g lost pieces chunk rows wide within inside long holds = record {
  len = long;
  value = λ word fits.
      ext_get_or 0 chunk (get_or word lost []) (long ∙ sym (fits.codeword.lengths lost within)) (λ p hp.
      let place : p < chunk_length g = subst (λ n. p < n) long hp in
      let n : ℕ = p / g.width in
      let b : ℕ = p % g.width in
      let below : n < layer_count g = div_below p g.width (layer_count g) wide place in
      let split : n * g.width + b ≡ p = div-add-mod' p g.width in
      let from = with_digit-back g lost rows inside n below in
      let held : HoldsByte (λ word. FitsPieces g lost pieces word) lost chunk p =
      subst (HoldsByte (λ word. FitsPieces g lost pieces word) lost chunk) (ap (λ v. v * g.width + b) from.4 ∙ split) (holds from.0 from.1 b from.2 from.3 (mod_below p g.width wide)) in
      held.at word fits);
}
