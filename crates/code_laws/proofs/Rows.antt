-- The lost chunk's subchunks, written layer by layer.
use Rattle.std.proofs.Common.{◌≡◌, ◌≢◌, ℕ, subst, ◌+◌, ◌*◌, ◌/◌, ◌%◌, ◌<◌, ◌≤◌, Bool, eqb, List, [], length, get_or, set, Option, Vec, Global, refl, sym, ap, ◌∙◌, inl, inr, arith, bit_xor}
use Rattle.std.proofs.lemmas.Bool.{cases_eq, cases_lt, eq-eqb}
use Rattle.std.proofs.lemmas.Nat.{mod_below, div_below, div-mul-add, mod-mul-add, div-add-mod', mul-add-lt}
use Rattle.std.proofs.lemmas.List.{ext_get_or, set-set, set-get_or, get_or-set_same}
use Rattle.clay_field.specs.Field.{product, quotient}
use Rattle.clay_grid.specs.Shape.{Shape, chunk_count, row_count, column_count, node_count, layer_count, chunk_length, node_of_chunk}
use Rattle.clay_grid.specs.Layers.{layer_of, index_of, IsLayer}
use Rattle.clay_grid.specs.Repair.{repair_layers_of}
use Rattle.clay_grid.proofs.LayerLaws.{IsLayer-digits_of, IsLayer-set, index_of-lt, index_of-digits_of, digits_of-index_of}
use Rattle.clay_grid.proofs.Rising.{Lists-filter}
use Rattle.clay_model.proofs.PairLaws.{crossed}
use Rattle.clay_model.proofs.Unique.{row_of}
use Rattle.code_laws.proofs.Pieces.{put_mid_before, put_mid_within, put_mid_past, place_below, piece_fits}
use borrow.Rule.Slice.PartMut.{put_mid}
use Rattle.code_laws.specs.Solved.{coupled_byte, uncoupled_byte}
use Rattle.code_laws.proofs.Layer.{coupled_below}
use Rattle.code_laws.proofs.Nodes.{node_real, chunk_byte}
use Rattle.clay_model.specs.Partners.{ArePartners}
use Rattle.code_laws.proofs.Vertices.{alone_value, paired_value}
use Rattle.clay_model.specs.RepairParts.{IsRebuilt}
use Rattle.code_laws.specs.Rebuilt.{IsReadFor, IsCoupled, IsUncoupled, HoldsSubchunk, HoldsRow, with_digit}

-- ---- a layer with another digit of the lost node's column

module _ (g : Shape) (lost : ℕ) (rows : 0 < row_count g) (inside : node_of_chunk g lost < node_count g) where
  y : ℕ
  y = node_of_chunk g lost / row_count g

  own : ℕ
  own = node_of_chunk g lost % row_count g

  pub column_below : node_of_chunk g lost / row_count g < column_count g
  column_below = row_of (row_count g) (column_count g) (node_of_chunk g lost) rows inside

  is_layer : (n : ℕ) → IsLayer (row_count g) (column_count g) (layer_of g n)
  is_layer n = IsLayer-digits_of (row_count g) (column_count g) n rows

  set_layer : (n x : ℕ) → x < row_count g → IsLayer (row_count g) (column_count g) (set (layer_of g n) (node_of_chunk g lost / row_count g) x)
  set_layer n x h = IsLayer-set (row_count g) (column_count g) (layer_of g n) (node_of_chunk g lost / row_count g) x h column_below (is_layer n)

  pub layer_of-with_digit : (n x : ℕ) → x < row_count g → layer_of g (with_digit g lost n x) ≡ set (layer_of g n) (node_of_chunk g lost / row_count g) x
  layer_of-with_digit n x h = digits_of-index_of (row_count g) (column_count g) (set (layer_of g n) (node_of_chunk g lost / row_count g) x) rows (set_layer n x h)

  pub with_digit-below : (n x : ℕ) → x < row_count g → with_digit g lost n x < layer_count g
  with_digit-below n x h = index_of-lt (row_count g) (column_count g) (set (layer_of g n) (node_of_chunk g lost / row_count g) x) (set_layer n x h)

  -- its own digit changes nothing
  pub with_digit-own : (n x : ℕ) → n < layer_count g → get_or (layer_of g n) (node_of_chunk g lost / row_count g) 0 ≡ x → with_digit g lost n x ≡ n
  with_digit-own n x h digit =
      ap (λ d. index_of (row_count g) (set (layer_of g n) (node_of_chunk g lost / row_count g) d)) (sym digit)
      ∙ ap (index_of (row_count g)) (set-get_or (layer_of g n) (node_of_chunk g lost / row_count g) 0)
      ∙ index_of-digits_of (row_count g) (column_count g) n rows h

  -- each layer differs from one that is read in that digit alone
  pub with_digit-back : (n : ℕ) → n < layer_count g → (k x : ℕ) × (k < length (repair_layers_of g lost)) × (x < row_count g) × (with_digit g lost (get_or (repair_layers_of g lost) k 0) x ≡ n)
  with_digit-back n h =
      let v : ℕ = node_of_chunk g lost / row_count g in
      let r : ℕ = node_of_chunk g lost % row_count g in
      let row : r < row_count g = mod_below (node_of_chunk g lost) (row_count g) rows in
      let x : ℕ = get_or (layer_of g n) v 0 in
      let z : ℕ = with_digit g lost n r in
      let test : ℕ → Bool = λ w. eqb (get_or (layer_of g w) v 0) r in
      let long : v < length (layer_of g n) = subst (λ t. v < t) (sym (is_layer n).long) column_below in
      let changed : layer_of g z ≡ set (layer_of g n) v r = layer_of-with_digit n r row in
      let digit : get_or (layer_of g z) v 0 ≡ r = ap (λ l. get_or l v 0) changed ∙ get_or-set_same (layer_of g n) v r 0 long in
      let found = (Lists-filter test (layer_count g)).each z (with_digit-below n r row, eq-eqb (get_or (layer_of g z) v 0) r digit) in
      let back : with_digit g lost z x ≡ n =
      ap (λ l. index_of (row_count g) (set l v x)) changed
      ∙ ap (index_of (row_count g)) (set-set (layer_of g n) v r x ∙ set-get_or (layer_of g n) v 0)
      ∙ index_of-digits_of (row_count g) (column_count g) n rows h in
      (found.0, x, found.1, (is_layer n).digits v column_below, ap (λ w. with_digit g lost w x) found.2 ∙ back)

-- ---- the values of a subchunk

-- node i is that of row x of the lost node's column
partners : (g : Shape) (lost x z i : ℕ) → 0 < row_count g → node_of_chunk g lost < node_count g → x < row_count g → IsReadFor g lost z → i ≡ node_of_chunk g lost / row_count g * row_count g + x
    → ArePartners g i z (node_of_chunk g lost) (with_digit g lost z x)
partners g lost x z i rows inside hx read is =
    let q : ℕ = row_count g in
    let v : ℕ = node_of_chunk g lost / q in
    let column : i / q ≡ v = ap (λ n. n / q) is ∙ div-mul-add v q x hx in
    let row : i % q ≡ x = ap (λ n. n % q) is ∙ mod-mul-add v q x hx in
    let whole : v * q + node_of_chunk g lost % q ≡ node_of_chunk g lost = div-add-mod' (node_of_chunk g lost) q in
    record {
      rows = rows;
      node = subst (λ n. n < node_count g) (sym is) (mul-add-lt v q x (column_count g) (column_below g lost rows inside) hx);
      node_is = sym whole ∙ ap (λ d. v * q + d) (sym read.digit) ∙ (λ k. sym column k * q + get_or (layer_of g z) (sym column k) 0);
      layer_is = layer_of-with_digit g lost rows inside z x hx ∙ (λ k. set (layer_of g z) (sym column k) (sym row k));
    }

-- the subchunk of a layer that is read is the uncoupled value there
pub own_subchunk : (g : Shape) (lost : ℕ) (have : List (Option (Vec ℕ Global))) (x z i : ℕ) (piece out : List ℕ) → 0 < row_count g → node_of_chunk g lost < node_count g → IsReadFor g lost z
    → x ≡ node_of_chunk g lost % row_count g → i ≡ node_of_chunk g lost / row_count g * row_count g + x
    → IsUncoupled g lost have i z piece → out ≡ piece → IsCoupled g lost have (node_of_chunk g lost) (with_digit g lost z x) out
own_subchunk g lost have x z i piece out rows inside read row is uncoupled copied =
    let q : ℕ = row_count g in
    let node : ℕ = node_of_chunk g lost in
    let whole : node / q * q + node % q ≡ node = div-add-mod' node q in
    let same : node ≡ i = sym whole ∙ ap (λ d. node / q * q + d) (sym row) ∙ sym is in
    let hx : x < q = subst (λ v. v < q) (sym row) (mod_below node q rows) in
    let back : with_digit g lost z x ≡ z = with_digit-own g lost rows inside z x read.layer (read.digit ∙ sym row) in
    record {
      at = λ word fits b hb.
          ap (λ l. get_or l b 0) copied
          ∙ uncoupled.at word fits b hb
          ∙ sym (alone_value g i z node (with_digit g lost z x) (partners g lost x z i rows inside hx read is) word fits.codeword b same)
          ∙ (λ k. coupled_byte g word b (sym same k) (sym back k));
    }

-- the subchunk of another layer is that of the partner of a vertex of which both values are known
pub crossed_subchunk : (g : Shape) (lost : ℕ) (have : List (Option (Vec ℕ Global))) (x z i : ℕ) (own piece out : List ℕ) → 0 < row_count g → node_of_chunk g lost < node_count g → IsReadFor g lost z
    → x < row_count g → x ≢ node_of_chunk g lost % row_count g → i ≡ node_of_chunk g lost / row_count g * row_count g + x
    → IsUncoupled g lost have i z own → IsCoupled g lost have i z piece
    → ((b : ℕ) → b < g.width → get_or out b 0 ≡ quotient (bit_xor (get_or own b 0) (get_or piece b 0)) 2)
    → IsCoupled g lost have (node_of_chunk g lost) (with_digit g lost z x) out
crossed_subchunk g lost have x z i own piece out rows inside read hx other is uncoupled coupled written =
    let q : ℕ = row_count g in
    let node : ℕ = node_of_chunk g lost in
    let p : ℕ = with_digit g lost z x in
    let whole : node / q * q + node % q ≡ node = div-add-mod' node q in
    let apart : node ≢ i = λ e. other (omega (arith, e, is, whole)) in
    record {
      at = λ word fits b hb.
          let c : ℕ = coupled_byte g word b i z in
          let d : ℕ = coupled_byte g word b node p in
          let u : ℕ = uncoupled_byte g word b i z in
          written b hb
          ∙ (λ k. quotient (bit_xor (uncoupled.at word fits b hb k) (coupled.at word fits b hb k)) 2)
          ∙ sym (crossed c d u (bit_xor d (product 2 c)) (coupled_below g word fits.codeword b node (layer_of g p)) (record {
            own = paired_value g i z node p (partners g lost x z i rows inside hx read is) word fits.codeword b apart;
            partner = refl;
          }));
    }

-- ---- the chunk that is written

pub subchunk_written : (g : Shape) (lost : ℕ) (have : List (Option (Vec ℕ Global))) (n at k : ℕ) (chunk out : List ℕ) → at ≡ n * g.width → n * g.width ≤ length chunk → length out ≡ g.width
    → IsCoupled g lost have (node_of_chunk g lost) n out → HoldsSubchunk g lost have (put_mid at k chunk out) n
subchunk_written g lost have n at k chunk out at_is start long new =
    subst (λ a. HoldsSubchunk g lost have (put_mid a k chunk out) n) (sym at_is) (record {
      at = λ word fits b hb. put_mid_within (n * g.width) k chunk out b start (subst (λ w. b < w) (sym long) hb) ∙ new.at word fits b hb;
    })

pub subchunk_kept : (g : Shape) (lost : ℕ) (have : List (Option (Vec ℕ Global))) (n p at k : ℕ) (chunk out : List ℕ) → at ≡ n * g.width → k ≡ g.width → n * g.width + g.width ≤ length chunk → length out ≡ g.width
    → IsCoupled g lost have (node_of_chunk g lost) n out → HoldsSubchunk g lost have chunk p → HoldsSubchunk g lost have (put_mid at k chunk out) p
subchunk_kept g lost have n p at k chunk out at_is width fits long new before =
    elim (cases_eq p n) [
      | inl same ↦ subst (HoldsSubchunk g lost have (put_mid at k chunk out)) (sym same) (subchunk_written g lost have n at k chunk out at_is (omega arith) long new)
      | inr other ↦ subst (λ a. HoldsSubchunk g lost have (put_mid a k chunk out) p) (sym at_is) (record {
        at = λ word has b hb.
            elim (cases_lt p n) [
              | inl early ↦ put_mid_before (n * g.width) k chunk out (p * g.width + b) (omega arith) (place_below p n g.width b early hb) ∙ before.at word has b hb
              | inr late ↦
                  let after : n * g.width + g.width ≤ p * g.width = piece_fits n p g.width (omega (arith, late, other)) in
                  put_mid_past (n * g.width) k chunk out (p * g.width + b) (omega arith) (long ∙ sym width) (omega arith) ∙ before.at word has b hb
            ];
      })
    ]

-- a chunk of which each layer is written
pub is_rebuilt : (g : Shape) (lost : ℕ) (have : List (Option (Vec ℕ Global))) (chunk : List ℕ) → 0 < row_count g → 0 < g.width → lost < chunk_count g → node_of_chunk g lost < node_count g → length chunk ≡ chunk_length g
    → ((k : ℕ) → k < length (repair_layers_of g lost) → HoldsRow g lost have (get_or (repair_layers_of g lost) k 0) (row_count g) chunk) → IsRebuilt g lost have chunk
is_rebuilt g lost have chunk rows wide within inside long holds = record {
  len = long;
  value = λ word fits.
      ext_get_or 0 chunk (get_or word lost []) (long ∙ sym (fits.codeword.lengths lost within)) (λ p hp.
      let place : p < chunk_length g = subst (λ n. p < n) long hp in
      let n : ℕ = p / g.width in
      let b : ℕ = p % g.width in
      let below : n < layer_count g = div_below p g.width (layer_count g) wide place in
      let split : n * g.width + b ≡ p = div-add-mod' p g.width in
      let from = with_digit-back g lost rows inside n below in
      let held : HoldsSubchunk g lost have chunk n = subst (HoldsSubchunk g lost have chunk) from.4 (holds from.0 from.2 from.1 from.3) in
      ap (λ v. get_or chunk v 0) (sym split)
      ∙ held.at word fits b (mod_below p g.width wide)
      ∙ chunk_byte g word lost (node_of_chunk g lost) n b rows below (node_real g lost (node_of_chunk g lost) refl)
      ∙ ap (λ v. get_or (get_or word lost []) v 0) split);
}
