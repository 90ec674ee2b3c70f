-- Two codewords with the same pieces have the same layers of the lost chunk.
use Rattle.std.proofs.Common.{◌≡◌, ◌≢◌, ℕ, zero, suc, subst, ◌+◌, ◌-◌, ◌*◌, ◌/◌, ◌%◌, ◌^◌, ◌<◌, ◌≤◌, Bool, true, false, not, eqb, ltb, List, [], length, get_or, drop, refl, sym, ap, ◌∙◌, inl, inr, arith, bit_xor, length-drop}
use Rattle.std.proofs.lemmas.Bool.{cases_eq, cases_Bool, eq-eqb, ne_eqb, ltb-true, ltb-false, le-ltb, lt-ltb, cond-true, cond-false, and_from, and_parts, not-true, not_from_false}
use Rattle.std.proofs.lemmas.Nat.{mod_below, div_below, div-add-mod', xor_lt}
use Rattle.std.proofs.lemmas.List.{ext_get_or, get_or-take, get_or-drop, length-take-le}
use lib.Bits.{xor_self}
use Rattle.clay_field.specs.Field.{product, power_of, quotient}
use Rattle.clay_field.proofs.FieldLaws.{product_add_right}
use Rattle.clay_grid.specs.Shape.{Shape, chunk_count, row_count, column_count, node_count, layer_count}
use Rattle.clay_grid.specs.Layers.{layer_of}
use Rattle.clay_grid.specs.Limits.{IsGeometry}
use Rattle.clay_grid.specs.Score.{count_below}
use Rattle.clay_grid.proofs.LayerLaws.{IsLayer-digits_of}
use Rattle.clay_model.specs.Code.{IsCodeword, is_virtual, chunk_of_node, coupled_value}
use Rattle.clay_model.specs.Partners.{ArePartners}
use Rattle.clay_model.proofs.PairLaws.{crossed}
use Rattle.clay_model.proofs.SumLaws.{one_if, equal_from_sum, sum_below_same, sum_below-xor, IsBalanced, all_zero}
use Rattle.clay_model.proofs.Unique.{uncoupled_byte as uncoupled_below}
use Rattle.code_laws.specs.Solved.{coupled_byte, uncoupled_byte}
use Rattle.code_laws.proofs.Layer.{coupled_below}
use Rattle.code_laws.proofs.Column.{node_inside}
use Rattle.code_laws.proofs.Pieces.{place_below}
use Rattle.code_laws.proofs.Nodes.{node_real, chunk_byte}
use Rattle.code_laws.proofs.Vertices.{alone_value, paired_value, coupled_from_partner}
use Rattle.lost_layers.specs.LostLayers.{IsLostRun, is_wanted, layer_with, partner_node, partner_layer, lost_node, lost_column, is_unpaired, is_solved, is_unknown}
use Rattle.lost_layers.specs.LostPieces.{is_piece, lost_pieces_of}
use Rattle.lost_layers.specs.Determined.{bytes_of_pieces, bytes_of_run, PiecesDetermine}
use Rattle.lost_layers.specs.declared.run.LostRun.{LostRun}
use Rattle.lost_layers.proofs.PieceLaws.{some_rows, digit_below, layer_with-own, digit-layer_with, layer_with-twice, column_of, are_partners, partner_inside, partner_below, partner_node_back, partner_layer_back, own_piece, partner_piece, mate_piece, unknown_few}
use Rattle.lost_layers.proofs.PieceLists.{each_read, piece_byte, HasChunk, chunk_of_real}

-- ---- solved layers

pub count_below_some : (n d : ℕ) (f : ℕ → Bool) → d < n → f d ≡ true → 0 < count_below n f
count_below_some zero d f h passes = absurd (omega arith)
count_below_some (suc n) d f h passes =
    elim (cases_eq d n) [
      | inl same ↦ let last : one_if (f n) ≡ 1 = ap one_if (ap f (sym same) ∙ passes) in omega (arith, last)
      | inr other ↦ let rest = count_below_some n d f (omega (arith, other)) passes in omega (arith, rest)
    ]

-- the layer by which a wanted one is found
pub lone_solved : (g : Shape) (run : LostRun) (z : ℕ) → run.to ≡ suc run.from → z ≡ run.from → is_solved g run z ≡ true
lone_solved g run z lone same = cond-true (eqb run.to (suc run.from)) (eqb z run.from) _ (eq-eqb run.to (suc run.from) lone) ∙ eq-eqb z run.from same

pub row_solved : (g : Shape) (run : LostRun) (z : ℕ) → 0 < row_count g → lost_node g run < node_count g → z < layer_count g → run.to ≢ suc run.from → is_wanted run z ≡ true
    → is_solved g run (partner_layer g (lost_node g run) z) ≡ true
row_solved g run z rows inside below many wanted =
    let q : ℕ = row_count g in
    let y : ℕ = lost_column g run in
    let x : ℕ = lost_node g run % q in
    let u : ℕ = layer_with g z y x in
    let hy : y < column_count g = column_of g rows (lost_node g run) inside in
    let hx : x < q = mod_below (lost_node g run) q rows in
    let d : ℕ = get_or (layer_of g z) y 0 in
    let back : layer_with g u y d ≡ z = layer_with-twice g rows z y x d hy hx ∙ layer_with-own g rows z y d below refl in
    let some : 0 < count_below q (λ v. is_wanted run (layer_with g u y v)) =
    count_below_some q d (λ v. is_wanted run (layer_with g u y v)) (digit_below g rows z y hy) (ap (is_wanted run) back ∙ wanted) in
    cond-false (eqb run.to (suc run.from)) _ _ (ne_eqb run.to (suc run.from) many)
    ∙ and_from (is_unpaired g run u) _ (eq-eqb (get_or (layer_of g u) y 0) x (digit-layer_with g rows z y x hy hx))
    (not_from_false _ (ne_eqb (count_below q (λ v. is_wanted run (layer_with g u y v))) 0 (λ e. omega (arith, e, some))))

pub wanted_between : (run : LostRun) (z : ℕ) → is_wanted run z ≡ true → (run.from ≤ z) × (z < run.to)
wanted_between run z wanted =
    let both = and_parts (not (ltb z run.from)) (ltb z run.to) wanted in
    (ltb-false z run.from (not-true (ltb z run.from) both.0), ltb-true z run.to both.1)

pub between_wanted : (run : LostRun) (z : ℕ) → run.from ≤ z → z < run.to → is_wanted run z ≡ true
between_wanted run z low high = and_from (not (ltb z run.from)) (ltb z run.to) (not_from_false (ltb z run.from) (le-ltb z run.from low)) (lt-ltb z run.to high)

-- ---- values of two codewords

module _ (g : Shape) (run : LostRun) (a c : List (List ℕ)) (geometry : IsGeometry g) (chunk : run.lost < chunk_count g) (wa : IsCodeword g a) (wc : IsCodeword g c)
    (agree : (i n b : ℕ) → i < node_count g → n < layer_count g → b < g.width → is_piece g run i n ≡ true → coupled_byte g a b i n ≡ coupled_byte g c b i n) where
  rows : 0 < row_count g
  rows = some_rows g geometry

  inside : lost_node g run < node_count g
  inside = node_inside g run.lost geometry chunk

  known_same : (n i b : ℕ) → n < layer_count g → i < node_count g → b < g.width → is_solved g run n ≡ true → is_unknown g run n i ≡ false → uncoupled_byte g a b i n ≡ uncoupled_byte g c b i n
  known_same n i b hn hi hb solved known =
      let j : ℕ = partner_node g i n in
      let p : ℕ = partner_layer g i n in
      let pair : ArePartners g i n j p = are_partners g rows i n hi in
      let own : coupled_byte g a b i n ≡ coupled_byte g c b i n = agree i n b hi hn hb (own_piece g run n i solved known) in
      elim (cases_eq j i) [
        | inl same ↦ sym (alone_value g i n j p pair a wa b same) ∙ own ∙ alone_value g i n j p pair c wc b same
        | inr other ↦
            let theirs : coupled_byte g a b j p ≡ coupled_byte g c b j p =
            agree j p b (partner_inside g rows i n hi) (partner_below g rows i n hi) hb (partner_piece g run n i rows hi hn solved known) in
            paired_value g i n j p pair a wa b other
            ∙ (λ k. bit_xor (own k) (product 2 (theirs k)))
            ∙ sym (paired_value g i n j p pair c wc b other)
      ]

  layer_same : (n i b : ℕ) → n < layer_count g → i < node_count g → b < g.width → is_solved g run n ≡ true → uncoupled_byte g a b i n ≡ uncoupled_byte g c b i n
  layer_same n i b hn hi hb solved =
      let all : ℕ = node_count g in
      let u : ℕ → ℕ = λ i. uncoupled_byte g a b i n in
      let v : ℕ → ℕ = λ i. uncoupled_byte g c b i n in
      let small : all ≤ 2 ^ 8 = let most = geometry.nodes in omega arith in
      let below : (w : List (List ℕ)) → IsCodeword g w → (i : ℕ) → uncoupled_byte g w b i n < 2 ^ 8 =
      λ w cw i. uncoupled_below (row_count g) (coupled_value g w b) (coupled_below g w cw b) (i % row_count g) (i / row_count g) (layer_of g n) in
      let balanced : IsBalanced all g.parity_count (is_unknown g run n) (λ i. bit_xor (u i) (v i)) = record {
        bytes = λ i. xor_lt 8 (u i) (v i) (below a wa i) (below c wc i);
        elsewhere = λ i h known. ap (λ x. bit_xor x (v i)) (known_same n i b hn h hb solved known) ∙ xor_self (v i);
        sums = λ j h.
            sum_below_same all (λ i. product (power_of i j) (bit_xor (u i) (v i))) (λ i. bit_xor (product (power_of i j) (u i)) (product (power_of i j) (v i)))
            (λ i l. product_add_right (power_of i j) (u i) (v i))
            ∙ sum_below-xor all (λ i. product (power_of i j) (u i)) (λ i. product (power_of i j) (v i))
            ∙ (λ k. bit_xor (wa.sums b hb (layer_of g n) (IsLayer-digits_of (row_count g) (column_count g) n rows) j h k)
            (wc.sums b hb (layer_of g n) (IsLayer-digits_of (row_count g) (column_count g) n rows) j h k));
      } in
      equal_from_sum (u i) (v i) (all_zero all g.parity_count (is_unknown g run n) (λ i. bit_xor (u i) (v i)) small (unknown_few g run n geometry inside) balanced i hi)

  -- where the lost node is unpaired
  alone_same : (z b : ℕ) → z < layer_count g → b < g.width → is_solved g run z ≡ true → partner_node g (lost_node g run) z ≡ lost_node g run → coupled_byte g a b (lost_node g run) z ≡ coupled_byte g c b (lost_node g run) z
  alone_same z b hz hb solved same =
      let node : ℕ = lost_node g run in
      let pair : ArePartners g node z (partner_node g node z) (partner_layer g node z) = are_partners g rows node z inside in
      alone_value g node z (partner_node g node z) (partner_layer g node z) pair a wa b same
      ∙ layer_same z node b hz inside hb solved
      ∙ sym (alone_value g node z (partner_node g node z) (partner_layer g node z) pair c wc b same)

  mate_same : (z b : ℕ) → z < layer_count g → b < g.width → is_wanted run z ≡ true → partner_node g (lost_node g run) z ≢ lost_node g run
      → coupled_byte g a b (partner_node g (lost_node g run) z) (partner_layer g (lost_node g run) z) ≡ coupled_byte g c b (partner_node g (lost_node g run) z) (partner_layer g (lost_node g run) z)
  mate_same z b hz hb wanted other =
      agree (partner_node g (lost_node g run) z) (partner_layer g (lost_node g run) z) b (partner_inside g rows (lost_node g run) z inside) (partner_below g rows (lost_node g run) z inside) hb
      (mate_piece g run z rows inside hz wanted other)

  -- where its own layer is solved
  lone_same : (z b : ℕ) → z < layer_count g → b < g.width → is_wanted run z ≡ true → is_solved g run z ≡ true → coupled_byte g a b (lost_node g run) z ≡ coupled_byte g c b (lost_node g run) z
  lone_same z b hz hb wanted solved =
      let node : ℕ = lost_node g run in
      let j : ℕ = partner_node g node z in
      let p : ℕ = partner_layer g node z in
      let pair : ArePartners g node z j p = are_partners g rows node z inside in
      elim (cases_eq j node) [
        | inl same ↦ alone_same z b hz hb solved same
        | inr other ↦
            coupled_from_partner g node z j p pair a wa b other
            ∙ (λ k. bit_xor (layer_same z node b hz inside hb solved k) (product 2 (mate_same z b hz hb wanted other k)))
            ∙ sym (coupled_from_partner g node z j p pair c wc b other)
      ]

  -- where its partner's layer is solved
  pub crossed_value : (w : List (List ℕ)) → IsCodeword g w → (z b : ℕ) → z < layer_count g → partner_node g (lost_node g run) z ≢ lost_node g run
      → coupled_byte g w b (lost_node g run) z
      ≡ quotient (bit_xor (uncoupled_byte g w b (partner_node g (lost_node g run) z) (partner_layer g (lost_node g run) z)) (coupled_byte g w b (partner_node g (lost_node g run) z) (partner_layer g (lost_node g run) z))) 2
  crossed_value w cw z b hz other =
      let node : ℕ = lost_node g run in
      let j : ℕ = partner_node g node z in
      let p : ℕ = partner_layer g node z in
      let back : ArePartners g j p (partner_node g j p) (partner_layer g j p) = are_partners g rows j p (partner_inside g rows node z inside) in
      let there : ArePartners g j p node z =
      subst (λ n. ArePartners g j p node n) (partner_layer_back g rows node z inside hz)
      (subst (λ i. ArePartners g j p i (partner_layer g j p)) (partner_node_back g rows node z inside) back) in
      let own : ℕ = coupled_byte g w b j p in
      let lost : ℕ = coupled_byte g w b node z in
      let u : ℕ = uncoupled_byte g w b j p in
      crossed own lost u (bit_xor lost (product 2 own)) (coupled_below g w cw b node (layer_of g z)) (record {
        own = paired_value g j p node z there w cw b (λ e. other (sym e));
        partner = refl;
      })

  many_same : (z b : ℕ) → z < layer_count g → b < g.width → is_wanted run z ≡ true → is_solved g run (partner_layer g (lost_node g run) z) ≡ true → coupled_byte g a b (lost_node g run) z ≡ coupled_byte g c b (lost_node g run) z
  many_same z b hz hb wanted solved =
      let node : ℕ = lost_node g run in
      let q : ℕ = row_count g in
      let j : ℕ = partner_node g node z in
      let p : ℕ = partner_layer g node z in
      elim (cases_eq j node) [
        | inl same ↦
            let split : node / q * q + node % q ≡ node = div-add-mod' node q in
            let digit : get_or (layer_of g z) (node / q) 0 ≡ node % q = omega (arith, split, same) in
            let own : p ≡ z = layer_with-own g rows z (node / q) (node % q) hz digit in
            alone_same z b hz hb (ap (is_solved g run) (sym own) ∙ solved) same
        | inr other ↦
            crossed_value a wa z b hz other
            ∙ (λ k. quotient (bit_xor (layer_same p j b (partner_below g rows node z inside) (partner_inside g rows node z inside) hb solved k) (mate_same z b hz hb wanted other k)) 2)
            ∙ sym (crossed_value c wc z b hz other)
      ]

  pub wanted_same : (z b : ℕ) → z < layer_count g → b < g.width → is_wanted run z ≡ true → coupled_byte g a b (lost_node g run) z ≡ coupled_byte g c b (lost_node g run) z
  wanted_same z b hz hb wanted =
      let between = wanted_between run z wanted in
      elim (cases_eq run.to (suc run.from)) [
        | inl lone ↦ lone_same z b hz hb wanted (lone_solved g run z lone (omega (arith, lone, between.0, between.1)))
        | inr many ↦ many_same z b hz hb wanted (row_solved g run z rows inside hz many wanted)
      ]

-- ---- the bytes

-- codewords with the same bytes of the pieces agree at each subchunk that is read
pub pieces_agree : (g : Shape) (run : LostRun) (a c : List (List ℕ)) → IsGeometry g → IsCodeword g a → IsCodeword g c → bytes_of_pieces g a (lost_pieces_of g run) ≡ bytes_of_pieces g c (lost_pieces_of g run)
    → (i n b : ℕ) → i < node_count g → n < layer_count g → b < g.width → is_piece g run i n ≡ true → coupled_byte g a b i n ≡ coupled_byte g c b i n
pieces_agree g run a c geometry wa wc same i n b hi hn hb read =
    elim (cases_Bool (is_virtual g i)) [
      | inl virtual ↦ cond-true (is_virtual g i) 0 _ virtual ∙ sym (cond-true (is_virtual g i) 0 _ virtual)
      | inr real ↦
          let rows : 0 < row_count g = some_rows g geometry in
          let chunk : ℕ = chunk_of_node g i in
          let has : HasChunk g i = chunk_of_real g i geometry hi real in
          let found = each_read g run chunk n has.within hn (ap (λ v. is_piece g run v n) has.back ∙ read) in
          chunk_byte g a chunk i n b rows hn (node_real g chunk i has.back)
          ∙ sym (piece_byte g run a wa found.0 chunk n b found.1 hb)
          ∙ ap (λ l. get_or l (found.0 * g.width + b) 0) same
          ∙ piece_byte g run c wc found.0 chunk n b found.1 hb
          ∙ sym (chunk_byte g c chunk i n b rows hn (node_real g chunk i has.back))
    ]

spread : (from to w : ℕ) → from ≤ to → from * w + (to - from) * w ≡ to * w
spread from to w h =
    let whole : from + (to - from) ≡ to = omega arith in
    let opened : from * w + (to - from) * w ≡ (from + (to - from)) * w = omega arith in
    opened ∙ ap (λ v. v * w) whole

scaled : (a b w : ℕ) → a ≤ b → a * w ≤ b * w
scaled a b w h =
    let whole : b * w ≡ a * w + (b - a) * w = sym (spread a b w h) in
    omega (arith, whole)

pub length_run : (g : Shape) (run : LostRun) (word : List (List ℕ)) → IsLostRun g run → IsCodeword g word → length (bytes_of_run g word run) ≡ (run.to - run.from) * g.width
length_run g run word fits w =
    let count : ℕ = run.to - run.from in
    let chunk : List ℕ = get_or word run.lost [] in
    let whole : length chunk ≡ layer_count g * g.width = w.lengths run.lost fits.chunk in
    let split : run.from * g.width + count * g.width ≡ run.to * g.width = spread run.from run.to g.width fits.order in
    let room : run.to * g.width ≤ layer_count g * g.width = scaled run.to (layer_count g) g.width fits.layers in
    let rest : length (drop (run.from * g.width) chunk) ≡ length chunk - run.from * g.width = length-drop (run.from * g.width) chunk in
    length-take-le (count * g.width) (drop (run.from * g.width) chunk) (omega (arith, whole, split, room, rest))

-- bytes that are right at each layer of the run are the run's
pub run_bytes : (g : Shape) (run : LostRun) (word : List (List ℕ)) (bytes : List ℕ) → IsGeometry g → IsLostRun g run → IsCodeword g word → length bytes ≡ (run.to - run.from) * g.width
    → ((z b : ℕ) → z < run.to - run.from → b < g.width → get_or bytes (z * g.width + b) 0 ≡ coupled_byte g word b (lost_node g run) (run.from + z))
    → bytes ≡ bytes_of_run g word run
run_bytes g run word bytes geometry fits w long each =
    let count : ℕ = run.to - run.from in
    let chunk : List ℕ = get_or word run.lost [] in
    let wide : 0 < g.width = omega (arith, geometry.limits.width.0) in
    let rows : 0 < row_count g = some_rows g geometry in
    let size : length (bytes_of_run g word run) ≡ count * g.width = length_run g run word fits w in
    ext_get_or 0 bytes (bytes_of_run g word run) (long ∙ sym size) (λ p h.
    let place : p < count * g.width = subst (λ v. p < v) long h in
    let z : ℕ = p / g.width in
    let b : ℕ = p % g.width in
    let own : z * g.width + b ≡ p = div-add-mod' p g.width in
    let hz : z < count = div_below p g.width count wide place in
    let hb : b < g.width = mod_below p g.width wide in
    let below : run.from + z < layer_count g = omega (arith, hz, fits.layers) in
    let at : (run.from + z) * g.width + b ≡ run.from * g.width + p = joined run.from z g.width b p own in
    ap (λ v. get_or bytes v 0) (sym own)
    ∙ each z b hz hb
    ∙ chunk_byte g word run.lost (lost_node g run) (run.from + z) b rows below (node_real g run.lost (lost_node g run) refl)
    ∙ ap (λ v. get_or chunk v 0) at
    ∙ sym (get_or-drop (run.from * g.width) chunk p 0)
    ∙ sym (get_or-take (count * g.width) (drop (run.from * g.width) chunk) p 0 place))
  where
    joined : (from z w b p : ℕ) → z * w + b ≡ p → (from + z) * w + b ≡ from * w + p
    joined from z w b p own =
        let opened : (from + z) * w + b ≡ from * w + (z * w + b) = omega arith in
        opened ∙ ap (λ v. from * w + v) own

pub pieces_determine : (g : Shape) (run : LostRun) → IsGeometry g → IsLostRun g run → PiecesDetermine g run
pieces_determine g run geometry fits a c wa wc same =
    let count : ℕ = run.to - run.from in
    let chunk : List ℕ = get_or a run.lost [] in
    let rows : 0 < row_count g = some_rows g geometry in
    run_bytes g run c (bytes_of_run g a run) geometry fits wc (length_run g run a fits wa) (λ z b hz hb.
    let below : run.from + z < layer_count g = omega (arith, hz, fits.layers) in
    let low : run.from ≤ run.from + z = omega arith in
    let high : run.from + z < run.to = omega (arith, hz) in
    let at : run.from * g.width + (z * g.width + b) ≡ (run.from + z) * g.width + b = omega arith in
    let place : z * g.width + b < count * g.width = place_below z count g.width b hz hb in
    get_or-take (count * g.width) (drop (run.from * g.width) chunk) (z * g.width + b) 0 place
    ∙ get_or-drop (run.from * g.width) chunk (z * g.width + b) 0
    ∙ ap (λ v. get_or chunk v 0) at
    ∙ sym (chunk_byte g a run.lost (lost_node g run) (run.from + z) b rows below (node_real g run.lost (lost_node g run) refl))
    ∙ wanted_same g run a c geometry fits.chunk wa wc (pieces_agree g run a c geometry wa wc same) (run.from + z) b below hb (between_wanted run (run.from + z) low high))
