-- Two codewords with the same pieces have the same layers of the lost chunk.
use Rattle.std.proofs.Common.{◌≡◌, ◌≢◌, ℕ, zero, suc, subst, ◌+◌, ◌-◌, ◌*◌, ◌/◌, ◌%◌, ◌^◌, ◌<◌, ◌≤◌, true, false, not, ◌&&◌, ◌||◌, eqb, List, [], All, get_or, drop, refl, sym, ap, ◌∙◌, inl, inr, arith, bit_xor}
use Rattle.std.proofs.lemmas.Bool.{cases_eq, cases_Bool, eq-eqb, and_from, or_left, or_right, not_from_false, cond-true}
use Rattle.std.proofs.lemmas.Nat.{xor_lt}
use Rattle.std.proofs.lemmas.List.{get_or-take, get_or-drop}
use lib.Bits.{xor_self}
use Rattle.clay_field.specs.Field.{product, power_of, quotient}
use Rattle.clay_field.proofs.FieldLaws.{product_add_right}
use Rattle.clay_grid.specs.Shape.{Shape, row_count, column_count, node_count, layer_count}
use Rattle.clay_grid.specs.Layers.{layer_of}
use Rattle.clay_grid.specs.Limits.{IsGeometry}
use Rattle.clay_grid.specs.Score.{score_at}
use Rattle.clay_grid.proofs.LayerLaws.{IsLayer-digits_of}
use Rattle.clay_model.specs.Code.{IsCodeword, is_virtual, chunk_of_node, coupled_value}
use Rattle.clay_model.specs.Partners.{ArePartners}
use Rattle.clay_model.proofs.PairLaws.{crossed}
use Rattle.clay_model.proofs.SumLaws.{equal_from_sum, sum_below_same, sum_below-xor, IsBalanced, all_zero}
use Rattle.clay_model.proofs.Unique.{uncoupled_byte as uncoupled_below}
use Rattle.code_laws.specs.Solved.{coupled_byte, uncoupled_byte}
use Rattle.code_laws.proofs.Layer.{coupled_below}
use Rattle.code_laws.proofs.Column.{node_inside}
use Rattle.code_laws.proofs.Pieces.{place_below}
use Rattle.code_laws.proofs.Nodes.{node_real, chunk_byte}
use Rattle.code_laws.proofs.Vertices.{alone_value, paired_value, coupled_from_partner, coupled_from_pair, lower_score}
use Rattle.lost_layers.specs.LostLayers.{is_wanted, partner_node, partner_layer, lost_node}
use Rattle.lost_layers.specs.Determined.{bytes_of_run}
use Rattle.lost_layers.proofs.PieceLaws.{some_rows, are_partners, partner_inside, partner_below, partner_node_back, partner_layer_back}
use Rattle.lost_layers.proofs.PieceLists.{HasChunk, chunk_of_real}
use Rattle.lost_layers.proofs.Determining.{between_wanted, length_run, run_bytes}
use Rattle.lost_layers.specs.Erased.{Erased, IsErased, is_missing, is_unknown}
use Rattle.lost_layers.specs.ErasedLayers.{mate, is_solved}
use Rattle.lost_layers.specs.ErasedPieces.{is_used, is_piece, pieces_of, HaveSame, PiecesDetermine}
use Rattle.lost_layers.proofs.ErasedLists.{each_read, same_byte}
use Rattle.lost_layers.proofs.ErasedServing.{partner_solved, own_solved, mate_solved}

-- ---- what is read

module _ (e : Erased) (rows : 0 < row_count e.g) where
  used : (n i : ℕ) → is_solved e n ≡ true → is_unknown e i ≡ false → is_used e i n ≡ true
  used n i solved known = and_from (not (is_unknown e i)) (is_solved e n) (not_from_false (is_unknown e i) known) solved

  pub own_piece : (n i : ℕ) → is_solved e n ≡ true → is_unknown e i ≡ false → is_piece e i n ≡ true
  own_piece n i solved known =
      or_left (not (is_unknown e i) && (is_used e i n || is_used e (partner_node e.g i n) (partner_layer e.g i n))) _
      (and_from (not (is_unknown e i)) _ (not_from_false (is_unknown e i) known) (or_left (is_used e i n) _ (used n i solved known)))

  pub partner_piece : (n i : ℕ) → i < node_count e.g → n < layer_count e.g → is_solved e n ≡ true → is_unknown e i ≡ false → is_unknown e (partner_node e.g i n) ≡ false
      → is_piece e (partner_node e.g i n) (partner_layer e.g i n) ≡ true
  partner_piece n i hi hn solved known theirs =
      let j : ℕ = partner_node e.g i n in
      let p : ℕ = partner_layer e.g i n in
      let back : is_used e (partner_node e.g j p) (partner_layer e.g j p) ≡ is_used e i n = λ k. is_used e (partner_node_back e.g rows i n hi k) (partner_layer_back e.g rows i n hi hn k) in
      or_left (not (is_unknown e j) && (is_used e j p || is_used e (partner_node e.g j p) (partner_layer e.g j p))) _
      (and_from (not (is_unknown e j)) _ (not_from_false (is_unknown e j) theirs) (or_right (is_used e j p) _ (back ∙ used n i solved known)))

  pub mate_piece : (z : ℕ) → lost_node e.g e.run < node_count e.g → z < layer_count e.g → is_wanted e.run z ≡ true → is_missing e (mate e z) ≡ false
      → is_piece e (mate e z) (partner_layer e.g (lost_node e.g e.run) z) ≡ true
  mate_piece z inside hz wanted there =
      let node : ℕ = lost_node e.g e.run in
      let j : ℕ = mate e z in
      let p : ℕ = partner_layer e.g node z in
      or_right (not (is_unknown e j) && (is_used e j p || is_used e (partner_node e.g j p) (partner_layer e.g j p))) _
      (and_from (not (is_missing e j) && eqb (partner_node e.g j p) node) (is_wanted e.run (partner_layer e.g j p))
      (and_from (not (is_missing e j)) (eqb (partner_node e.g j p) node) (not_from_false (is_missing e j) there)
      (eq-eqb (partner_node e.g j p) node (partner_node_back e.g rows node z inside)))
      (ap (is_wanted e.run) (partner_layer_back e.g rows node z inside hz) ∙ wanted))

-- ---- values of two codewords

module _ (e : Erased) (a c : List (List ℕ)) (geometry : IsGeometry e.g) (erased : IsErased e) (wa : IsCodeword e.g a) (wc : IsCodeword e.g c)
    (agree : (i n b : ℕ) → i < node_count e.g → n < layer_count e.g → b < e.g.width → is_piece e i n ≡ true → coupled_byte e.g a b i n ≡ coupled_byte e.g c b i n) where
  rows : 0 < row_count e.g
  rows = some_rows e.g geometry

  inside : lost_node e.g e.run < node_count e.g
  inside = node_inside e.g e.run.lost geometry erased.run.chunk

  -- the values of a layer are the same
  abbrev SameAt : ℕ → ℕ → ℕ → Type 0
  SameAt n i b = uncoupled_byte e.g a b i n ≡ uncoupled_byte e.g c b i n

  -- those of solved layers below a score
  abbrev SameBelow : ℕ → ℕ → Type 0
  SameBelow score b = (p j : ℕ) → p < layer_count e.g → j < node_count e.g → is_solved e p ≡ true → score_at e.g e.unknown p < score → SameAt p j b

  known_same : (n i b : ℕ) → n < layer_count e.g → i < node_count e.g → b < e.g.width → SameBelow (score_at e.g e.unknown n) b → is_solved e n ≡ true → is_unknown e i ≡ false → SameAt n i b
  known_same n i b hn hi hb lower solved known =
      let g : Shape = e.g in
      let j : ℕ = partner_node g i n in
      let p : ℕ = partner_layer g i n in
      let pair : ArePartners g i n j p = are_partners g rows i n hi in
      let own : coupled_byte g a b i n ≡ coupled_byte g c b i n = agree i n b hi hn hb (own_piece e rows n i solved known) in
      elim (cases_eq j i) [
        | inl same ↦ sym (alone_value g i n j p pair a wa b same) ∙ own ∙ alone_value g i n j p pair c wc b same
        | inr other ↦
            let hj : j < node_count g = partner_inside g rows i n hi in
            let hp : p < layer_count g = partner_below g rows i n hi in
            let theirs : coupled_byte g a b j p ≡ coupled_byte g c b j p = elim (cases_Bool (is_unknown e j)) [
              | inr there ↦ agree j p b hj hp hb (partner_piece e rows n i hi hn solved known there)
              | inl gone ↦
                  let back : ArePartners g j p i n = turned i n hi hn in
                  let value : SameAt p j b = lower p j hp hj (partner_solved e rows n i hi known gone solved) (lower_score g i n j p pair e.unknown known gone) in
                  coupled_from_partner g j p i n back a wa b (λ s. other (sym s))
                  ∙ (λ k. bit_xor (value k) (product 2 (own k)))
                  ∙ sym (coupled_from_partner g j p i n back c wc b (λ s. other (sym s)))
            ] in
            paired_value g i n j p pair a wa b other
            ∙ (λ k. bit_xor (own k) (product 2 (theirs k)))
            ∙ sym (paired_value g i n j p pair c wc b other)
      ]
    where
      turned : (i n : ℕ) → i < node_count e.g → n < layer_count e.g → ArePartners e.g (partner_node e.g i n) (partner_layer e.g i n) i n
      turned i n hi hn =
          let j : ℕ = partner_node e.g i n in
          let p : ℕ = partner_layer e.g i n in
          subst (λ v. ArePartners e.g j p i v) (partner_layer_back e.g rows i n hi hn)
          (subst (λ v. ArePartners e.g j p v (partner_layer e.g j p)) (partner_node_back e.g rows i n hi)
          (are_partners e.g rows j p (partner_inside e.g rows i n hi)))

  layer_from : (n i b : ℕ) → n < layer_count e.g → i < node_count e.g → b < e.g.width → SameBelow (score_at e.g e.unknown n) b → is_solved e n ≡ true → SameAt n i b
  layer_from n i b hn hi hb lower solved =
      let g : Shape = e.g in
      let all : ℕ = node_count g in
      let u : ℕ → ℕ = λ i. uncoupled_byte g a b i n in
      let v : ℕ → ℕ = λ i. uncoupled_byte g c b i n in
      let small : all ≤ 2 ^ 8 = let most = geometry.nodes in omega arith in
      let below : (w : List (List ℕ)) → IsCodeword g w → (i : ℕ) → uncoupled_byte g w b i n < 2 ^ 8 =
      λ w cw i. uncoupled_below (row_count g) (coupled_value g w b) (coupled_below g w cw b) (i % row_count g) (i / row_count g) (layer_of g n) in
      let balanced : IsBalanced all g.parity_count (is_unknown e) (λ i. bit_xor (u i) (v i)) = record {
        bytes = λ i. xor_lt 8 (u i) (v i) (below a wa i) (below c wc i);
        elsewhere = λ i h known. ap (λ x. bit_xor x (v i)) (known_same n i b hn h hb lower solved known) ∙ xor_self (v i);
        sums = λ j h.
            sum_below_same all (λ i. product (power_of i j) (bit_xor (u i) (v i))) (λ i. bit_xor (product (power_of i j) (u i)) (product (power_of i j) (v i)))
            (λ i l. product_add_right (power_of i j) (u i) (v i))
            ∙ sum_below-xor all (λ i. product (power_of i j) (u i)) (λ i. product (power_of i j) (v i))
            ∙ (λ k. bit_xor (wa.sums b hb (layer_of g n) (IsLayer-digits_of (row_count g) (column_count g) n rows) j h k)
            (wc.sums b hb (layer_of g n) (IsLayer-digits_of (row_count g) (column_count g) n rows) j h k));
      } in
      equal_from_sum (u i) (v i) (all_zero all g.parity_count (is_unknown e) (λ i. bit_xor (u i) (v i)) small erased.few balanced i hi)

  same_below : (score b : ℕ) → b < e.g.width → SameBelow score b
  same_below zero b hb p j hp hj solved less = absurd (omega arith)
  same_below (suc score) b hb p j hp hj solved less =
      layer_from p j b hp hj hb (λ r k hr hk known lower. same_below score b hb r k hr hk known (omega (arith, lower, less))) solved

  layer_same : (n i b : ℕ) → n < layer_count e.g → i < node_count e.g → b < e.g.width → is_solved e n ≡ true → SameAt n i b
  layer_same n i b hn hi hb solved = same_below (suc (score_at e.g e.unknown n)) b hb n i hn hi solved (omega arith)

  -- a wanted subchunk whose partner isn't its own
  module _ (z b : ℕ) (hz : z < layer_count e.g) (hb : b < e.g.width) (wanted : is_wanted e.run z ≡ true) where
    pair : ArePartners e.g (lost_node e.g e.run) z (mate e z) (partner_layer e.g (lost_node e.g e.run) z)
    pair = are_partners e.g rows (lost_node e.g e.run) z inside

    there : mate e z < node_count e.g
    there = partner_inside e.g rows (lost_node e.g e.run) z inside

    below : partner_layer e.g (lost_node e.g e.run) z < layer_count e.g
    below = partner_below e.g rows (lost_node e.g e.run) z inside

    abbrev Found : Type 0
    Found = coupled_byte e.g a b (lost_node e.g e.run) z ≡ coupled_byte e.g c b (lost_node e.g e.run) z

    mate_same : is_missing e (mate e z) ≡ false → coupled_byte e.g a b (mate e z) (partner_layer e.g (lost_node e.g e.run) z) ≡ coupled_byte e.g c b (mate e z) (partner_layer e.g (lost_node e.g e.run) z)
    mate_same present = agree (mate e z) (partner_layer e.g (lost_node e.g e.run) z) b there below hb (mate_piece e rows z inside hz wanted present)

    alone_found : mate e z ≡ lost_node e.g e.run → Found
    alone_found same =
        let gone : is_missing e (mate e z) ≡ true = ap (is_missing e) same ∙ erased.lost in
        let solved : is_solved e z ≡ true = own_solved e z wanted (or_left (is_missing e (mate e z)) _ gone) in
        alone_value e.g (lost_node e.g e.run) z (mate e z) (partner_layer e.g (lost_node e.g e.run) z) pair a wa b same
        ∙ layer_same z (lost_node e.g e.run) b hz inside hb solved
        ∙ sym (alone_value e.g (lost_node e.g e.run) z (mate e z) (partner_layer e.g (lost_node e.g e.run) z) pair c wc b same)

    -- the partner's node is missing too
    pair_found : mate e z ≢ lost_node e.g e.run → is_missing e (mate e z) ≡ true → Found
    pair_found other gone =
        let own : SameAt z (lost_node e.g e.run) b = layer_same z (lost_node e.g e.run) b hz inside hb (own_solved e z wanted (or_left (is_missing e (mate e z)) _ gone)) in
        let theirs : SameAt (partner_layer e.g (lost_node e.g e.run) z) (mate e z) b =
        layer_same (partner_layer e.g (lost_node e.g e.run) z) (mate e z) b below there hb (mate_solved e z wanted (erased.missing (mate e z) gone)) in
        coupled_from_pair e.g (lost_node e.g e.run) z (mate e z) (partner_layer e.g (lost_node e.g e.run) z) pair a wa b other
        ∙ (λ k. quotient (bit_xor (own k) (product 2 (theirs k))) 5)
        ∙ sym (coupled_from_pair e.g (lost_node e.g e.run) z (mate e z) (partner_layer e.g (lost_node e.g e.run) z) pair c wc b other)

    -- it is known
    own_found : mate e z ≢ lost_node e.g e.run → is_missing e (mate e z) ≡ false → is_unknown e (mate e z) ≡ false → Found
    own_found other present known =
        let solved : is_solved e z ≡ true = own_solved e z wanted (or_right (is_missing e (mate e z)) (not (is_unknown e (mate e z))) (not_from_false (is_unknown e (mate e z)) known)) in
        coupled_from_partner e.g (lost_node e.g e.run) z (mate e z) (partner_layer e.g (lost_node e.g e.run) z) pair a wa b other
        ∙ (λ k. bit_xor (layer_same z (lost_node e.g e.run) b hz inside hb solved k) (product 2 (mate_same present k)))
        ∙ sym (coupled_from_partner e.g (lost_node e.g e.run) z (mate e z) (partner_layer e.g (lost_node e.g e.run) z) pair c wc b other)

    crossed_value : (w : List (List ℕ)) → IsCodeword e.g w → mate e z ≢ lost_node e.g e.run
        → coupled_byte e.g w b (lost_node e.g e.run) z
        ≡ quotient (bit_xor (uncoupled_byte e.g w b (mate e z) (partner_layer e.g (lost_node e.g e.run) z)) (coupled_byte e.g w b (mate e z) (partner_layer e.g (lost_node e.g e.run) z))) 2
    crossed_value w cw other =
        let g : Shape = e.g in
        let lost : ℕ = lost_node g e.run in
        let j : ℕ = mate e z in
        let p : ℕ = partner_layer g lost z in
        let back : ArePartners g j p lost z =
        subst (λ n. ArePartners g j p lost n) (partner_layer_back g rows lost z inside hz)
        (subst (λ i. ArePartners g j p i (partner_layer g j p)) (partner_node_back g rows lost z inside) (are_partners g rows j p there)) in
        let own : ℕ = coupled_byte g w b j p in
        let value : ℕ = coupled_byte g w b lost z in
        let u : ℕ = uncoupled_byte g w b j p in
        crossed own value u (bit_xor value (product 2 own)) (coupled_below g w cw b lost (layer_of g z)) (record {
          own = paired_value g j p lost z back w cw b (λ s. other (sym s));
          partner = refl;
        })

    -- it is there, and its value is solved for
    crossed_found : mate e z ≢ lost_node e.g e.run → is_missing e (mate e z) ≡ false → is_unknown e (mate e z) ≡ true → Found
    crossed_found other present unknown =
        let theirs : SameAt (partner_layer e.g (lost_node e.g e.run) z) (mate e z) b =
        layer_same (partner_layer e.g (lost_node e.g e.run) z) (mate e z) b below there hb (mate_solved e z wanted unknown) in
        crossed_value a wa other
        ∙ (λ k. quotient (bit_xor (theirs k) (mate_same present k)) 2)
        ∙ sym (crossed_value c wc other)

    pub wanted_same : Found
    wanted_same =
        elim (cases_eq (mate e z) (lost_node e.g e.run)) [
          | inl same ↦ alone_found same
          | inr other ↦ elim (cases_Bool (is_missing e (mate e z))) [
            | inl gone ↦ pair_found other gone
            | inr present ↦ elim (cases_Bool (is_unknown e (mate e z))) [
              | inl unknown ↦ crossed_found other present unknown
              | inr known ↦ own_found other present known
            ]
          ]
        ]

-- ---- the bytes

pieces_agree : (e : Erased) (a c : List (List ℕ)) → IsGeometry e.g → All (HaveSame e.g a c) (pieces_of e)
    → (i n b : ℕ) → i < node_count e.g → n < layer_count e.g → b < e.g.width → is_piece e i n ≡ true → coupled_byte e.g a b i n ≡ coupled_byte e.g c b i n
pieces_agree e a c geometry each i n b hi hn hb read =
    elim (cases_Bool (is_virtual e.g i)) [
      | inl virtual ↦ cond-true (is_virtual e.g i) 0 _ virtual ∙ sym (cond-true (is_virtual e.g i) 0 _ virtual)
      | inr real ↦
          let rows : 0 < row_count e.g = some_rows e.g geometry in
          let chunk : ℕ = chunk_of_node e.g i in
          let has : HasChunk e.g i = chunk_of_real e.g i geometry hi real in
          let found = each_read e chunk n has.within hn (ap (λ v. is_piece e v n) has.back ∙ read) in
          chunk_byte e.g a chunk i n b rows hn (node_real e.g chunk i has.back)
          ∙ same_byte e a c each found.0 chunk n b found.1 hb
          ∙ sym (chunk_byte e.g c chunk i n b rows hn (node_real e.g chunk i has.back))
    ]

pub pieces_determine : (e : Erased) → IsGeometry e.g → IsErased e → PiecesDetermine e
pieces_determine e geometry erased a c wa wc each =
    let g : Shape = e.g in
    let count : ℕ = e.run.to - e.run.from in
    let chunk : List ℕ = get_or a e.run.lost [] in
    let rows : 0 < row_count g = some_rows g geometry in
    run_bytes g e.run c (bytes_of_run g a e.run) geometry erased.run wc (length_run g e.run a erased.run wa) (λ z b hz hb.
    let below : e.run.from + z < layer_count g = omega (arith, hz, erased.run.layers) in
    let low : e.run.from ≤ e.run.from + z = omega arith in
    let high : e.run.from + z < e.run.to = omega (arith, hz) in
    let at : e.run.from * g.width + (z * g.width + b) ≡ (e.run.from + z) * g.width + b = omega arith in
    let place : z * g.width + b < count * g.width = place_below z count g.width b hz hb in
    get_or-take (count * g.width) (drop (e.run.from * g.width) chunk) (z * g.width + b) 0 place
    ∙ get_or-drop (e.run.from * g.width) chunk (z * g.width + b) 0
    ∙ ap (λ v. get_or chunk v 0) at
    ∙ sym (chunk_byte g a e.run.lost (lost_node g e.run) (e.run.from + z) b rows below (node_real g e.run.lost (lost_node g e.run) refl))
    ∙ wanted_same e a c geometry erased wa wc (pieces_agree e a c geometry each) (e.run.from + z) b below hb (between_wanted e.run (e.run.from + z) low high))
