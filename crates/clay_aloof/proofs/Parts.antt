-- The parts of a repair: which layers they have, which nodes are solved, and what is known of a codeword that has them.
use Rattle.std.proofs.Common.{◌≡◌, ◌≢◌, ℕ, subst, ◌+◌, ◌*◌, ◌/◌, ◌%◌, ◌<◌, ◌≤◌, ◌⊎◌, Bool, true, false, not, eqb, ◌&&◌, ◌||◌, List, [], length, get_or, filter, Option, Some, None, is_none, refl, sym, ap, ◌∙◌, inl, inr, arith}
use Rattle.std.proofs.lemmas.Bool.{cases_Bool, eqb-true, eq-eqb, true≢false}
use Rattle.std.proofs.lemmas.List.{get_or-set_other}
use Rattle.std.proofs.lemmas.List as lists
use Rattle.clay_grid.specs.Shape.{Shape, column_count, node_count, layer_count}
use Rattle.clay_grid.specs.Layers.{layer_of}
use Rattle.clay_grid.specs.Score.{GoesBefore, IsByScore}
use Rattle.clay_grid.proofs.Rising.{Lists-filter}
use Rattle.clay_model.specs.Coupling.{HasZeroSums}
use Rattle.code_laws.proofs.Pieces.{piece_fits}
use Rattle.clay_model.specs.Partners.{ArePartners}
use Rattle.clay_model.specs.RepairParts.{subchunks_at}
use Rattle.code_laws.proofs.Places.{subchunk_at}
use Rattle.clay_aloof.specs.Shape.{AloofShape, all_chunks, rows_of, grid_of, node_of, is_virtual_node, chunk_at}
use Rattle.clay_aloof.specs.Limits.{IsAloof}
use Rattle.clay_aloof.specs.Code.{coupled_value}
use Rattle.clay_aloof.specs.Repair.{aloof_layers_of}
use Rattle.clay_aloof.specs.Pieces.{PiecesFit, FitsPieces}
use Rattle.clay_aloof.specs.Solved.{IsIn, Fits}
use Rattle.clay_aloof.specs.Rebuilt.{is_unknown, IsGiven, IsRepairPlan, kept_layers, ArePut}
use Rattle.clay_aloof.specs.Ordered.{AreKept}
use Rattle.clay_aloof.specs.declared.layer_solving.Plan.{Plan}
use Rattle.clay_aloof.proofs.Layer.{some_rows}
use Rattle.clay_aloof.proofs.Nodes.{node_back, coupled_real, coupled_virtual, coupled_byte}
use Rattle.clay_aloof.proofs.Kept.{kept_from, kept_each, kept_rising}

-- ---- the layers that are given

given_test : AloofShape → ℕ → ℕ → Bool
given_test a lost z = eqb (get_or (layer_of (grid_of a) z) (node_of a lost / rows_of a) 0) (node_of a lost % rows_of a)

pub given_at : (a : AloofShape) (lost k : ℕ) → k < length (aloof_layers_of a lost) → (get_or (aloof_layers_of a lost) k 0 < layer_count (grid_of a)) × IsGiven a lost (get_or (aloof_layers_of a lost) k 0)
unfolding given_test
given_at a lost k h =
    let found = (Lists-filter (given_test a lost) (layer_count (grid_of a))).only k h in
    (found.0, eqb-true _ _ found.1)

pub given_place : (a : AloofShape) (lost n : ℕ) → n < layer_count (grid_of a) → IsGiven a lost n → IsIn (aloof_layers_of a lost) n
unfolding given_test
given_place a lost n h given =
    (Lists-filter (given_test a lost) (layer_count (grid_of a))).each n (h, eq-eqb (get_or (layer_of (grid_of a) n) (node_of a lost / rows_of a) 0) (node_of a lost % rows_of a) given)

pub given_rising : (a : AloofShape) (lost i j : ℕ) → i < j → j < length (aloof_layers_of a lost) → get_or (aloof_layers_of a lost) i 0 < get_or (aloof_layers_of a lost) j 0
unfolding given_test
given_rising a lost i j h l = (Lists-filter (given_test a lost) (layer_count (grid_of a))).rising i j h l

-- ---- the order of the layers

-- the partner of a node outside the lost node's column stands in a layer that is given too
pub partner_given : (a : AloofShape) (lost i n other p : ℕ) → i / rows_of a ≢ node_of a lost / rows_of a → ArePartners (grid_of a) i n other p → IsGiven a lost n → IsGiven a lost p
partner_given a lost i n other p apart pair given =
    let y : ℕ = node_of a lost / rows_of a in
    ap (λ l. get_or l y 0) pair.layer_is
    ∙ get_or-set_other (layer_of (grid_of a) n) (i / rows_of a) y (i % rows_of a) 0 (λ e. apart (sym e))
    ∙ given

-- the layers that are kept of an order by score
pub are_kept : (a : AloofShape) (lost : ℕ) (erased : List Bool) (order : List ℕ) → IsByScore (grid_of a) erased order
    → AreKept a lost erased (kept_layers (grid_of a) (node_of a lost % rows_of a) (node_of a lost / rows_of a) order)
are_kept a lost erased order by =
    let g : Shape = grid_of a in
    let x : ℕ = node_of a lost % rows_of a in
    let y : ℕ = node_of a lost / rows_of a in
    let test : ℕ → Bool = λ z. eqb (get_or (layer_of g z) y 0) x in
    record {
      rising = kept_rising (GoesBefore g erased) test order by.rising;
      only_layers = λ i h. let from = kept_from test order i h in subst (λ v. v < layer_count g) from.2 (by.only_layers from.0 from.1);
      each_layer = λ n h given.
          let found = by.each_layer n h in
          let passes : test (get_or order found.0 0) ≡ true = eq-eqb (get_or (layer_of g (get_or order found.0 0)) y 0) x (ap (λ v. get_or (layer_of g v) y 0) found.2 ∙ given) in
          subst (IsIn (filter test order)) found.2 (kept_each test order found.0 found.1 passes);
      given = λ n listed.
          let from = kept_from test order listed.0 listed.1 in
          ap (λ v. get_or (layer_of g v) y 0) (sym listed.2) ∙ eqb-true (get_or (layer_of g (get_or (filter test order) listed.0 0)) y 0) x from.3;
    }

-- ---- the nodes that are solved

or_false : (a b : Bool) → (a || b) ≡ false → (a ≡ false) × (b ≡ false)
or_false true b e = absurd (true≢false e)
or_false false b e = (refl, e)

not_and_false : (v n : Bool) → (not v && n) ≡ false → (v ≡ true) ⊎ (n ≡ false)
not_and_false true n e = inl refl
not_and_false false n e = inr e

-- a node that isn't solved stands in another column, and is virtual or has a part
pub record IsKnown (a : AloofShape) (lost : ℕ) (have : List (Option (List ℕ))) (i : ℕ) : Type 0 where
  pub apart : i / rows_of a ≢ node_of a lost / rows_of a
  pub there : (is_virtual_node a i ≡ true) ⊎ (is_none (get_or have (chunk_at a i) None) ≡ false)

pub is_known : (a : AloofShape) (lost : ℕ) (have : List (Option (List ℕ))) (i : ℕ) → is_unknown a lost have i ≡ false → IsKnown a lost have i
is_known a lost have i e =
    let both = or_false (eqb (i / rows_of a) (node_of a lost / rows_of a)) (not (is_virtual_node a i) && is_none (get_or have (chunk_at a i) None)) e in
    record {
      apart = λ same. true≢false (sym (eq-eqb (i / rows_of a) (node_of a lost / rows_of a) same) ∙ both.0);
      there = not_and_false (is_virtual_node a i) (is_none (get_or have (chunk_at a i) None)) both.1;
    }

-- another node of the lost node's column is virtual or has a part
pub column_known : (a : AloofShape) (lost : ℕ) (have : List (Option (List ℕ))) (i : ℕ) → IsAloof a → PiecesFit a lost have → i < node_count (grid_of a)
    → i / rows_of a ≡ node_of a lost / rows_of a → i ≢ node_of a lost → (is_virtual_node a i ≡ true) ⊎ (is_none (get_or have (chunk_at a i) None) ≡ false)
column_known a lost have i aloof fit hi column differ =
    elim (cases_Bool (is_virtual_node a i)) [
      | inl virtual ↦ inl virtual
      | inr real ↦
          let back = node_back a i aloof hi real in
          inr (fit.column (chunk_at a i) back.0 (λ same. differ (sym back.1 ∙ ap (node_of a) same)) (ap (λ n. n / rows_of a) back.1 ∙ column))
    ]

-- ---- what is known of a codeword with these parts

some_of : (o : Option (List ℕ)) → is_none o ≡ false → (v : List ℕ) × (o ≡ Some v)
some_of None e = absurd (true≢false e)
some_of (Some v) e = (v, refl)

agreeing_part : (a : AloofShape) (lost : ℕ) (have : List (Option (List ℕ))) (word : List (List ℕ)) → FitsPieces a lost have word → (c : ℕ) (v : List ℕ) → c < all_chunks a → get_or have c None ≡ Some v
    → subchunks_at a.width (get_or word c []) (aloof_layers_of a lost) ≡ v
agreeing_part a lost have word fits c v below there =
    sym (lists.get_or-map (λ chunk. subchunks_at a.width chunk (aloof_layers_of a lost)) word c [] [] (subst (λ n. c < n) (sym fits.codeword.count) below))
    ∙ fits.agrees c v there

pub known_value : (a : AloofShape) (lost : ℕ) (have : List (Option (List ℕ))) (known : List ℕ) (word : List (List ℕ)) → IsAloof a → ArePut a lost have (all_chunks a) known → FitsPieces a lost have word
    → (i n b : ℕ) → i < node_count (grid_of a) → n < layer_count (grid_of a) → IsGiven a lost n → (is_virtual_node a i ≡ true) ⊎ (is_none (get_or have (chunk_at a i) None) ≡ false) → b < a.width
    → get_or known ((i * layer_count (grid_of a) + n) * a.width + b) 0 ≡ coupled_value a word b i (layer_of (grid_of a) n)
known_value a lost have known word aloof put fits i n b hi hn given there hb =
    let rows : 0 < rows_of a = some_rows (grid_of a) aloof.grid in
    elim (cases_Bool (is_virtual_node a i)) [
      | inl virtual ↦ put.virtual i n b virtual hn hb ∙ sym (coupled_virtual a word b i (layer_of (grid_of a) n) virtual)
      | inr real ↦
          let c : ℕ = chunk_at a i in
          let back = node_back a i aloof hi real in
          let present : is_none (get_or have c None) ≡ false = elim there [
            | inl virtual ↦ absurd (true≢false (sym virtual ∙ real))
            | inr here ↦ here
          ] in
          let some = some_of (get_or have c None) present in
          let v : List ℕ = some.0 in
          let layers : List ℕ = aloof_layers_of a lost in
          let place = given_place a lost n hn given in
          let k : ℕ = place.0 in
          let chunk : List ℕ = get_or word c [] in
          let fit : (r : ℕ) → r < length layers → get_or layers r 0 * a.width + a.width ≤ length chunk =
          λ r h. subst (λ l. get_or layers r 0 * a.width + a.width ≤ l) (sym (fits.codeword.lengths c back.0)) (piece_fits (get_or layers r 0) (layer_count (grid_of a)) a.width (given_at a lost r h).0) in
          ap (λ m. get_or known ((m * layer_count (grid_of a) + n) * a.width + b) 0) (sym back.1)
          ∙ ap (λ m. get_or known ((node_of a c * layer_count (grid_of a) + m) * a.width + b) 0) (sym place.2)
          ∙ put.parts c v back.0 some.1 k b place.1 hb
          ∙ ap (λ l. get_or l (k * a.width + b) 0) (sym (agreeing_part a lost have word fits c v back.0 some.1))
          ∙ subchunk_at a.width chunk layers k b fit place.1 hb
          ∙ ap (λ m. get_or chunk (m * a.width + b) 0) place.2
          ∙ sym (coupled_real a word c i n b rows hn (record { real = real; chunk = refl }))
    ]

pub fewer_sums : (q t m k : ℕ) (c : ℕ → List ℕ → ℕ) → k ≤ m → HasZeroSums q t m c → HasZeroSums q t k c
fewer_sums q t m k c few sums z layer j hj = sums z layer j (omega arith)

pub word_fits : (a : AloofShape) (lost : ℕ) (have : List (Option (List ℕ))) (plan : Plan) (known : List ℕ) (word : List (List ℕ)) → IsRepairPlan a lost have plan → ArePut a lost have (all_chunks a) known
    → FitsPieces a lost have word → Fits (grid_of a) plan known (coupled_value a word)
word_fits a lost have plan known word repair put fits = record {
  bytes = coupled_byte a word fits.codeword.bytes;
  sums = λ b hb. fewer_sums (rows_of a) (column_count (grid_of a)) a.parity_count (length plan.points.items) (coupled_value a word b) repair.few (fits.codeword.sums b hb);
  agrees = λ i n b hi there listed hb.
      let below : n < layer_count (grid_of a) = subst (λ v. v < layer_count (grid_of a)) listed.2 (repair.sound.only_layers listed.0 listed.1) in
      let known_node = is_known a lost have i (sym (repair.erased_are i hi) ∙ there) in
      known_value a lost have known word repair.aloof put fits i n b hi below (repair.given n listed) known_node.there hb;
}
