-- The lost node's vertex and its partner, which stands in a layer that is given.
use Rattle.std.proofs.Common.{◌≡◌, ◌≢◌, ℕ, subst, ◌+◌, ◌*◌, ◌/◌, ◌%◌, ◌<◌, ◌≤◌, true, false, ◌||◌, List, length, get_or, Option, refl, [], sym, ap, ◌∙◌, inl, inr, arith, bit_xor, get_or-set_same}
use Rattle.std.proofs.lemmas.Bool.{eq-eqb}
use Rattle.std.proofs.lemmas.Nat.{div-mul-add, mod_below, div_below, div-add-mod'}
use Rattle.std.proofs.lemmas.List.{ext_get_or}
use Rattle.clay_field.specs.Field.{quotient}
use Rattle.clay_grid.specs.Shape.{column_count, node_count, layer_count, chunk_length}
use Rattle.clay_grid.specs.Layers.{layer_of, IsLayer}
use Rattle.clay_grid.proofs.LayerLaws.{IsLayer-digits_of}
use Rattle.clay_model.proofs.Unique.{row_of}
use Rattle.code_laws.proofs.Pieces.{put_mid_before, put_mid_within, place_below}
use Rattle.std.proofs.lemmas.Bool.{cases_eq}
use borrow.Rule.Slice.PartMut.{put_mid}
use Rattle.clay_model.specs.Partners.{ArePartners}
use Rattle.clay_aloof.specs.Shape.{AloofShape, all_chunks, rows_of, grid_of, node_of}
use Rattle.clay_aloof.specs.Limits.{IsAloof}
use Rattle.clay_aloof.specs.Code.{coupled_value}
use Rattle.clay_aloof.specs.Pieces.{PiecesFit}
use Rattle.clay_aloof.specs.Solved.{Fits, IsUncoupled}
use Rattle.clay_aloof.specs.Rebuilt.{is_missing_node, IsGiven, IsRepairPlan, ArePut, IsLostPiece, HoldsLost, IsLostChunk}
use Rattle.clay_aloof.specs.declared.layer_solving.Plan.{Plan}
use Rattle.clay_aloof.proofs.Layer.{some_rows}
use Rattle.clay_aloof.proofs.Nodes.{node_inside, node_real, coupled_real}
use Rattle.clay_aloof.proofs.Parts.{known_value, word_fits, column_known}
use Rattle.clay_aloof.proofs.Vertices.{alone_partner, crossed_value}

-- the partner of the lost node's vertex
module _ (a : AloofShape) (lost : ℕ) (aloof : IsAloof a) (within : lost < all_chunks a) (n other p : ℕ) (pair : ArePartners (grid_of a) (node_of a lost) n other p) where
  q : ℕ
  q = rows_of a

  inside : node_of a lost < node_count (grid_of a)
  inside = node_inside a lost aloof within

  column : node_of a lost / rows_of a < column_count (grid_of a)
  column = row_of (rows_of a) (column_count (grid_of a)) (node_of a lost) pair.rows inside

  layer : IsLayer (rows_of a) (column_count (grid_of a)) (layer_of (grid_of a) n)
  layer = IsLayer-digits_of (rows_of a) (column_count (grid_of a)) n pair.rows

  pub partner_column : other / rows_of a ≡ node_of a lost / rows_of a
  partner_column =
      ap (λ v. v / rows_of a) pair.node_is
      ∙ div-mul-add (node_of a lost / rows_of a) (rows_of a) (get_or (layer_of (grid_of a) n) (node_of a lost / rows_of a) 0) (layer.digits (node_of a lost / rows_of a) column)

  -- it stands in a layer that is given
  pub partner_read : IsGiven a lost p
  partner_read =
      ap (λ l. get_or l (node_of a lost / rows_of a) 0) pair.layer_is
      ∙ get_or-set_same (layer_of (grid_of a) n) (node_of a lost / rows_of a) (node_of a lost % rows_of a) 0 (subst (λ t. node_of a lost / rows_of a < t) (sym layer.long) column)

  -- and is solved
  pub partner_erased : (have : List (Option (List ℕ))) (plan : Plan) → IsRepairPlan a lost have plan → other < node_count (grid_of a) → get_or plan.erased.items other false ≡ true
  partner_erased have plan repair below =
      repair.erased_are other below ∙ ap (λ b. b || is_missing_node a have other) (eq-eqb (other / rows_of a) (node_of a lost / rows_of a) partner_column)

-- the piece of an unpaired vertex is its uncoupled value
pub lost_alone : (a : AloofShape) (lost : ℕ) (have : List (Option (List ℕ))) (plan : Plan) (known : List ℕ) (n other p : ℕ) (own out : List ℕ) → IsRepairPlan a lost have plan → ArePut a lost have (all_chunks a) known
    → ArePartners (grid_of a) (node_of a lost) n other p → other ≡ node_of a lost → IsUncoupled (grid_of a) plan known other p own → out ≡ own → IsLostPiece a lost have n out
lost_alone a lost have plan known n other p own out repair put pair same uncoupled copied = record {
  at = λ word parts b hb.
      let fits : Fits (grid_of a) plan known (coupled_value a word) = word_fits a lost have plan known word repair put parts in
      ap (λ l. get_or l b 0) copied
      ∙ uncoupled.at (coupled_value a word) fits b hb
      ∙ sym (alone_partner (grid_of a) (node_of a lost) n other p pair (coupled_value a word) fits.bytes b same);
}

-- that of a paired one is crossed from its partner's values
pub lost_crossed : (a : AloofShape) (lost : ℕ) (have : List (Option (List ℕ))) (plan : Plan) (known : List ℕ) (n other p : ℕ) (own out : List ℕ) → IsRepairPlan a lost have plan → ArePut a lost have (all_chunks a) known
    → PiecesFit a lost have → lost < all_chunks a → ArePartners (grid_of a) (node_of a lost) n other p → other < node_count (grid_of a) → p < layer_count (grid_of a) → other ≢ node_of a lost
    → IsUncoupled (grid_of a) plan known other p own
    → ((b : ℕ) → b < a.width → get_or out b 0 ≡ quotient (bit_xor (get_or own b 0) (get_or known ((other * layer_count (grid_of a) + p) * a.width + b) 0)) 2) → IsLostPiece a lost have n out
lost_crossed a lost have plan known n other p own out repair put fit within pair below layer differ uncoupled written = record {
  at = λ word parts b hb.
      let fits : Fits (grid_of a) plan known (coupled_value a word) = word_fits a lost have plan known word repair put parts in
      let there = column_known a lost have other repair.aloof fit below (partner_column a lost repair.aloof within n other p pair) differ in
      let given : IsGiven a lost p = partner_read a lost repair.aloof within n other p pair in
      written b hb
      ∙ (λ k. quotient (bit_xor (uncoupled.at (coupled_value a word) fits b hb k) (known_value a lost have known word repair.aloof put parts other p b below layer given there hb k)) 2)
      ∙ sym (crossed_value (grid_of a) (node_of a lost) n other p pair (coupled_value a word) fits.bytes b differ);
}

-- one piece more
pub lost_more : (a : AloofShape) (lost : ℕ) (have : List (Option (List ℕ))) (n k : ℕ) (chunk out : List ℕ) → n * a.width ≤ length chunk → length out ≡ a.width
    → HoldsLost a lost have n chunk → IsLostPiece a lost have n out → HoldsLost a lost have (n + 1) (put_mid (n * a.width) k chunk out)
lost_more a lost have n k chunk out start long before new = record {
  at = λ word parts v b hv hb. elim (cases_eq v n) [
    | inl same ↦
        ap (λ u. get_or (put_mid (n * a.width) k chunk out) (u * a.width + b) 0) same
        ∙ put_mid_within (n * a.width) k chunk out b start (subst (λ u. b < u) (sym long) hb)
        ∙ new.at word parts b hb
        ∙ ap (λ u. coupled_value a word b (node_of a lost) (layer_of (grid_of a) u)) (sym same)
    | inr other ↦
        let below : v < n = omega (arith, other) in
        put_mid_before (n * a.width) k chunk out (v * a.width + b) start (place_below v n a.width b below hb)
        ∙ before.at word parts v b below hb
  ];
}

-- a chunk of which each piece is the lost one's
pub is_lost_chunk : (a : AloofShape) (lost : ℕ) (have : List (Option (List ℕ))) (chunk : List ℕ) → IsAloof a → lost < all_chunks a → length chunk ≡ chunk_length (grid_of a)
    → HoldsLost a lost have (layer_count (grid_of a)) chunk → IsLostChunk a lost have chunk
is_lost_chunk a lost have chunk aloof within long holds = record {
  len = long;
  value = λ word parts.
      let rows : 0 < rows_of a = some_rows (grid_of a) aloof.grid in
      let wide : 0 < a.width = let some = aloof.limits.width.0 in omega arith in
      ext_get_or 0 chunk (get_or word lost []) (long ∙ sym (parts.codeword.lengths lost within)) (λ s hs.
      let place : s < chunk_length (grid_of a) = subst (λ n. s < n) long hs in
      let n : ℕ = s / a.width in
      let b : ℕ = s % a.width in
      let below : n < layer_count (grid_of a) = div_below s a.width (layer_count (grid_of a)) wide place in
      let whole : n * a.width + b ≡ s = div-add-mod' s a.width in
      ap (λ v. get_or chunk v 0) (sym whole)
      ∙ holds.at word parts n b below (mod_below s a.width wide)
      ∙ coupled_real a word lost (node_of a lost) n b rows below (node_real a lost (node_of a lost) refl)
      ∙ ap (λ v. get_or (get_or word lost []) v 0) whole);
}
