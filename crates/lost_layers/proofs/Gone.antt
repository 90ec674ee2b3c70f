-- The nodes whose chunks are missing, and the pieces of the others.
use Rattle.std.proofs.Common.{◌≡◌, ℕ, subst, ◌+◌, ◌-◌, ◌<◌, ◌≤◌, Bool, true, false, not, ◌&&◌, ◌||◌, eqb, List, [], ◌∷◌, ◌++◌, All, length, get_or, map, refl, sym, ap, ◌∙◌, inl, inr, arith}
use Rattle.std.specs.List.{range_with_len}
use Rattle.std.proofs.lemmas.Bool.{cases_Bool, eq-eqb, true≢false, and_parts, or_cases, not-true}
use Rattle.std.proofs.lemmas.List.FromFn.{length-map-range_with_len, get_or-map-range_with_len, map-range_with_len_more}
use Rattle.clay_grid.specs.Shape.{Shape, node_count, node_of_chunk, IsVirtual}
use Rattle.clay_grid.specs.Limits.{IsGeometry}
use Rattle.clay_grid.specs.Score.{count_below}
use Rattle.clay_grid.proofs.Counting.{count_below_same}
use Rattle.clay_model.specs.Code.{chunk_of_node}
use Rattle.code_laws.proofs.Column.{node_inside}
use Rattle.code_laws.proofs.Nodes.{node_real, node_virtual}
use Rattle.lost_layers.specs.LostLayers.{lost_node, is_wanted, partner_node, partner_layer}
use Rattle.lost_layers.specs.LostPieces.{piece_at}
use Rattle.lost_layers.specs.declared.run.LostRun.{LostRun}
use Rattle.lost_layers.specs.declared.run.LostPiece.{LostPiece}
use Rattle.lost_layers.proofs.Determining.{wanted_between}
use Rattle.lost_layers.specs.Erased.{Erased, IsErased, is_missing, is_unknown}
use Rattle.lost_layers.specs.ErasedLayers.{is_solved_for, is_solved}
use Rattle.lost_layers.specs.ErasedPieces.{is_used, is_piece, pieces_of}
use Rattle.lost_layers.specs.Unknown.{unknown_from}
use Rattle.lost_layers.specs.Without.{is_there, is_gone, gone_nodes, gone_count, without, missing_pieces_of, IsThere, Determine, IsReadable}
use Rattle.lost_layers.proofs.Marking.{AreMore, unknown_more}
use Rattle.lost_layers.proofs.ErasedLists.{IsRead, only_read}
use Rattle.lost_layers.proofs.ErasedDetermining.{pieces_determine}

pub one_more : (test : ℕ → Bool) (marks : List Bool) (mark : Bool) (n : ℕ) → mark ≡ test n → marks ≡ map test (range_with_len 0 n) → marks ++ mark ∷ [] ≡ map test (range_with_len 0 (n + 1))
one_more test marks mark n is before = (λ i. before i ++ is i ∷ []) ∙ sym (map-range_with_len_more test 0 n n (omega arith))

module _ (g : Shape) (run : LostRun) (present : List Bool) where
  pub mark_at : (i : ℕ) → i < node_count g → get_or (gone_nodes g run present) i false ≡ is_gone g run present i
  mark_at i h = get_or-map-range_with_len (is_gone g run present) 0 (node_count g) i i false h (omega arith)

  -- as many have a mark as there is room for
  pub gone_few : IsReadable g run present → AreMore g (gone_nodes g run present) (gone_nodes g run present)
  gone_few readable =
      let same : count_below (node_count g) (λ i. get_or (gone_nodes g run present) i false) ≡ gone_count g run present =
      count_below_same (node_count g) (λ i. get_or (gone_nodes g run present) i false) (is_gone g run present) mark_at in
      record {
        len = length-map-range_with_len (is_gone g run present) 0 (node_count g);
        kept = λ i h. h;
        few = subst (λ n. n ≤ g.parity_count) (sym same) readable.few;
      }

  pub gone_node : (c i : ℕ) → node_of_chunk g c ≡ i → is_gone g run present i ≡ not (is_there run present c)
  gone_node c i is =
      let node = node_real g c i is in
      λ k. not (node.real k) && not (is_there run present (node.chunk k))

  gone_at : (c : ℕ) → is_gone g run present (node_of_chunk g c) ≡ not (is_there run present c)
  gone_at c = gone_node c (node_of_chunk g c) refl

  pub gone_virtual : (i : ℕ) → IsVirtual g i → is_gone g run present i ≡ false
  gone_virtual i virtual = ap (λ v. not v && not (is_there run present (chunk_of_node g i))) (node_virtual g i virtual)

  -- the lost one is missing
  pub lost_gone : is_gone g run present (lost_node g run) ≡ true
  lost_gone = gone_at run.lost ∙ ap (λ b. not (not b && get_or present run.lost false)) (eq-eqb run.lost run.lost refl)

  pub there_from : (c : ℕ) → is_gone g run present (node_of_chunk g c) ≡ false → is_there run present c ≡ true
  there_from c h = turned (is_there run present c) (sym (gone_at c) ∙ h)
    where
      turned : (b : Bool) → not b ≡ false → b ≡ true
      turned true h = refl
      turned false h = absurd (true≢false h)

-- ---- what is read

present_piece : (e : Erased) (i n : ℕ) → IsErased e → is_piece e i n ≡ true → is_missing e i ≡ false
present_piece e i n erased read =
    elim (cases_Bool (is_missing e i)) [
      | inr there ↦ there
      | inl gone ↦ elim (or_cases (not (is_unknown e i) && (is_used e i n || is_used e (partner_node e.g i n) (partner_layer e.g i n))) _ read) [
        | inl known ↦
            let own = (and_parts (not (is_unknown e i)) _ known).0 in
            absurd (true≢false (sym (erased.missing i gone) ∙ not-true (is_unknown e i) own))
        | inr wanted ↦
            let both = and_parts (not (is_missing e i) && eqb (partner_node e.g i n) (lost_node e.g e.run)) (is_wanted e.run (partner_layer e.g i n)) wanted in
            let own = (and_parts (not (is_missing e i)) _ both.0).0 in
            absurd (true≢false (sym gone ∙ not-true (is_missing e i) own))
      ]
    ]

-- the pieces are subchunks of chunks that are there
pieces_there : (e : Erased) (present : List Bool) → IsGeometry e.g → IsErased e → e.missing ≡ gone_nodes e.g e.run present → All (IsThere e.g e.run present) (pieces_of e)
pieces_there e present geometry erased marks = λ s d h.
    let piece : LostPiece = get_or (pieces_of e) s d in
    let read : IsRead e piece = only_read e d s h in
    let node : ℕ = node_of_chunk e.g piece.chunk in
    let here : is_gone e.g e.run present node ≡ false =
    sym (mark_at e.g e.run present node (node_inside e.g piece.chunk geometry read.chunk)) ∙ ap (λ l. get_or l node false) (sym marks) ∙ present_piece e node piece.layer erased read.read in
    (read.chunk, read.layer, there_from e.g e.run present piece.chunk here)

-- ---- the pieces of a run without the chunks that are gone

module _ (g : Shape) (run : LostRun) (present : List Bool) (geometry : IsGeometry g) (readable : IsReadable g run present) where
  more : AreMore g (gone_nodes g run present) (unknown_from g run (gone_nodes g run present))
  more = unknown_more g run (gone_nodes g run present) (gone_few g run present readable)

  pub unknown_long : length (without g run present).unknown ≡ node_count g
  unknown_long = more.len

  pub is_erased : IsErased (without g run present)
  is_erased = record {
    run = readable.run_is;
    lost = mark_at g run present (lost_node g run) (node_inside g run.lost geometry readable.run_is.chunk) ∙ lost_gone g run present;
    missing = more.kept;
    few = more.few;
  }

  pub determine : Determine g run present (missing_pieces_of g run present)
  determine = record {
    there = pieces_there (without g run present) present geometry is_erased refl;
    same = pieces_determine (without g run present) geometry is_erased;
  }

-- ---- an empty run

-- it has no pieces
module _ (e : Erased) (same : e.run.from ≡ e.run.to) where
  unsolved : (n : ℕ) → is_solved e n ≡ false
  unsolved n =
      let none : e.run.to - e.run.from ≡ 0 = omega (arith, same) in
      ap (λ k. not (eqb (count_below k (λ d. is_solved_for e (e.run.from + d) n)) 0)) none

  unused : (i n : ℕ) → is_used e i n ≡ true → ⊥
  unused i n used = true≢false (sym (and_parts (not (is_unknown e i)) (is_solved e n) used).1 ∙ unsolved n)

  unread : (i n : ℕ) → is_piece e i n ≡ true → ⊥
  unread i n read =
      elim (or_cases (not (is_unknown e i) && (is_used e i n || is_used e (partner_node e.g i n) (partner_layer e.g i n))) _ read) [
        | inl known ↦ elim (or_cases (is_used e i n) _ (and_parts (not (is_unknown e i)) _ known).1) [
          | inl own ↦ unused i n own
          | inr theirs ↦ unused (partner_node e.g i n) (partner_layer e.g i n) theirs
        ]
        | inr mate ↦
            let wanted = (and_parts (not (is_missing e i) && eqb (partner_node e.g i n) (lost_node e.g e.run)) (is_wanted e.run (partner_layer e.g i n)) mate).1 in
            let between = wanted_between e.run (partner_layer e.g i n) wanted in
            omega (arith, between.0, between.1, same)
      ]

  pub no_pieces : pieces_of e ≡ []
  no_pieces =
      empty (pieces_of e) (λ h. let read = only_read e (piece_at 0 0) 0 h in unread _ _ read.read)
    where
      empty : (xs : List LostPiece) → (0 < length xs → ⊥) → xs ≡ []
      empty [] h = refl
      empty (x ∷ xs) h = absurd (h (omega arith))
