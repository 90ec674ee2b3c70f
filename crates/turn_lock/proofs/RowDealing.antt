-- The turns of the greatest number that is left are dealt at several locks.
use Rattle.std.proofs.Common.{◌≡◌, ℕ, ◌+◌, ◌<◌, List, [], ◌∷◌, ◌++◌, length, slice_get, Some, refl, ◌∙◌, arith}
use Rattle.std.proofs.lemmas.Option.{slice_get_within}
use Rattle.atomic_table.specs.Seated.{TableId}
use Rattle.turn_lock.specs.TurnState.{TurnState}
use Rattle.turn_lock.specs.Dealt.{AreTurns}
use Rattle.turn_lock.proofs.Dealing.{turn_taken, turns_left}
use Rattle.turn_lock.proofs.JoinedLists.{at_place}
use Rattle.turn_lock.specs.Piles.{AreSome, AreTops}
use Rattle.turn_lock.specs.Rows.{ArePiles, IsNewRow}

module _ {F E : Type 0} (identity : ℕ → F) (locks : List TableId) (count : ℕ) (old : List (List (TurnState F E))) (are : ArePiles identity locks (count + 1) old) where
  -- there is a turn on each pile
  pub piles_some : AreSome old
  piles_some j pile e =
      let within : j < length old = slice_get_within old j pile e in
      let lock : (l : TableId) × (slice_get locks j ≡ Some l) = at_place locks j (omega (arith, within, are.wide)) in
      let long : length pile ≡ count + 1 = (are.each j lock.0 pile lock.1 e).count_is in
      omega (arith, long)

  module _ (now : List (List (TurnState F E))) (tops : List (TurnState F E)) (taken : AreTops old now tops) where
    whole : (j : ℕ) (lock : TableId) (pile : List (TurnState F E)) (top : TurnState F E) → slice_get locks j ≡ Some lock → slice_get now j ≡ Some pile → slice_get tops j ≡ Some top
        → AreTurns lock (identity j) (count + 1) (pile ++ top ∷ [])
    whole j lock pile top l e f = are.each j lock (pile ++ top ∷ []) l (taken.each j pile top e f)

    -- those below the greatest number are left
    pub piles_left : ArePiles identity locks count now
    piles_left =
        record {
          wide = taken.wide ∙ are.wide;
          each = λ j lock pile l e.
              let within : j < length now = slice_get_within now j pile e in
              let top : (t : TurnState F E) × (slice_get tops j ≡ Some t) = at_place tops j (omega (arith, within, taken.wide, taken.count)) in
              turns_left lock (identity j) count (pile ++ top.0 ∷ []) pile top.0 refl (whole j lock pile top.0 l e top.1);
        }

    -- and those of this number were taken
    pub row_new : IsNewRow identity locks count tops
    row_new =
        record {
          wide = taken.count ∙ are.wide;
          each = λ j lock top l f.
              let within : j < length tops = slice_get_within tops j top f in
              let pile : (p : List (TurnState F E)) × (slice_get now j ≡ Some p) = at_place now j (omega (arith, within, taken.wide, taken.count)) in
              turn_taken lock (identity j) count (pile.0 ++ top ∷ []) pile.0 top refl (whole j lock pile.0 top l pile.1 f);
        }
