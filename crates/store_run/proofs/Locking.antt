-- Locks in a row, each with its turns: one more, with its own.
use Rattle.std.proofs.Common.{◌≡◌, ℕ, ◌+◌, ◌<◌, List, [], ◌∷◌, ◌++◌, length, slice_get, Some, Vec, refl, sym, ap, subst, ◌∙◌, arith}
use Rattle.std.proofs.lemmas.List.{length_push, map-append}
use Rattle.std.proofs.lemmas.Option.{none-some, same_Some, slice_get_within}
use Rattle.std.specs.Global.{Global}
use Rattle.atomic_table.specs.Seated.{TableId}
use Rattle.turn_lock.specs.TurnState.{TurnState}
use Rattle.turn_lock.specs.Dealt.{AreTurns}
use Rattle.turn_lock.proofs.JoinedLists.{at_end, each_pushed}
use Rattle.turn_lock.specs.Piles.{items_of}
use Rattle.turn_lock.specs.Rows.{ArePiles}
use Rattle.turn_lock.proofs.RowLists.{before_last}

module _ {F E : Type 0} (identity : ℕ → F) (locks : List TableId) (count : ℕ) (piles : List (List (TurnState F E))) (lock : TableId) (pile : List (TurnState F E))
    (are : ArePiles identity locks count piles) (new : AreTurns lock (identity (length locks)) count pile) where
  -- the last place has the new pile, and the others have theirs
  here : (p : List (TurnState F E)) → slice_get (piles ++ pile ∷ []) (length locks) ≡ Some p → AreTurns lock (identity (length locks)) count p
  here p f =
      let same : pile ≡ p = same_Some pile p (sym (at_end piles pile) ∙ (ap (slice_get (piles ++ pile ∷ [])) are.wide ∙ f)) in
      subst (AreTurns lock (identity (length locks)) count) same new

  others :
      (j : ℕ) (l : TableId) → slice_get locks j ≡ Some l → (p : List (TurnState F E)) → slice_get (piles ++ pile ∷ []) j ≡ Some p →
      AreTurns l (identity j) count p
  others j l e p f =
      let within : j < length locks = slice_get_within locks j l e in
      let long : length piles ≡ length locks = are.wide in
      are.each j l p e (before_last piles pile j p (λ last. absurd (omega (arith, within, last, long))) f)

  pub piles_more : ArePiles identity (locks ++ lock ∷ []) count (piles ++ pile ∷ [])
  piles_more =
      record {
        wide = length_push piles pile ∙ (ap (λ (n : ℕ). n + 1) are.wide ∙ sym (length_push locks lock));
        each = λ j l p e f.
            each_pushed (λ (k : ℕ) (m : TableId). (q : List (TurnState F E)) → slice_get (piles ++ pile ∷ []) k ≡ Some q → AreTurns m (identity k) count q)
            locks lock others here j l e p f;
      }

-- so it is where piles are vectors
module _ {F E : Type 0} (identity : ℕ → F) (count : ℕ) where
  pub piles_begin : (locks : List TableId) (turns : List (Vec (TurnState F E) Global)) → locks ≡ [] → turns ≡ [] → ArePiles identity locks count (items_of turns)
  piles_begin locks turns no_lock no_turns =
      subst (λ (l : List TableId). ArePiles identity l count (items_of turns)) (sym no_lock)
      (subst (λ (t : List (Vec (TurnState F E) Global)). ArePiles identity [] count (items_of t)) (sym no_turns)
      (record { wide = refl; each = λ j lock pile e f. absurd (none-some lock e) }))

  module _ (locks : List TableId) (turns : List (Vec (TurnState F E) Global)) (number : ℕ) (at : length locks ≡ number) (are : ArePiles identity locks count (items_of turns))
      (lock : TableId) (its : Vec (TurnState F E) Global) (new : AreTurns lock (identity number) count its.items) where
    more : ArePiles identity (locks ++ lock ∷ []) count (items_of turns ++ its.items ∷ [])
    more =
        piles_more identity locks count (items_of turns) lock its.items are
        (subst (λ (n : ℕ). AreTurns lock (identity n) count its.items) (sym at) new)

    pub piles_go_on :
        (now : List TableId) (turns_now : List (Vec (TurnState F E) Global)) → now ≡ locks ++ lock ∷ [] → turns_now ≡ turns ++ its ∷ [] →
        ArePiles identity now count (items_of turns_now)
    piles_go_on now turns_now locked dealt =
        subst (λ (l : List TableId). ArePiles identity l count (items_of turns_now)) (sym locked)
        (subst (ArePiles identity (locks ++ lock ∷ []) count)
        (sym (ap items_of dealt ∙ map-append (λ (v : Vec (TurnState F E) Global). v.items) turns (its ∷ []))) more)
