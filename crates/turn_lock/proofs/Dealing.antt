-- The last of the turns that are left is the one of the greatest number.
use Rattle.std.proofs.Common.{◌≡◌, ℕ, ◌+◌, List, [], ◌∷◌, ◌++◌, length, slice_get, Some, refl, sym, ap, subst, ◌∙◌, arith}
use Rattle.std.proofs.lemmas.List.{length_push}
use Rattle.atomic_table.specs.Seated.{TableId}
use Rattle.turn_lock.specs.TurnState.{TurnState, new_turn}
use Rattle.turn_lock.specs.Dealt.{AreTurns, IsTurnAt}
use Rattle.turn_lock.proofs.JoinedLists.{at_end, front}

module _ {F E : Type 0} (lock : TableId) (identity : F) (count : ℕ) (old now : List (TurnState F E)) (turn : TurnState F E) (is : old ≡ now ++ turn ∷ []) (all : AreTurns lock identity (count + 1) old) where
  long : length now ≡ count
  long = let pushed : length (now ++ turn ∷ []) ≡ length now + 1 = length_push now turn in
      let whole : length (now ++ turn ∷ []) ≡ count + 1 = ap length (sym is) ∙ all.count_is in
      omega (arith, pushed, whole)

  of_old : (k : ℕ) (t : TurnState F E) → slice_get (now ++ turn ∷ []) k ≡ Some t → t ≡ new_turn lock identity k
  of_old k t e = all.each k t (ap (λ (xs : List (TurnState F E)). slice_get xs k) is ∙ e)

  pub turns_left : AreTurns lock identity count now
  turns_left = record { count_is = long; each = λ k t e. of_old k t (front now (turn ∷ []) k t e) }

  pub turn_taken : turn ≡ new_turn lock identity count
  turn_taken = subst (λ (n : ℕ). turn ≡ new_turn lock identity n) long (of_old (length now) turn (at_end now turn))

-- a turn that was just made is free, with its number alone
pub turn_first : {F E : Type 0} (lock : TableId) (identity : F) (n : ℕ) (turn : TurnState F E) → turn ≡ new_turn lock identity n → IsTurnAt lock identity n turn
turn_first lock identity n turn is = subst (IsTurnAt lock identity n) (sym is) (record { own = refl; free = refl; numbers = refl; fixed = refl })
