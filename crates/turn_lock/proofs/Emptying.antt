-- Locks are emptied from the last one on, each by the turns of all rows there.
use Rattle.std.proofs.Common.{◌≡◌, ℕ, zero, suc, ◌+◌, ◌-◌, ◌<◌, ◌≤◌, List, [], ◌∷◌, ◌++◌, length, reverse, slice_get, Some, refl, sym, ap, subst, ◌∙◌, arith}
use Rattle.std.proofs.lemmas.List.{length-reverse, length_push, reverse-append}
use Rattle.std.proofs.lemmas.Option.{none-some, same_Some, slice_get_within}
use mathlib.Core.List.{IsPrefix}
use Rattle.atomic_table.specs.Seated.{TableId}
use Rattle.turn_lock.specs.TurnState.{TurnState}
use Rattle.turn_lock.specs.Joined.{AreAll, HasOwn}
use Rattle.turn_lock.specs.Out.{AreOut, AreRows, HasOwnAt, IsOut}
use Rattle.turn_lock.specs.Piles.{AreSome, AreTops}
use Rattle.turn_lock.proofs.JoinedLists.{at_end, at_place, front}

-- of each row the turns of the first places are left
pub record AreFirst {X : Type 0} (place : ℕ) (rows left : List (List X)) : Type 0 where
  pub wide : length left ≡ length rows
  pub each : (n : ℕ) (row now : List X) → slice_get rows n ≡ Some row → slice_get left n ≡ Some now → IsPrefix now row × (length now ≡ place)

module _ {F E : Type 0} (identity : ℕ → F) (locks : List TableId) (rows : List (List (TurnState F E))) (are : AreRows identity locks rows) where
  pub all_first : AreFirst (length locks) rows rows
  all_first =
      record {
        wide = refl;
        each = λ n row now e f.
            let same : now ≡ row = same_Some now row (sym f ∙ e) in
            (([], nothing_more now row same), are.wide n now f);
      }
    where
      nothing_more : (now row : List (TurnState F E)) → now ≡ row → now ++ [] ≡ row
      nothing_more now row same = at_nil now ∙ same
        where
          at_nil : (xs : List (TurnState F E)) → xs ++ [] ≡ xs
          at_nil [] = refl
          at_nil (x ∷ xs) = ap (λ l. x ∷ l) (at_nil xs)

  module _ (place : ℕ) (left : List (List (TurnState F E))) (first : AreFirst (place + 1) rows left) where
    pub left_some : AreSome left
    left_some n now f =
        let within : n < length left = slice_get_within left n now f in
        let row : (r : List (TurnState F E)) × (slice_get rows n ≡ Some r) = at_place rows n (omega (arith, within, first.wide)) in
        let long : length now ≡ place + 1 = (first.each n row.0 now row.1 f).1 in
        omega (arith, long)

    module _ (now : List (List (TurnState F E))) (tops : List (TurnState F E)) (taken : AreTops left now tops) where
      -- a row, with what is left of it and with its last turn
      prior : (n : ℕ) (row rest : List (TurnState F E)) (top : TurnState F E) → slice_get rows n ≡ Some row → slice_get now n ≡ Some rest → slice_get tops n ≡ Some top
          → IsPrefix (rest ++ top ∷ []) row × (length (rest ++ top ∷ []) ≡ place + 1)
      prior n row rest top e f g = first.each n row (rest ++ top ∷ []) e (taken.each n rest top f g)

      shorter : (n : ℕ) (row rest : List (TurnState F E)) (top : TurnState F E) → slice_get rows n ≡ Some row → slice_get now n ≡ Some rest → slice_get tops n ≡ Some top → length rest ≡ place
      shorter n row rest top e f g =
          let pushed : length (rest ++ top ∷ []) ≡ length rest + 1 = length_push rest top in
          let whole : length (rest ++ top ∷ []) ≡ place + 1 = (prior n row rest top e f g).1 in
          omega (arith, pushed, whole)

      pub still_first : AreFirst place rows now
      still_first =
          record {
            wide = taken.wide ∙ first.wide;
            each = λ n row rest e f.
                let within : n < length now = slice_get_within now n rest f in
                let top : (t : TurnState F E) × (slice_get tops n ≡ Some t) = at_place tops n (omega (arith, within, taken.wide, taken.count)) in
                let begins : IsPrefix (rest ++ top.0 ∷ []) row = (prior n row rest top.0 e f top.1).0 in
                ((top.0 ∷ begins.0, sym (append_one rest top.0 begins.0) ∙ begins.1), shorter n row rest top.0 e f top.1);
          }
        where
          append_one : (xs : List (TurnState F E)) (x : TurnState F E) (ys : List (TurnState F E)) → (xs ++ x ∷ []) ++ ys ≡ xs ++ x ∷ ys
          append_one [] x ys = refl
          append_one (z ∷ xs) x ys = ap (λ l. z ∷ l) (append_one xs x ys)

      -- the turn that was taken of a row is the one of this place
      pub top_there : (n : ℕ) (row : List (TurnState F E)) (top : TurnState F E) → slice_get rows n ≡ Some row → slice_get tops n ≡ Some top → slice_get row place ≡ Some top
      top_there n row top e g =
          let within : n < length tops = slice_get_within tops n top g in
          let rest : (r : List (TurnState F E)) × (slice_get now n ≡ Some r) = at_place now n (omega (arith, within, taken.wide, taken.count)) in
          let begins : IsPrefix (rest.0 ++ top ∷ []) row = (prior n row rest.0 top e rest.1 g).0 in
          subst (λ (k : ℕ). slice_get row k ≡ Some top) (shorter n row rest.0 top e rest.1 g)
          (subst (λ (l : List (TurnState F E)). slice_get l (length rest.0) ≡ Some top) begins.1
          (front (rest.0 ++ top ∷ []) begins.0 (length rest.0) top (at_end rest.0 top)))

      pub tops_are_all : (lock : TableId) → slice_get locks place ≡ Some lock → AreAll lock (identity place) tops
      tops_are_all lock l =
          record {
            some = omega (arith, are.some, first.wide, taken.count);
            each = λ n top g.
                let within : n < length tops = slice_get_within tops n top g in
                let row : (r : List (TurnState F E)) × (slice_get rows n ≡ Some r) = at_place rows n (omega (arith, within, first.wide, taken.count)) in
                are.each n place row.0 lock top row.1 l (top_there n row.0 top row.1 g);
          }

      -- a history with the entries of these turns has those of the rows
      pub own_there : (log : List (ℕ × E)) → HasOwn tops log → HasOwnAt rows place log
      own_there log own n row turn e f =
          let within : n < length rows = slice_get_within rows n row e in
          let top : (t : TurnState F E) × (slice_get tops n ≡ Some t) = at_place tops n (omega (arith, within, first.wide, taken.count)) in
          own n turn (subst (λ (t : TurnState F E). slice_get tops n ≡ Some t) (same_Some top.0 turn (sym (top_there n row top.0 e top.1) ∙ f)) top.1)

-- ---- the values, those of the places from one on, the last one first
module _ {T F E : Type 0} (fixed : T → F) (stands : T → List (ℕ × E) → Type 0) (identity : ℕ → F) (rows : List (List (TurnState F E))) where
  pub record AreOutFrom (from : ℕ) (values : List T) : Type 0 where
    pub logs : List (List (ℕ × E))
    pub logged : length logs ≡ length values
    pub each : (k : ℕ) (value : T) (log : List (ℕ × E)) → slice_get values k ≡ Some value → slice_get logs k ≡ Some log → IsOut fixed stands identity rows (from + k) value log

  pub none_out : (from : ℕ) → AreOutFrom from []
  none_out from = record { logs = []; logged = refl; each = λ k value log e f. absurd (none-some value e) }

  -- one more, of the place before
  one_more : (from : ℕ) (value : T) (values : List T) (log : List (ℕ × E)) → AreOutFrom (from + 1) values → IsOut fixed stands identity rows from value log → AreOutFrom from (value ∷ values)
  one_more from value values log are is =
      record {
        logs = log ∷ are.logs;
        logged = ap suc are.logged;
        each = each;
      }
    where
      each : (k : ℕ) (v : T) (l : List (ℕ × E)) → slice_get (value ∷ values) k ≡ Some v → slice_get (log ∷ are.logs) k ≡ Some l → IsOut fixed stands identity rows (from + k) v l
      each zero v l e f =
          let here : from ≡ from + 0 = omega arith in
          subst (λ (n : ℕ). IsOut fixed stands identity rows n v l) here
          (subst (λ (w : T). IsOut fixed stands identity rows from w l) (same_Some value v e) (subst (λ (m : List (ℕ × E)). IsOut fixed stands identity rows from value m) (same_Some log l f) is))
      each (suc k) v l e f =
          let later : from + 1 + k ≡ from + suc k = omega arith in
          subst (λ (n : ℕ). IsOut fixed stands identity rows n v l) later (are.each k v l e f)

  pub out_on : (from : ℕ) (values : List T) (value : T) (log : List (ℕ × E)) → AreOutFrom (from + 1) (reverse values) → IsOut fixed stands identity rows from value log → AreOutFrom from (reverse (values ++ value ∷ []))
  out_on from values value log are is = subst (AreOutFrom from) (sym (reverse-append values (value ∷ []))) (one_more from value (reverse values) log are is)

  pub all_out : (count : ℕ) (values : List T) → length values ≡ count → AreOutFrom 0 values → AreOut fixed stands identity rows count values
  all_out count values wide are =
      record {
        wide = wide;
        logs = are.logs;
        logged = are.logged ∙ wide;
        each = λ j value log e f. let here : 0 + j ≡ j = omega arith in subst (λ (n : ℕ). IsOut fixed stands identity rows n value log) here (are.each j value log e f);
      }

-- ---- the places, from the last one on
pub place_now : (all done : ℕ) → done < all → all - done ≡ all - 1 - done + 1
place_now all done less = omega (arith, less)

pub place_next : (all done : ℕ) → done < all → all - (done + 1) ≡ all - 1 - done
place_next all done less = omega (arith, less)

pub place_within : (all done : ℕ) → done < all → all - 1 - done < all
place_within all done less = omega (arith, less)

-- so the loop's states stand at these places
pub first_at : {F E : Type 0} (identity : ℕ → F) (locks : List TableId) (rows : List (List (TurnState F E))) → AreRows identity locks rows → AreFirst (length locks - 0) rows rows
first_at identity locks rows are = let whole : length locks ≡ length locks - 0 = omega arith in subst (λ (n : ℕ). AreFirst n rows rows) whole (all_first identity locks rows are)

pub out_at : {X : Type 0} (rows left : List (List X)) (all done : ℕ) → done < all → AreFirst (all - done) rows left → AreFirst (all - 1 - done + 1) rows left
out_at rows left all done less is = subst (λ (n : ℕ). AreFirst n rows left) (place_now all done less) is

pub still_at : {X : Type 0} (rows left : List (List X)) (all done : ℕ) → done < all → AreFirst (all - 1 - done) rows left → AreFirst (all - (done + 1)) rows left
still_at rows left all done less is = subst (λ (n : ℕ). AreFirst n rows left) (sym (place_next all done less)) is

module _ {T F E : Type 0} (fixed : T → F) (stands : T → List (ℕ × E) → Type 0) (identity : ℕ → F) (rows : List (List (TurnState F E))) where
  pub none_at : (from : ℕ) (values : List T) → values ≡ [] → AreOutFrom fixed stands identity rows from (reverse values)
  none_at from values none = subst (λ (l : List T). AreOutFrom fixed stands identity rows from (reverse l)) (sym none) (none_out fixed stands identity rows from)

  pub one_at : (all done : ℕ) (values now : List T) (value : T) (log : List (ℕ × E)) → done < all → now ≡ values ++ value ∷ [] → AreOutFrom fixed stands identity rows (all - done) (reverse values)
      → IsOut fixed stands identity rows (all - 1 - done) value log → AreOutFrom fixed stands identity rows (all - (done + 1)) (reverse now)
  one_at all done values now value log less more are is =
      subst (λ (l : List T). AreOutFrom fixed stands identity rows (all - (done + 1)) (reverse l)) (sym more)
      (subst (λ (n : ℕ). AreOutFrom fixed stands identity rows n (reverse (values ++ value ∷ []))) (sym (place_next all done less))
      (out_on fixed stands identity rows (all - 1 - done) values value log (subst (λ (n : ℕ). AreOutFrom fixed stands identity rows n (reverse values)) (place_now all done less) are) is))

  pub out_end : (all done : ℕ) (values now : List T) → all ≤ done → done ≤ all → length values ≡ done → now ≡ reverse values → AreOutFrom fixed stands identity rows (all - done) (reverse values)
      → AreOut fixed stands identity rows all now
  out_end all done values now most least wide turned are =
      let none : all - done ≡ 0 = omega (arith, most) in
      let long : length now ≡ length values = ap length turned ∙ length-reverse values in
      all_out fixed stands identity rows all now (omega (arith, long, wide, most, least))
      (subst (AreOutFrom fixed stands identity rows 0) (sym turned) (subst (λ (n : ℕ). AreOutFrom fixed stands identity rows n (reverse values)) none are))
