-- The tops of piles are taken, one pile after the other.
use Rattle.std.proofs.Common.{◌≡◌, ℕ, ◌+◌, ◌<◌, ◌≤◌, List, [], ◌∷◌, ◌++◌, length, length-set, set, get_or, slice_get, option_map, Some, Vec, refl, sym, ap, subst, ◌∙◌, arith}
use Rattle.std.proofs.lemmas.List.{length_push}
use Rattle.std.proofs.lemmas.Option.{none-some, same_Some, slice_get-map}
use Rattle.std.specs.Global.{Global}
use Rattle.turn_lock.specs.Piles.{AreSome, AreTops, items_of}
use Rattle.turn_lock.proofs.JoinedLists.{at_end, each_changed, map_set}
use Rattle.turn_lock.proofs.RowLists.{before_last, get_set_other, got}

-- those of the piles below a place are taken
pub record IsTaking {X : Type 0} (place : ℕ) (old now : List (List X)) (tops : List X) : Type 0 where
  pub wide : length now ≡ length old
  pub count : length tops ≡ place
  pub taken : (j : ℕ) (pile : List X) (top : X) → slice_get now j ≡ Some pile → slice_get tops j ≡ Some top → slice_get old j ≡ Some (pile ++ top ∷ [])
  pub left : (j : ℕ) → place ≤ j → slice_get now j ≡ slice_get old j

pub taking_begins : {X : Type 0} (piles : List (List X)) (tops : List X) → tops ≡ [] → IsTaking 0 piles piles tops
taking_begins {X} piles tops none =
    subst (λ (l : List X). IsTaking 0 piles piles l) (sym none)
    (record { wide = refl; count = refl; taken = λ j pile top e f. absurd (none-some top f); left = λ j least. refl })

module _ {X : Type 0} (place : ℕ) (old now : List (List X)) (tops : List X) (is : IsTaking place old now tops) (before after : List X) (top : X) (there : slice_get now place ≡ Some before) (taken : before ≡ after ++ top ∷ []) where
  others : (j : ℕ) (pile : List X) → (j ≡ place → ⊥) → slice_get now j ≡ Some pile → (t : X) → slice_get (tops ++ top ∷ []) j ≡ Some t → slice_get old j ≡ Some (pile ++ t ∷ [])
  others j pile apart e t f = is.taken j pile t e (before_last tops top j t (λ same. apart (same ∙ is.count)) f)

  here : (t : X) → slice_get (tops ++ top ∷ []) place ≡ Some t → slice_get old place ≡ Some (after ++ t ∷ [])
  here t f =
      let same : top ≡ t = same_Some top t (sym (at_end tops top) ∙ (ap (λ (n : ℕ). slice_get (tops ++ top ∷ []) n) is.count ∙ f)) in
      let least : place ≤ place = omega arith in
      sym (is.left place least) ∙ (there ∙ ap (λ (l : List X). Some l) (taken ∙ ap (λ (x : X). after ++ x ∷ []) same))

  pub taking_goes_on : IsTaking (place + 1) old (set now place after) (tops ++ top ∷ [])
  taking_goes_on =
      record {
        wide = length-set now place after ∙ is.wide;
        count = length_push tops top ∙ ap (λ (n : ℕ). n + 1) is.count;
        taken = λ j pile t e f.
            each_changed (λ (k : ℕ) (l : List X). (u : X) → slice_get (tops ++ top ∷ []) k ≡ Some u → slice_get old k ≡ Some (l ++ u ∷ [])) now place after
            (λ k l apart g. others k l apart g) here j pile e t f;
        left = λ j least. get_set_other now place j after (λ same. absurd (omega (arith, same, least))) ∙ is.left j (omega (arith, least));
      }

-- so it goes on where piles are vectors
module _ {X : Type 0} (place : ℕ) (old : List (List X)) (piles : List (Vec X Global)) (tops : List X) (is : IsTaking place old (items_of piles) tops) (before : Vec X Global) (less : place < length piles) (read : before ≡ get_or piles place before) where
  there : slice_get (items_of piles) place ≡ Some before.items
  there = slice_get-map (λ (pile : Vec X Global). pile.items) piles place ∙ ap (option_map (λ (pile : Vec X Global). pile.items)) (got piles place before less read)

  pub pile_some : AreSome old → 0 < length before.items
  pile_some some = let least : place ≤ place = omega arith in some place before.items (sym (is.left place least) ∙ there)

  pub taking_on : (after : Vec X Global) (top : X) (now : List X) → before.items ≡ after.items ++ top ∷ [] → now ≡ tops ++ top ∷ [] → IsTaking (place + 1) old (items_of (set piles place after)) now
  taking_on after top now taken more =
      subst (IsTaking (place + 1) old (items_of (set piles place after))) (sym more)
      (subst (λ (l : List (List X)). IsTaking (place + 1) old l (tops ++ top ∷ [])) (sym (map_set (λ (pile : Vec X Global). pile.items) piles place after))
      (taking_goes_on place old (items_of piles) tops is before.items after.items top there taken))

pub taking_ends : {X : Type 0} (place : ℕ) (old now : List (List X)) (tops : List X) → IsTaking place old now tops → length now ≡ place → AreTops old now tops
taking_ends place old now tops is all = record { wide = is.wide; count = is.count ∙ (sym all ∙ is.wide); each = is.taken }
