-- An actor's own list with one step more.
use Rattle.std.proofs.Common.{◌≡◌, ℕ, ◌<◌, ◌≤◌, Bool, true, false, cond, List, [], ◌∷◌, ◌++◌, filter, refl, sym, ap, subst, ◌∙◌, arith}
use Rattle.std.proofs.lemmas.List.{append-nil}
use Rattle.std.proofs.lemmas.List.Elements.{All-nil, All-cons, All-head, All-tail, All-filter, filter-append, filter_passes}
use Rattle.std.specs.Prelude.{All}
use Rattle.store_core.specs.ActPlace.{ActPlace}
use Rattle.thread_laws.specs.MadeSteps.{MadeStep, is_at, MomentsRise}
use Rattle.thread_laws.specs.AtPlaces.{after_all, AllCome}
use Rattle.thread_laws.specs.OwnSteps.{own_steps, AreOwn}
use Rattle.thread_laws.proofs.Own.{at_place, keep_lists}
use Rattle.thread_laws.specs.Entries.{last_of}
use Rattle.thread_laws.proofs.Adding.{after_more, come_more, all_below, rises_on}
use Rattle.thread_laws.specs.Listed.{IsListed, IsOneMore}
use Rattle.thread_laws.proofs.Lists.{filter_all}

some_below : (k m : ℕ) → k < m → 0 < m
some_below k m lt = omega (arith, lt)

below_last : (steps : List MadeStep) (k : ℕ) → 0 < k → All (λ (x : MadeStep). x.moment < k) steps → last_of steps < k
below_last [] k some h = some
below_last (m ∷ steps) k some h =
    let first : m.moment < k = All-head (λ (x : MadeStep). x.moment < k) m steps h in
    let rest : last_of steps < k = below_last steps k some (All-tail (λ (x : MadeStep). x.moment < k) m steps h) in
    omega (arith, first, rest)

module _ (servers : ℕ) (at after : ActPlace → List MadeStep) (m : MadeStep) (own : AreOwn servers at) (one : IsOneMore servers at m after) where
  below : All (λ (x : MadeStep). x.moment < m.moment) (own_steps servers at)
  below = all_below (own_steps servers at) m.moment one.above

  -- its steps at a place are below the new one
  below_at : (place : ActPlace) → last_of (at place) < m.moment
  below_at place =
      below_last (at place) m.moment (some_below (last_of (own_steps servers at)) m.moment one.above)
      (subst (All (λ (x : MadeStep). x.moment < m.moment)) (at_place servers at own place) (All-filter (is_at place) (λ (x : MadeStep). x.moment < m.moment) (own_steps servers at) below))

  own_after : AreOwn servers after
  own_after =
      record {
        here = λ place.
            let added : List MadeStep = filter (is_at place) (m ∷ []) in
            ap (filter (is_at place)) (one.more.lists place)
            ∙ filter-append (is_at place) (at place) added
            ∙ (λ k. own.here place k ++ filter_all (is_at place) added (filter_passes (is_at place) (m ∷ [])) k)
            ∙ sym (one.more.lists place);
        order = λ place. subst MomentsRise (sym (one.more.lists place)) (ordered place (is_at place m));
        past = λ j le. one.more.lists (ActPlace.Server j) ∙ (λ k. own.past j le k ++ none j le (is_at (ActPlace.Server j) m) refl k);
      }
    where
      ordered : (place : ActPlace) (b : Bool) → MomentsRise (at place ++ cond {A = List MadeStep} b (m ∷ []) [])
      ordered place true = rises_on (at place) m (own.order place) (below_at place)
      ordered place false = subst MomentsRise (sym (append-nil (at place))) (own.order place)

      none : (j : ℕ) → servers ≤ j → (b : Bool) → is_at (ActPlace.Server j) m ≡ b → filter (is_at (ActPlace.Server j)) (m ∷ []) ≡ []
      none j le true e = let lt : j < servers = one.within j e in absurd (omega (arith, le, lt))
      none j le false e = ap (λ b. cond {A = List MadeStep} b (m ∷ []) []) e

  module _ {S : Type 0} (next : MadeStep → S → S) (May : MadeStep → S → Type 0) (first now : S) where
    pub listed_more : IsListed next May first servers at now → May m now → IsListed next May first servers after (next m now)
    listed_more listed may =
        let is : own_steps servers after ≡ own_steps servers at ++ m ∷ [] = (keep_lists servers at own).more m after one.more own_after listed.rise below in
        record {
          own = own_after;
          rise = subst MomentsRise (sym is) (rises_on (own_steps servers at) m listed.rise one.above);
          come = subst (λ l. AllCome next May l first) (sym is) (come_more next May (own_steps servers at) first m listed.come (subst (May m) listed.leads may));
          leads = ap (next m) listed.leads ∙ (sym (after_more next May (own_steps servers at) first m) ∙ ap (λ l. after_all next l first) (sym is));
        }
