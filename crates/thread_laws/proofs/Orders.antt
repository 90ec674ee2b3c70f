-- Lists of steps in order: the filters of a list, and that order and actors fix it.
use Rattle.std.proofs.Common.{◌≡◌, ◌≤◌, ◌<◌, Bool, true, false, cond, List, [], ◌∷◌, filter, refl, sym, ap, subst, ◌∙◌, arith, eq-eqb, eqb-true, true≢false}
use Rattle.std.proofs.lemmas.List.Elements.{All-filter, All-head}
use Rattle.std.specs.Prelude.{All}
use Rattle.store_map.specs.declared.actor.Actor.{Actor}
use Rattle.store_map.specs.declared.actor.Actor.TheVariants as actor
use Rattle.store_core.specs.ActPlace.{ActPlace}
use Rattle.store_core.specs.Lookups.{same_actor}
use Rattle.thread_laws.specs.MadeSteps.{MadeStep, is_by, is_at, MomentsRise, MomentsDontFall}
use Rattle.thread_laws.specs.Histories.{Histories, StandTwice, IsInOrder}

-- ---- actors
pub one_self : (a : Actor) → same_actor a a ≡ true
one_self (actor.Client i) = eq-eqb i i refl
one_self (actor.Repairer i) = eq-eqb i i refl
one_self actor.Sweeper = refl
one_self actor.Operator = refl

pub one_is : (a b : Actor) → same_actor a b ≡ true → a ≡ b
one_is (actor.Client i) (actor.Client j) e = ap actor.Client (eqb-true i j e)
one_is (actor.Repairer i) (actor.Repairer j) e = ap actor.Repairer (eqb-true i j e)
one_is actor.Sweeper actor.Sweeper e = refl
one_is actor.Operator actor.Operator e = refl
one_is a b e = absurd (true≢false (sym e))

-- ---- filters
module _ {X : Type 0} where
  pub filter_swap : (p q : X → Bool) (xs : List X) → filter p (filter q xs) ≡ filter q (filter p xs)
  filter_swap p q [] = refl
  filter_swap p q (x ∷ xs) = by (filter_swap p q xs) (p x) (q x) refl refl
    where
      by : filter p (filter q xs) ≡ filter q (filter p xs) → (b c : Bool) → p x ≡ b → q x ≡ c
          → filter p (cond {A = List X} c (x ∷ filter q xs) (filter q xs)) ≡ filter q (cond {A = List X} b (x ∷ filter p xs) (filter p xs))
      by rest true true e f =
          ap (λ d. cond {A = List X} d (x ∷ filter p (filter q xs)) (filter p (filter q xs))) e ∙ ap (λ l. x ∷ l) rest
          ∙ sym (ap (λ d. cond {A = List X} d (x ∷ filter q (filter p xs)) (filter q (filter p xs))) f)
      by rest true false e f = rest ∙ sym (ap (λ d. cond {A = List X} d (x ∷ filter q (filter p xs)) (filter q (filter p xs))) f)
      by rest false true e f = ap (λ d. cond {A = List X} d (x ∷ filter p (filter q xs)) (filter p (filter q xs))) e ∙ rest
      by rest false false e f = rest

  pub uncons : (c : Bool) (x : X) (xs ys : List X) → cond {A = List X} c (x ∷ xs) xs ≡ cond {A = List X} c (x ∷ ys) ys → xs ≡ ys
  uncons true x xs ys e = cc (e)
  uncons false x xs ys e = e

-- a list in order stays so
pub filter_falls : (p : MadeStep → Bool) (ms : List MadeStep) → MomentsDontFall ms → MomentsDontFall (filter p ms)
filter_falls p [] h = tt
filter_falls p (m ∷ ms) h = by (filter_falls p ms h.1) (p m)
  where
    by : MomentsDontFall (filter p ms) → (b : Bool) → MomentsDontFall (cond {A = List MadeStep} b (m ∷ filter p ms) (filter p ms))
    by rest true = (All-filter p (λ (later : MadeStep). m.moment ≤ later.moment) ms h.0, rest)
    by rest false = rest

-- ---- the steps of a first step's actor
first_own : (m : MadeStep) (ms : List MadeStep) → filter (is_by m.actor) (m ∷ ms) ≡ m ∷ filter (is_by m.actor) ms
first_own m ms = ap (λ b. cond {A = List MadeStep} b (m ∷ filter (is_by m.actor) ms) (filter (is_by m.actor) ms)) (one_self m.actor)

first_by : (who : Actor) (b : Bool) (m : MadeStep) (ms : List MadeStep) → same_actor who m.actor ≡ b → filter (is_by who) (m ∷ ms) ≡ cond {A = List MadeStep} b (m ∷ filter (is_by who) ms) (filter (is_by who) ms)
first_by who b m ms e = ap (λ c. cond {A = List MadeStep} c (m ∷ filter (is_by who) ms) (filter (is_by who) ms)) e

-- of two lists in order, the one strictly, in which each actor has the same steps, the one is the other
pub same_order : (xs ys : List MadeStep) → MomentsDontFall xs → MomentsRise ys → ((who : Actor) → filter (is_by who) xs ≡ filter (is_by who) ys) → xs ≡ ys
same_order [] [] falls rises same = refl
same_order [] (y ∷ ys) falls rises same = let e : [] ≡ y ∷ filter (is_by y.actor) ys = same y.actor ∙ first_own y ys in absurd (cc (e))
same_order (x ∷ xs) [] falls rises same = let e : x ∷ filter (is_by x.actor) xs ≡ [] = sym (first_own x xs) ∙ same x.actor in absurd (cc (e))
same_order (x ∷ xs) (y ∷ ys) falls rises same = by (λ h. same_order xs ys falls.1 rises.1 h) (same_actor x.actor y.actor) refl (same_actor y.actor x.actor) refl
  where
    by : (((who : Actor) → filter (is_by who) xs ≡ filter (is_by who) ys) → xs ≡ ys) → (b : Bool) → same_actor x.actor y.actor ≡ b → (c : Bool) → same_actor y.actor x.actor ≡ c → x ∷ xs ≡ y ∷ ys
    by more true e c f =
        let both : x ∷ filter (is_by x.actor) xs ≡ y ∷ filter (is_by x.actor) ys = sym (first_own x xs) ∙ same x.actor ∙ first_by x.actor true y ys e in
        let heads : x ≡ y = cc (both) in
        let tails : (who : Actor) → filter (is_by who) xs ≡ filter (is_by who) ys =
        λ who. uncons (is_by who x) x (filter (is_by who) xs) (filter (is_by who) ys)
        (subst (λ (z : MadeStep). filter (is_by who) (x ∷ xs) ≡ filter (is_by who) (z ∷ ys)) (sym heads) (same who)) in
        let rest : xs ≡ ys = more tails in
        λ i. heads i ∷ rest i
    by more false e true f = absurd (true≢false (sym (one_self x.actor) ∙ ap (λ a. same_actor x.actor a) (sym (one_is y.actor x.actor f)) ∙ e))
    by more false e false f =
        let mine : filter (is_by x.actor) ys ≡ x ∷ filter (is_by x.actor) xs = sym (sym (first_own x xs) ∙ same x.actor ∙ first_by x.actor false y ys e) in
        let yours : filter (is_by y.actor) xs ≡ y ∷ filter (is_by y.actor) ys = sym (first_by y.actor false x xs f) ∙ same y.actor ∙ first_own y ys in
        let above : All (λ (later : MadeStep). y.moment < later.moment) (x ∷ filter (is_by x.actor) xs) =
        subst (All (λ (later : MadeStep). y.moment < later.moment)) mine (All-filter (is_by x.actor) (λ (later : MadeStep). y.moment < later.moment) ys rises.0) in
        let below : All (λ (later : MadeStep). x.moment ≤ later.moment) (y ∷ filter (is_by y.actor) ys) =
        subst (All (λ (later : MadeStep). x.moment ≤ later.moment)) yours (All-filter (is_by y.actor) (λ (later : MadeStep). x.moment ≤ later.moment) xs falls.0) in
        let lt : y.moment < x.moment = All-head (λ (later : MadeStep). y.moment < later.moment) x (filter (is_by x.actor) xs) above in
        let le : x.moment ≤ y.moment = All-head (λ (later : MadeStep). x.moment ≤ later.moment) y (filter (is_by y.actor) ys) below in
        absurd (omega (arith, lt, le))

-- each place's list is the part of the ordered list that is at this place
pub place_in_order : (h : Histories) (steps : List MadeStep) → StandTwice h → IsInOrder h steps → (place : ActPlace) → filter (is_at place) steps ≡ h.at place
place_in_order h steps twice order place =
    same_order (filter (is_at place) steps) (h.at place) (filter_falls (is_at place) steps order.order) (twice.rise_at place)
    (λ who. filter_swap (is_by who) (is_at place) steps ∙ ap (filter (is_at place)) (order.of who) ∙ sym (twice.both place who))
