-- What a filter_map picks, and the steps of a trace from which it picks.
use Rattle.std.proofs.Common.{◌≡◌, ◌⊎◌, inl, inr, ℕ, ◌↔◌, true, nat_eq, ◌&&◌, List, [], ◌∷◌, Option, None, Some, Contains, refl, sym, ap, subst, ◌∙◌, arith}
use Rattle.std.proofs.lemmas.Bool.{and_parts, and_from, eq-eqb, eqb-true}
use Rattle.std.proofs.lemmas.List.Elements.{Contains-append_right, Contains-append_cases, Contains-push_cases}
use Rattle.std.proofs.lemmas.Option.{none-some, same_Some}
use Rattle.std.specs.List.{filter_map, cons_option}
use Rattle.store_map.specs.declared.actor.Actor.{Actor}
use Rattle.store_map.specs.declared.actor.Actor.TheVariants as actor
use Rattle.store_map.specs.declared.call_name.CallName.{CallName}
use Rattle.store_map.specs.declared.call_name.CallName.TheVariants as name
use Rattle.store_core.specs.Lookups.{same_actor}
use Rattle.store_core.specs.Shown.{client_name, repairer_name}
use Rattle.run_laws.proofs.Passes.{same_is}
use Rattle.run_laws.proofs.SoundLists.{contains_at, in_filter, filtered}
use Rattle.history_laws.specs.LineCauses.{caller_of, number_of}
use Rattle.history_laws.specs.Moments.{Happened, IsOf, name_of}
use Rattle.history_laws.specs.Trace.{Made}
use Rattle.history_laws.specs.Facts.{is_step_of, steps_of}

-- ---- a list and its first element
module _ {X : Type 0} where
  none_in : (x : X) → Contains [] x → ⊥
  none_in x has = let below = has.1 in absurd (omega arith)

  in_rest : (first : X) (rest : List X) (x : X) → Contains rest x → Contains (first ∷ rest) x
  in_rest first rest x has = Contains-append_right (first ∷ []) rest x has

  first_or_rest : (first : X) (rest : List X) (x : X) → Contains (first ∷ rest) x → (first ≡ x) ⊎ Contains rest x
  first_or_rest first rest x has = by (Contains-append_cases (first ∷ []) rest x has)
    where
      alone : Contains [] x ⊎ (first ≡ x) → (first ≡ x) ⊎ Contains rest x
      alone (inl none) = absurd (none_in x none)
      alone (inr e) = inl e

      by : Contains (first ∷ []) x ⊎ Contains rest x → (first ≡ x) ⊎ Contains rest x
      by (inl head) = alone (Contains-push_cases [] first x head)
      by (inr later) = inr later

-- ---- filter_map
module _ {X Y : Type 0} (pick : X → Option Y) where
  -- what is picked is picked from an element
  pub picked_from : (xs : List X) (y : Y) → Contains (filter_map pick xs) y → (x : X) × Contains xs x × (pick x ≡ Some y)
  picked_from [] y has = absurd (none_in y has)
  picked_from (x ∷ xs) y has = by (pick x) refl has (picked_from xs y)
    where
      Found : Type 0
      Found = (one : X) × Contains (x ∷ xs) one × (pick one ≡ Some y)

      later : (one : X) × Contains xs one × (pick one ≡ Some y) → Found
      later found = (found.0, in_rest x xs found.0 found.1, found.2)

      by : (o : Option Y) → pick x ≡ o → Contains (cons_option o (filter_map pick xs)) y → (Contains (filter_map pick xs) y → (one : X) × Contains xs one × (pick one ≡ Some y)) → Found
      by None e has rest = later (rest has)
      by (Some z) e has rest = at (first_or_rest z (filter_map pick xs) y has)
        where
          at : (z ≡ y) ⊎ Contains (filter_map pick xs) y → Found
          at (inl same) = (x, contains_at (x ∷ xs) 0 x refl, e ∙ ap Some same)
          at (inr more) = later (rest more)

  -- and what an element gives is picked
  pub picked : (xs : List X) (x : X) (y : Y) → Contains xs x → pick x ≡ Some y → Contains (filter_map pick xs) y
  picked [] x y has e = absurd (none_in x has)
  picked (first ∷ xs) x y has e = by (first_or_rest first xs x has) (picked xs x y)
    where
      kept : (o : Option Y) → Contains (filter_map pick xs) y → Contains (cons_option o (filter_map pick xs)) y
      kept None more = more
      kept (Some z) more = in_rest z (filter_map pick xs) y more

      by : (first ≡ x) ⊎ Contains xs x → (Contains xs x → pick x ≡ Some y → Contains (filter_map pick xs) y) → Contains (cons_option (pick first) (filter_map pick xs)) y
      by (inl same) rest = subst (λ o. Contains (cons_option o (filter_map pick xs)) y) (sym (ap pick same ∙ e)) (contains_at (y ∷ filter_map pick xs) 0 y refl)
      by (inr later) rest = kept (pick first) (rest later e)

-- ---- the moments of a trace
-- a step that was made happened
pub happened : (Is : Made → Type 0) (trace : List Made) (made : Made) → Contains trace made → Is made → Happened trace (λ before one. Is one)
happened Is [] made has is = absurd (none_in made has)
happened Is (first ∷ trace) made has is = by (first_or_rest first trace made has) (happened Is trace made)
  where
    by : (first ≡ made) ⊎ Contains trace made → (Contains trace made → Is made → Happened trace (λ before one. Is one)) → Happened (first ∷ trace) (λ before one. Is one)
    by (inl same) rest = record { before = []; made = first; after = trace; split = refl; is = subst Is (sym same) is }
    by (inr later) rest = let h : Happened trace (λ before one. Is one) = rest later is in record { before = first ∷ h.before; made = h.made; after = h.after; split = (λ k. first ∷ h.split k); is = h.is }

-- and the other way round
pub happened_in : (trace : List Made) (Is : List Made → Made → Type 0) (h : Happened trace Is) → Contains trace h.made
happened_in trace Is h = subst (λ l. Contains l h.made) (sym h.split) (Contains-append_right h.before (h.made ∷ h.after) h.made (contains_at (h.made ∷ h.after) 0 h.made refl))

-- ---- the steps of a call
pub is_of : (call : CallName) (made : Made) → is_step_of call made ≡ true → IsOf call made
is_of call made mine = by call (and_parts (same_actor (caller_of call) made.who) (nat_eq (number_of call) made.number) mine)
  where
    named : (who : Actor) (number : ℕ) → (same_actor who made.who ≡ true) × (nat_eq number made.number ≡ true) → name_of made.who made.number ≡ name_of who number
    named who number both = λ k. name_of (sym (same_is who made.who both.0) k) (sym (eqb-true number made.number both.1) k)

    by : (one : CallName) → (same_actor (caller_of one) made.who ≡ true) × (nat_eq (number_of one) made.number ≡ true) → IsOf one made
    by (name.Client call) both = named (actor.Client call.client) call.number both
    by (name.Repairer call) both = named (actor.Repairer call.repairer) call.number both

pub is_step : (call : CallName) (made : Made) → IsOf call made → is_step_of call made ≡ true
is_step call made of = by made.who of
  where
    same : (one : CallName) (who : Actor) → one ≡ call → (same_actor (caller_of one) who && nat_eq (number_of one) made.number) ≡ true → (same_actor (caller_of call) who && nat_eq (number_of call) made.number) ≡ true
    same one who e h = subst (λ c. (same_actor (caller_of c) who && nat_eq (number_of c) made.number) ≡ true) e h

    by : (who : Actor) → name_of who made.number ≡ Some call → (same_actor (caller_of call) who && nat_eq (number_of call) made.number) ≡ true
    by (actor.Client i) e = same (client_name i made.number) (actor.Client i) (same_Some (client_name i made.number) call e) (and_from (nat_eq i i) (nat_eq made.number made.number) (eq-eqb i i refl) (eq-eqb made.number made.number refl))
    by (actor.Repairer i) e =
        same (repairer_name i made.number) (actor.Repairer i) (same_Some (repairer_name i made.number) call e) (and_from (nat_eq i i) (nat_eq made.number made.number) (eq-eqb i i refl) (eq-eqb made.number made.number refl))
    by actor.Sweeper e = absurd (none-some call e)
    by actor.Operator e = absurd (none-some call e)

-- what is picked from a call's steps happened in one of these
pub picked_happened : {Y : Type 0} (pick : Made → Option Y) (call : CallName) (trace : List Made) (y : Y) (Is : Made → Type 0) → ((made : Made) → IsOf call made → pick made ≡ Some y → Is made) → ((made : Made) → Is made → IsOf call made × (pick made ≡ Some y))
    → Contains (filter_map pick (steps_of call trace)) y ↔ Happened trace (λ before made. Is made)
picked_happened pick call trace y Is to from = (
  λ has.
      let found : (made : Made) × Contains (steps_of call trace) made × (pick made ≡ Some y) = picked_from pick (steps_of call trace) y has in
      let own : Contains trace found.0 × (is_step_of call found.0 ≡ true) = in_filter (is_step_of call) trace found.0 found.1 in
      happened Is trace found.0 own.0 (to found.0 (is_of call found.0 own.1) found.2),
  λ h.
      picked pick (steps_of call trace) h.made y (filtered (is_step_of call) trace h.made (is_step call h.made (from h.made h.is).0) (happened_in trace _ h)) (from h.made h.is).1,
)
