-- One pass of an actor among all.
use Rattle.std.proofs.Common.{◌≡◌, ◌≢◌, ◌⊎◌, ℕ, zero, suc, ◌+◌, ◌<◌, ◌≤◌, Bool, true, false, cond, not, List, [], ◌∷◌, length, get_or, drop, filter, find, map, Option, None, Some, is_some, option_map, if◌then◌else◌, slice_get, IsTrue, IsFalse, IfSome, All, AllPairs, refl, sym, ap, subst, ◌∙◌, true≢false, nat_lt, inl, inr, arith}
use Rattle.std.proofs.lemmas.Bool.{cases_Bool, eqb-true, ltb-true, ltb-false}
use Rattle.std.specs.List.{remove}
use Rattle.std.proofs.lemmas.Option.{same_Some, none-some, get_or_from_slice_get, slice_get_within, slice_get_read, slice_get_past}
use Rattle.std.proofs.lemmas.List.{length-map}
use Rattle.store_map.specs.declared.actor.Actor.{Actor}
use Rattle.store_map.specs.declared.actor.Actor.TheVariants as actor
use Rattle.store_core.specs.Directory.{Pass}
use Rattle.store_core.specs.Lookups.{same_actor}
use Rattle.dir_parts.specs.OpenPass.{Open, HasRoom, reaped_at}
use Rattle.dir_parts.proofs.Growing.{all_changed}

lt_or : (a b : ℕ) → a ≢ b → (a < b) ⊎ (b < a)
lt_or a b apart = by (cases_Bool (nat_lt a b))
  where
    by : (nat_lt a b ≡ true) ⊎ (nat_lt a b ≡ false) → (a < b) ⊎ (b < a)
    by (inl h) = inl (ltb-true a b h)
    by (inr h) = inr (let more : b ≤ a = ltb-false a b h in omega (arith, more, apart))

differ : (b : Bool) → b ≡ true → IsFalse b → ⊥
differ b e h = true≢false (sym e ∙ h)

pub find_passes : {X : Type 0} (test : X → Bool) (xs : List X) (x : X) → find test xs ≡ Some x → test x ≡ true
find_passes test [] x e = absurd (none-some x e)
find_passes {X} test (y ∷ xs) x e = by (test y) refl (find_passes test xs x) e
  where
    by : (b : Bool) → test y ≡ b → (find test xs ≡ Some x → test x ≡ true) → cond {A = Option X} b (Some y) (find test xs) ≡ Some x → test x ≡ true
    by true h rest e = ap test (sym (same_Some y x e)) ∙ h
    by false h rest e = rest e

-- the same actor
pub same_is : (a b : Actor) → same_actor a b ≡ true → a ≡ b
same_is (actor.Client i) (actor.Client j) e = ap actor.Client (eqb-true i j e)
same_is (actor.Repairer i) (actor.Repairer j) e = ap actor.Repairer (eqb-true i j e)
same_is actor.Sweeper actor.Sweeper e = refl
same_is actor.Operator actor.Operator e = refl
same_is a b e = absurd (true≢false (sym e))

-- two passes of one actor
pub both_of : (who a b : Actor) → same_actor who a ≡ true → same_actor who b ≡ true → same_actor a b ≡ true
both_of who a b p q = subst (λ (x : Actor). same_actor x b ≡ true) (same_is who a p) q

module _ {X : Type 0} (test : X → Bool) where
  -- a search goes on from each place
  pub find-drop : (xs : List X) (i : ℕ) (d : X) → i < length xs → find test (drop i xs) ≡ cond {A = Option X} (test (get_or xs i d)) (Some (get_or xs i d)) (find test (drop (i + 1) xs))
  find-drop [] i d h = absurd (omega arith)
  find-drop (x ∷ xs) zero d h = refl
  find-drop (x ∷ xs) (suc i) d h = find-drop xs i d (omega arith) ∙ ap (λ k. cond {A = Option X} (test (get_or xs i d)) (Some (get_or xs i d)) (find test (drop k (x ∷ xs)))) later
    where
      later : suc (i + 1) ≡ suc i + 1
      later = omega arith

  -- all but one fail
  pub none_filtered : (xs : List X) → ((k : ℕ) (d : X) → k < length xs → test (get_or xs k d) ≡ false) → filter (λ x. not (test x)) xs ≡ xs
  none_filtered [] h = refl
  none_filtered (x ∷ xs) h =
      ap (λ b. cond {A = List X} (not b) (x ∷ filter (λ y. not (test y)) xs) (filter (λ y. not (test y)) xs)) (h 0 x (omega arith))
      ∙ ap (λ ys. x ∷ ys) (none_filtered xs (λ k d less. h (suc k) d (omega arith)))

  pub one_filtered : (xs : List X) (i : ℕ) (x : X) → slice_get xs i ≡ Some x → test x ≡ true → ((k : ℕ) (d : X) → k < length xs → k ≢ i → test (get_or xs k d) ≡ false)
      → remove xs i ≡ filter (λ x. not (test x)) xs
  one_filtered [] i x e t h = absurd (none-some x e)
  one_filtered (y ∷ xs) zero x e t h = sym (first (test y) here ∙ none_filtered xs (λ k d less. h (suc k) d (omega arith) (λ same. omega (arith, same))))
    where
      here : test y ≡ true
      here = ap test (same_Some y x e) ∙ t

      first : (b : Bool) → b ≡ true → cond {A = List X} (not b) (y ∷ filter (λ x. not (test x)) xs) (filter (λ x. not (test x)) xs) ≡ filter (λ x. not (test x)) xs
      first true p = refl
      first false p = absurd (true≢false (sym p))
  one_filtered (y ∷ xs) (suc i) x e t h =
      ap (λ ys. y ∷ ys) (one_filtered xs i x e t (λ k d less apart. h (suc k) d (omega arith) (λ same. apart (omega arith))))
      ∙ sym (ap (λ b. cond {A = List X} (not b) (y ∷ filter (λ x. not (test x)) xs) (filter (λ x. not (test x)) xs)) (h 0 y (omega arith) (λ same. omega (arith, same))))

-- where the actor's pass stands no other is
module _ (who : Actor) (passes : List Open) (i : ℕ) (pass : Open) (found : find (λ p. same_actor who p.pass.actor) passes ≡ slice_get passes i) (there : slice_get passes i ≡ Some pass)
    (apart : AllPairs (λ p q. IsFalse (same_actor p.pass.actor q.pass.actor)) passes) where
  pub is_own : same_actor who pass.pass.actor ≡ true
  is_own = find_passes (λ (p : Open). same_actor who p.pass.actor) passes pass (found ∙ there)

  pub no_other : (k : ℕ) (d : Open) → k < length passes → k ≢ i → same_actor who (get_or passes k d).pass.actor ≡ false
  no_other k d less other = by (cases_Bool (same_actor who (get_or passes k d).pass.actor))
    where
      within : i < length passes
      within = slice_get_within passes i pass there

      mine : same_actor who (get_or passes i d).pass.actor ≡ true
      mine = ap (λ (p : Open). same_actor who p.pass.actor) (get_or_from_slice_get passes i pass d there) ∙ is_own

      by : (same_actor who (get_or passes k d).pass.actor ≡ true) ⊎ (same_actor who (get_or passes k d).pass.actor ≡ false) → same_actor who (get_or passes k d).pass.actor ≡ false
      by (inr h) = h
      by (inl h) = absurd (side (lt_or k i other))
        where
          side : (k < i) ⊎ (i < k) → ⊥
          side (inl less) = differ _ (both_of who _ _ h mine) (apart k i d less within)
          side (inr more) = differ _ (both_of who _ _ mine h) (apart i k d more less)

  pub taken_out : remove passes i ≡ filter (λ p. not (same_actor who p.pass.actor)) passes
  taken_out = one_filtered (λ (p : Open). same_actor who p.pass.actor) passes i pass there is_own no_other

-- where a search stops
pub stops_at : {X : Type 0} (test : X → Bool) (xs : List X) (i : ℕ) (x : X) → i < length xs → x ≡ get_or xs i x → test x ≡ true → find test xs ≡ find test (drop i xs) → find test xs ≡ slice_get xs i
stops_at {X} test xs i x within read passes goes =
    goes ∙ find-drop test xs i x within
    ∙ ap (λ z. cond {A = Option X} (test z) (Some z) (find test (drop (i + 1) xs))) (sym read)
    ∙ ap (λ b. cond {A = Option X} b (Some x) (find test (drop (i + 1) xs))) passes
    ∙ sym (slice_get_read xs (length xs) i x refl within read)

-- a search that reaches the end
find-past : {X : Type 0} (test : X → Bool) (xs : List X) (i : ℕ) → length xs ≤ i → find test (drop i xs) ≡ None
find-past test [] zero past = refl
find-past test [] (suc i) past = refl
find-past test (x ∷ xs) zero past = absurd (omega arith)
find-past test (x ∷ xs) (suc i) past = find-past test xs i (omega arith)

pub ends_at : {X : Type 0} (test : X → Bool) (xs : List X) (i : ℕ) → length xs ≤ i → find test xs ≡ find test (drop i xs) → find test xs ≡ slice_get xs i
ends_at test xs i past goes = goes ∙ find-past test xs i past ∙ sym (slice_get_past xs i past)

-- passes among those that are open
module _ (test : Pass → Bool) where
  pub find-open : (calls : List Open) → find test (map (λ o. o.pass) calls) ≡ option_map (λ o. o.pass) (find (λ (o : Open). test o.pass) calls)
  find-open [] = refl
  find-open (o ∷ calls) = by (test o.pass) (find-open calls)
    where
      by : (b : Bool) → find test (map (λ o. o.pass) calls) ≡ option_map (λ o. o.pass) (find (λ (o : Open). test o.pass) calls)
          → cond {A = Option Pass} b (Some o.pass) (find test (map (λ o. o.pass) calls)) ≡ option_map (λ o. o.pass) (cond {A = Option Open} b (Some o) (find (λ (o : Open). test o.pass) calls))
      by true rest = refl
      by false rest = rest

  pub filter-open : (calls : List Open) → map (λ o. o.pass) (filter (λ (o : Open). test o.pass) calls) ≡ filter test (map (λ o. o.pass) calls)
  filter-open [] = refl
  filter-open (o ∷ calls) = by (test o.pass) (filter-open calls)
    where
      by : (b : Bool) → map (λ o. o.pass) (filter (λ (o : Open). test o.pass) calls) ≡ filter test (map (λ o. o.pass) calls)
          → map (λ (o : Open). o.pass) (cond {A = List Open} b (o ∷ filter (λ (o : Open). test o.pass) calls) (filter (λ (o : Open). test o.pass) calls))
          ≡ cond {A = List Pass} b (o.pass ∷ filter test (map (λ o. o.pass) calls)) (filter test (map (λ o. o.pass) calls))
      by true rest = ap (λ l. o.pass ∷ l) rest
      by false rest = rest

  pub change-open : (f : Open → Open) (g : Pass → Pass) → ((o : Open) → (f o).pass ≡ g o.pass) → (calls : List Open)
      → map (λ o. o.pass) (map (λ (o : Open). if test o.pass then f o else o) calls) ≡ map (λ p. if test p then g p else p) (map (λ o. o.pass) calls)
  change-open f g same [] = refl
  change-open f g same (o ∷ calls) = λ i. by (test o.pass) i ∷ change-open f g same calls i
    where
      by : (b : Bool) → (cond {A = Open} b (f o) o).pass ≡ cond {A = Pass} b (g o.pass) o.pass
      by true = same o
      by false = refl

  pub is_found : (calls : List Open) → IsTrue (is_some (find test (map (λ o. o.pass) calls))) → IsTrue (is_some (find (λ (o : Open). test o.pass) calls))
  is_found calls there = by (find (λ (o : Open). test o.pass) calls) (subst (λ (o : Option Pass). IsTrue (is_some o)) (find-open calls) there)
    where
      by : (o : Option Open) → IsTrue (is_some (option_map (λ o. o.pass) o)) → IsTrue (is_some o)
      by None h = h
      by (Some o) h = h

-- the passes are apart where those that are open are
pub apart_open : (calls : List Open) → AllPairs (λ p q. IsFalse (same_actor p.actor q.actor)) (map (λ (o : Open). o.pass) calls) → AllPairs (λ (p q : Open). IsFalse (same_actor p.pass.actor q.pass.actor)) calls
apart_open calls apart i j d less within =
    subst (λ (n : Pass). IsFalse (same_actor n.actor (get_or calls j d).pass.actor)) (get_or-map-open calls i d)
    (subst (λ (n : Pass). IsFalse (same_actor (get_or (map (λ (o : Open). o.pass) calls) i d.pass).actor n.actor)) (get_or-map-open calls j d)
    (apart i j d.pass less (let same : length (map (λ (o : Open). o.pass) calls) ≡ length calls = length-map calls (λ (o : Open). o.pass) in omega (arith, within, same))))
  where
    get_or-map-open : (calls : List Open) (k : ℕ) (d : Open) → get_or (map (λ (o : Open). o.pass) calls) k d.pass ≡ (get_or calls k d).pass
    get_or-map-open [] k d = refl
    get_or-map-open (o ∷ calls) zero d = refl
    get_or-map-open (o ∷ calls) (suc k) d = get_or-map-open calls k d

-- what is said of a pass that is found, and of the open one
pub of_open : (Q : Pass → Type 0) (o : Option Open) → IfSome (option_map (λ o. o.pass) o) Q → IfSome o (λ o. Q o.pass)
of_open Q None h = h
of_open Q (Some o) h = h

pub of_passes : (f : Open → Open) (g : Pass → Pass) → ((o : Open) → (f o).pass ≡ g o.pass) → (value : Open) (o : Option Open) → IfSome o (λ o. value ≡ f o) → IfSome (option_map (λ o. o.pass) o) (λ p. value.pass ≡ g p)
of_passes f g same value None h = h
of_passes f g same value (Some o) h = ap (λ (v : Open). v.pass) h ∙ same o

-- a pass that is given up keeps its room
pub rooms_reaped : (stripe : ℕ) (test : Open → Bool) (point : ℕ) (calls : List Open) → All (HasRoom stripe) calls → All (HasRoom stripe) (map (λ o. if test o then reaped_at point o else o) calls)
rooms_reaped stripe test point calls all = all_changed (HasRoom stripe) (λ (o : Open). if test o then reaped_at point o else o) (λ o h. by o (test o) h) calls all
  where
    by : (o : Open) (b : Bool) → HasRoom stripe o → HasRoom stripe (cond {A = Open} b (reaped_at point o) o)
    by o true h = h
    by o false h = h
