-- The steps of all actors in the order of their moments are in order, and are each actor's steps.
use Rattle.std.proofs.Common.{◌≡◌, ℕ, zero, suc, ◌+◌, ◌≤◌, ◌<◌, Bool, true, false, cond, nat_lt, nat_eq, if◌then◌else◌, List, [], ◌∷◌, ◌++◌, length, filter, refl, sym, ap, subst, ◌∙◌, arith, eqb-true, ne_eqb, ltb-true, ltb-false, Option}
use Rattle.std.proofs.lemmas.List.{append-nil, length-map}
use Rattle.std.proofs.lemmas.List.Elements.{All-filter, All-head, All-tail, All-cons, All-nil, All-weaker, filter-append}
use Rattle.std.proofs.lemmas.Option.{slice_get_past}
use Rattle.std.specs.Prelude.{All}
use Rattle.std.specs.List.{range_with_len, flat_map, slice_get}
use Rattle.store_map.specs.declared.script.Script.{Script}
use Rattle.store_map.specs.declared.actor.Actor.{Actor}
use Rattle.store_map.specs.declared.actor.Actor.TheVariants as actor
use Rattle.store_map.specs.declared.actor.Token.{Token}
use Rattle.store_core.specs.Core.{first_core}
use Rattle.store_core.specs.Work.{Work, Calling, client_work, repairer_work}
use Rattle.store_core.specs.Lookups.{same_actor}
use Rattle.thread_laws.specs.MadeSteps.{MadeStep, is_by, MomentsRise, MomentsDontFall}
use Rattle.thread_laws.specs.Histories.{Histories, StandTwice, IsInOrder, GoOn, ComeOfActor}
use Rattle.thread_laws.specs.InOrder.{put_in, by_moment, actor_by_actor, in_order}
use Rattle.thread_laws.proofs.Orders.{one_is}

-- ---- a step put in
not_lt : (a b : ℕ) → b ≤ a → nat_lt a b ≡ false
not_lt a b h = by (nat_lt a b) refl
  where
    by : (c : Bool) → nat_lt a b ≡ c → nat_lt a b ≡ false
    by true e = let lt : a < b = ltb-true a b e in absurd (omega (arith, h, lt))
    by false e = e

not_less : (a b : ℕ) → nat_lt a b ≡ false → b ≤ a
not_less a b e = omega (arith, ltb-false a b e)

put_first : (m : MadeStep) (ms : List MadeStep) → All (λ (later : MadeStep). m.moment ≤ later.moment) ms → put_in m ms ≡ m ∷ ms
put_first m [] h = refl
put_first m (o ∷ ms) h =
    ap (λ (b : Bool). if b then o ∷ put_in m ms else m ∷ o ∷ ms) (not_lt o.moment m.moment (All-head (λ (later : MadeStep). m.moment ≤ later.moment) o ms h))

pub all_put : (P : MadeStep → Type 0) (m : MadeStep) (ms : List MadeStep) → P m → All P ms → All P (put_in m ms)
all_put P m [] here rest = All-cons P m [] here (All-nil P)
all_put P m (o ∷ ms) here rest = by (nat_lt o.moment m.moment) (all_put P m ms here (All-tail P o ms rest))
  where
    by : (b : Bool) → All P (put_in m ms) → All P (if b then o ∷ put_in m ms else m ∷ o ∷ ms)
    by true later = All-cons P o (put_in m ms) (All-head P o ms rest) later
    by false later = All-cons P m (o ∷ ms) here rest

put_falls : (m : MadeStep) (ms : List MadeStep) → MomentsDontFall ms → MomentsDontFall (put_in m ms)
put_falls m [] h = (All-nil (λ (later : MadeStep). m.moment ≤ later.moment), tt)
put_falls m (o ∷ ms) h = by (nat_lt o.moment m.moment) refl (put_falls m ms h.1)
  where
    by : (b : Bool) → nat_lt o.moment m.moment ≡ b → MomentsDontFall (put_in m ms) → MomentsDontFall (if b then o ∷ put_in m ms else m ∷ o ∷ ms)
    by true e later = let lt : o.moment < m.moment = ltb-true o.moment m.moment e in (all_put (λ (x : MadeStep). o.moment ≤ x.moment) m ms (omega (arith, lt)) h.0, later)
    by false e later =
        let le : m.moment ≤ o.moment = not_less o.moment m.moment e in
        (All-cons (λ (x : MadeStep). m.moment ≤ x.moment) o ms le (All-weaker (λ (x : MadeStep). o.moment ≤ x.moment) (λ (x : MadeStep). m.moment ≤ x.moment) (λ x k. omega (arith, le, k)) ms h.0), h)

filter_put : (p : MadeStep → Bool) (m : MadeStep) (ms : List MadeStep) → MomentsDontFall ms → filter p (put_in m ms) ≡ cond {A = List MadeStep} (p m) (put_in m (filter p ms)) (filter p ms)
filter_put p m [] h = refl
filter_put p m (o ∷ ms) h = by (nat_lt o.moment m.moment) refl (filter_put p m ms h.1)
  where
    kept : List MadeStep
    kept = filter p ms

    both : nat_lt o.moment m.moment ≡ true → (c d : Bool)
        → cond {A = List MadeStep} c (o ∷ cond {A = List MadeStep} d (put_in m kept) kept) (cond {A = List MadeStep} d (put_in m kept) kept)
        ≡ cond {A = List MadeStep} d (put_in m (cond {A = List MadeStep} c (o ∷ kept) kept)) (cond {A = List MadeStep} c (o ∷ kept) kept)
    both e true true = sym (ap (λ (b : Bool). if b then o ∷ put_in m kept else m ∷ o ∷ kept) e)
    both e true false = refl
    both e false true = refl
    both e false false = refl

    by : (b : Bool) → nat_lt o.moment m.moment ≡ b → filter p (put_in m ms) ≡ cond {A = List MadeStep} (p m) (put_in m kept) kept
        → filter p (if b then o ∷ put_in m ms else m ∷ o ∷ ms) ≡ cond {A = List MadeStep} (p m) (put_in m (filter p (o ∷ ms))) (filter p (o ∷ ms))
    by true e rest = ap (λ (l : List MadeStep). cond {A = List MadeStep} (p o) (o ∷ l) l) rest ∙ both e (p o) (p m)
    by false e rest =
        let le : m.moment ≤ o.moment = not_less o.moment m.moment e in
        let above : All (λ (x : MadeStep). m.moment ≤ x.moment) (o ∷ ms) =
        All-cons (λ (x : MadeStep). m.moment ≤ x.moment) o ms le (All-weaker (λ (x : MadeStep). o.moment ≤ x.moment) (λ (x : MadeStep). m.moment ≤ x.moment) (λ x k. omega (arith, le, k)) ms h.0) in
        ap (λ (l : List MadeStep). cond {A = List MadeStep} (p m) l (filter p (o ∷ ms))) (sym (put_first m (filter p (o ∷ ms)) (All-filter p (λ (x : MadeStep). m.moment ≤ x.moment) (o ∷ ms) above)))

-- ---- all steps
pub by_moment_falls : (ms : List MadeStep) → MomentsDontFall (by_moment ms)
by_moment_falls [] = tt
by_moment_falls (m ∷ ms) = put_falls m (by_moment ms) (by_moment_falls ms)

pub filter_by_moment : (p : MadeStep → Bool) (ms : List MadeStep) → filter p (by_moment ms) ≡ by_moment (filter p ms)
filter_by_moment p [] = refl
filter_by_moment p (m ∷ ms) =
    filter_put p m (by_moment ms) (by_moment_falls ms) ∙ ap (λ (l : List MadeStep). cond {A = List MadeStep} (p m) (put_in m l) l) (filter_by_moment p ms) ∙ by (p m)
  where
    by : (b : Bool) → cond {A = List MadeStep} b (put_in m (by_moment (filter p ms))) (by_moment (filter p ms)) ≡ by_moment (cond {A = List MadeStep} b (m ∷ filter p ms) (filter p ms))
    by true = refl
    by false = refl

pub by_moment_same : (ms : List MadeStep) → MomentsRise ms → by_moment ms ≡ ms
by_moment_same [] h = refl
by_moment_same (m ∷ ms) h =
    ap (put_in m) (by_moment_same ms h.1)
    ∙ put_first m ms (All-weaker (λ (later : MadeStep). m.moment < later.moment) (λ (later : MadeStep). m.moment ≤ later.moment) (λ x k. omega (arith, k)) ms h.0)

-- ---- the steps of one actor among all
module _ (script : Script) (h : Histories) (twice : StandTwice h) where
  others : (a b : Actor) → same_actor a b ≡ false → (ms : List MadeStep) → filter (is_by b) ms ≡ ms → filter (is_by a) ms ≡ []
  others a b e ms own = ap (filter (is_by a)) (sym own) ∙ none ms
    where
      none : (xs : List MadeStep) → filter (is_by a) (filter (is_by b) xs) ≡ []
      none [] = refl
      none (x ∷ xs) = by (is_by b x) refl (none xs)
        where
          by : (c : Bool) → is_by b x ≡ c → filter (is_by a) (filter (is_by b) xs) ≡ [] → filter (is_by a) (cond {A = List MadeStep} c (x ∷ filter (is_by b) xs) (filter (is_by b) xs)) ≡ []
          by true q rest =
              ap (λ (d : Bool). cond {A = List MadeStep} d (x ∷ filter (is_by a) (filter (is_by b) xs)) (filter (is_by a) (filter (is_by b) xs)))
              (ap (λ (who : Actor). same_actor a who) (sym (one_is b x.actor q)) ∙ e) ∙ rest
          by false q rest = rest

  apart : (a b : Actor) → same_actor a b ≡ false → filter (is_by a) (h.of b) ≡ []
  apart a b e = others a b e (h.of b) (twice.own b)

  module _ (who_of : ℕ → Actor) where
    -- none of a group
    no_group : (a : Actor) → ((i : ℕ) → same_actor a (who_of i) ≡ false) → (start count : ℕ) → filter (is_by a) (flat_map (λ i. h.of (who_of i)) (range_with_len start count)) ≡ []
    no_group a e start zero = refl
    no_group a e start (suc count) =
        filter-append (is_by a) (h.of (who_of start)) (flat_map (λ i. h.of (who_of i)) (range_with_len (start + 1) count))
        ∙ ap (λ (l : List MadeStep). l ++ filter (is_by a) (flat_map (λ i. h.of (who_of i)) (range_with_len (start + 1) count))) (apart a (who_of start) (e start))
        ∙ no_group a e (start + 1) count

    module _ (differ : (i j : ℕ) → same_actor (who_of i) (who_of j) ≡ nat_eq i j) where
      before_group : (n start count : ℕ) → n < start → filter (is_by (who_of n)) (flat_map (λ i. h.of (who_of i)) (range_with_len start count)) ≡ []
      before_group n start zero lt = refl
      before_group n start (suc count) lt =
          filter-append (is_by (who_of n)) (h.of (who_of start)) (flat_map (λ i. h.of (who_of i)) (range_with_len (start + 1) count))
          ∙ ap (λ (l : List MadeStep). l ++ filter (is_by (who_of n)) (flat_map (λ i. h.of (who_of i)) (range_with_len (start + 1) count)))
          (apart (who_of n) (who_of start) (differ n start ∙ ne_eqb n start (λ e. absurd (omega (arith, lt, e)))))
          ∙ before_group n (start + 1) count (omega (arith, lt))

      in_group : (n start count : ℕ) → start ≤ n → n < start + count → filter (is_by (who_of n)) (flat_map (λ i. h.of (who_of i)) (range_with_len start count)) ≡ h.of (who_of n)
      in_group n start zero le lt = absurd (omega (arith, le, lt))
      in_group n start (suc count) le lt =
          filter-append (is_by (who_of n)) (h.of (who_of start)) (flat_map (λ i. h.of (who_of i)) (range_with_len (start + 1) count)) ∙ by (λ above. in_group n (start + 1) count above (omega (arith, lt))) (nat_lt start n) refl
        where
          later : List MadeStep
          later = flat_map (λ i. h.of (who_of i)) (range_with_len (start + 1) count)

          by : (start + 1 ≤ n → filter (is_by (who_of n)) later ≡ h.of (who_of n)) → (b : Bool) → nat_lt start n ≡ b → filter (is_by (who_of n)) (h.of (who_of start)) ++ filter (is_by (who_of n)) later ≡ h.of (who_of n)
          by rest true e =
              let above : start < n = ltb-true start n e in
              ap (λ (l : List MadeStep). l ++ filter (is_by (who_of n)) later)
              (apart (who_of n) (who_of start) (differ n start ∙ ne_eqb n start (λ q. absurd (omega (arith, above, q)))))
              ∙ rest (omega (arith, above))
          by rest false e =
              let same : n ≡ start = omega (arith, le, not_less start n e) in
              ap (λ (l : List MadeStep). filter (is_by (who_of n)) (h.of (who_of start)) ++ l) (before_group n (start + 1) count (omega (arith, same)))
              ∙ append-nil (filter (is_by (who_of n)) (h.of (who_of start)))
              ∙ ap (λ (k : ℕ). filter (is_by (who_of n)) (h.of (who_of k))) (sym same) ∙ twice.own (who_of n)

      -- the whole group has an actor's steps, or it has none
      whole_group : (n count : ℕ) → (count ≤ n → h.of (who_of n) ≡ []) → filter (is_by (who_of n)) (flat_map (λ i. h.of (who_of i)) (range_with_len 0 count)) ≡ h.of (who_of n)
      whole_group n count none = by (nat_lt n count) refl
        where
          by : (b : Bool) → nat_lt n count ≡ b → filter (is_by (who_of n)) (flat_map (λ i. h.of (who_of i)) (range_with_len 0 count)) ≡ h.of (who_of n)
          by true e = let lt : n < count = ltb-true n count e in in_group n 0 count (omega arith) (omega (arith, lt))
          by false e =
              let empty : h.of (who_of n) ≡ [] = none (not_less n count e) in
              past 0 count ∙ sym empty
            where
              past : (start length_left : ℕ) → filter (is_by (who_of n)) (flat_map (λ i. h.of (who_of i)) (range_with_len start length_left)) ≡ []
              past start zero = refl
              past start (suc left) =
                  filter-append (is_by (who_of n)) (h.of (who_of start)) (flat_map (λ i. h.of (who_of i)) (range_with_len (start + 1) left))
                  ∙ ap (λ (l : List MadeStep). l ++ filter (is_by (who_of n)) (flat_map (λ i. h.of (who_of i)) (range_with_len (start + 1) left))) (one start (nat_eq n start) refl)
                  ∙ past (start + 1) left
                where
                  one : (k : ℕ) (c : Bool) → nat_eq n k ≡ c → filter (is_by (who_of n)) (h.of (who_of k)) ≡ []
                  one k true q = ap (λ (j : ℕ). filter (is_by (who_of n)) (h.of (who_of j))) (sym (eqb-true n k q)) ∙ twice.own (who_of n) ∙ none (not_less n count e)
                  one k false q = apart (who_of n) (who_of k) (differ n k ∙ q)

  module _ (lines : List Token) (go : GoOn script lines (first_core script) h.at h.of) where
    none_past : (works : List Work) (callings : Option Calling) (steps : List MadeStep) (n : ℕ) → length works ≤ n → ComeOfActor script steps (slice_get works n) callings → steps ≡ []
    none_past works callings steps n le come = subst (λ w. ComeOfActor script steps w callings) (slice_get_past works n le) come

    pub no_client : (n : ℕ) → length script.clients ≤ n → h.of (actor.Client n) ≡ []
    no_client n le =
        let long : length (client_work script) ≡ length script.clients = length-map script.clients _ in
        none_past (client_work script) _ (h.of (actor.Client n)) n (omega (arith, le, long)) (go.clients n)

    pub no_repairer : (n : ℕ) → length script.repairers ≤ n → h.of (actor.Repairer n) ≡ []
    no_repairer n le =
        let long : length (repairer_work script) ≡ length script.repairers = length-map script.repairers _ in
        none_past (repairer_work script) _ (h.of (actor.Repairer n)) n (omega (arith, le, long)) (go.repairers n)

    abbrev client_steps : List MadeStep
    client_steps = flat_map (λ i. h.of (actor.Client i)) (range_with_len 0 (length script.clients))

    abbrev repairer_steps : List MadeStep
    repairer_steps = flat_map (λ i. h.of (actor.Repairer i)) (range_with_len 0 (length script.repairers))

    parts : (p : MadeStep → Bool) (a b c d : List MadeStep) → filter p client_steps ≡ a → filter p repairer_steps ≡ b → filter p (h.of actor.Sweeper) ≡ c → filter p (h.of actor.Operator) ≡ d
        → filter p (actor_by_actor script h) ≡ a ++ (b ++ (c ++ d))
    parts p a b c d e f g k =
        filter-append p client_steps (repairer_steps ++ (h.of actor.Sweeper ++ h.of actor.Operator))
        ∙ ap (λ (l : List MadeStep). filter p client_steps ++ l)
        (filter-append p repairer_steps (h.of actor.Sweeper ++ h.of actor.Operator)
        ∙ ap (λ (l : List MadeStep). filter p repairer_steps ++ l) (filter-append p (h.of actor.Sweeper) (h.of actor.Operator)))
        ∙ (λ i. e i ++ (f i ++ (g i ++ k i)))

    all_of : (who : Actor) → filter (is_by who) (actor_by_actor script h) ≡ h.of who
    all_of (actor.Client n) =
        parts (is_by (actor.Client n)) (h.of (actor.Client n)) [] [] []
        (whole_group (λ i. actor.Client i) (λ i j. refl) n (length script.clients) (no_client n))
        (no_group (λ i. actor.Repairer i) (actor.Client n) (λ i. refl) 0 (length script.repairers))
        (apart (actor.Client n) actor.Sweeper refl) (apart (actor.Client n) actor.Operator refl)
        ∙ append-nil (h.of (actor.Client n))
    all_of (actor.Repairer n) =
        parts (is_by (actor.Repairer n)) [] (h.of (actor.Repairer n)) [] []
        (no_group (λ i. actor.Client i) (actor.Repairer n) (λ i. refl) 0 (length script.clients))
        (whole_group (λ i. actor.Repairer i) (λ i j. refl) n (length script.repairers) (no_repairer n))
        (apart (actor.Repairer n) actor.Sweeper refl) (apart (actor.Repairer n) actor.Operator refl)
        ∙ append-nil (h.of (actor.Repairer n))
    all_of actor.Sweeper =
        parts (is_by actor.Sweeper) [] [] (h.of actor.Sweeper) []
        (no_group (λ i. actor.Client i) actor.Sweeper (λ i. refl) 0 (length script.clients))
        (no_group (λ i. actor.Repairer i) actor.Sweeper (λ i. refl) 0 (length script.repairers))
        (twice.own actor.Sweeper) (apart actor.Sweeper actor.Operator refl)
        ∙ append-nil (h.of actor.Sweeper)
    all_of actor.Operator =
        parts (is_by actor.Operator) [] [] [] (h.of actor.Operator)
        (no_group (λ i. actor.Client i) actor.Operator (λ i. refl) 0 (length script.clients))
        (no_group (λ i. actor.Repairer i) actor.Operator (λ i. refl) 0 (length script.repairers))
        (apart actor.Operator actor.Sweeper refl) (twice.own actor.Operator)

    -- they are in order
    pub sorted : IsInOrder h (in_order script h)
    sorted =
        record {
          order = by_moment_falls (actor_by_actor script h);
          of = λ who. filter_by_moment (is_by who) (actor_by_actor script h) ∙ ap by_moment (all_of who) ∙ by_moment_same (h.of who) (twice.rise_of who);
        }
