-- Each step keeps the rule.
-- The rule is kept by each kind of step on the word: one lemma a step (Keeps), over one lemma for a step that changes one seat's view
-- (moved). The longer of two lists seen is found by comparing lengths, since both begin the history.
use Rattle.std.proofs.Common.{◌≡◌, ℕ, zero, suc, ◌+◌, ◌<◌, ◌≤◌, ◌==◌, ◌≢◌, ◌⊎◌, eqb, true, false, List, [], ◌∷◌, ◌++◌, length, get_or, set, refl, ap, sym, ◌∙◌, subst, inl, inr, ⊎_elim, arith, length-set, get_or-set_same, Option, Some}
use mathlib.Core.List.{IsPrefix}
use mathlib.Core.Logic.{dite}
use mathlib.Core.Option.{some, none, some-injective, some-ne-none}
use native.Mathlib.Decide.{dec_le}
use lib.ListN.{get_elem?}
use lib.Seq.{set-get_or}
use prog.Atomic.{either}
use Rattle.atomic_table.specs.Table.{State, Act, step, keeps, takes, gives, Valid, carried_after, stepped, opening, Allows, Splits, Joins}
use Rattle.atomic_table.proofs.Lists.{at_set, set_here, set_again, at_snoc, at_last, at_longer, exchanged}
use Rattle.turn_lock.specs.declared.lock_view.View.{View}
use Rattle.turn_lock.specs.History.{Among, entries_of, with_entry, IsUnder}
use Rattle.std.proofs.lemmas.List.{append-nil}
use Rattle.turn_lock.specs.Rule.{all_numbers, Fits, SomeHolds, IsNamed, IsHome, Kept}
use Rattle.turn_lock.specs.Steps.{SeatState, maker_view, maker_after, turn_view, spent_view, joined_view, with_seen, settled_view, Tries, PassesOn, Settles}
use Rattle.turn_lock.proofs.Lists.{among_append, among_one, among_left, among_right, prefix_self, prefix_trans, prefix_shorter, between, at_one, entries_of-with_entry, prefix_after, is_of_number, at_end}

module _ {F E : Type 0} where
  -- a seat that now holds
  holds_here : (views : List (View F E)) (id : ℕ) (v w : View F E) → get_elem? views id ≡ some v → w.holds ≡ true → SomeHolds (set views id w)
  holds_here [] id v w at h = absurd (some-ne-none v (sym at))
  holds_here (x ∷ xs) zero v w at h = (0, w, refl, h)
  holds_here (x ∷ xs) (suc id) v w at h = let t = holds_here xs id v w at h in (suc t.0, t.1, t.2, t.3)

  -- some seat still holds where one seat changes, and holds if it held
  still_holds : (views : List (View F E)) (id : ℕ) (v w : View F E) → get_elem? views id ≡ some v → (v.holds ≡ true → w.holds ≡ true)
      → (j : ℕ) (u : View F E) → get_elem? views j ≡ some u → u.holds ≡ true → SomeHolds (set views id w)
  still_holds [] id v w at keep j u e h = absurd (some-ne-none v (sym at))
  still_holds (x ∷ xs) zero v w at keep zero u e h = (0, w, refl, keep (ap (λ (y : View F E). y.holds) (sym (some-injective x v at) ∙ some-injective x u e) ∙ h))
  still_holds (x ∷ xs) zero v w at keep (suc j) u e h = (suc j, u, e, h)
  still_holds (x ∷ xs) (suc id) v w at keep zero u e h = (0, u, e, h)
  still_holds (x ∷ xs) (suc id) v w at keep (suc j) u e h = let t = still_holds xs id v w at keep j u e h in (suc t.0, t.1, t.2, t.3)

module _ {T F E : Type 0} (fixed_part : T → F) (stands_for : T → List (ℕ × E) → Type 0) where
  abbrev St : Type 0
  St = State (Option T) (View F E)

  abbrev Mine : Type 0
  Mine = SeatState T F E

  abbrev Rule : St → Type 0
  Rule = Kept fixed_part stands_for

  pub opens : (value : T) → stands_for value [] → Rule (opening (0 ∷ []) (Some value ∷ []) (maker_view (fixed_part value) 0))
  opens value ok =
      let v : View F E = maker_view (fixed_part value) 0 in
      let fits : Fits (fixed_part value) [] 0 v = record {
        tells = λ n a. absurd (cc);
        maker_tells = λ _. refl;
        seen = ([], refl);
        joined_seen = ([], refl);
        owns = λ n a. absurd (cc);
        joined_owns = λ n a. absurd (cc);
        below = λ n a. absurd (cc);
        whole = λ h. absurd (cc);
      } in
      record {
        fixed = fixed_part value;
        log = [];
        made = 0;
        wide = refl;
        each = λ j u e. subst (Fits (fixed_part value) [] 0) (at_one v u j e).1 fits;
        apart = λ j k u w n e f a b. (at_one v u j e).0 ∙ sym (at_one v w k f).0;
        maker = λ j u e m. ((at_one v u j e).0, ap (λ (x : View F E). x.made) (sym (at_one v u j e).1));
        unmade = λ n h. refl;
        holder = λ j u e h. let x : v.holds ≡ true = ap (λ (y : View F E). y.holds) (at_one v u j e).1 ∙ h in absurd (cc);
        held = λ ne. absurd (ne refl);
        home = λ _. (value, refl, refl, ok);
      }

  -- one seat's view changes, and maybe the words, the slot and the history
  moved : (s : St) (r : Rule s) (id : ℕ) (v w : View F E) (ws : List ℕ) (hs : List (mathlib.Core.Option.Option (Option T))) (log : List (ℕ × E))
      → get_elem? s.views id ≡ some v
      → length ws ≡ 1
      → Fits r.fixed log r.made w
      → ((j : ℕ) (u : View F E) → j ≢ id → get_elem? s.views j ≡ some u → Fits r.fixed r.log r.made u → Fits r.fixed log r.made u)
      → (all_numbers w ≡ all_numbers v) × (w.makes ≡ v.makes) × (w.made ≡ v.made)
      → ((n : ℕ) → r.made ≤ n → entries_of n log ≡ [])
      → (w.holds ≡ true → IsNamed (get_or ws 0 0) w)
      → ((j : ℕ) (u : View F E) → j ≢ id → get_elem? s.views j ≡ some u → u.holds ≡ true → IsNamed (get_or ws 0 0) u)
      → (get_or ws 0 0 ≢ 0 → SomeHolds (set s.views id w))
      → (get_or ws 0 0 ≡ 0 → IsHome fixed_part stands_for r.fixed log hs)
      → Rule record { words = ws; homes = hs; views = set s.views id w }
  moved s r id v w ws hs log at wide fits others same unmade holder holders held home =
      let before : (j : ℕ) (u : View F E) → get_elem? (set s.views id w) j ≡ some u
      → (x : View F E) × (get_elem? s.views j ≡ some x) × (all_numbers u ≡ all_numbers x) × (u.makes ≡ x.makes) × (u.made ≡ x.made) =
      λ j u e. ⊎_elim
      (λ t. (v, subst (λ (i : ℕ). get_elem? s.views i ≡ some v) (sym t.0) at, ap (λ (y : View F E). all_numbers y) (sym t.1) ∙ same.0, ap (λ (y : View F E). y.makes) (sym t.1) ∙ same.1, ap (λ (y : View F E). y.made) (sym t.1) ∙ same.2))
      (λ t. (u, t.1, refl, refl, refl)) (at_set s.views id j w u e) in
      record {
        fixed = r.fixed;
        log = log;
        made = r.made;
        wide = wide;
        each = λ j u e. ⊎_elim (λ t. subst (Fits r.fixed log r.made) t.1 fits) (λ t. others j u t.0 t.1 (r.each j u t.1)) (at_set s.views id j w u e);
        apart = λ j k u x n e f a b. let p = before j u e in let q = before k x f in
            r.apart j k p.0 q.0 n p.1 q.1 (subst (Among n) p.2 a) (subst (Among n) q.2 b);
        maker = λ j u e m. let p = before j u e in let t = r.maker j p.0 p.1 (sym p.3 ∙ m) in (t.0, p.4 ∙ t.1);
        unmade = unmade;
        holder = λ j u e h. ⊎_elim (λ t. subst (IsNamed (get_or ws 0 0)) t.1 (holder (ap (λ (y : View F E). y.holds) t.1 ∙ h))) (λ t. holders j u t.0 t.1 h) (at_set s.views id j w u e);
        held = held;
        home = home;
      }

  abbrev Goes : St → ℕ → Mine → (ℕ → Mine → Type 0) → ℕ → Type 0
  Goes s id m then k = (w : View F E) × (a : Act (Option T)) × Valid s.homes m.1 a × Rule (stepped s 0 k id m.1 w a) × then (get_or s.words 0 0) (w, carried_after m.1 a)

  pub tries : (n id k : ℕ) (m : Mine) → Among k m.0.numbers
      → Allows Rule n id m 0 (λ x. either (eqb x 0) (k + 1) x) (Tries fixed_part stands_for (step n 0 0 (k + 1) none) m)
  tries n id k m given s r wide at _ =
      let f = r.each id m.0 at in
      exchanged (get_or s.words 0 0) 0 (k + 1) (Goes s id m (Tries fixed_part stands_for (step n 0 0 (k + 1) none) m))
      (λ hit.
      let h = r.home hit in
      let w : View F E = with_seen m.0 r.log true in
      let here : get_or (set s.words 0 (k + 1)) 0 0 ≡ k + 1 = (let long = r.wide in get_or-set_same s.words 0 (k + 1) 0 (omega arith)) in
      let fits : Fits r.fixed r.log r.made w = record {
        tells = f.tells;
        maker_tells = f.maker_tells;
        seen = prefix_self r.log;
        joined_seen = f.joined_seen;
        owns = λ i a. refl;
        joined_owns = f.joined_owns;
        below = f.below;
        whole = λ _. refl;
      } in (
        w,
        takes 0 (Some h.0),
        h.1,
        moved s r id m.0 w (set s.words 0 (k + 1)) (set s.homes 0 none) r.log at (length-set s.words 0 (k + 1) ∙ r.wide) fits (λ j u ne e x. x) (refl, refl, refl) r.unmade
            (λ _. (k, given, here)) (λ j u ne e holds. let t = r.holder j u e holds in let word = t.2 in absurd (omega arith)) (λ _. holds_here s.views id m.0 w at refl) (λ e. absurd (omega arith)),
        ((λ _. (h.0, refl, refl, ap (λ (x : F). Some x) h.2 ∙ sym (f.tells k given), h.3, (f.seen, λ i a. sym (f.owns i a)))), λ ne. absurd (ne hit)),
      ))
      (λ miss. (
        m.0,
        keeps,
        tt,
        subst Rule (λ i. record { words = sym (set-get_or s.words 0 0) i; homes = s.homes; views = sym (set_again s.views id m.0 at) i }) r,
        ((λ e. absurd (miss e)), λ _. refl),
      ))

  pub passes : (n id : ℕ) (m : Mine) (value : T) (entry : Option (ℕ × E)) → (m.1 ≡ (0, Some value) ∷ []) × (m.0.holds ≡ true) × (m.0.joined ≡ []) × IsUnder m.0.numbers entry
      → n ≡ 1 → (k : ℕ) → Among k m.0.numbers → Some (fixed_part value) ≡ m.0.fixed → stands_for value (with_entry m.0.seen entry)
      → Allows Rule n id m 0 (λ _. 0) (λ _. PassesOn entry (step n 0 0 0 none) m 0)
  passes n id m value entry given slots k among tells stands s r wide at _ =
      let f = r.each id m.0 at in
      let v : View F E = m.0 in
      let log : List (ℕ × E) = with_entry v.seen entry in
      let w : View F E = with_seen v log false in
      let whole : v.seen ≡ r.log = f.whole given.1 in
      let here : get_or (set s.words 0 0) 0 0 ≡ 0 = (let long = r.wide in get_or-set_same s.words 0 0 0 (omega arith)) in
      let longer : IsPrefix r.log log = subst (λ (l : List (ℕ × E)). IsPrefix l log) whole (prefix_after v.seen entry) in
      -- no other seat holds
      let alone : (j : ℕ) (u : View F E) → j ≢ id → get_elem? s.views j ≡ some u → u.holds ≡ true → ⊥ =
      λ j u ne e holds. let p = r.holder j u e holds in let q = r.holder id v at given.1 in
      let same : p.0 ≡ q.0 = (let a = p.2 in let b = q.2 in omega arith) in
      ne (r.apart j id u v q.0 e at (among_left q.0 u.numbers u.joined (subst (λ (i : ℕ). Among i u.numbers) same p.1)) (among_left q.0 v.numbers v.joined q.1)) in
      let stays : (i : ℕ) → ((e : ℕ × E) → entry ≡ Some e → i ≢ e.0) → entries_of i log ≡ entries_of i r.log =
      λ i apart. entries_of-with_entry i v.seen entry apart ∙ ap (λ (l : List (ℕ × E)). entries_of i l) whole in
      -- another seat's numbers have no new entry
      let keep : (j : ℕ) (u : View F E) (i : ℕ) → j ≢ id → get_elem? s.views j ≡ some u → Among i (all_numbers u) → entries_of i r.log ≡ entries_of i log =
      λ j u i ne e a. sym (stays i (λ z is same. ne (r.apart j id u v i e at a (among_left i v.numbers v.joined (subst (λ (y : ℕ). Among y v.numbers) (sym same) (is_of_number v.numbers entry z given.3 is)))))) in
      let fits : Fits r.fixed log r.made w = record {
        tells = f.tells;
        maker_tells = f.maker_tells;
        seen = prefix_self log;
        joined_seen = prefix_trans v.joined_seen r.log log f.joined_seen longer;
        owns = λ i a. refl;
        joined_owns = λ i a. let no : Among i [] = subst (Among i) given.2 a in absurd (cc);
        below = f.below;
        whole = λ h. absurd (cc);
      } in
      let others : (j : ℕ) (u : View F E) → j ≢ id → get_elem? s.views j ≡ some u → Fits r.fixed r.log r.made u → Fits r.fixed log r.made u = λ j u ne e x. record {
        tells = x.tells;
        maker_tells = x.maker_tells;
        seen = prefix_trans u.seen r.log log x.seen longer;
        joined_seen = prefix_trans u.joined_seen r.log log x.joined_seen longer;
        owns = λ i a. x.owns i a ∙ keep j u i ne e (among_left i u.numbers u.joined a);
        joined_owns = λ i a. x.joined_owns i a ∙ keep j u i ne e (among_right i u.numbers u.joined a);
        below = x.below;
        whole = λ holds. absurd (alone j u ne e holds);
      } in (
        w,
        gives,
        tt,
        subst (λ (c : List (ℕ × Option T)). Rule (stepped s 0 0 id c w gives)) (sym given.0)
            (moved s r id v w (set s.words 0 0) (set s.homes 0 (some (Some value))) log at (length-set s.words 0 0 ∙ r.wide) fits others (refl, refl, refl)
            (λ i le. stays i (λ z is same. let b = f.below z.0 (among_left z.0 v.numbers v.joined (is_of_number v.numbers entry z given.3 is)) in absurd (omega arith)) ∙ r.unmade i le)
            (λ h. absurd (cc)) (λ j u ne e holds. absurd (alone j u ne e holds)) (λ ne. absurd (ne here))
            (λ _. (value, set_here s.homes 0 (some (Some value)) (omega arith), (let e : Some (fixed_part value) ≡ Some r.fixed = tells ∙ f.tells k among in cc), stands))),
        refl,
      )

  pub splits : (id : ℕ) (v : View F E) → (v.makes ≡ true) × (v.numbers ≡ []) → Splits Rule id v (maker_after v) (turn_view v)
  splits id v given s r at =
      let f = r.each id v at in
      let m : v.made ≡ r.made = (r.maker id v at given.0).1 in
      let w : View F E = maker_after v in
      let u₀ : View F E = turn_view v in
      let vs : List (View F E) = set s.views id w in
      let wider : (u : View F E) → Fits r.fixed r.log r.made u → Fits r.fixed r.log (r.made + 1) u = λ u x. record {
        tells = x.tells;
        maker_tells = x.maker_tells;
        seen = x.seen;
        joined_seen = x.joined_seen;
        owns = x.owns;
        joined_owns = x.joined_owns;
        below = λ n a. let b = x.below n a in omega arith;
        whole = x.whole;
      } in
      let made_fits : Fits r.fixed r.log (r.made + 1) w = record {
        tells = f.tells;
        maker_tells = f.maker_tells;
        seen = f.seen;
        joined_seen = f.joined_seen;
        owns = f.owns;
        joined_owns = f.joined_owns;
        below = λ n a. let b = f.below n a in omega arith;
        whole = f.whole;
      } in
      let new_fits : Fits r.fixed r.log (r.made + 1) u₀ = record {
        tells = λ n a. f.maker_tells given.0;
        maker_tells = λ h. absurd (cc);
        seen = (r.log, refl);
        joined_seen = (r.log, refl);
        owns = λ n a. let e = among_one n v.made a in sym (r.unmade n (omega arith));
        joined_owns = λ n a. absurd (cc);
        below = λ n a. let e = among_one n v.made a in omega arith;
        whole = λ h. absurd (cc);
      } in
      -- what stood at the place of an older seat
      let before : (j : ℕ) (u : View F E) → get_elem? vs j ≡ some u → (x : View F E) × (get_elem? s.views j ≡ some x) × (all_numbers u ≡ all_numbers x) × (u.numbers ≡ x.numbers) × (u.holds ≡ x.holds) =
      λ j u e. ⊎_elim (λ t. (v, subst (λ (i : ℕ). get_elem? s.views i ≡ some v) (sym t.0) at, ap (λ (y : View F E). all_numbers y) (sym t.1), ap (λ (y : View F E). y.numbers) (sym t.1), ap (λ (y : View F E). y.holds) (sym t.1)))
      (λ t. (u, t.1, refl, refl, refl)) (at_set s.views id j w u e) in
      let fresh : (j : ℕ) (u : View F E) (n : ℕ) → get_elem? vs j ≡ some u → Among n (all_numbers u) → n < r.made =
      λ j u n e a. let p = before j u e in (r.each j p.0 p.1).below n (subst (Among n) p.2 a) in
      let new_is : (u : View F E) (n : ℕ) → u₀ ≡ u → Among n (all_numbers u) → n ≡ r.made =
      λ u n e a. among_one n v.made (subst (λ (y : View F E). Among n (all_numbers y)) (sym e) a) ∙ m in
      record {
        fixed = r.fixed;
        log = r.log;
        made = r.made + 1;
        wide = r.wide;
        each = λ j u e. ⊎_elim
            (λ t. ⊎_elim (λ y. subst (Fits r.fixed r.log (r.made + 1)) y.1 made_fits) (λ y. wider u (r.each j u y.1)) (at_set s.views id j w u t))
            (λ t. subst (Fits r.fixed r.log (r.made + 1)) t.1 new_fits) (at_end vs u₀ u j e);
        apart = λ j k u x n e₁ e₂ a b. ⊎_elim
            (λ t. ⊎_elim (λ y. let p = before j u t in let q = before k x y in r.apart j k p.0 q.0 n p.1 q.1 (subst (Among n) p.2 a) (subst (Among n) q.2 b))
            (λ y. let lt = fresh j u n t a in let is = new_is x n y.1 b in absurd (omega arith)) (at_end vs u₀ x k e₂))
            (λ t. ⊎_elim (λ y. let lt = fresh k x n y b in let is = new_is u n t.1 a in absurd (omega arith)) (λ y. t.0 ∙ sym y.0) (at_end vs u₀ x k e₂)) (at_end vs u₀ u j e₁);
        maker = λ j u e h. ⊎_elim
            (λ t. ⊎_elim (λ y. (y.0 ∙ (r.maker id v at given.0).0, ap (λ (z : View F E). z.made) (sym y.1) ∙ ap (λ (i : ℕ). i + 1) m))
            (λ y. absurd (y.0 ((r.maker j u y.1 h).0 ∙ sym (r.maker id v at given.0).0))) (at_set s.views id j w u t))
            (λ t. let no : u₀.makes ≡ true = ap (λ (z : View F E). z.makes) t.1 ∙ h in absurd (cc)) (at_end vs u₀ u j e);
        unmade = λ n le. r.unmade n (omega arith);
        holder = λ j u e h. ⊎_elim
            (λ t. let p = before j u t in let q = r.holder j p.0 p.1 (sym p.4 ∙ h) in (q.0, subst (Among q.0) (sym p.3) q.1, q.2))
            (λ t. let no : u₀.holds ≡ true = ap (λ (z : View F E). z.holds) t.1 ∙ h in absurd (cc)) (at_end vs u₀ u j e);
        held = λ ne. let t = r.held ne in let y = still_holds s.views id v w at (λ h. h) t.0 t.1 t.2 t.3 in (y.0, y.1, at_longer vs (u₀ ∷ []) y.0 y.1 y.2, y.3);
        home = r.home;
      }

  pub settles : (n id : ℕ) (m : Mine) (k : ℕ) → m.0.holds ≡ false → Among k m.0.numbers → Allows Rule n id m 0 (λ x. x) (Settles (step n 0 0 0 none) m)
  settles n id m k free among s r wide at _ =
      let f = r.each id m.0 at in
      let same : set s.words 0 (get_or s.words 0 0) ≡ s.words = set-get_or s.words 0 0 in
      let found : get_or (set s.words 0 (get_or s.words 0 0)) 0 0 ≡ get_or s.words 0 0 = ap (λ (ws : List ℕ). get_or ws 0 0) same in
      let go : (l : List (ℕ × E)) → IsPrefix m.0.seen l → IsPrefix m.0.joined_seen l → IsPrefix l r.log → (l ≡ m.0.seen) ⊎ (l ≡ m.0.joined_seen) → Goes s id m (Settles (step n 0 0 0 none) m) (get_or s.words 0 0) =
      λ l a b c which.
      let w : View F E = settled_view m.0 l in
      let mine : (i : ℕ) → Among i m.0.numbers → entries_of i l ≡ entries_of i r.log = λ i t. between (λ (x : ℕ × E). x.0 == i) m.0.seen l r.log a c (f.owns i t) in
      let yours : (i : ℕ) → Among i m.0.joined → entries_of i l ≡ entries_of i r.log = λ i t. between (λ (x : ℕ × E). x.0 == i) m.0.joined_seen l r.log b c (f.joined_owns i t) in
      let all : all_numbers w ≡ all_numbers m.0 = append-nil (m.0.numbers ++ m.0.joined) in
      let fits : Fits r.fixed r.log r.made w = record {
        tells = λ i t. f.tells k among;
        maker_tells = f.maker_tells;
        seen = c;
        joined_seen = (r.log, refl);
        owns = λ i t. ⊎_elim (λ y. mine i y) (λ y. yours i y) (among_append i m.0.numbers m.0.joined t);
        joined_owns = λ i t. absurd (cc);
        below = λ i t. f.below i (subst (Among i) all t);
        whole = λ h. absurd (cc);
      } in (
        w,
        keeps,
        tt,
        moved s r id m.0 w (set s.words 0 (get_or s.words 0 0)) s.homes r.log at (length-set s.words 0 (get_or s.words 0 0) ∙ r.wide) fits (λ j u ne e x. x) (all, refl, refl) r.unmade
            (λ h. absurd (cc)) (λ j u ne e h. subst (λ (x : ℕ). IsNamed x u) (sym found) (r.holder j u e h))
            (λ ne. let t = r.held (λ e. ne (found ∙ e)) in still_holds s.views id m.0 w at (λ h. absurd (cc (free, h))) t.0 t.1 t.2 t.3) (λ e. r.home (sym found ∙ e)),
        (refl, record { from_one = a; from_other = b; is_either = which }, (λ i t. mine i t ∙ sym (f.owns i t)), (λ i t. yours i t ∙ sym (f.joined_owns i t))),
      ) in
      dite (dec_le (length m.0.seen) (length m.0.joined_seen))
      (λ le. go m.0.joined_seen (prefix_shorter m.0.seen m.0.joined_seen r.log f.seen f.joined_seen le) (prefix_self m.0.joined_seen) f.joined_seen (inr refl))
      (λ gt. go m.0.seen (prefix_self m.0.seen) (prefix_shorter m.0.joined_seen m.0.seen r.log f.joined_seen f.seen (omega arith)) f.seen (inl refl))

  pub joins : (id : ℕ) (v : View F E) (other : ℕ) (w : View F E) → (v.holds ≡ false) × (w.holds ≡ false) → Joins Rule id v other w (joined_view v w) spent_view
  joins id v other w free s r at ne there =
      let b₀ : View F E = joined_view v w in
      let vs : List (View F E) = set s.views id b₀ in
      let at' : get_elem? s.views other ≡ some w = sym (Rattle.atomic_table.proofs.Lists.set_else s.views id other b₀ ne) ∙ there in
      let f = r.each id v at in
      let g = r.each other w at' in
      let both_fits : Fits r.fixed r.log r.made b₀ = record {
        tells = f.tells;
        maker_tells = λ h. absurd (cc);
        seen = f.seen;
        joined_seen = g.seen;
        owns = f.owns;
        joined_owns = g.owns;
        below = λ n a. ⊎_elim (λ t. f.below n (among_left n v.numbers v.joined t)) (λ t. g.below n (among_left n w.numbers w.joined t)) (among_append n v.numbers w.numbers a);
        whole = λ h. absurd (cc);
      } in
      let spent_fits : Fits r.fixed r.log r.made spent_view = record {
        tells = λ n a. absurd (cc);
        maker_tells = λ h. absurd (cc);
        seen = (r.log, refl);
        joined_seen = (r.log, refl);
        owns = λ n a. absurd (cc);
        joined_owns = λ n a. absurd (cc);
        below = λ n a. absurd (cc);
        whole = λ h. absurd (cc);
      } in
      -- where the seat is now: spent_view, the joined_view one, or as it was
      let cases : (j : ℕ) (u : View F E) → get_elem? (set vs other spent_view) j ≡ some u → (spent_view {F = F} {E = E} ≡ u) ⊎ (((j ≡ id) × (b₀ ≡ u)) ⊎ ((j ≢ other) × (get_elem? s.views j ≡ some u))) =
      λ j u e. ⊎_elim (λ t. inl t.1) (λ t. ⊎_elim (λ y. inr (inl y)) (λ y. inr (inr (t.0, y.1))) (at_set s.views id j b₀ u t.1)) (at_set vs other j spent_view u e) in
      -- a number's seat before
      let source : (j : ℕ) (u : View F E) (n : ℕ) → get_elem? (set vs other spent_view) j ≡ some u → Among n (all_numbers u)
      → (i : ℕ) × (x : View F E) × (get_elem? s.views i ≡ some x) × Among n (all_numbers x) × (((j ≡ i) × (j ≢ other)) ⊎ ((j ≡ id) × (i ≡ other))) =
      λ j u n e a. ⊎_elim (λ t. let no : Among n (all_numbers (spent_view {F = F} {E = E})) = subst (λ (y : View F E). Among n (all_numbers y)) (sym t) a in absurd (cc))
      (λ t. ⊎_elim
      (λ y. ⊎_elim (λ z. (id, v, at, among_left n v.numbers v.joined z, inl (y.0, λ q. ne (sym q ∙ y.0)))) (λ z. (other, w, at', among_left n w.numbers w.joined z, inr (y.0, refl)))
      (among_append n v.numbers w.numbers (subst (λ (q : View F E). Among n (all_numbers q)) (sym y.1) a)))
      (λ y. (j, u, y.1, a, inl (refl, y.0))) t) (cases j u e) in
      record {
        fixed = r.fixed;
        log = r.log;
        made = r.made;
        wide = r.wide;
        each = λ j u e. ⊎_elim (λ t. subst (Fits r.fixed r.log r.made) t spent_fits) (λ t. ⊎_elim (λ y. subst (Fits r.fixed r.log r.made) y.1 both_fits) (λ y. r.each j u y.1) t) (cases j u e);
        apart = λ j i u x n e₁ e₂ a b.
            let p = source j u n e₁ a in let q = source i x n e₂ b in
            let same : p.0 ≡ q.0 = r.apart p.0 q.0 p.1 q.1 n p.2 q.2 p.3 q.3 in
            ⊎_elim (λ t. ⊎_elim (λ y. t.0 ∙ (same ∙ sym y.0)) (λ y. absurd (t.1 (t.0 ∙ (same ∙ y.1)))) q.4)
            (λ t. ⊎_elim (λ y. absurd (y.1 (y.0 ∙ (sym same ∙ t.1)))) (λ y. t.0 ∙ sym y.0) q.4) p.4;
        maker = λ j u e h. ⊎_elim (λ t. let no : (spent_view {F = F} {E = E}).makes ≡ true = ap (λ (y : View F E). y.makes) t ∙ h in absurd (cc))
            (λ t. ⊎_elim (λ y. let no : b₀.makes ≡ true = ap (λ (z : View F E). z.makes) y.1 ∙ h in absurd (cc)) (λ y. r.maker j u y.1 h) t) (cases j u e);
        unmade = r.unmade;
        holder = λ j u e h. ⊎_elim (λ t. let no : (spent_view {F = F} {E = E}).holds ≡ true = ap (λ (y : View F E). y.holds) t ∙ h in absurd (cc))
            (λ t. ⊎_elim (λ y. let no : b₀.holds ≡ true = ap (λ (z : View F E). z.holds) y.1 ∙ h in absurd (cc)) (λ y. r.holder j u y.1 h) t) (cases j u e);
        held = λ nz.
            let t = r.held nz in
            let y = still_holds s.views id v b₀ at (λ h. absurd (cc (free.0, h))) t.0 t.1 t.2 t.3 in
            still_holds vs other w spent_view there (λ h. absurd (cc (free.1, h))) y.0 y.1 y.2 y.3;
        home = r.home;
      }
