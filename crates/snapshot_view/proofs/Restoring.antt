-- Passes that were begun and are ended again, with nothing between.
use Rattle.std.proofs.Common.{◌≡◌, ◌<◌, ◌≤◌, ℕ, suc, min, Bool, true, false, not, cond, List, [], ◌∷◌, ◌++◌, length, map, get_or, take, filter, find, Option, None, Some, All, refl, sym, ap, subst, ◌∙◌, arith}
use Rattle.std.specs.List.{AllPairs}
use Rattle.std.specs.Option.{option_or}
use Rattle.std.proofs.lemmas.Option.{none-some}
use Rattle.std.proofs.lemmas.List.{append_assoc, append-nil, length-map, length-take, take-map, get_or-map, get_or-take}
use Rattle.std.proofs.lemmas.List.Elements.{filter-append}
use Rattle.std.proofs.lemmas.List.Folds.{find-append}
use Rattle.store_map.specs.declared.actor.Actor.{Actor}
use Rattle.store_core.specs.Act.{DirectoryStep}
use Rattle.store_core.specs.Directory.{Standing, Pass, Directory}
use Rattle.store_core.specs.Lookups.{same_actor}
use Rattle.store_core.specs.Look.{set_standing}
use Rattle.store_core.specs.PassSteps.{end_pass}
use Rattle.store_core.specs.AtDirectory.{at_directory, on_pass, unless_reaped}
use Rattle.store_core.specs.Agreement.{ActorToken, Agrees}
use Rattle.store_core.specs.Tokens.{actor_of}
use Rattle.run_laws.proofs.Beside.{self_actor}
use Rattle.snapshot_view.specs.Tickets.{passes_in, MayGet, IsInCall, AreApart}
use Rattle.snapshot_view.specs.Releasing.{Released, end_one, end_all, no_end}

-- one more ticket's pass stands before the others
pub passes_more : (tokens : List ActorToken) (token : ActorToken) → passes_in (tokens ++ token ∷ []) ≡ passes_in (token ∷ []) ++ passes_in tokens
passes_more [] token = sym (append-nil (passes_in (token ∷ [])))
passes_more (ActorToken.Seated seat ∷ tokens) token = passes_more tokens token
passes_more (ActorToken.InCall held ∷ tokens) token =
    ap (λ ps. ps ++ held.pass ∷ []) (passes_more tokens token) ∙ append_assoc (passes_in (token ∷ [])) (passes_in tokens) (held.pass ∷ [])

-- ---- passes of which none passes a test
module _ (test : Pass → Bool) where
  abbrev is_other : Pass → Bool
  is_other pass = not (test pass)

  -- all of them stay
  stay : (xs : List Pass) → find test xs ≡ None → filter is_other xs ≡ xs
  stay [] none = refl
  stay (x ∷ xs) none = by (test x) none (stay xs)
    where
      by : (b : Bool) → cond {A = Option Pass} b (Some x) (find test xs) ≡ None → (find test xs ≡ None → filter is_other xs ≡ xs) → cond {A = List Pass} (not b) (x ∷ filter is_other xs) (filter is_other xs) ≡ x ∷ xs
      by true e rest = absurd (none-some x (sym e))
      by false e rest = ap (λ l. x ∷ l) (rest e)

  -- the one between them is found
  found_between : (xs ys : List Pass) (x : Pass) → find test xs ≡ None → test x ≡ true → find test ((xs ++ x ∷ []) ++ ys) ≡ Some x
  found_between xs ys x none passes =
      find-append test (xs ++ x ∷ []) ys
      ∙ ap (λ found. option_or found (find test ys))
      (find-append test xs (x ∷ []) ∙ ap (λ found. option_or found (find test (x ∷ []))) none ∙ ap (λ b. cond {A = Option Pass} b (Some x) None) passes)

  -- and taken out
  left_between : (xs ys : List Pass) (x : Pass) → find test xs ≡ None → find test ys ≡ None → test x ≡ true → filter is_other ((xs ++ x ∷ []) ++ ys) ≡ xs ++ ys
  left_between xs ys x none none_behind passes =
      filter-append is_other (xs ++ x ∷ []) ys
      ∙ (λ i. (filter-append is_other xs (x ∷ []) ∙ (λ j. stay xs none j ++ (ap (λ b. cond {A = List Pass} (not b) (x ∷ []) []) passes) j) ∙ append-nil xs) i ++ stay ys none_behind i)

-- the passes of other actors' tickets
none_in : (who : Actor) (tokens : List ActorToken) → All (λ token. same_actor who (actor_of token) ≡ false) tokens → find (λ (pass : Pass). same_actor who pass.actor) (passes_in tokens) ≡ None
none_in who [] apart = refl
none_in who (ActorToken.Seated seat ∷ tokens) apart = none_in who tokens (λ k token less. apart (suc k) token (omega (arith, less)))
none_in who (ActorToken.InCall held ∷ tokens) apart =
    find-append (λ (pass : Pass). same_actor who pass.actor) (passes_in tokens) (held.pass ∷ [])
    ∙ ap (λ found. option_or found (find (λ (pass : Pass). same_actor who pass.actor) (held.pass ∷ []))) (none_in who tokens (λ k token less. apart (suc k) token (omega (arith, less))))
    ∙ ap (λ b. cond {A = Option Pass} b (Some held.pass) None) (apart 0 (ActorToken.InCall held) (omega arith))

-- one end
one_end : (d : Directory) (number : ℕ) (pass : Pass) (xs ys : List Pass) → d.passes ≡ (xs ++ pass ∷ []) ++ ys → pass.drawn ≡ [] → pass.reaped ≡ None → same_actor pass.actor pass.actor ≡ true
    → find (λ (other : Pass). same_actor pass.actor other.actor) xs ≡ None → find (λ (other : Pass). same_actor pass.actor other.actor) ys ≡ None
    → (at_directory false pass.actor number DirectoryStep.End d).0 ≡ record d { passes = xs ++ ys }
one_end d number pass xs ys is undrawn live own none none_behind =
    ap (λ found. (on_pass end_pass found d).0) (ap (find (λ (other : Pass). same_actor pass.actor other.actor)) is ∙ found_between (λ (other : Pass). same_actor pass.actor other.actor) xs ys pass none own)
    ∙ ap (λ reap. (unless_reaped end_pass pass reap d).0) live
    ∙ (λ i. record d { versions = set_standing Standing.Superseded (undrawn i) d.versions; passes = filter (λ (other : Pass). not (same_actor pass.actor other.actor)) (is i) })
    ∙ ap (λ ps. record d { passes = ps }) (left_between (λ (other : Pass). same_actor pass.actor other.actor) xs ys pass none none_behind own)

-- all ends leave the other passes
pub ends_restore : (number : ℕ) (d : Directory) (done : List ActorToken) (reaps : List ℕ) (tokens : List ActorToken) (others : List Pass) → d.passes ≡ passes_in tokens ++ others → All (IsInCall number) tokens
    → AreApart tokens → All (λ token. find (λ (pass : Pass). same_actor (actor_of token) pass.actor) others ≡ None) tokens
    → (end_all number (record { directory = d; tokens = done; reaps = reaps }) tokens).directory ≡ record d { passes = others }
ends_restore number d done reaps [] others is calls apart away = ap (λ ps. record d { passes = ps }) is
ends_restore number d done reaps (ActorToken.Seated seat ∷ tokens) others is calls apart away = absurd (calls 0 (ActorToken.Seated seat) (omega arith))
ends_restore number d done reaps (ActorToken.InCall held ∷ tokens) others is calls apart away =
    let token : ActorToken = ActorToken.InCall held in
    let call : IsInCall number token = calls 0 token (omega arith) in
    let next : Released = end_one number (record { directory = d; tokens = done; reaps = reaps }) token in
    let left : next.directory ≡ record d { passes = passes_in tokens ++ others } =
    one_end d number held.pass (passes_in tokens) others is call.undrawn call.live (self_actor held.pass.actor)
    (none_in held.pass.actor tokens (λ k other less. rest_apart k other less)) (away 0 token (omega arith)) in
    ap (λ (after : Directory). (end_all number (record { directory = after; tokens = next.tokens; reaps = next.reaps }) tokens).directory) left
    ∙ ends_restore number (record d { passes = passes_in tokens ++ others }) next.tokens next.reaps tokens others refl (λ k other less. calls (suc k) other (omega (arith, less)))
    (λ i j other less within. apart (suc i) (suc j) other (omega (arith, less)) (omega (arith, within))) (λ k other less. away (suc k) other (omega (arith, less)))
  where
    rest_apart : (k : ℕ) (other : ActorToken) → k < length tokens → same_actor held.pass.actor (actor_of (get_or tokens k other)) ≡ false
    rest_apart k other less =
        ap (same_actor held.pass.actor) (sym (get_or-map actor_of tokens k other (actor_of other) less))
        ∙ apart 0 (suc k) (actor_of other) (omega arith) (let count : length (map actor_of tokens) ≡ length tokens = length-map tokens actor_of in omega (arith, less, count))

-- so where the first looks were made, with seats of whose actors there was no pass
pub looks_restored : (number : ℕ) (before mid : Directory) (tokens now : List ActorToken) (n : ℕ) → n ≤ length tokens → mid.passes ≡ passes_in (take n now) ++ before.passes → All (IsInCall number) (take n now)
    → AreApart now → map actor_of now ≡ map actor_of tokens → All (Agrees before) tokens → All (MayGet number) (take n tokens)
    → (end_all number (no_end mid) (take n now)).directory ≡ record mid { passes = before.passes }
looks_restored number before mid tokens now n enough begun calls apart actors agrees may =
    ends_restore number mid [] [] (take n now) before.passes begun calls apart_first away
  where
    apart_first : AreApart (take n now)
    apart_first = subst (AllPairs (λ p q. same_actor p q ≡ false)) (take-map actor_of n now) (pairs_of_take (map actor_of now) apart)
      where
        pairs_of_take : (actors : List Actor) → AllPairs (λ p q. same_actor p q ≡ false) actors → AllPairs (λ p q. same_actor p q ≡ false) (take n actors)
        pairs_of_take actors pairs i j x less within =
            let counted : length (take n actors) ≡ min n (length actors) = length-take n actors in
            let first : j < n = omega (arith, within, counted) in
            let there : j < length actors = omega (arith, within, counted) in
            subst (λ a. same_actor a (get_or (take n actors) j x) ≡ false) (sym (get_or-take n actors i x (omega (arith, less, first))))
            (subst (λ a. same_actor (get_or actors i x) a ≡ false) (sym (get_or-take n actors j x first)) (pairs i j x less there))

    none_for : (token : ActorToken) → Agrees before token → MayGet number token → find (λ (pass : Pass). same_actor (actor_of token) pass.actor) before.passes ≡ None
    none_for (ActorToken.Seated seat) fits gets = fits.no_pass
    none_for (ActorToken.InCall held) fits gets = absurd gets

    away : All (λ token. find (λ (pass : Pass). same_actor (actor_of token) pass.actor) before.passes ≡ None) (take n now)
    away k token within =
        let counts : length now ≡ length tokens = sym (length-map now actor_of) ∙ ap length actors ∙ length-map tokens actor_of in
        let counted : length (take n now) ≡ min n (length now) = length-take n now in
        let first : k < n = omega (arith, within, counted) in
        let here : k < length now = omega (arith, within, counted) in
        let there : k < length tokens = omega (arith, first, enough) in
        let all : length (take n tokens) ≡ min n (length tokens) = length-take n tokens in
        let same : actor_of (get_or tokens k token) ≡ actor_of (get_or (take n now) k token) =
        sym (get_or-map actor_of tokens k token (actor_of token) there) ∙ ap (λ l. get_or l k (actor_of token)) (sym actors) ∙ get_or-map actor_of now k token (actor_of token) here
        ∙ ap actor_of (sym (get_or-take n now k token first)) in
        subst (λ who. find (λ (pass : Pass). same_actor who pass.actor) before.passes ≡ None) same
        (none_for (get_or tokens k token) (agrees k token there) (subst (MayGet number) (get_or-take n tokens k token first) (may k token (omega (arith, first, there, all)))))
