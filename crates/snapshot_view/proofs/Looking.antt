-- One more look.
use Rattle.std.proofs.Common.{◌≡◌, ℕ, ◌+◌, ◌<◌, ◌≤◌, min, List, [], ◌∷◌, ◌++◌, length, map, get_or, slice_set, take, drop, All, refl, sym, ap, subst, ◌∙◌, arith, length-append}
use Rattle.std.proofs.lemmas.List.{append_assoc, map-append, take_more, take_more_set, drop_more, drop-set-lt, get_or-drop, get_or-take, length-take}
use Rattle.std.proofs.lemmas.List.Elements.{All-nil, All-push}
use Rattle.store_core.specs.Agreement.{ActorToken}
use Rattle.store_core.specs.Tokens.{actor_of}
use Rattle.stripe_stamps.specs.Sealed.{Sealed}
use Rattle.snapshot_view.specs.Snapshots.{KeptOf}
use Rattle.snapshot_view.specs.Tickets.{IsInCall, AgreesWithAll, pins_of, passes_in}
use Rattle.snapshot_view.specs.LookSteps.{Looked, look_one, look_all, no_look, IsAsFound, IsSameButCalls, AreLooked, versions_kept}
use Rattle.snapshot_view.proofs.Gets.{same_twice, found_before}
use Rattle.snapshot_view.proofs.Restoring.{passes_more}

-- one element more, read at its place
pub read_more : {X : Type 0} (xs : List X) (i : ℕ) (x : X) → i < length xs → x ≡ get_or xs i x → take (i + 1) xs ≡ take i xs ++ x ∷ []
read_more xs i x below is = take_more xs i x below ∙ ap (λ y. take i xs ++ y ∷ []) (sym is)

-- a look more at the end
pub looks_more : (number : ℕ) (looked : Looked) (tokens : List ActorToken) (names : List (List ℕ)) (token : ActorToken) (name : List ℕ) → length tokens ≡ length names
    → look_all number looked (tokens ++ token ∷ []) (names ++ name ∷ []) ≡ look_one number (look_all number looked tokens names) token name
looks_more number looked [] [] token name e = refl
looks_more number looked [] (n ∷ names) token name e = absurd (omega (arith, e))
looks_more number looked (t ∷ tokens) [] token name e = absurd (omega (arith, e))
looks_more number looked (t ∷ tokens) (n ∷ names) token name e = looks_more number (look_one number looked t n) tokens names token name (omega (arith, e))

-- what is left behind one more
pub drop_one : {X : Type 0} (xs ys : List X) (n : ℕ) (x : X) → n < length xs → n < length ys → drop n xs ≡ drop n ys → drop (n + 1) xs ≡ drop (n + 1) ys
drop_one xs ys n x in_xs in_ys e =
    sym (ap (drop 1) (drop_more xs n x in_xs)) ∙ ap (drop 1) e ∙ ap (drop 1) (drop_more ys n x in_ys)

-- the next one
pub next_same : {X : Type 0} (xs ys : List X) (n : ℕ) (x : X) → drop n xs ≡ drop n ys → get_or xs n x ≡ get_or ys n x
next_same xs ys n x e =
    let none : n + 0 ≡ n = omega arith in
    sym (get_or-drop n xs 0 x ∙ ap (λ k. get_or xs k x) none) ∙ ap (λ l. get_or l 0 x) e ∙ get_or-drop n ys 0 x ∙ ap (λ k. get_or ys k x) none

-- what holds of the first tickets holds of the next one
pub first_has : (P : ActorToken → Type 0) (these tokens : List ActorToken) (count at : ℕ) (token : ActorToken) → at < count → count ≤ length tokens → drop at these ≡ drop at tokens
    → token ≡ get_or these at token → All P (take count tokens) → P token
first_has P these tokens count at token less enough rest is all =
    subst P (get_or-take count tokens at token less ∙ sym (next_same these tokens at token rest) ∙ sym is)
    (all at token (subst (λ n. at < n) (sym (length-take count tokens ∙ least (length tokens) enough)) less))
  where
    least : (n : ℕ) → count ≤ n → min count n ≡ count
    least n h = omega (arith, h)

-- before the first look
pub looked_none : (number : ℕ) (before : Sealed) (tokens : List ActorToken) → AgreesWithAll before.core tokens → AreLooked number before before tokens tokens []
looked_none number before tokens agrees = record {
  looks = refl;
  rest = refl;
  names = refl;
  found = All-nil (IsAsFound before);
  calls = All-nil (IsInCall number);
  pins = refl;
  actors = refl;
  begun = refl;
  agrees = agrees;
  same = refl;
}

module _ (number : ℕ) (before now next : Sealed) (tokens these : List ActorToken) (token after : ActorToken) (name : List ℕ) (kept : List KeptOf) (one : KeptOf)
    (looked : AreLooked number before now tokens these kept) (same_length : length these ≡ length tokens) (here : length kept < length these) (is : token ≡ get_or these (length kept) token)
    (named : length kept < length (map (λ object. object.name) before.core.objects)) (is_name : name ≡ get_or (map (λ object. object.name) before.core.objects) (length kept) name)
    (its_name : one.name ≡ name) where
  abbrev names : List (List ℕ)
  names = map (λ object. object.name) before.core.objects

  abbrev n : ℕ
  n = length kept

  -- one more is kept
  count : length (kept ++ one ∷ []) ≡ n + 1
  count = length-append kept (one ∷ [])

  there : n < length tokens
  there = subst (λ k. n < k) same_length here

  -- by the tickets at the beginning
  first : take (n + 1) tokens ≡ take n tokens ++ token ∷ []
  first = take_more tokens n token there ∙ ap (λ t. take n tokens ++ t ∷ []) (sym (is ∙ next_same these tokens n token looked.rest))

  second : take (n + 1) names ≡ take n names ++ name ∷ []
  second = take_more names n name named ∙ ap (λ x. take n names ++ x ∷ []) (sym is_name)

  counted : length (take n tokens) ≡ length (take n names)
  counted = length-take n tokens ∙ same n (length tokens) (length names) there named ∙ sym (length-take n names)
    where
      same : (n a b : ℕ) → n < a → n < b → min n a ≡ min n b
      same n a b h k = omega (arith, h, k)

  these_now : take (n + 1) (slice_set these n after) ≡ take n these ++ after ∷ []
  these_now = take_more_set these n after here

  looks_now : record { directory = next.core; tokens = after ∷ [] } ≡ look_one number (no_look now.core) token name
      → record { directory = next.core; tokens = take (n + 1) (slice_set these n after) } ≡ look_all number (no_look before.core) (take (n + 1) tokens) (take (n + 1) names)
  looks_now look =
      ap (λ (l : List ActorToken). record { directory = next.core; tokens = l }) these_now
      ∙ ap (λ (l : Looked). record { directory = l.directory; tokens = take n these ++ l.tokens }) look
      ∙ ap (λ (l : Looked). look_one number l token name) looked.looks
      ∙ sym (looks_more number (no_look before.core) (take n tokens) (take n names) token name counted)
      ∙ (λ i. look_all number (no_look before.core) (sym first i) (sym second i))

  pub looked_more : record { directory = next.core; tokens = after ∷ [] } ≡ look_one number (no_look now.core) token name → IsAsFound now one → IsInCall number after → pins_of after ≡ versions_kept one
      → next.core.passes ≡ passes_in (after ∷ []) ++ now.core.passes → map actor_of (slice_set these n after) ≡ map actor_of these
      → AgreesWithAll next.core (slice_set these n after) → IsSameButCalls now next → AreLooked number before next tokens (slice_set these n after) (kept ++ one ∷ [])
  looked_more look found call pin begun actors agrees same = record {
    looks = subst (λ k. record { directory = next.core; tokens = take k (slice_set these n after) } ≡ look_all number (no_look before.core) (take k tokens) (take k names)) (sym count) (looks_now look);
    rest = subst (λ k. drop k (slice_set these n after) ≡ drop k tokens) (sym count) (drop-set-lt (n + 1) these n after (omega arith) ∙ drop_one these tokens n token here there looked.rest);
    names = map-append (λ (k : KeptOf). k.name) kept (one ∷ []) ∙ (λ i. looked.names i ++ (its_name i) ∷ []) ∙ sym second ∙ ap (λ k. take k names) (sym count);
    found = All-push (IsAsFound before) kept one looked.found (found_before before now one looked.same found);
    calls = subst (λ k. All (IsInCall number) (take k (slice_set these n after))) (sym count) (subst (All (IsInCall number)) (sym these_now) (All-push (IsInCall number) (take n these) after looked.calls call));
    pins = subst (λ k. map pins_of (take k (slice_set these n after)) ≡ map versions_kept (kept ++ one ∷ [])) (sym count)
        (ap (map pins_of) these_now ∙ map-append pins_of (take n these) (after ∷ []) ∙ (λ i. looked.pins i ++ pin i ∷ []) ∙ sym (map-append versions_kept kept (one ∷ [])));
    actors = actors ∙ looked.actors;
    begun =
        begun ∙ ap (λ ps. passes_in (after ∷ []) ++ ps) looked.begun ∙ sym (append_assoc (passes_in (after ∷ [])) (passes_in (take n these)) before.core.passes)
        ∙ ap (λ ps. ps ++ before.core.passes) (sym (passes_more (take n these) after) ∙ ap passes_in (sym these_now) ∙ ap (λ k. passes_in (take k (slice_set these n after))) (sym count));
    agrees = agrees;
    same = same_twice before now next looked.same same;
  }
