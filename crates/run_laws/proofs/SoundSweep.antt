-- The sweeper's steps keep a directory sound.
use Rattle.std.proofs.Common.{◌≡◌, ◌⊎◌, ℕ, zero, suc, ◌+◌, ◌<◌, nat_eq, Bool, true, false, not, ◌&&◌, List, [], ◌∷◌, length, find, slice_get, Option, None, Some, option_map, Contains, IsTrue, refl, sym, ap, subst, ◌∙◌, inl, inr, arith, zero-add}
use Rattle.std.proofs.lemmas.Bool.{true≢false, false≢true, cases_eq, and_parts, or_parts, not-true, eq-eqb}
use Rattle.std.proofs.lemmas.Option.{same_Some, none-some}
use Rattle.std.specs.List.{enumerate_from, list_any}
use Rattle.store_core.specs.Lists.{change_at, is_among}
use Rattle.store_core.specs.Directory.{Standing, Version, Pin, Pass, Directory}
use Rattle.store_core.specs.Lookups.{is_live, is_pinned, is_current_standing, is_superseded_standing, first_garbage}
use Rattle.store_core.specs.Look.{set_standing}
use Rattle.store_core.specs.AtDirectory.{take_garbage, swept_standing}
use Rattle.store_core.specs.SoundPasses.{Stands}
use Rattle.store_core.specs.Sound.{IsSound}
use Rattle.store_core.proofs.Places.{length-change_at, length-set_standing, slice_get-change_at}
use Rattle.run_laws.proofs.SoundLists.{at_contains, is_in, found_at}
use Rattle.run_laws.proofs.SoundVersions.{StandsIn, StandsThere, stands_there, stands_at, standing_of, given, set_at, change_here}
use Rattle.run_laws.proofs.SoundParts.{Moves, Before, there_is, other_versions}
use Rattle.run_laws.proofs.SoundClose.{drawn_is_not_superseded, superseded_is_not_current, set_current, current_before_set}

-- ---- what is searched
-- where no element passes, none at a place does
any_at : {X : Type 0} (test : X → Bool) (xs : List X) (i : ℕ) (x : X) → list_any test xs ≡ false → slice_get xs i ≡ Some x → test x ≡ false
any_at test [] i x none e = absurd (none-some x e)
any_at test (y ∷ ys) zero x none e = subst (λ z. test z ≡ false) (same_Some y x e) (or_parts (test y) (list_any test ys) none).0
any_at test (y ∷ ys) (suc i) x none e = any_at test ys i x (or_parts (test y) (list_any test ys) none).1 e

-- nor does an element
any_in : {X : Type 0} (test : X → Bool) (xs : List X) (x : X) → list_any test xs ≡ false → Contains xs x → test x ≡ false
any_in test xs x none c = any_at test xs (at_contains xs x c).0 x none (at_contains xs x c).1

-- a numbered element stands at its number
counted_at : {X : Type 0} (start : ℕ) (xs : List X) (i : ℕ) (entry : ℕ × X) → slice_get (enumerate_from start xs) i ≡ Some entry → (entry.0 ≡ start + i) × (slice_get xs i ≡ Some entry.1)
counted_at start [] i entry e = absurd (none-some entry e)
counted_at {X} start (x ∷ xs) zero entry e =
    let same : (start, x) ≡ entry = same_Some {A = ℕ × X} (start, x) entry e in
    let first : start ≡ entry.0 = ap (λ (p : ℕ × X). p.0) same in
    (omega (arith, first), ap (λ (p : ℕ × X). Some p.1) same)
counted_at start (x ∷ xs) (suc i) entry e =
    let rest : (entry.0 ≡ start + 1 + i) × (slice_get xs i ≡ Some entry.1) = counted_at (start + 1) xs i entry e in
    let place : entry.0 ≡ start + 1 + i = rest.0 in
    (omega (arith, place), rest.1)

-- the test says that it is superseded
superseded_is : (standing : Standing) → is_superseded_standing standing ≡ true → standing ≡ Standing.Superseded
superseded_is Standing.Superseded e = refl
superseded_is Standing.Drawn e = absurd (false≢true e)
superseded_is Standing.Current e = absurd (false≢true e)
superseded_is Standing.Taken e = absurd (false≢true e)
superseded_is Standing.Swept e = absurd (false≢true e)

-- ---- garbage
record IsGarbage (d : Directory) (number : ℕ) : Type 0 where
  stands : Stands d Standing.Superseded number
  free : is_pinned d number ≡ false

-- what is found is such a version
garbage : (d : Directory) (number : ℕ) → first_garbage d ≡ Some number → IsGarbage d number
garbage d number e = by (find test (enumerate_from 0 d.versions)) refl e
  where
    test : ℕ × Version → Bool
    test entry = is_superseded_standing entry.1.standing && not (is_pinned d entry.0)

    by : (found : Option (ℕ × Version)) → find test (enumerate_from 0 d.versions) ≡ found → option_map (λ entry. entry.0) found ≡ Some number → IsGarbage d number
    by None f g = absurd (none-some number g)
    by (Some entry) f g = record { stands = stands_at d.versions Standing.Superseded number entry.1 here (superseded_is entry.1.standing passes.0); free = ap (is_pinned d) (sym same) ∙ not-true (is_pinned d entry.0) passes.1 }
      where
        there : (i : ℕ) × (slice_get (enumerate_from 0 d.versions) i ≡ Some entry) × (test entry ≡ true)
        there = found_at test (enumerate_from 0 d.versions) entry f

        place : (entry.0 ≡ 0 + there.0) × (slice_get d.versions there.0 ≡ Some entry.1)
        place = counted_at 0 d.versions there.0 entry there.1

        same : entry.0 ≡ number
        same = same_Some entry.0 number g

        here : slice_get d.versions number ≡ Some entry.1
        here = ap (slice_get d.versions) (sym same ∙ place.0 ∙ zero-add there.0) ∙ place.1

        passes : (is_superseded_standing entry.1.standing ≡ true) × (not (is_pinned d entry.0) ≡ true)
        passes = and_parts (is_superseded_standing entry.1.standing) (not (is_pinned d entry.0)) there.2

-- a taken version isn't current
taken_is_not_current : Standing.Taken ≡ Standing.Current → ⊥
taken_is_not_current e = false≢true (ap is_current_standing e)

-- nor a drawn one
taken_is_not_drawn : Standing.Taken ≡ Standing.Drawn → ⊥
taken_is_not_drawn e = cc

module _ (d : Directory) (sound : IsSound d) (number : ℕ) (is : IsGarbage d number) where
  -- it is the one that is taken
  the_one : (n : ℕ) → is_among n (number ∷ []) ≡ true → n ≡ number
  the_one n e = same_element (is_in n (number ∷ []) e)
    where
      same_element : Contains (number ∷ []) n → n ≡ number
      same_element c = by (at_contains (number ∷ []) n c).0 (at_contains (number ∷ []) n c).1
        where
          by : (i : ℕ) → slice_get (number ∷ []) i ≡ Some n → n ≡ number
          by zero f = sym (same_Some number n f)
          by (suc i) f = absurd (none-some n f)

  -- how a version moves, which no live pass pins
  taken_moves : (n : ℕ) (version : Version) (b : Bool) → is_among n (number ∷ []) ≡ b → slice_get d.versions n ≡ Some version → Moves d n version (given Standing.Taken b version)
  taken_moves n version false e found = record { pinned = λ _ _ _ _ _ _ h. h; drawn = λ _ _ _ _ h. h; placed = λ h. h; whole = λ h. h }
  taken_moves n version true e found =
      record {
        pinned = λ pass pin has live pins here _.
            let free : (IsTrue (is_live pass.reaped) → ⊥) ⊎ (nat_eq number pin.version ≡ false) = unpinned pass pin has pins in
            absurd (not_free live (here ∙ the_one n e) free);
        drawn = λ _ _ _ _ drawn. absurd (drawn_is_not_superseded version.standing drawn (subst (λ m. slice_get d.versions m ≡ Some version → version.standing ≡ Standing.Superseded) (sym (the_one n e)) (standing_of d.versions Standing.Superseded number version is.stands) found));
        placed = λ h. record { row_or_none = h.row_or_none; current = λ c. absurd (taken_is_not_current c); drawn = λ c. absurd (taken_is_not_drawn c) };
        whole = λ h. h;
      }
    where
      pin_test : Pin → Bool
      pin_test pin = nat_eq number pin.version

      unpinned : (pass : Pass) (pin : Pin) → Contains d.passes pass → Contains pass.pinned pin → (IsTrue (is_live pass.reaped) → ⊥) ⊎ (nat_eq number pin.version ≡ false)
      unpinned pass pin has pins = by (is_live pass.reaped) refl
        where
          here : (is_live pass.reaped && list_any pin_test pass.pinned) ≡ false
          here = any_in (λ (p : Pass). is_live p.reaped && list_any pin_test p.pinned) d.passes pass is.free has

          by : (b : Bool) → is_live pass.reaped ≡ b → (IsTrue (is_live pass.reaped) → ⊥) ⊎ (nat_eq number pin.version ≡ false)
          by false f = inl (λ live. true≢false (sym live ∙ f))
          by true f = inr (any_in pin_test pass.pinned pin (sym (ap (λ b. b && list_any pin_test pass.pinned) f) ∙ here) pins)

      not_free : {live : Type 0} {m : ℕ} → live → m ≡ number → (live → ⊥) ⊎ (nat_eq number m ≡ false) → ⊥
      not_free live same (inl dead) = dead live
      not_free {live = l} {m = m} live same (inr differs) = true≢false (sym (eq-eqb number m (sym same)) ∙ differs)

  -- it was not current
  none_current : (n : ℕ) → Contains (number ∷ []) n → StandsIn d.versions Standing.Current n → ⊥
  none_current n c h = by (at_contains (number ∷ []) n c).0 (at_contains (number ∷ []) n c).1
    where
      on : n ≡ number → ⊥
      on same =
          let there : StandsThere d.versions Standing.Current n = stands_there d.versions Standing.Current n h in
          superseded_is_not_current there.version.standing (standing_of d.versions Standing.Superseded number there.version is.stands (ap (slice_get d.versions) (sym same) ∙ there.found)) there.stands

      by : (i : ℕ) → slice_get (number ∷ []) i ≡ Some n → ⊥
      by zero e = on (sym (same_Some number n e))
      by (suc i) e = none-some n e

  -- the directory stays sound
  taken_sound : IsSound (record d { versions = set_standing Standing.Taken (number ∷ []) d.versions })
  taken_sound =
      other_versions d (set_standing Standing.Taken (number ∷ []) d.versions) sound
      (record {
        count = length-set_standing Standing.Taken (number ∷ []) d.versions;
        each = λ n before e. record {
          after = given Standing.Taken (is_among n (number ∷ [])) before;
          found = set_at Standing.Taken (number ∷ []) d.versions n before e;
          moves = taken_moves n before (is_among n (number ∷ [])) refl e;
        };
      })
      (set_current d.versions Standing.Taken taken_is_not_current (number ∷ []) none_current)
      (current_before_set d.versions Standing.Taken taken_is_not_current (number ∷ []) none_current)

-- where there is garbage or none
pub next_garbage_sound : (d : Directory) → IsSound d → IsSound (take_garbage (first_garbage d) d).0
next_garbage_sound d sound = by (first_garbage d) refl
  where
    by : (found : Option ℕ) → first_garbage d ≡ found → IsSound (take_garbage found d).0
    by None e = sound
    by (Some number) e = taken_sound d sound number (garbage d number e)

-- ---- a version is swept
-- what becomes of a version
abbrev sweep : Version → Version
sweep version = record version { standing = swept_standing version.standing }

-- a standing that is kept
swept_stays : (standing kept : Standing) → standing ≡ kept → swept_standing kept ≡ kept → swept_standing standing ≡ kept
swept_stays standing kept e same = ap swept_standing e ∙ same

-- none becomes current
swept_current : (standing : Standing) → swept_standing standing ≡ Standing.Current → standing ≡ Standing.Current
swept_current Standing.Taken e = absurd (false≢true (ap is_current_standing e))
swept_current standing e = e

-- nor is one drawn anew
swept_drawn : (standing : Standing) → swept_standing standing ≡ Standing.Drawn → standing ≡ Standing.Drawn
swept_drawn Standing.Taken e = absurd (cc)
swept_drawn standing e = e

module _ (d : Directory) (sound : IsSound d) (number : ℕ) where
  -- the versions after
  abbrev swept_versions : List Version
  swept_versions = change_at number sweep d.versions

  -- how one version moves
  record SweptThere (n : ℕ) (before : Version) : Type 0 where
    after : Version
    found : slice_get swept_versions n ≡ Some after
    moves : Moves d n before after
    on : before.standing ≡ Standing.Current → after.standing ≡ Standing.Current
    back : after.standing ≡ Standing.Current → before.standing ≡ Standing.Current

  -- each moves so
  swept_at : (n : ℕ) (before : Version) → slice_get d.versions n ≡ Some before → SweptThere n before
  swept_at n before e = by (cases_eq n number)
    where
      stands : (before.standing ≡ Standing.Current) ⊎ (before.standing ≡ Standing.Superseded) → (swept_standing before.standing ≡ Standing.Current) ⊎ (swept_standing before.standing ≡ Standing.Superseded)
      stands (inl h) = inl (swept_stays before.standing Standing.Current h refl)
      stands (inr h) = inr (swept_stays before.standing Standing.Superseded h refl)

      by : (n ≡ number) ⊎ (n ≡ number → ⊥) → SweptThere n before
      by (inl same) =
          record {
            after = sweep before;
            found = subst (λ i. slice_get (change_at i sweep d.versions) n ≡ Some (sweep before)) same (change_here n sweep d.versions before e);
            moves = record {
              pinned = λ _ _ _ _ _ _ h. stands h;
              drawn = λ _ _ _ _ h. swept_stays before.standing Standing.Drawn h refl;
              placed = λ h. record { row_or_none = h.row_or_none; current = λ c. h.current (swept_current before.standing c); drawn = λ c. h.drawn (swept_drawn before.standing c) };
              whole = λ h. h;
            };
            on = λ h. swept_stays before.standing Standing.Current h refl;
            back = swept_current before.standing;
          }
      by (inr apart) =
          record {
            after = before;
            found = slice_get-change_at number n sweep d.versions apart ∙ e;
            moves = record { pinned = λ _ _ _ _ _ _ h. h; drawn = λ _ _ _ _ h. h; placed = λ h. h; whole = λ h. h };
            on = λ h. h;
            back = λ h. h;
          }

  -- the directory stays sound
  pub swept_sound : IsSound (record d { versions = change_at number (λ entry. record entry { standing = swept_standing entry.standing }) d.versions })
  swept_sound =
      other_versions d swept_versions sound
      (record {
        count = length-change_at number sweep d.versions;
        each = λ n before e. record { after = (swept_at n before e).after; found = (swept_at n before e).found; moves = (swept_at n before e).moves };
      })
      (λ n h.
      let old : StandsThere d.versions Standing.Current n = stands_there d.versions Standing.Current n h in
      let new : SweptThere n old.version = swept_at n old.version old.found in
      stands_at swept_versions Standing.Current n new.after new.found (new.on old.stands))
      (λ n h.
      let less : n < length swept_versions = h.1 in
      let same : length swept_versions ≡ length d.versions = length-change_at number sweep d.versions in
      let old : Before d.versions n = there_is d.versions n (omega (arith, less, same)) in
      let new : SweptThere n old.version = swept_at n old.version old.found in
      stands_at d.versions Standing.Current n old.version old.found (new.back (standing_of swept_versions Standing.Current n new.after h new.found)))
