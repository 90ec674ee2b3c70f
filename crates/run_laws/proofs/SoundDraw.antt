-- A draw keeps a directory sound.
use Rattle.std.proofs.Common.{◌≡◌, ◌≢◌, ◌⊎◌, ℕ, zero, suc, ◌+◌, ◌<◌, ◌≤◌, Bool, true, false, cond, List, [], ◌∷◌, ◌++◌, length, get_or, map, slice_get, Option, Some, IfSome, All, AllPairs, Contains, IsFalse, refl, sym, ap, subst, subst₂, ◌∙◌, ◌-◌, inl, inr, arith, length-append}
use Rattle.std.proofs.lemmas.Bool.{true≢false, false≢true, cond_both, false_from_ne_true, cases_lt}
use Rattle.std.proofs.lemmas.Option.{same_Some, none-some}
use Rattle.std.proofs.lemmas.List.{length-map}
use Rattle.std.proofs.lemmas.List.FromFn.{length-range_with_len, get_or-range_with_len}
use Rattle.std.proofs.lemmas.List.Elements.{All-weaker, All-map, All-append, All-contains, Contains-get_or}
use Rattle.std.specs.List.{range_with_len}
use Rattle.store_map.specs.declared.actor.Actor.{Actor}
use Rattle.store_core.specs.Placements.{IsRow}
use Rattle.store_core.specs.Lists.{is_among}
use Rattle.store_core.specs.Note.{Kind}
use Rattle.store_core.specs.Directory.{Standing, Version, Pin, Pass, Directory}
use Rattle.store_core.specs.Lookups.{same_actor, pass_of, is_current_standing}
use Rattle.store_core.specs.PassSteps.{touched, new_version, draw}
use Rattle.store_core.specs.AtDirectory.{on_pass}
use Rattle.store_core.specs.SoundPasses.{Stands, IsRight, HasVersions, IsOfItsCall}
use Rattle.store_core.specs.Sound.{HasItsVersions, IsPlaced, IsSound}
use Rattle.store_core.specs.Conditions.{IsWriting}
use Rattle.run_laws.proofs.SoundLists.{all_by, at_all, pairs_map, is_in}
use Rattle.run_laws.proofs.SoundVersions.{StandsThere, stands_there, stands_at}
use Rattle.run_laws.proofs.SoundParts.{LiveThere, RightThere, PinsPlaced, other_passes, Before, there_is}
use Rattle.run_laws.proofs.SoundClose.{IsHeld, one_pass}
use Rattle.run_laws.proofs.SoundEnd.{on_pass_sound}

-- ---- places in a longer list
-- what stood in the first list
pub got_left : {X : Type 0} (xs ys : List X) (i : ℕ) (x : X) → slice_get xs i ≡ Some x → slice_get (xs ++ ys) i ≡ Some x
got_left [] ys i x e = absurd (none-some x e)
got_left (y ∷ xs) ys zero x e = e
got_left (y ∷ xs) ys (suc i) x e = got_left xs ys i x e

-- what stands in the second
got_right : {X : Type 0} (xs ys : List X) (i : ℕ) → slice_get (xs ++ ys) (length xs + i) ≡ slice_get ys i
got_right [] ys i = ap (slice_get ys) (let e : 0 + i ≡ i = omega arith in e)
got_right (x ∷ xs) ys i =
    let e : suc (length xs) + i ≡ suc (length xs + i) = omega arith in
    ap (slice_get (x ∷ xs ++ ys)) e ∙ got_right xs ys i

-- ---- new versions that are drawn and placed nowhere yet
module _ (d : Directory) (sound : IsSound d) (news : List Version) (fresh : All (λ version. (version.standing ≡ Standing.Drawn) × (version.placed ≡ [])) news) where
  -- the directory with them
  abbrev grown : Directory
  grown = record d { versions = d.versions ++ news }

  -- the count of versions after
  longer : length (d.versions ++ news) ≡ length d.versions + length news
  longer = length-append d.versions news

  -- a standing stays
  grown_stands : (standing : Standing) (n : ℕ) → Stands d standing n → Stands grown standing n
  grown_stands standing n h =
      let old : StandsThere d.versions standing n = stands_there d.versions standing n h in
      stands_at (d.versions ++ news) standing n old.version (got_left d.versions news n old.version old.found) old.stands

  -- what stands as current stood so
  current_before : (n : ℕ) → Stands grown Standing.Current n → Stands d Standing.Current n
  current_before n h = by (cases_lt n (length d.versions))
    where
      there : StandsThere (d.versions ++ news) Standing.Current n
      there = stands_there (d.versions ++ news) Standing.Current n h

      by : (n < length d.versions) ⊎ (length d.versions ≤ n) → Stands d Standing.Current n
      by (inl less) =
          let old : Before d.versions n = there_is d.versions n less in
          let same : there.version ≡ old.version = same_Some there.version old.version (sym there.found ∙ got_left d.versions news n old.version old.found) in
          stands_at d.versions Standing.Current n old.version old.found (subst (λ (v : Version). v.standing ≡ Standing.Current) same there.stands)
      by (inr more) =
          let place : length d.versions + (n - length d.versions) ≡ n = omega (arith, more) in
          let found : slice_get news (n - length d.versions) ≡ Some there.version = sym (got_right d.versions news (n - length d.versions)) ∙ ap (slice_get (d.versions ++ news)) place ∙ there.found in
          let drawn : (there.version.standing ≡ Standing.Drawn) × (there.version.placed ≡ []) = at_all (λ (v : Version). (v.standing ≡ Standing.Drawn) × (v.placed ≡ [])) news (n - length d.versions) there.version fresh found in
          absurd (false≢true (ap is_current_standing (sym drawn.0 ∙ there.stands)))

  -- each pass stays right
  grown_right : (pass : Pass) (kind : Kind) → IsRight d pass kind → IsRight grown pass kind
  grown_right pass Kind.Put h = h
  grown_right pass Kind.Write h = record { base = h.base; is_base = h.is_base; within = h.within; allowed = h.allowed }
  grown_right pass _ h = h

  -- and each live one
  grown_live : (pass : Pass) → LiveThere d pass → LiveThere grown pass
  grown_live pass h live =
      record {
        pins = All-weaker (λ (pin : Pin). Stands d Standing.Current pin.version ⊎ Stands d Standing.Superseded pin.version) (λ (pin : Pin). Stands grown Standing.Current pin.version ⊎ Stands grown Standing.Superseded pin.version)
            (λ pin. either pin.version) pass.pinned (h live).pins;
        drawn = All-weaker (Stands d Standing.Drawn) (Stands grown Standing.Drawn) (grown_stands Standing.Drawn) pass.drawn (h live).drawn;
        differ = (h live).differ;
        all_drawn = (h live).all_drawn;
        current = (h live).current;
      }
    where
      either : (n : ℕ) → Stands d Standing.Current n ⊎ Stands d Standing.Superseded n → Stands grown Standing.Current n ⊎ Stands grown Standing.Superseded n
      either n (inl s) = inl (grown_stands Standing.Current n s)
      either n (inr s) = inr (grown_stands Standing.Superseded n s)

  -- the pins keep their epochs
  grown_pins : (pass : Pass) → HasVersions d pass → PinsPlaced d pass → PinsPlaced grown pass
  grown_pins pass has placed =
      all_by (λ (pin : Pin). IfSome (slice_get (d.versions ++ news) pin.version) (λ version. IsRow d.shape version.placed)) pass.pinned
      (λ pin c.
      let old : Before d.versions pin.version = there_is d.versions pin.version (All-contains (λ (p : Pin). p.version < length d.versions) pass.pinned pin has.pinned c) in
      let whole : IfSome (slice_get d.versions pin.version) (λ version. IsRow d.shape version.placed) =
      All-contains (λ (p : Pin). IfSome (slice_get d.versions p.version) (λ version. IsRow d.shape version.placed)) pass.pinned pin placed c in
      subst (λ (o : Option Version). IfSome o (λ version. IsRow d.shape version.placed)) (old.found ∙ sym (got_left d.versions news pin.version old.version old.found)) whole)

  -- a place stays a place
  less_still : (n : ℕ) → n < length d.versions → n < length (d.versions ++ news)
  less_still n h = let e : length (d.versions ++ news) ≡ length d.versions + length news = longer in omega (arith, h, e)

  -- what a pass pins and drew are still versions
  grown_has : (pass : Pass) → HasVersions d pass → HasVersions grown pass
  grown_has pass h =
      record {
        pinned = All-weaker (λ (pin : Pin). pin.version < length d.versions) (λ (pin : Pin). pin.version < length (d.versions ++ news)) (λ pin. less_still pin.version) pass.pinned h.pinned;
        drawn = All-weaker (λ (n : ℕ). n < length d.versions) (λ (n : ℕ). n < length (d.versions ++ news)) less_still pass.drawn h.drawn;
      }

  -- the directory stays sound
  pub grown_sound : IsSound grown
  grown_sound =
      record {
        history = sound.history;
        objects = All-weaker (HasItsVersions d) (HasItsVersions grown)
            (λ object h. record { count = h.count; current = All-weaker (Stands d Standing.Current) (Stands grown Standing.Current) (grown_stands Standing.Current) object.versions h.current }) d.objects sound.objects;
        once = sound.once;
        points = sound.points;
        passes = sound.passes;
        live = All-weaker (LiveThere d) (LiveThere grown) grown_live d.passes sound.live;
        calls = All-weaker (RightThere d) (RightThere grown) (λ pass. grown_right pass pass.note.kind) d.passes sound.calls;
        newest = sound.newest;
        apart = sound.apart;
        listed = λ number h. sound.listed number (current_before number h);
        placed = All-append (IsPlaced grown) d.versions news
            (All-weaker (IsPlaced d) (IsPlaced grown) (λ version h. record { row_or_none = h.row_or_none; current = h.current; drawn = h.drawn }) d.versions sound.placed)
            (All-weaker (λ (v : Version). (v.standing ≡ Standing.Drawn) × (v.placed ≡ [])) (IsPlaced grown)
            (λ version h. record { row_or_none = inl h.1; current = λ c. absurd (false≢true (ap is_current_standing (sym h.0 ∙ c))); drawn = λ _. h.1 }) news fresh);
        pinned_placed = all_by (PinsPlaced grown) d.passes
            (λ pass has. grown_pins pass (All-contains (HasVersions d) d.passes pass sound.versions has) (All-contains (PinsPlaced d) d.passes pass sound.pinned_placed has));
        versions = All-weaker (HasVersions d) (HasVersions grown) grown_has d.passes sound.versions;
      }

-- ---- the pass that draws
-- whether a call draws versions
is_writing : Kind → Bool
is_writing Kind.Put = true
is_writing Kind.Write = true
is_writing _ = false

-- other kinds draw none
not_writing : (kind : Kind) → is_writing kind ≡ false → (kind ≡ Kind.Put) ⊎ (kind ≡ Kind.Write) → ⊥
unfolding is_writing
not_writing kind none (inl e) = false≢true (sym none ∙ ap is_writing e)
not_writing kind none (inr e) = false≢true (sym none ∙ ap is_writing e)

-- a pass that draws stays right
right_drawn : (d : Directory) (drawn : List ℕ) (pass : Pass) (kind : Kind) → (kind ≡ Kind.Put) ⊎ (kind ≡ Kind.Write) → IsRight d pass kind → IsRight d (record pass { drawn = drawn }) kind
unfolding is_writing
right_drawn d drawn pass Kind.Put writes h = h
right_drawn d drawn pass Kind.Write writes h = record { base = h.base; is_base = h.is_base; within = h.within; allowed = h.allowed }
right_drawn d drawn pass Kind.Get writes h = absurd (not_writing Kind.Get refl writes)
right_drawn d drawn pass Kind.ReadAt writes h = absurd (not_writing Kind.ReadAt refl writes)
right_drawn d drawn pass Kind.Stat writes h = absurd (not_writing Kind.Stat refl writes)
right_drawn d drawn pass Kind.Delete writes h = absurd (not_writing Kind.Delete refl writes)
right_drawn d drawn pass Kind.Rebuild writes h = absurd (not_writing Kind.Rebuild refl writes)

-- a number of a range
record InRange (start count number : ℕ) : Type 0 where
  place : ℕ
  within : place < count
  is : number ≡ start + place

-- an element of a range is one
in_range : (start count number : ℕ) → Contains (range_with_len start count) number → InRange start count number
in_range start count number c =
    let less : c.0 < length (range_with_len start count) = c.1 in
    let same : length (range_with_len start count) ≡ count = length-range_with_len start count in
    let within : c.0 < count = omega (arith, less, same) in
    record { place = c.0; within = within; is = sym c.2 ∙ get_or-range_with_len start count c.0 number within }

-- all numbers of a range differ
ranges_differ : (start count : ℕ) → AllPairs (λ v w. v ≢ w) (range_with_len start count)
ranges_differ start count = λ i j d less within e.
    let same : length (range_with_len start count) ≡ count = length-range_with_len start count in
    let second : j < count = omega (arith, within, same) in
    let first : i < count = omega (arith, less, second) in
    let places : start + i ≡ start + j = sym (get_or-range_with_len start count i d first) ∙ e ∙ get_or-range_with_len start count j d second in
    omega (arith, places, less)

module _ (d : Directory) (sound : IsSound d) (pass : Pass) (held : IsHeld d pass) (writes : (pass.note.kind ≡ Kind.Put) ⊎ (pass.note.kind ≡ Kind.Write)) where
  -- how many versions are drawn
  abbrev count : ℕ
  count = length (touched d pass.note)

  -- their numbers
  abbrev drawn : List ℕ
  drawn = range_with_len (length d.versions) count

  -- the versions
  abbrev news : List Version
  news = map (new_version pass) (touched d pass.note)

  -- the pass then
  abbrev draws : Pass → Pass
  draws other = cond (same_actor pass.actor other.actor) (record other { drawn = drawn }) other

  -- a pass draws, or is of another actor
  draws_both : (P : Pass → Type 0) (other : Pass) → (same_actor pass.actor other.actor ≡ true → P (record other { drawn = drawn })) → (same_actor pass.actor other.actor ≡ false → P other) → P (draws other)
  draws_both P other = cond_both {A = Pass} (same_actor pass.actor other.actor) (record other { drawn = drawn }) other P

  -- the new versions are drawn, and placed nowhere
  fresh : All (λ (version : Version). (version.standing ≡ Standing.Drawn) × (version.placed ≡ [])) news
  fresh = All-map (λ (version : Version). (version.standing ≡ Standing.Drawn) × (version.placed ≡ [])) (new_version pass) (touched d pass.note) (λ k n less. (refl, refl))

  -- the directory with the new versions
  abbrev after_draw : Directory
  after_draw = record d { versions = d.versions ++ news }

  -- it is sound
  sound_grown : IsSound after_draw
  sound_grown = grown_sound d sound news fresh

  -- one version for each number
  many : length news ≡ count
  many = length-map (touched d pass.note) (new_version pass)

  -- each number has a drawn version
  drawn_stand : All (Stands after_draw Standing.Drawn) drawn
  drawn_stand =
      all_by (Stands after_draw Standing.Drawn) drawn
      (λ number c.
      let at : InRange (length d.versions) count number = in_range (length d.versions) count number c in
      let less : at.place < count = at.within in
      let same : length news ≡ count = many in
      let new : Before news at.place = there_is news at.place (omega (arith, less, same)) in
      let right : (new.version.standing ≡ Standing.Drawn) × (new.version.placed ≡ []) = at_all (λ (v : Version). (v.standing ≡ Standing.Drawn) × (v.placed ≡ [])) news at.place new.version fresh new.found in
      stands_at (d.versions ++ news) Standing.Drawn number new.version (ap (slice_get (d.versions ++ news)) at.is ∙ got_right d.versions news at.place ∙ new.found) right.0)

  -- each number is a place
  drawn_below : All (λ (n : ℕ). n < length (d.versions ++ news)) drawn
  drawn_below = All-weaker (Stands after_draw Standing.Drawn) (λ (n : ℕ). n < length (d.versions ++ news)) (λ n h. h.1) drawn drawn_stand

  -- no other pass drew one of them
  not_drawn : (other : Pass) → Contains d.passes other → (n : ℕ) → Contains other.drawn n → Contains drawn n → ⊥
  not_drawn other has n theirs mine =
      let below : n < length d.versions = All-contains (λ (m : ℕ). m < length d.versions) other.drawn n (All-contains (HasVersions d) d.passes other sound.versions has).drawn theirs in
      let at : InRange (length d.versions) count n = in_range (length d.versions) count n mine in
      let place : n ≡ length d.versions + at.place = at.is in
      omega (arith, below, place)

  -- each live pass is right after the draw
  live_drawn : (other : Pass) → Contains d.passes other → LiveThere after_draw other → LiveThere after_draw (draws other)
  live_drawn other has h =
      draws_both (LiveThere after_draw) other
      (λ same live.
      let e : pass ≡ other = one_pass d sound pass other held has same in
      record {
        pins = (h live).pins;
        drawn = drawn_stand;
        differ = ranges_differ (length d.versions) count;
        all_drawn = inr (length-range_with_len (length d.versions) count ∙ ap (λ (p : Pass). length (touched d p.note)) e);
        current = (h live).current;
      })
      (λ _. h)

  -- so is each pass
  right_there : (other : Pass) → Contains d.passes other → RightThere after_draw other → RightThere after_draw (draws other)
  right_there other has h =
      draws_both (RightThere after_draw) other
      (λ same.
      right_drawn after_draw drawn other other.note.kind
      (subst (λ (p : Pass). (p.note.kind ≡ Kind.Put) ⊎ (p.note.kind ≡ Kind.Write)) (one_pass d sound pass other held has same) writes) h)
      (λ _. h)

  -- of an actor's one pass and another, at most one draws
  abbrev Apart : Pass → Pass → Type 0
  Apart p q = All (λ version. IsFalse (is_among version q.drawn)) p.drawn

  -- of two actors, and apart
  abbrev Both : Pass → Pass → Type 0
  Both p q = IsFalse (same_actor p.actor q.actor) × Apart p q

  -- two passes are apart after the draw too
  apart_drawn : (x y : Pass) → Contains d.passes x → Contains d.passes y → Both x y → Apart (draws x) (draws y)
  apart_drawn x y has_x has_y h =
      draws_both (λ p. Apart p (draws y)) x
      (λ x_same. draws_both (λ q. Apart (record x { drawn = drawn }) q) y
      (λ y_same.
      let ex : pass ≡ x = one_pass d sound pass x held has_x x_same in
      let ey : pass ≡ y = one_pass d sound pass y held has_y y_same in
      absurd (true≢false (sym held.self ∙ ap (λ (p : Pass). same_actor p.actor pass.actor) ex ∙ ap (λ (q : Pass). same_actor x.actor q.actor) ey ∙ h.0)))
      (λ _. all_by (λ (v : ℕ). IsFalse (is_among v y.drawn)) drawn (λ v mine. false_from_ne_true (is_among v y.drawn) (λ e. not_drawn y has_y v (is_in v y.drawn e) mine))))
      (λ _. draws_both (λ q. Apart x q) y
      (λ _. all_by (λ (v : ℕ). IsFalse (is_among v drawn)) x.drawn (λ v theirs. false_from_ne_true (is_among v drawn) (λ e. not_drawn x has_x v theirs (is_in v drawn e))))
      (λ _. h.1))

  -- what holds of each pass holds after the draw
  all_drawn_map : (P : Pass → Type 0) → ((other : Pass) → Contains d.passes other → P other → P (draws other)) → All P d.passes → All P (map draws d.passes)
  all_drawn_map P step all = All-map P draws d.passes (λ k p less. step (get_or d.passes k p) (Contains-get_or d.passes k p less) (all k p less))

  -- the draw keeps the directory sound
  drew : IsSound (record after_draw { passes = map draws d.passes })
  drew =
      other_passes after_draw (map draws d.passes) sound_grown
      (record {
        differ =
            pairs_map (λ (p q : Pass). IsFalse (same_actor p.actor q.actor)) (λ (p q : Pass). IsFalse (same_actor p.actor q.actor)) draws d.passes
            (λ x y _ _ h. subst₂ (λ a b. IsFalse (same_actor a b)) (sym (draws_both (λ p. p.actor ≡ x.actor) x (λ _. refl) (λ _. refl))) (sym (draws_both (λ p. p.actor ≡ y.actor) y (λ _. refl) (λ _. refl))) h) sound.passes;
        live = all_drawn_map (LiveThere after_draw) live_drawn sound_grown.live;
        calls = all_drawn_map (RightThere after_draw) right_there sound_grown.calls;
        newest = all_drawn_map (λ (p : Pass). All (IsOfItsCall p) d.points)
            (λ other _ h. draws_both (λ (p : Pass). All (IsOfItsCall p) d.points) other
            (λ _. All-weaker (IsOfItsCall other) (IsOfItsCall (record other { drawn = drawn })) (λ q k. record { not_later = k.not_later; own = k.own }) d.points h) (λ _. h)) sound.newest;
        apart = pairs_map Both Apart draws d.passes apart_drawn (λ i j p less within. (sound.passes i j p less within, sound.apart i j p less within));
        placed = all_drawn_map (PinsPlaced after_draw) (λ other _ h. draws_both (PinsPlaced after_draw) other (λ _. h) (λ _. h)) sound_grown.pinned_placed;
        versions = all_drawn_map (HasVersions after_draw)
            (λ other _ h. draws_both (HasVersions after_draw) other (λ _. record { pinned = h.pinned; drawn = drawn_below }) (λ _. h)) sound_grown.versions;
      })

-- a draw on the actor's pass
pub draw_sound : (who : Actor) (d : Directory) → IsSound d → ((pass : Pass) × IsWriting d who pass × (pass.drawn ≡ [])) → IsSound (on_pass draw (pass_of who d) d).0
draw_sound who d sound may =
    on_pass_sound who d sound draw
    (λ pass e held live.
    let same : may.0 ≡ pass = same_Some may.0 pass (sym may.1.is_pass ∙ e) in
    drew d sound pass held (subst (λ (p : Pass). (p.note.kind ≡ Kind.Put) ⊎ (p.note.kind ≡ Kind.Write)) same may.1.kind))
