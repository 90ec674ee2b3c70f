-- A pass that closes or is marked as reaped, and versions that are given up.
use Rattle.std.proofs.Common.{◌≡◌, ◌⊎◌, ℕ, ◌<◌, Bool, true, false, cond, not, List, length, get_or, map, filter, slice_get, Some, All, Contains, IsTrue, IsFalse, refl, sym, ap, subst, subst₂, ◌∙◌, inl, inr, arith}
use Rattle.std.proofs.lemmas.Bool.{true≢false, false≢true, cond_both, not-true}
use Rattle.std.proofs.lemmas.List.Kept.{AllPairs-filter}
use Rattle.std.proofs.lemmas.List.Elements.{All-weaker, All-filter, All-map, All-contains, Contains-get_or}
use Rattle.store_map.specs.declared.actor.Actor.{Actor}
use Rattle.store_core.specs.Lists.{is_among}
use Rattle.store_core.specs.Note.{Kind}
use Rattle.store_core.specs.Directory.{Standing, Version, Pass, Directory}
use Rattle.store_core.specs.Lookups.{same_actor, pass_of, is_live, is_current_standing, is_superseded_standing}
use Rattle.store_core.specs.Look.{set_standing}
use Rattle.store_core.specs.PassSteps.{close_pass}
use Rattle.store_core.specs.SoundPasses.{Stands, IsRight, HasVersions, IsOfItsCall}
use Rattle.store_core.specs.Sound.{IsSound}
use Rattle.run_laws.proofs.Passes.{same_is}
use Rattle.store_core.proofs.Places.{length-set_standing}
use Rattle.run_laws.proofs.SoundLists.{pair_of, pairs_map, is_in, not_among, found_in, in_filter}
use Rattle.run_laws.proofs.SoundVersions.{StandsIn, StandsThere, stands_there, stands_at, standing_of, given, set_at}
use Rattle.run_laws.proofs.SoundParts.{LiveThere, RightThere, PinsPlaced, other_passes, Moves, Before, there_is, other_versions}

-- ---- standings
-- a drawn version isn't current
pub drawn_is_not_current : (standing : Standing) → standing ≡ Standing.Drawn → standing ≡ Standing.Current → ⊥
drawn_is_not_current standing e f = false≢true (ap is_current_standing (sym e ∙ f))

-- nor is a superseded one
pub superseded_is_not_current : (standing : Standing) → standing ≡ Standing.Superseded → standing ≡ Standing.Current → ⊥
superseded_is_not_current standing e f = false≢true (ap is_current_standing (sym e ∙ f))

-- nor is a drawn one superseded
pub drawn_is_not_superseded : (standing : Standing) → standing ≡ Standing.Drawn → standing ≡ Standing.Superseded → ⊥
drawn_is_not_superseded standing e f = false≢true (ap is_superseded_standing (sym e ∙ f))

-- ---- the pass that an actor has
pub record IsHeld (d : Directory) (pass : Pass) : Type 0 where
  pub has : Contains d.passes pass
  pub self : same_actor pass.actor pass.actor ≡ true

-- the pass that is found for an actor
pub held_pass : (who : Actor) (d : Directory) (pass : Pass) → pass_of who d ≡ Some pass → IsHeld d pass
held_pass who d pass e =
    let found : Contains d.passes pass × (same_actor who pass.actor ≡ true) = found_in (λ (p : Pass). same_actor who p.actor) d.passes pass e in
    record { has = found.0; self = subst (λ a. same_actor a pass.actor ≡ true) (same_is who pass.actor found.1) found.1 }

-- two passes of different actors draw different versions
pub drawn_apart : (d : Directory) → IsSound d → (p q : Pass) → IsHeld d p → Contains d.passes q → same_actor p.actor q.actor ≡ false → (n : ℕ) → Contains p.drawn n → Contains q.drawn n → ⊥
drawn_apart d sound p q held has apart n in_p in_q =
    by (pair_of (λ (p q : Pass). All (λ version. IsFalse (is_among version q.drawn)) p.drawn) d.passes p q sound.apart held.has has)
  where
    by : (p ≡ q) ⊎ (All (λ version. IsFalse (is_among version q.drawn)) p.drawn ⊎ All (λ version. IsFalse (is_among version p.drawn)) q.drawn) → ⊥
    by (inl same) = true≢false (sym held.self ∙ ap (λ (x : Pass). same_actor p.actor x.actor) same ∙ apart)
    by (inr (inl h)) = not_among n q.drawn (All-contains (λ version. IsFalse (is_among version q.drawn)) p.drawn n h in_p) in_q
    by (inr (inr h)) = not_among n p.drawn (All-contains (λ version. IsFalse (is_among version p.drawn)) q.drawn n h in_q) in_p

-- an actor has one pass
pub one_pass : (d : Directory) → IsSound d → (p q : Pass) → IsHeld d p → Contains d.passes q → same_actor p.actor q.actor ≡ true → p ≡ q
one_pass d sound p q held has same = by (pair_of (λ (p q : Pass). IsFalse (same_actor p.actor q.actor)) d.passes p q sound.passes held.has has)
  where
    by : (p ≡ q) ⊎ (IsFalse (same_actor p.actor q.actor) ⊎ IsFalse (same_actor q.actor p.actor)) → p ≡ q
    by (inl e) = e
    by (inr (inl h)) = absurd (true≢false (sym same ∙ h))
    by (inr (inr h)) =
        let e : p.actor ≡ q.actor = same_is p.actor q.actor same in
        absurd (true≢false (sym held.self ∙ ap (λ a. same_actor a p.actor) e ∙ h))

-- ---- a pass closes
pub closed_sound : (pass : Pass) (d : Directory) → IsSound d → IsSound (close_pass pass d)
closed_sound pass d sound =
    other_passes d (filter keeps d.passes) sound
    (record {
      differ = AllPairs-filter (λ (p q : Pass). IsFalse (same_actor p.actor q.actor)) keeps d.passes sound.passes;
      live = All-filter keeps (LiveThere d) d.passes sound.live;
      calls = All-filter keeps (RightThere d) d.passes sound.calls;
      newest = All-filter keeps (λ (pass : Pass). All (IsOfItsCall pass) d.points) d.passes sound.newest;
      apart = AllPairs-filter (λ (p q : Pass). All (λ version. IsFalse (is_among version q.drawn)) p.drawn) keeps d.passes sound.apart;
      placed = All-filter keeps (PinsPlaced d) d.passes sound.pinned_placed;
      versions = All-filter keeps (HasVersions d) d.passes sound.versions;
    })
  where
    keeps : Pass → Bool
    keeps other = not (same_actor pass.actor other.actor)

-- the passes that are left are others'
pub left_passes : (pass : Pass) (d : Directory) (other : Pass) → Contains (close_pass pass d).passes other → Contains d.passes other × (same_actor pass.actor other.actor ≡ false)
left_passes pass d other c =
    let kept : Contains d.passes other × (not (same_actor pass.actor other.actor) ≡ true) = in_filter (λ (other : Pass). not (same_actor pass.actor other.actor)) d.passes other c in
    (kept.0, not-true (same_actor pass.actor other.actor) kept.1)

-- ---- a pass is marked
abbrev pub marked : Pass → ℕ → Pass → Pass
marked pass point other = cond (same_actor pass.actor other.actor) (record other { reaped = Some point }) other

module _ (pass : Pass) (point : ℕ) where
  -- a pass is marked, or of another actor
  pub marked_both : (P : Pass → Type 0) (other : Pass) → (same_actor pass.actor other.actor ≡ true → P (record other { reaped = Some point })) → (same_actor pass.actor other.actor ≡ false → P other) → P (marked pass point other)
  marked_both P other = cond_both {A = Pass} (same_actor pass.actor other.actor) (record other { reaped = Some point }) other P

  -- it keeps its actor
  marked_actor : (other : Pass) → (marked pass point other).actor ≡ other.actor
  marked_actor other = marked_both (λ p. p.actor ≡ other.actor) other (λ _. refl) (λ _. refl)

  -- and what it drew
  marked_drawn : (other : Pass) → (marked pass point other).drawn ≡ other.drawn
  marked_drawn other = marked_both (λ p. p.drawn ≡ other.drawn) other (λ _. refl) (λ _. refl)

  -- and stays right
  right_marked : (d : Directory) (other : Pass) (kind : Kind) → IsRight d other kind → IsRight d (record other { reaped = Some point }) kind
  right_marked d other Kind.Put h = h
  right_marked d other Kind.Write h = record { base = h.base; is_base = h.is_base; within = h.within; allowed = h.allowed }
  right_marked d other _ h = h

  -- the directory stays sound
  pub marked_sound : (d : Directory) → IsSound d → IsSound (record d { passes = map (marked pass point) d.passes })
  marked_sound d sound =
      other_passes d (map (marked pass point) d.passes) sound
      (record {
        differ =
            pairs_map (λ (p q : Pass). IsFalse (same_actor p.actor q.actor)) (λ (p q : Pass). IsFalse (same_actor p.actor q.actor)) (marked pass point) d.passes
            (λ x y _ _ h. subst₂ (λ a b. IsFalse (same_actor a b)) (sym (marked_actor x)) (sym (marked_actor y)) h) sound.passes;
        live = All-map (LiveThere d) (marked pass point) d.passes
            (All-weaker (LiveThere d) (λ x. LiveThere d (marked pass point x)) (λ x h. marked_both (LiveThere d) x (λ _ live. absurd (false≢true live)) (λ _. h)) d.passes sound.live);
        calls = All-map (RightThere d) (marked pass point) d.passes
            (All-weaker (RightThere d) (λ x. RightThere d (marked pass point x)) (λ x h. marked_both (RightThere d) x (λ _. right_marked d x x.note.kind h) (λ _. h)) d.passes sound.calls);
        newest = All-map (λ (p : Pass). All (IsOfItsCall p) d.points) (marked pass point) d.passes
            (All-weaker (λ (p : Pass). All (IsOfItsCall p) d.points) (λ x. All (IsOfItsCall (marked pass point x)) d.points)
            (λ x h. marked_both (λ (p : Pass). All (IsOfItsCall p) d.points) x
            (λ _. All-weaker (IsOfItsCall x) (IsOfItsCall (record x { reaped = Some point })) (λ q k. record { not_later = k.not_later; own = k.own }) d.points h) (λ _. h)) d.passes sound.newest);
        apart =
            pairs_map (λ (p q : Pass). All (λ version. IsFalse (is_among version q.drawn)) p.drawn) (λ (p q : Pass). All (λ version. IsFalse (is_among version q.drawn)) p.drawn) (marked pass point) d.passes
            (λ x y _ _ h. subst₂ (λ a b. All (λ version. IsFalse (is_among version b)) a) (sym (marked_drawn x)) (sym (marked_drawn y)) h) sound.apart;
        placed = All-map (PinsPlaced d) (marked pass point) d.passes
            (All-weaker (PinsPlaced d) (λ x. PinsPlaced d (marked pass point x)) (λ x h. marked_both (PinsPlaced d) x (λ _. h) (λ _. h)) d.passes sound.pinned_placed);
        versions = All-map (HasVersions d) (marked pass point) d.passes
            (All-weaker (HasVersions d) (λ x. HasVersions d (marked pass point x)) (λ x h. marked_both (HasVersions d) x (λ _. record { pinned = h.pinned; drawn = h.drawn }) (λ _. h)) d.passes sound.versions);
      })

  -- a live pass was there before, and is of another actor
  abbrev LeftLive : Directory → Pass → Type 0
  LeftLive d p = IsTrue (is_live p.reaped) → Contains d.passes p × (same_actor pass.actor p.actor ≡ false)

  -- a live pass after that was there before, and is another actor's
  pub marked_left : (d : Directory) (other : Pass) → Contains (map (marked pass point) d.passes) other → IsTrue (is_live other.reaped) → Contains d.passes other × (same_actor pass.actor other.actor ≡ false)
  marked_left d other has live = All-contains (LeftLive d) (map (marked pass point) d.passes) other all has live
    where
      all : All (LeftLive d) (map (marked pass point) d.passes)
      all =
          All-map (LeftLive d) (marked pass point) d.passes
          (λ k x less. marked_both (LeftLive d) (get_or d.passes k x) (λ _ h. absurd (false≢true h)) (λ apart _. (Contains-get_or d.passes k x less, apart)))

-- ---- numbers whose versions aren't current get another standing
module _ (versions : List Version) (standing : Standing) (other : standing ≡ Standing.Current → ⊥) (numbers : List ℕ) (none : (n : ℕ) → Contains numbers n → StandsIn versions Standing.Current n → ⊥) where
  -- the versions after
  abbrev set : List Version
  set = set_standing standing numbers versions

  -- a current version keeps its standing
  given_kept : (n : ℕ) (version : Version) (b : Bool) → is_among n numbers ≡ b → slice_get versions n ≡ Some version → version.standing ≡ Standing.Current → (given standing b version).standing ≡ Standing.Current
  given_kept n version true e found current = absurd (none n (is_in n numbers e) (stands_at versions Standing.Current n version found current))
  given_kept n version false e found current = current

  -- what was current stays so
  pub set_current : (n : ℕ) → StandsIn versions Standing.Current n → StandsIn set Standing.Current n
  set_current n h =
      let old : StandsThere versions Standing.Current n = stands_there versions Standing.Current n h in
      stands_at set Standing.Current n (given standing (is_among n numbers) old.version) (set_at standing numbers versions n old.version old.found)
      (given_kept n old.version (is_among n numbers) refl old.found old.stands)

  -- a version that is current then had that standing
  given_back : (version : Version) (b : Bool) → (given standing b version).standing ≡ Standing.Current → version.standing ≡ Standing.Current
  given_back version true e = absurd (other e)
  given_back version false e = e

  -- what is current then was so
  pub current_before_set : (n : ℕ) → StandsIn set Standing.Current n → StandsIn versions Standing.Current n
  current_before_set n h =
      let less : n < length set = h.1 in
      let same : length set ≡ length versions = length-set_standing standing numbers versions in
      let old : Before versions n = there_is versions n (omega (arith, less, same)) in
      stands_at versions Standing.Current n old.version old.found
      (given_back old.version (is_among n numbers) (standing_of set Standing.Current n (given standing (is_among n numbers) old.version) h (set_at standing numbers versions n old.version old.found)))

-- ---- versions that are given up
module _ (d : Directory) (sound : IsSound d) (numbers : List ℕ) (drawn : (n : ℕ) → Contains numbers n → Stands d Standing.Drawn n)
    (left : (pass : Pass) → Contains d.passes pass → IsTrue (is_live pass.reaped) → (n : ℕ) → Contains numbers n → Contains pass.drawn n → ⊥) where
  -- how a version moves that is given up, or not
  given_up_moves : (n : ℕ) (version : Version) (b : Bool) → is_among n numbers ≡ b → Moves d n version (given Standing.Superseded b version)
  given_up_moves n version false e = record { pinned = λ _ _ _ _ _ _ h. h; drawn = λ _ _ _ _ h. h; placed = λ h. h; whole = λ h. h }
  given_up_moves n version true e =
      record {
        pinned = λ _ _ _ _ _ _ _. inr refl;
        drawn = λ pass has live draws _. absurd (left pass has live n (is_in n numbers e) draws);
        placed = λ h. record { row_or_none = h.row_or_none; current = λ c. absurd (superseded_is_not_current Standing.Superseded refl c); drawn = λ c. absurd (drawn_is_not_superseded Standing.Superseded c refl) };
        whole = λ h. h;
      }

  -- the directory stays sound where drawn versions of no live pass are superseded
  pub given_up : IsSound (record d { versions = set_standing Standing.Superseded numbers d.versions })
  given_up =
      other_versions d (set_standing Standing.Superseded numbers d.versions) sound
      (record {
        count = length-set_standing Standing.Superseded numbers d.versions;
        each = λ n before e. record {
          after = given Standing.Superseded (is_among n numbers) before;
          found = set_at Standing.Superseded numbers d.versions n before e;
          moves = given_up_moves n before (is_among n numbers) refl;
        };
      })
      (set_current d.versions Standing.Superseded (superseded_is_not_current Standing.Superseded refl) numbers not_current)
      (current_before_set d.versions Standing.Superseded (superseded_is_not_current Standing.Superseded refl) numbers not_current)
    where
      not_current : (n : ℕ) → Contains numbers n → StandsIn d.versions Standing.Current n → ⊥
      not_current n c h =
          let old : StandsThere d.versions Standing.Current n = stands_there d.versions Standing.Current n h in
          drawn_is_not_current old.version.standing (standing_of d.versions Standing.Drawn n old.version (drawn n c) old.found) old.stands
