-- Parts of a step that keep a directory sound: other passes, versions that move, a point that comes.
use Rattle.std.proofs.Common.{◌≡◌, ◌⊎◌, ℕ, ◌<◌, ◌≤◌, List, length, get_or, slice_get, Option, None, Some, IfSome, All, AllPairs, Contains, IsTrue, IsFalse, refl, sym, subst, ◌∙◌, inl, inr, arith}
use Rattle.std.proofs.lemmas.Option.{same_Some, slice_get_within, slice_get_cases}
use Rattle.std.proofs.lemmas.List.Elements.{All-weaker, All-contains}
use Rattle.store_core.specs.Placements.{IsRow}
use Rattle.store_core.specs.Lists.{is_among}
use Rattle.store_core.specs.Note.{Kind}
use Rattle.store_core.specs.Directory.{Standing, Version, Pin, Pass, Directory}
use Rattle.store_core.specs.Lookups.{same_actor, is_live}
use Rattle.store_core.specs.SoundPasses.{Stands, IsRight, IsLive, HasVersions, IsOfItsCall}
use Rattle.store_core.specs.Sound.{HasItsVersions, IsPlaced, IsSound}
use Rattle.run_laws.proofs.SoundLists.{all_by, all_at, at_all}
use Rattle.run_laws.proofs.SoundVersions.{StandsIn, StandsThere, stands_there, stands_at}

-- the pins of a pass have all their epochs
abbrev pub PinsPlaced : Directory → Pass → Type 0
PinsPlaced d pass = All (λ pin. IfSome (slice_get d.versions pin.version) (λ version. IsRow d.shape version.placed)) pass.pinned

-- what is asked of a pass that isn't reaped
abbrev pub LiveThere : Directory → Pass → Type 0
LiveThere d pass = IsTrue (is_live pass.reaped) → IsLive d pass

-- and of each pass, by its kind
abbrev pub RightThere : Directory → Pass → Type 0
RightThere d pass = IsRight d pass pass.note.kind

-- ---- other passes
-- passes that are right for a directory
pub record ArePasses (d : Directory) (passes : List Pass) : Type 0 where
  pub differ : AllPairs (λ p q. IsFalse (same_actor p.actor q.actor)) passes
  pub live : All (LiveThere d) passes
  pub calls : All (RightThere d) passes
  pub newest : All (λ pass. All (IsOfItsCall pass) d.points) passes
  pub apart : AllPairs (λ p q. All (λ version. IsFalse (is_among version q.drawn)) p.drawn) passes
  pub placed : All (PinsPlaced d) passes
  pub versions : All (HasVersions d) passes

module _ (d : Directory) (passes : List Pass) where
  -- the directory with them
  abbrev with_passes : Directory
  with_passes = record d { passes = passes }

  -- a pass that is right stays so
  right_under : (pass : Pass) (kind : Kind) → IsRight d pass kind → IsRight with_passes pass kind
  right_under pass Kind.Put h = h
  right_under pass Kind.Write h = record { base = h.base; is_base = h.is_base; within = h.within; allowed = h.allowed }
  right_under pass _ h = h

  -- a live one too
  live_under : (pass : Pass) → LiveThere d pass → LiveThere with_passes pass
  live_under pass h live =
      record { pins = (h live).pins; drawn = (h live).drawn; differ = (h live).differ; all_drawn = (h live).all_drawn; current = (h live).current }

  -- the directory stays sound
  pub other_passes : IsSound d → ArePasses d passes → IsSound with_passes
  other_passes sound right =
      record {
        history = sound.history;
        objects = All-weaker (HasItsVersions d) (HasItsVersions with_passes) (λ object h. record { count = h.count; current = h.current }) d.objects sound.objects;
        once = sound.once;
        points = sound.points;
        passes = right.differ;
        live = All-weaker (LiveThere d) (LiveThere with_passes) live_under passes right.live;
        calls = All-weaker (RightThere d) (RightThere with_passes) (λ pass. right_under pass pass.note.kind) passes right.calls;
        newest = right.newest;
        apart = right.apart;
        listed = sound.listed;
        placed = All-weaker (IsPlaced d) (IsPlaced with_passes) (λ version h. record { row_or_none = h.row_or_none; current = h.current; drawn = h.drawn }) d.versions sound.placed;
        pinned_placed = right.placed;
        versions = All-weaker (HasVersions d) (HasVersions with_passes) (λ pass h. record { pinned = h.pinned; drawn = h.drawn }) passes right.versions;
      }

-- ---- versions that move
-- what a version may become, for the sake of the passes
pub record Moves (d : Directory) (number : ℕ) (before after : Version) : Type 0 where
  pub pinned : (pass : Pass) (pin : Pin) → Contains d.passes pass → IsTrue (is_live pass.reaped) → Contains pass.pinned pin → pin.version ≡ number
      → (before.standing ≡ Standing.Current) ⊎ (before.standing ≡ Standing.Superseded) → (after.standing ≡ Standing.Current) ⊎ (after.standing ≡ Standing.Superseded)
  pub drawn : (pass : Pass) → Contains d.passes pass → IsTrue (is_live pass.reaped) → Contains pass.drawn number → before.standing ≡ Standing.Drawn → after.standing ≡ Standing.Drawn
  pub placed : IsPlaced d before → IsPlaced d after
  pub whole : IsRow d.shape before.placed → IsRow d.shape after.placed

-- one version moves
pub record MovedThere (d : Directory) (versions : List Version) (number : ℕ) (before : Version) : Type 0 where
  pub after : Version
  pub found : slice_get versions number ≡ Some after
  pub moves : Moves d number before after

-- all versions move
pub record MovesTo (d : Directory) (versions : List Version) : Type 0 where
  pub count : length versions ≡ length d.versions
  pub each : (number : ℕ) (before : Version) → slice_get d.versions number ≡ Some before → MovedThere d versions number before

-- the version that stood at a number
pub record Before (xs : List Version) (number : ℕ) : Type 0 where
  pub version : Version
  pub found : slice_get xs number ≡ Some version

-- each place below the length has a version
pub there_is : (xs : List Version) (number : ℕ) → number < length xs → Before xs number
there_is xs number less = by (slice_get_cases xs number).1
  where
    by : ((v : Version) × (number < length xs) × (slice_get xs number ≡ Some v) × (get_or xs number v ≡ v)) ⊎ ((length xs ≤ number) × (slice_get xs number ≡ None)) → Before xs number
    by (inl k) = record { version = k.0; found = k.2 }
    by (inr k) = absurd (let more : length xs ≤ number = k.0 in omega (arith, less, more))

module _ (d : Directory) (versions : List Version) (sound : IsSound d) (moves : MovesTo d versions) where
  -- a pin's version that stood stands still
  pin_moved : (pass : Pass) (pin : Pin) → Contains d.passes pass → IsTrue (is_live pass.reaped) → Contains pass.pinned pin
      → Stands d Standing.Current pin.version ⊎ Stands d Standing.Superseded pin.version → StandsIn versions Standing.Current pin.version ⊎ StandsIn versions Standing.Superseded pin.version
  pin_moved pass pin has live pins h = by h
    where
      on : (standing : Standing) → Stands d standing pin.version → ((v : Version) → v.standing ≡ standing → (v.standing ≡ Standing.Current) ⊎ (v.standing ≡ Standing.Superseded))
          → StandsIn versions Standing.Current pin.version ⊎ StandsIn versions Standing.Superseded pin.version
      on standing stands which = out
        where
          old : StandsThere d.versions standing pin.version
          old = stands_there d.versions standing pin.version stands

          new : MovedThere d versions pin.version old.version
          new = moves.each pin.version old.version old.found

          split : (new.after.standing ≡ Standing.Current) ⊎ (new.after.standing ≡ Standing.Superseded) → StandsIn versions Standing.Current pin.version ⊎ StandsIn versions Standing.Superseded pin.version
          split (inl e) = inl (stands_at versions Standing.Current pin.version new.after new.found e)
          split (inr e) = inr (stands_at versions Standing.Superseded pin.version new.after new.found e)

          out : StandsIn versions Standing.Current pin.version ⊎ StandsIn versions Standing.Superseded pin.version
          out = split (new.moves.pinned pass pin has live pins refl (which old.version old.stands))

      by : Stands d Standing.Current pin.version ⊎ Stands d Standing.Superseded pin.version → StandsIn versions Standing.Current pin.version ⊎ StandsIn versions Standing.Superseded pin.version
      by (inl s) = on Standing.Current s (λ v e. inl e)
      by (inr s) = on Standing.Superseded s (λ v e. inr e)

  -- so a live pass's pins stand still
  pub pins_moved : (pass : Pass) → Contains d.passes pass → IsTrue (is_live pass.reaped) → IsLive d pass
      → All (λ pin. StandsIn versions Standing.Current pin.version ⊎ StandsIn versions Standing.Superseded pin.version) pass.pinned
  pins_moved pass has live h =
      all_by (λ (pin : Pin). StandsIn versions Standing.Current pin.version ⊎ StandsIn versions Standing.Superseded pin.version) pass.pinned
      (λ pin pins. pin_moved pass pin has live pins (All-contains (λ (p : Pin). Stands d Standing.Current p.version ⊎ Stands d Standing.Superseded p.version) pass.pinned pin h.pins pins))

  -- and what it drew
  pub drawn_moved : (pass : Pass) → Contains d.passes pass → IsTrue (is_live pass.reaped) → IsLive d pass → All (StandsIn versions Standing.Drawn) pass.drawn
  drawn_moved pass has live h =
      all_by (StandsIn versions Standing.Drawn) pass.drawn
      (λ number c.
      let old : StandsThere d.versions Standing.Drawn number = stands_there d.versions Standing.Drawn number (All-contains (Stands d Standing.Drawn) pass.drawn number h.drawn c) in
      let new : MovedThere d versions number old.version = moves.each number old.version old.found in
      stands_at versions Standing.Drawn number new.after new.found (new.moves.drawn pass has live c old.stands))

  -- the epochs are right
  pub placed_moved : All (IsPlaced d) versions
  placed_moved =
      all_at (IsPlaced d) versions
      (λ i version e.
      let within : i < length versions = slice_get_within versions i version e in
      let same : length versions ≡ length d.versions = moves.count in
      let old : Before d.versions i = there_is d.versions i (omega (arith, within, same)) in
      let new : MovedThere d versions i old.version = moves.each i old.version old.found in
      subst (IsPlaced d) (same_Some new.after version (sym new.found ∙ e)) (new.moves.placed (at_all (IsPlaced d) d.versions i old.version sound.placed old.found)))

  -- also those of pinned versions
  pub pins_placed_moved : (pass : Pass) → HasVersions d pass → PinsPlaced d pass → All (λ pin. IfSome (slice_get versions pin.version) (λ version. IsRow d.shape version.placed)) pass.pinned
  pins_placed_moved pass has h =
      all_by (λ (pin : Pin). IfSome (slice_get versions pin.version) (λ version. IsRow d.shape version.placed)) pass.pinned
      (λ pin c.
      let old : Before d.versions pin.version = there_is d.versions pin.version (All-contains (λ (p : Pin). p.version < length d.versions) pass.pinned pin has.pinned c) in
      let new : MovedThere d versions pin.version old.version = moves.each pin.version old.version old.found in
      let whole : IfSome (slice_get d.versions pin.version) (λ version. IsRow d.shape version.placed) =
      All-contains (λ (p : Pin). IfSome (slice_get d.versions p.version) (λ version. IsRow d.shape version.placed)) pass.pinned pin h c in
      subst (λ (o : Option Version). IfSome o (λ version. IsRow d.shape version.placed)) (sym new.found)
      (new.moves.whole (subst (λ (o : Option Version). IfSome o (λ version. IsRow d.shape version.placed)) old.found whole)))

  -- what a pass pins and drew are still versions
  pub has_versions_moved : (pass : Pass) → HasVersions d pass → All (λ pin. pin.version < length versions) pass.pinned × All (λ version. version < length versions) pass.drawn
  has_versions_moved pass has =
      (subst (λ n. All (λ (pin : Pin). pin.version < n) pass.pinned) (sym moves.count) has.pinned, subst (λ n. All (λ (version : ℕ). version < n) pass.drawn) (sym moves.count) has.drawn)

-- ---- versions alone move
module _ (d : Directory) (versions : List Version) where
  -- the directory with them
  abbrev with_versions : Directory
  with_versions = record d { versions = versions }

  -- each pass stays right
  right_moved : (pass : Pass) (kind : Kind) → IsRight d pass kind → IsRight with_versions pass kind
  right_moved pass Kind.Put h = h
  right_moved pass Kind.Write h = record { base = h.base; is_base = h.is_base; within = h.within; allowed = h.allowed }
  right_moved pass _ h = h

  -- the directory stays sound where the same versions are current
  pub other_versions : IsSound d → MovesTo d versions → ((number : ℕ) → Stands d Standing.Current number → StandsIn versions Standing.Current number)
      → ((number : ℕ) → StandsIn versions Standing.Current number → Stands d Standing.Current number) → IsSound with_versions
  other_versions sound moves on back =
      record {
        history = sound.history;
        objects = All-weaker (HasItsVersions d) (HasItsVersions with_versions)
            (λ object h. record { count = h.count; current = All-weaker (Stands d Standing.Current) (Stands with_versions Standing.Current) on object.versions h.current }) d.objects sound.objects;
        once = sound.once;
        points = sound.points;
        passes = sound.passes;
        live = all_by (LiveThere with_versions) d.passes (λ pass has live. live_moved pass has live (All-contains (LiveThere d) d.passes pass sound.live has live));
        calls = All-weaker (RightThere d) (RightThere with_versions) (λ pass. right_moved pass pass.note.kind) d.passes sound.calls;
        newest = sound.newest;
        apart = sound.apart;
        listed = λ number h. sound.listed number (back number h);
        placed = All-weaker (IsPlaced d) (IsPlaced with_versions) (λ version h. record { row_or_none = h.row_or_none; current = h.current; drawn = h.drawn }) versions (placed_moved d versions sound moves);
        pinned_placed = all_by (PinsPlaced with_versions) d.passes
            (λ pass has. pins_placed_moved d versions sound moves pass (All-contains (HasVersions d) d.passes pass sound.versions has) (All-contains (PinsPlaced d) d.passes pass sound.pinned_placed has));
        versions = All-weaker (HasVersions d) (HasVersions with_versions)
            (λ pass h. record { pinned = (has_versions_moved d versions sound moves pass h).0; drawn = (has_versions_moved d versions sound moves pass h).1 }) d.passes sound.versions;
      }
    where
      live_moved : (pass : Pass) → Contains d.passes pass → IsTrue (is_live pass.reaped) → IsLive d pass → IsLive with_versions pass
      live_moved pass has live h =
          record {
            pins = pins_moved d versions sound moves pass has live h;
            drawn = drawn_moved d versions sound moves pass has live h;
            differ = h.differ;
            all_drawn = h.all_drawn;
            current = h.current;
          }
