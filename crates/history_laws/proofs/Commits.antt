-- What becomes of each version at a commit that replaces stripes of an object.
use Rattle.std.proofs.Common.{◌≡◌, ◌⊎◌, ℕ, ◌+◌, ◌-◌, ◌/◌, ◌<◌, ◌≤◌, min, true, List, length, get_or, take, drop, zip, slice_get, Option, None, Some, Contains, bytes_eq, sym, ap, subst, ◌∙◌, inl, inr, arith, length-take, length-drop}
use Rattle.std.proofs.lemmas.Option.{same_Some, none-some, slice_get-get_or, slice_get_within, get_or_from_slice_get}
use Rattle.std.proofs.lemmas.List.{get_or-take, get_or-drop}
use Rattle.std.proofs.lemmas.List.Elements.{All-contains}
use Rattle.clay_grid.specs.Shape.{stripe_length}
use Rattle.store_map.specs.Limits.{stripes_met}
use Rattle.store_map.specs.declared.placement.Placement.{Placement}
use Rattle.store_core.specs.Note.{Kind}
use Rattle.store_core.specs.Directory.{Object, Standing, Version, Pass, Directory}
use Rattle.store_core.specs.Lookups.{find_object}
use Rattle.store_core.specs.Look.{set_standing}
use Rattle.store_core.specs.Commit.{place_all, dropped_by}
use Rattle.store_core.specs.SoundPasses.{Stands, IsLive}
use Rattle.store_core.specs.Sound.{IsSound}
use Rattle.store_core.specs.Conditions.{IsPrepared}
use Rattle.store_core.proofs.TouchedStripes.{count_touched}
use Rattle.run_laws.proofs.SoundLists.{at_contains, contains_at, found_at}
use Rattle.run_laws.proofs.SoundVersions.{StandsThere, stands_there, standing_of}
use Rattle.run_laws.proofs.SoundClose.{IsHeld, drawn_is_not_current}
use Rattle.run_laws.proofs.SoundEnd.{live_pass}
use Rattle.run_laws.proofs.SoundChanged.{versions_of}
use Rattle.run_laws.proofs.SoundDelete.{version_current}
use Rattle.history_laws.specs.StandsFor.{StandsFor, IsWritten, Becomes, Stays, placed_with, superseded}
use Rattle.history_laws.specs.CommitDrops.{Replaces, CommitDrops}
use Rattle.history_laws.proofs.Versions.{IsOnce, once_from_pairs, not_there, set_other, set_becomes, placed_other, placed_here}
use Rattle.history_laws.proofs.WrittenStripes.{ByteIn, within, byte_of}

-- ---- the versions of the object with a name, by stripes
pub record AreOf (d : Directory) (name : List ℕ) (old : List ℕ) : Type 0 where
  pub stands : (stripe n : ℕ) → slice_get old stripe ≡ Some n → StandsFor d name stripe n
  pub there : (stripe n : ℕ) → StandsFor d name stripe n → slice_get old stripe ≡ Some n
  pub current : (n : ℕ) → Contains old n → Stands d Standing.Current n
  pub once : IsOnce old

-- none where there is no object
pub are_of : (d : Directory) → IsSound d → (name : List ℕ) (found : Option Object) → find_object name d.objects ≡ found → AreOf d name (versions_of found)
are_of d sound name None e =
    record {
      stands = λ stripe n at. absurd (none-some n at);
      there = λ stripe n h. absurd (none-some h.object (sym e ∙ h.found));
      current = λ n c. absurd (let less : c.0 < 0 = c.1 in omega (arith, less));
      once = λ i j n at_i at_j. absurd (none-some n at_i);
    }
are_of d sound name (Some object) e =
    record {
      stands = λ stripe n at. record { object = object; found = e; at = at };
      there = λ stripe n h. subst (λ (o : Object). slice_get o.versions stripe ≡ Some n) (same_Some h.object object (sym h.found ∙ e)) h.at;
      current = version_current d sound place.0 object place.1;
      once = λ i j n at_i at_j.
          (sound.once place.0 place.0 i j object object place.1 place.1 (slice_get_within object.versions i n at_i) (slice_get_within object.versions j n at_j)
          (get_or_from_slice_get object.versions i n 0 at_i ∙ sym (get_or_from_slice_get object.versions j n 0 at_j))).1;
    }
  where
    place : (i : ℕ) × (slice_get d.objects i ≡ Some object) × (bytes_eq name object.name ≡ true)
    place = found_at (λ (o : Object). bytes_eq name o.name) d.objects object e

module _ (d : Directory) (sound : IsSound d) (some : 0 < stripe_length d.shape) (pass : Pass) (held : IsHeld d pass) (live : pass.reaped ≡ None) (rows : List (List Placement)) (ready : IsPrepared d pass rows)
    (old : List ℕ) (of : AreOf d pass.note.name old) where
  -- what is known of the pass
  now : IsLive d pass
  now = live_pass d sound pass held live

  -- the versions after
  abbrev after_by : Kind → List Version
  after_by kind = set_standing Standing.Superseded (dropped_by kind d pass old) (place_all (zip pass.drawn rows) d.versions)

  -- no version is both drawn and current
  not_both : (n : ℕ) → Contains pass.drawn n → Contains old n → ⊥
  not_both n drawn c = by (stands_there d.versions Standing.Current n (of.current n c))
    where
      by : StandsThere d.versions Standing.Current n → ⊥
      by there =
          drawn_is_not_current there.version.standing
          (standing_of d.versions Standing.Drawn n there.version (All-contains (Stands d Standing.Drawn) pass.drawn n now.drawn drawn) there.found) there.stands

  -- ---- by what is dropped of the old ones
  module _ (dropped : List ℕ) (its : (n : ℕ) → Contains dropped n → Contains old n) where
    abbrev after : List Version
    after = set_standing Standing.Superseded dropped (place_all (zip pass.drawn rows) d.versions)

    drawn_here : (place n : ℕ) (row : List Placement) → slice_get pass.drawn place ≡ Some n → slice_get rows place ≡ Some row → Becomes d.versions after n (placed_with row)
    drawn_here place n row at_drawn at_row = by (stands_there d.versions Standing.Drawn n (All-contains (Stands d Standing.Drawn) pass.drawn n now.drawn c))
      where
        c : Contains pass.drawn n
        c = contains_at pass.drawn place n at_drawn

        by : StandsThere d.versions Standing.Drawn n → Becomes d.versions after n (placed_with row)
        by there =
            record {
              version = there.version;
              was = there.found;
              is = set_other Standing.Superseded dropped (place_all (zip pass.drawn rows) d.versions) n (not_there n dropped (λ e. not_both n c (its n e)))
                  ∙ placed_here pass.drawn rows d.versions (once_from_pairs pass.drawn now.differ) place n row there.version at_drawn at_row there.found;
            }

    dropped_here : (n : ℕ) → Contains dropped n → Becomes d.versions after n superseded
    dropped_here n c = by (stands_there d.versions Standing.Current n (of.current n (its n c)))
      where
        by : StandsThere d.versions Standing.Current n → Becomes d.versions after n superseded
        by there =
            record {
              version = there.version;
              was = there.found;
              is = set_becomes dropped (place_all (zip pass.drawn rows) d.versions) n there.version
                  (placed_other pass.drawn rows d.versions n (not_there n pass.drawn (λ drawn. not_both n drawn (its n c))) ∙ there.found) c;
            }

    other_here : (n : ℕ) → (Contains pass.drawn n → ⊥) → (Contains dropped n → ⊥) → Stays d.versions after n
    other_here n not_drawn not_dropped =
        set_other Standing.Superseded dropped (place_all (zip pass.drawn rows) d.versions) n (not_there n dropped not_dropped)
        ∙ placed_other pass.drawn rows d.versions n (not_there n pass.drawn not_drawn)

    -- all clauses, by which stripes' versions are dropped
    drops_by : (kind : Kind) → ((stripe n : ℕ) → slice_get old stripe ≡ Some n → Replaces kind d pass.note stripe → Contains dropped n)
        → ((stripe n : ℕ) → slice_get old stripe ≡ Some n → Contains dropped n → Replaces kind d pass.note stripe) → CommitDrops kind d after pass rows
    drops_by kind goes gone =
        record {
          drawn = drawn_here;
          replaced = λ stripe n h replaces. dropped_here n (goes stripe n (of.there stripe n h) replaces);
          kept = λ stripe n h stays.
              let at : slice_get old stripe ≡ Some n = of.there stripe n h in
              let c : Contains old n = contains_at old stripe n at in
              (of.current n c, other_here n (λ drawn. not_both n drawn c) (λ e. stays (gone stripe n at e)));
          others = λ n not_drawn none.
              other_here n not_drawn
              (λ e.
              let there : (k : ℕ) × (slice_get old k ≡ Some n) = at_contains old n (its n e) in
              none there.0 (of.stands there.0 n there.1));
        }

  -- ---- a put
  put_drops : CommitDrops Kind.Put d (after_by Kind.Put) pass rows
  put_drops = drops_by old (λ n c. c) Kind.Put (λ stripe n at h. contains_at old stripe n at) (λ stripe n at c. tt)

  -- ---- a write
  abbrev first : ℕ
  first = pass.note.offset / stripe_length d.shape

  abbrev gone_by_write : List ℕ
  gone_by_write = take (length pass.drawn) (drop first old)

  -- as many versions were drawn as stripes are written
  drawn_count : length pass.drawn ≡ stripes_met (stripe_length d.shape) pass.note.offset pass.note.length
  drawn_count = ready.drawn ∙ count_touched d.shape pass.note

  few : length gone_by_write ≡ min (length pass.drawn) (length old - first)
  few = length-take (length pass.drawn) (drop first old) ∙ ap (min (length pass.drawn)) (length-drop first old)

  -- a dropped version by its place
  at_gone : (b x : ℕ) → b < length pass.drawn → get_or gone_by_write b x ≡ get_or old (first + b) x
  at_gone b x less = get_or-take (length pass.drawn) (drop first old) b x less ∙ get_or-drop first old b x

  -- each stood at some stripe from the first on
  old_place : (n : ℕ) → Contains gone_by_write n → (b : ℕ) × (b < length pass.drawn) × (slice_get old (first + b) ≡ Some n)
  old_place n c =
      let less : c.0 < length gone_by_write = c.1 in
      let drawn : c.0 < length pass.drawn = omega (arith, less, few) in
      (c.0, drawn, slice_get-get_or old (first + c.0) n (omega (arith, less, few)) ∙ ap Some (sym (at_gone c.0 n drawn) ∙ c.2))

  write_drops : CommitDrops Kind.Write d (after_by Kind.Write) pass rows
  write_drops = drops_by gone_by_write its Kind.Write goes gone
    where
      its : (n : ℕ) → Contains gone_by_write n → Contains old n
      its n c = let there : (b : ℕ) × (b < length pass.drawn) × (slice_get old (first + b) ≡ Some n) = old_place n c in contains_at old (first + there.0) n there.2

      goes : (stripe n : ℕ) → slice_get old stripe ≡ Some n → IsWritten d pass.note stripe → Contains gone_by_write n
      goes stripe n at h = by (within (stripe_length d.shape) some pass.note.offset pass.note.length stripe (record { byte = h.byte; from = h.from; before = h.before; there = h.there }))
        where
          inside : stripe < length old
          inside = slice_get_within old stripe n at

          by : (first ≤ stripe) × (stripe < first + stripes_met (stripe_length d.shape) pass.note.offset pass.note.length) → Contains gone_by_write n
          by range =
              let drawn : stripe - first < length pass.drawn = omega (arith, range.0, range.1, drawn_count) in (
                stripe - first,
                omega (arith, few, range.0, drawn, inside),
                at_gone (stripe - first) n drawn ∙ ap (λ i. get_or old i n) (omega (arith, range.0)) ∙ get_or_from_slice_get old stripe n n at,
              )

      gone : (stripe n : ℕ) → slice_get old stripe ≡ Some n → Contains gone_by_write n → IsWritten d pass.note stripe
      gone stripe n at c = by (old_place n c)
        where
          by : (b : ℕ) × (b < length pass.drawn) × (slice_get old (first + b) ≡ Some n) → IsWritten d pass.note stripe
          by there =
              let same : first + there.0 ≡ stripe = of.once (first + there.0) stripe n there.2 at in
              let byte : ByteIn (stripe_length d.shape) pass.note.offset pass.note.length stripe =
              byte_of (stripe_length d.shape) some pass.note.offset pass.note.length stripe (omega (arith, same)) (omega (arith, same, there.1, drawn_count)) in
              record { byte = byte.byte; from = byte.from; before = byte.before; there = byte.there }

  -- ---- either
  pub commit_drops : (pass.note.kind ≡ Kind.Put) ⊎ (pass.note.kind ≡ Kind.Write) → CommitDrops pass.note.kind d (after_by pass.note.kind) pass rows
  commit_drops (inl e) = subst (λ k. CommitDrops k d (after_by k) pass rows) (sym e) put_drops
  commit_drops (inr e) = subst (λ k. CommitDrops k d (after_by k) pass rows) (sym e) write_drops
