-- The versions after a change of an object: drawn ones become current, those that it no longer has superseded.
use Rattle.std.proofs.Common.{◌≡◌, ◌⊎◌, ℕ, ◌<◌, Bool, true, false, List, [], length, zip, slice_get, Some, All, Contains, IsTrue, refl, sym, ap, subst, ◌∙◌, inl, inr}
use Rattle.std.proofs.lemmas.Bool.{cases_Bool}
use Rattle.std.proofs.lemmas.List.Elements.{All-contains}
use Rattle.store_core.specs.Placements.{IsRow}
use Rattle.store_map.specs.declared.placement.Placement.{Placement}
use Rattle.store_core.specs.Lists.{is_among}
use Rattle.store_core.specs.Directory.{Standing, Version, Pass, Directory}
use Rattle.store_core.specs.Lookups.{is_live}
use Rattle.store_core.specs.Look.{set_standing}
use Rattle.store_core.specs.Commit.{place_all}
use Rattle.store_core.specs.SoundPasses.{Stands}
use Rattle.store_core.specs.Sound.{IsPlaced}
use Rattle.store_core.proofs.Places.{length-set_standing, length-place_all}
use Rattle.run_laws.proofs.SoundLists.{among, is_in}
use Rattle.run_laws.proofs.SoundVersions.{StandsIn, StandsThere, stands_there, stands_at, standing_of, given, set_at, IsPlacedBy, PlacedThere, placed_at}
use Rattle.run_laws.proofs.SoundParts.{Moves, MovedThere, MovesTo, Before, there_is}
use Rattle.run_laws.proofs.SoundClose.{drawn_is_not_current, drawn_is_not_superseded, superseded_is_not_current}

-- drawn versions with rows of epochs, and current ones that are dropped
pub record CanBeLaid (d : Directory) (drawn : List ℕ) (rows : List (List Placement)) (dropped : List ℕ) : Type 0 where
  pub is_drawn : (n : ℕ) → Contains drawn n → Stands d Standing.Drawn n
  pub is_current : (n : ℕ) → Contains dropped n → Stands d Standing.Current n
  pub one_each : length rows ≡ length drawn
  pub whole : All (IsRow d.shape) rows
  pub left : (pass : Pass) → Contains d.passes pass → IsTrue (is_live pass.reaped) → (n : ℕ) → Contains drawn n → Contains pass.drawn n → ⊥

-- the versions then
abbrev pub laid : List ℕ → List (List Placement) → List ℕ → List Version → List Version
laid drawn rows dropped versions = set_standing Standing.Superseded dropped (place_all (zip drawn rows) versions)

module _ (d : Directory) (drawn : List ℕ) (rows : List (List Placement)) (dropped : List ℕ) (can : CanBeLaid d drawn rows dropped) where
  -- the versions after
  abbrev after_laid : List Version
  after_laid = laid drawn rows dropped d.versions

  -- no version is both drawn and current
  not_both : (n : ℕ) → Stands d Standing.Drawn n → Stands d Standing.Current n → ⊥
  not_both n h k =
      let there : StandsThere d.versions Standing.Current n = stands_there d.versions Standing.Current n k in
      drawn_is_not_current there.version.standing (standing_of d.versions Standing.Drawn n there.version h there.found) there.stands

  -- a version's step, by whether it was drawn and whether it is dropped
  record LaidThere (n : ℕ) (before : Version) : Type 0 where
    middle : Version
    placed : IsPlacedBy drawn rows n before middle
    found : slice_get after_laid n ≡ Some (given Standing.Superseded (is_among n dropped) middle)

  -- each version has such a step
  laid_at : (n : ℕ) (before : Version) → slice_get d.versions n ≡ Some before → LaidThere n before
  laid_at n before e =
      let there : PlacedThere drawn rows d.versions n before = placed_at drawn rows d.versions n before can.one_each e in
      record { middle = there.after; placed = there.placed; found = set_at Standing.Superseded dropped (place_all (zip drawn rows) d.versions) n there.after there.found }

  -- their count stays
  length-laid : length after_laid ≡ length d.versions
  length-laid = length-set_standing Standing.Superseded dropped (place_all (zip drawn rows) d.versions) ∙ length-place_all (zip drawn rows) d.versions

  -- what was drawn
  placed_moves : (n : ℕ) (before middle : Version) → Contains drawn n → slice_get d.versions n ≡ Some before → (row : List Placement) → Contains rows row → middle ≡ record before { placed = row; standing = Standing.Current }
      → Moves d n before middle
  placed_moves n before middle has e row in_rows same =
      record {
        pinned = λ _ _ _ _ _ _ _. inl (ap (λ (v : Version). v.standing) same);
        drawn = λ pass there live draws _. absurd (can.left pass there live n has draws);
        placed = λ _. record { row_or_none = inr whole; current = λ _. whole; drawn = λ c. absurd (drawn_is_not_current middle.standing c (ap (λ (v : Version). v.standing) same)) };
        whole = λ _. whole;
      }
    where
      whole : IsRow d.shape middle.placed
      whole = subst (IsRow d.shape) (sym (ap (λ (v : Version). v.placed) same)) (All-contains (IsRow d.shape) rows row can.whole in_rows)

  -- what is neither drawn nor dropped
  same_moves : (n : ℕ) (before middle : Version) → middle ≡ before → Moves d n before middle
  same_moves n before middle same =
      record {
        pinned = λ _ _ _ _ _ _ h. subst (λ (v : Version). (v.standing ≡ Standing.Current) ⊎ (v.standing ≡ Standing.Superseded)) (sym same) h;
        drawn = λ _ _ _ _ h. subst (λ (v : Version). v.standing ≡ Standing.Drawn) (sym same) h;
        placed = λ h. subst (IsPlaced d) (sym same) h;
        whole = λ h. subst (λ (v : Version). IsRow d.shape v.placed) (sym same) h;
      }

  -- what is dropped
  dropped_moves : (n : ℕ) (before middle : Version) → Contains dropped n → slice_get d.versions n ≡ Some before → middle ≡ before → Moves d n before (record middle { standing = Standing.Superseded })
  dropped_moves n before middle has e same =
      record {
        pinned = λ _ _ _ _ _ _ _. inr refl;
        drawn = λ _ _ _ _ h. absurd (drawn_is_not_current before.standing h (standing_of d.versions Standing.Current n before (can.is_current n has) e));
        placed = λ h. record { row_or_none = subst (λ (v : Version). (v.placed ≡ []) ⊎ (IsRow d.shape v.placed)) (sym same) h.row_or_none; current = λ c. absurd (superseded_is_not_current Standing.Superseded refl c); drawn = λ c. absurd (drawn_is_not_superseded Standing.Superseded c refl) };
        whole = λ h. subst (λ (v : Version). IsRow d.shape v.placed) (sym same) h;
      }

  -- a dropped version isn't a drawn one
  not_drawn_too : (n : ℕ) → Contains dropped n → is_among n drawn ≡ true → ⊥
  not_drawn_too n has e = not_both n (can.is_drawn n (is_in n drawn e)) (can.is_current n has)

  -- so the test says
  not_drawn : (n : ℕ) → Contains dropped n → is_among n drawn ≡ false
  not_drawn n has = by (cases_Bool (is_among n drawn))
    where
      by : (is_among n drawn ≡ true) ⊎ (is_among n drawn ≡ false) → is_among n drawn ≡ false
      by (inl e) = absurd (not_drawn_too n has e)
      by (inr e) = e

  -- each version moves so
  laid_one : (n : ℕ) (before : Version) → slice_get d.versions n ≡ Some before → MovedThere d after_laid n before
  laid_one n before e = by (is_among n dropped) refl (cases_Bool (is_among n drawn)) there.found
    where
      there : LaidThere n before
      there = laid_at n before e

      by : (b : Bool) → is_among n dropped ≡ b → (is_among n drawn ≡ true) ⊎ (is_among n drawn ≡ false) → slice_get after_laid n ≡ Some (given Standing.Superseded b there.middle) → MovedThere d after_laid n before
      by true gone which found =
          record {
            after = record there.middle { standing = Standing.Superseded };
            found = found;
            moves = dropped_moves n before there.middle (is_in n dropped gone) e (there.placed.other (not_drawn n (is_in n dropped gone)));
          }
      by false kept (inl mine) found =
          let row : (row : List Placement) × Contains rows row × (there.middle ≡ record before { placed = row; standing = Standing.Current }) = there.placed.drawn_one mine in
          record { after = there.middle; found = found; moves = placed_moves n before there.middle (is_in n drawn mine) e row.0 row.1 row.2 }
      by false kept (inr others) found = record { after = there.middle; found = found; moves = same_moves n before there.middle (there.placed.other others) }

  -- all of them do
  pub laid_moves : MovesTo d after_laid
  laid_moves = record { count = length-laid; each = laid_one }

  -- ---- which versions are current then
  -- where a version stands that is not dropped
  kept_found : (n : ℕ) (before : Version) (there : LaidThere n before) → is_among n dropped ≡ false → slice_get after_laid n ≡ Some there.middle
  kept_found n before there kept = there.found ∙ ap (λ b. Some (given Standing.Superseded b there.middle)) kept

  -- each drawn version is current then
  pub laid_drawn : (n : ℕ) → Contains drawn n → StandsIn after_laid Standing.Current n
  laid_drawn n has = by (cases_Bool (is_among n dropped))
    where
      old : StandsThere d.versions Standing.Drawn n
      old = stands_there d.versions Standing.Drawn n (can.is_drawn n has)

      there : LaidThere n old.version
      there = laid_at n old.version old.found

      row : (row : List Placement) × Contains rows row × (there.middle ≡ record old.version { placed = row; standing = Standing.Current })
      row = there.placed.drawn_one (among n drawn has)

      by : (is_among n dropped ≡ true) ⊎ (is_among n dropped ≡ false) → StandsIn after_laid Standing.Current n
      by (inl gone) = absurd (not_both n (can.is_drawn n has) (can.is_current n (is_in n dropped gone)))
      by (inr kept) = stands_at after_laid Standing.Current n there.middle (kept_found n old.version there kept) (ap (λ (v : Version). v.standing) row.2)

  -- so is each that was current and isn't dropped
  pub laid_kept : (n : ℕ) → Stands d Standing.Current n → is_among n dropped ≡ false → StandsIn after_laid Standing.Current n
  laid_kept n h kept = by (cases_Bool (is_among n drawn))
    where
      old : StandsThere d.versions Standing.Current n
      old = stands_there d.versions Standing.Current n h

      there : LaidThere n old.version
      there = laid_at n old.version old.found

      by : (is_among n drawn ≡ true) ⊎ (is_among n drawn ≡ false) → StandsIn after_laid Standing.Current n
      by (inl mine) = laid_drawn n (is_in n drawn mine)
      by (inr others) =
          stands_at after_laid Standing.Current n there.middle (kept_found n old.version there kept) (ap (λ (v : Version). v.standing) (there.placed.other others) ∙ old.stands)

  -- no other is
  pub laid_back : (n : ℕ) → StandsIn after_laid Standing.Current n → Contains drawn n ⊎ (Stands d Standing.Current n × (is_among n dropped ≡ false))
  laid_back n h = by (is_among n dropped) refl (cases_Bool (is_among n drawn)) there.found
    where
      less : n < length d.versions
      less = subst (λ m. n < m) length-laid h.1

      old : Before d.versions n
      old = there_is d.versions n less

      there : LaidThere n old.version
      there = laid_at n old.version old.found

      by : (b : Bool) → is_among n dropped ≡ b → (is_among n drawn ≡ true) ⊎ (is_among n drawn ≡ false) → slice_get after_laid n ≡ Some (given Standing.Superseded b there.middle)
          → Contains drawn n ⊎ (Stands d Standing.Current n × (is_among n dropped ≡ false))
      by true gone which found =
          absurd (superseded_is_not_current Standing.Superseded refl (standing_of after_laid Standing.Current n (record there.middle { standing = Standing.Superseded }) h found))
      by false kept (inl mine) found = inl (is_in n drawn mine)
      by false kept (inr others) found =
          inr (
            stands_at d.versions Standing.Current n old.version old.found
                (ap (λ (v : Version). v.standing) (sym (there.placed.other others)) ∙ standing_of after_laid Standing.Current n there.middle h found),
            kept,
          )
