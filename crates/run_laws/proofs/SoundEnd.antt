-- A step on a pass that ends it, or asks whether its version is current, keeps a directory sound.
use Rattle.std.proofs.Common.{◌≡◌, ◌⊎◌, ℕ, ◌<◌, false, List, [], length, fold, Option, None, Some, Contains, refl, sym, ap, ◌∙◌, inl, inr, arith, unwrap_or}
use Rattle.std.proofs.lemmas.Bool.{cond_both}
use Rattle.std.proofs.lemmas.List.{nil_from_length}
use Rattle.std.proofs.lemmas.List.Elements.{All-contains}
use Rattle.std.specs.List.{list_all}
use Rattle.store_map.specs.declared.actor.Actor.{Actor}
use Rattle.store_core.specs.Placements.{IsRow}
use Rattle.store_core.specs.Lists.{change_at}
use Rattle.store_core.specs.Told.{Told}
use Rattle.store_core.specs.Directory.{Standing, Version, Pin, Pass, Directory}
use Rattle.store_core.specs.Lookups.{same_actor, pass_of, last_change, is_live, is_current}
use Rattle.store_core.specs.PassSteps.{close_pass, give_up_drawn, end_pass, confirm, repaired}
use Rattle.store_core.specs.AtDirectory.{unless_reaped, on_pass}
use Rattle.store_core.specs.SoundPasses.{Stands, IsLive}
use Rattle.store_core.specs.Sound.{IsSound}
use Rattle.run_laws.proofs.SoundVersions.{StandsIn, StandsThere, stands_there, stands_at, standing_of, raise, RaisedThere, raised_at, length-raised}
use Rattle.run_laws.proofs.SoundParts.{LiveThere, Moves, Before, there_is, other_versions}
use Rattle.run_laws.proofs.SoundClose.{IsHeld, held_pass, closed_sound, left_passes, drawn_apart, given_up}

-- a step on the actor's pass, where a reaped pass is closed
pub on_pass_sound : (who : Actor) (d : Directory) → IsSound d → (step : Pass → Directory → Directory × Told)
    → ((pass : Pass) → pass_of who d ≡ Some pass → IsHeld d pass → pass.reaped ≡ None → IsSound (step pass d).0) → IsSound (on_pass step (pass_of who d) d).0
on_pass_sound who d sound step keeps = by (pass_of who d) refl
  where
    open_or_not : (pass : Pass) → pass_of who d ≡ Some pass → (reaped : Option ℕ) → pass.reaped ≡ reaped → IsSound (unless_reaped step pass reaped d).0
    open_or_not pass e None live = keeps pass e (held_pass who d pass e) live
    open_or_not pass e (Some point) dead = closed_sound pass d sound

    by : (found : Option Pass) → pass_of who d ≡ found → IsSound (on_pass step found d).0
    by None e = sound
    by (Some pass) e = open_or_not pass e pass.reaped refl

-- what soundness says of a pass that isn't reaped
pub live_pass : (d : Directory) → IsSound d → (pass : Pass) → IsHeld d pass → pass.reaped ≡ None → IsLive d pass
live_pass d sound pass held e = All-contains (LiveThere d) d.passes pass sound.live held.has (ap is_live e)

-- ---- a pass ends without a commit
-- its drawn versions are given up
pub ended_sound : (d : Directory) → IsSound d → (pass : Pass) → IsHeld d pass → pass.reaped ≡ None → IsSound (close_pass pass (give_up_drawn pass d))
ended_sound d sound pass held live =
    given_up (close_pass pass d) (closed_sound pass d sound) pass.drawn
    (λ n c. All-contains (Stands d Standing.Drawn) pass.drawn n (live_pass d sound pass held live).drawn c)
    (λ other has _ n mine others.
    let left : Contains d.passes other × (same_actor pass.actor other.actor ≡ false) = left_passes pass d other has in
    drawn_apart d sound pass other held left.0 left.1 n mine others)

-- an end of the actor's pass
pub end_sound : (who : Actor) (d : Directory) → IsSound d → IsSound (on_pass end_pass (pass_of who d) d).0
end_sound who d sound = on_pass_sound who d sound end_pass (λ pass e held live. ended_sound d sound pass held live)

-- ---- a rebuild asks whether its version is current
-- it goes on, or its pass closes
pub confirm_sound : (who : Actor) (d : Directory) → IsSound d → IsSound (on_pass confirm (pass_of who d) d).0
confirm_sound who d sound =
    on_pass_sound who d sound confirm
    (λ pass e held live.
    cond_both {A = Directory × Told} (list_all (λ pin. is_current d pin.version) pass.pinned)
    (d, Told.Current) (close_pass pass d, Told.Superseded (unwrap_or (last_change pass.note.name d.points) 0)) (λ r. IsSound r.0) (λ _. sound) (λ _. closed_sound pass d sound))

-- ---- a rebuild ends: placed epochs rise
module _ (d : Directory) (sound : IsSound d) (server epoch : ℕ) (pins : List Pin) where
  -- the versions after
  abbrev raised : List Version
  raised = fold (λ vs pin. change_at pin.version (raise server epoch) vs) d.versions pins

  -- each keeps its standing and its count of epochs
  raised_moves : (n : ℕ) (before : Version) (new : RaisedThere raised n before) → Moves d n before new.after
  raised_moves n before new =
      record {
        pinned = λ _ _ _ _ _ _ h. by h;
        drawn = λ _ _ _ _ h. new.standing ∙ h;
        placed = λ h. record { row_or_none = none_or_all h.row_or_none; current = λ c. still_row (h.current (sym new.standing ∙ c)); drawn = λ c. still_none (h.drawn (sym new.standing ∙ c)) };
        whole = still_row;
      }
    where
      by : (before.standing ≡ Standing.Current) ⊎ (before.standing ≡ Standing.Superseded) → (new.after.standing ≡ Standing.Current) ⊎ (new.after.standing ≡ Standing.Superseded)
      by (inl e) = inl (new.standing ∙ e)
      by (inr e) = inr (new.standing ∙ e)

      still_row : IsRow d.shape before.placed → IsRow d.shape new.after.placed
      still_row h = record { whole = new.count ∙ h.whole; enough = omega (arith, h.enough, new.skipped) }

      still_none : before.placed ≡ [] → new.after.placed ≡ []
      still_none e = nil_from_length new.after.placed (new.count ∙ ap length e)

      none_or_all : (before.placed ≡ []) ⊎ (IsRow d.shape before.placed) → (new.after.placed ≡ []) ⊎ (IsRow d.shape new.after.placed)
      none_or_all (inl e) = inl (still_none e)
      none_or_all (inr e) = inr (still_row e)

  -- what was current stays so
  still_current : (n : ℕ) → Stands d Standing.Current n → StandsIn raised Standing.Current n
  still_current n h =
      let old : StandsThere d.versions Standing.Current n = stands_there d.versions Standing.Current n h in
      let new : RaisedThere raised n old.version = raised_at server epoch pins d.versions n old.version old.found in
      stands_at raised Standing.Current n new.after new.found (new.standing ∙ old.stands)

  -- what is current then was so
  was_current : (n : ℕ) → StandsIn raised Standing.Current n → Stands d Standing.Current n
  was_current n h =
      let less : n < length raised = h.1 in
      let same : length raised ≡ length d.versions = length-raised server epoch pins d.versions in
      let old : Before d.versions n = there_is d.versions n (omega (arith, less, same)) in
      let new : RaisedThere raised n old.version = raised_at server epoch pins d.versions n old.version old.found in
      stands_at d.versions Standing.Current n old.version old.found (sym new.standing ∙ standing_of raised Standing.Current n new.after h new.found)

  -- the directory stays sound
  raised_sound : IsSound (record d { versions = raised })
  raised_sound =
      other_versions d raised sound
      (record {
        count = length-raised server epoch pins d.versions;
        each = λ n before e.
            let new : RaisedThere raised n before = raised_at server epoch pins d.versions n before e in
            record { after = new.after; found = new.found; moves = raised_moves n before new };
      })
      still_current was_current

-- a rebuild's end on the actor's pass
pub repaired_sound : (who : Actor) (server epoch : ℕ) (d : Directory) → IsSound d → IsSound (on_pass (repaired server epoch) (pass_of who d) d).0
repaired_sound who server epoch d sound =
    on_pass_sound who d sound (repaired server epoch) (λ pass e held live. raised_sound (close_pass pass d) (closed_sound pass d sound) server epoch pass.pinned)
