-- The first directory is sound, and each step that may be made leaves a sound directory sound.
use Rattle.std.proofs.Common.{ℕ, ◌<◌, Bool, true, false, [], All, refl, arith}
use Rattle.std.proofs.lemmas.Option.{none-some}
use Rattle.std.proofs.lemmas.List.Elements.{All-nil}
use Rattle.clay_grid.specs.Shape.{Shape, stripe_length}
use Rattle.store_map.specs.declared.actor.Actor.{Actor}
use Rattle.store_core.specs.Act.{DirectoryStep, takes_memory}
use Rattle.store_core.specs.Directory.{Pass, Directory, new_directory}
use Rattle.store_core.specs.AtDirectory.{made_at_directory, unless_short}
use Rattle.store_core.specs.Conditions.{MayStep}
use Rattle.store_core.specs.SoundPasses.{HasVersions, IsOfItsCall}
use Rattle.store_core.specs.Sound.{HasItsVersions, IsPlaced, IsSound}
use Rattle.run_laws.specs.SoundLaws.{StepsKeepSound}
use Rattle.run_laws.proofs.SoundParts.{LiveThere, RightThere, PinsPlaced}
use Rattle.run_laws.proofs.SoundEnd.{end_sound, confirm_sound, repaired_sound}
use Rattle.run_laws.proofs.SoundSweep.{next_garbage_sound, swept_sound}
use Rattle.run_laws.proofs.SoundReap.{reap_sound}
use Rattle.run_laws.proofs.SoundDraw.{draw_sound}
use Rattle.run_laws.proofs.SoundLook.{look_sound, look_repair_sound}
use Rattle.run_laws.proofs.SoundCommit.{commit_sound}

-- a directory without objects is sound
first_sound : (g : Shape) (max : ℕ) → IsSound (new_directory g max)
first_sound g max =
    let d : Directory = new_directory g max in
    record {
      history = refl;
      objects = All-nil (HasItsVersions d);
      once = λ i j a b o p at. absurd (none-some o at);
      points = λ i j p less within. absurd (omega (arith, within));
      passes = λ i j p less within. absurd (omega (arith, within));
      live = All-nil (LiveThere d);
      calls = All-nil (RightThere d);
      newest = All-nil (λ (pass : Pass). All (IsOfItsCall pass) []);
      apart = λ i j p less within. absurd (omega (arith, within));
      listed = λ number h. absurd (let less : number < 0 = h.1 in omega (arith, less));
      placed = All-nil (IsPlaced d);
      pinned_placed = All-nil (PinsPlaced d);
      versions = All-nil (HasVersions d);
    }

-- a step with ample memory
made_sound : (who : Actor) (number : ℕ) (step : DirectoryStep) (d : Directory) → 0 < stripe_length d.shape → IsSound d → MayStep d who number step → IsSound (made_at_directory who number step d).0
made_sound who number (DirectoryStep.Look note) d some sound may = look_sound who number note d some sound may
made_sound who number (DirectoryStep.LookRepair note) d some sound may = look_repair_sound who number note d sound may
made_sound who number DirectoryStep.Draw d some sound may = draw_sound who d sound may
made_sound who number (DirectoryStep.Commit placed) d some sound may = commit_sound who placed d some sound may
made_sound who number DirectoryStep.End d some sound may = end_sound who d sound
made_sound who number DirectoryStep.Confirm d some sound may = confirm_sound who d sound
made_sound who number (DirectoryStep.Repaired server epoch) d some sound may = repaired_sound who server epoch d sound
made_sound who number DirectoryStep.NextGarbage d some sound may = next_garbage_sound d sound
made_sound who number (DirectoryStep.Swept version) d some sound may = swept_sound d sound version
made_sound who number (DirectoryStep.Reap reaped) d some sound may = reap_sound reaped d sound

-- where memory is wanting nothing changes
unless_short_sound : (short takes : Bool) (who : Actor) (number : ℕ) (step : DirectoryStep) (d : Directory) → 0 < stripe_length d.shape → IsSound d → MayStep d who number step
    → IsSound (unless_short short takes who number step d).0
unless_short_sound true true who number step d some sound may = sound
unless_short_sound true false who number step d some sound may = made_sound who number step d some sound may
unless_short_sound false true who number step d some sound may = made_sound who number step d some sound may
unless_short_sound false false who number step d some sound may = made_sound who number step d some sound may

-- the law
pub steps_keep_sound : StepsKeepSound
steps_keep_sound =
    record {
      first = first_sound;
      step = λ short who number step d some sound may. unless_short_sound short (takes_memory step) who number step d some sound may;
    }
