-- The laws on which versions are dropped, by what a step at a sound directory is answered.
use Rattle.std.specs.Prelude.{◌≡◌, ℕ, ◌<◌, Bool, List, Some, ⊤}
use Rattle.clay_grid.specs.Shape.{stripe_length}
use Rattle.store_map.specs.declared.actor.Actor.{Actor}
use Rattle.store_map.specs.declared.placement.Placement.{Placement}
use Rattle.store_map.specs.declared.reply.Reply.TheVariants as reply
use Rattle.store_core.specs.Told.{Told}
use Rattle.store_core.specs.Note.{Note, Kind}
use Rattle.store_core.specs.Act.{DirectoryStep}
use Rattle.store_core.specs.Directory.{Pass, Directory}
use Rattle.store_core.specs.Lookups.{pass_of}
use Rattle.store_core.specs.AtDirectory.{at_directory}
use Rattle.store_core.specs.Conditions.{IsWriting, IsPrepared}
use Rattle.store_core.specs.Sound.{IsSound}
use Rattle.history_laws.specs.CommitDrops.{CommitDrops, DeleteDrops, GivesUp}

-- what a commit that may be made is answered
abbrev pub IsCommitAnswer : Told → Type 0
IsCommitAnswer (Told.Done point) = ⊤
IsCommitAnswer (Told.Changed base newer) = ⊤
IsCommitAnswer (Told.Reaped point) = ⊤
IsCommitAnswer answer = ⊥

-- a commit that may be made, by its answer; where it tells of a reap, that is the pass's own, and no version changes
pub record CommitsDrop (rows : List (List Placement)) (d : Directory) (pass : Pass) (after : Directory × Told) : Type 0 where
  pub answered : IsCommitAnswer after.1
  pub done : (point : ℕ) → after.1 ≡ Told.Done point → CommitDrops pass.note.kind d after.0.versions pass rows
  pub changed : (base newer : ℕ) → after.1 ≡ Told.Changed base newer → GivesUp d after.0.versions pass
  pub reaped : (point : ℕ) → after.1 ≡ Told.Reaped point → (pass.reaped ≡ Some point) × (after.0.versions ≡ d.versions)

-- each commit drops versions so
abbrev pub AllCommitsDrop : Type 0
AllCommitsDrop =
    (short : Bool) (who : Actor) (number : ℕ) (rows : List (List Placement)) (d : Directory) (pass : Pass) → 0 < stripe_length d.shape → IsSound d →
    IsWriting d who pass → IsPrepared d pass rows → CommitsDrop rows d pass (at_directory short who number (DirectoryStep.Commit rows) d)

-- a delete that is answered ok
abbrev pub AllDeletesDrop : Type 0
AllDeletesDrop =
    (short : Bool) (who : Actor) (number point : ℕ) (note : Note) (d : Directory) → IsSound d → note.kind ≡ Kind.Delete →
    let after : Directory × Told = at_directory short who number (DirectoryStep.Look note) d in
    after.1 ≡ Told.Answer point reply.Done → DeleteDrops d after.0.versions note.name

-- a pass that ends without a commit, and one that is reaped
pub record AllEndsDrop : Type 0 where
  pub ended :
      (short : Bool) (who : Actor) (number : ℕ) (d : Directory) (pass : Pass) → IsSound d → pass_of who d ≡ Some pass →
      let after : Directory × Told = at_directory short who number DirectoryStep.End d in
      after.1 ≡ Told.Ended → GivesUp d after.0.versions pass
  pub reaped :
      (short : Bool) (who reaped : Actor) (number point : ℕ) (d : Directory) (pass : Pass) → IsSound d → pass_of reaped d ≡ Some pass →
      let after : Directory × Told = at_directory short who number (DirectoryStep.Reap reaped) d in
      after.1 ≡ Told.GivenUp (Some point) → GivesUp d after.0.versions pass
