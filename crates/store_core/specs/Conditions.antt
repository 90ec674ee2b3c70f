-- When a step may be made at a directory: the conditions of its calls, beside that it is sound.
use Rattle.std.specs.Prelude.{◌≡◌, ◌≢◌, ◌⊎◌, ℕ, ◌<◌, ◌≤◌, List, [], length, None, Some, All, IsTrue, ⊤}
use Rattle.clay_grid.specs.Shape.{chunk_count}
use Rattle.store_map.specs.declared.actor.Actor.{Actor}
use Rattle.store_map.specs.declared.actor.Actor.TheVariants as actor
use Rattle.store_map.specs.declared.placement.Placement.{Placement}
use Rattle.store_core.specs.Placements.{IsRow}
use Rattle.store_core.specs.Note.{Note, Kind}
use Rattle.store_core.specs.Act.{DirectoryStep}
use Rattle.store_core.specs.Directory.{Pass, Event, Directory}
use Rattle.store_core.specs.Lookups.{same_actor, pass_of}
use Rattle.store_core.specs.PassSteps.{touched}

-- the actor is in no call; none of its later calls stands in the history, and of this one nothing but reaps
pub record MayBegin (d : Directory) (who : Actor) (number : ℕ) : Type 0 where
  pub no_pass : pass_of who d ≡ None
  pub numbers :
      All (λ point. IsTrue (same_actor point.actor who) → (point.number ≤ number) × (point.number ≡ number → point.event ≡ Event.Reaped)) d.points

-- a client's call; all but a write and a read speak of the object's bytes from the first one on
abbrev pub IsOfClient : Actor → Note → Type 0
IsOfClient (actor.Client i) note = (note.kind ≡ Kind.Write) ⊎ (note.kind ≡ Kind.ReadAt) ⊎ ((note.kind ≢ Kind.Rebuild) × (note.offset ≡ 0))
IsOfClient who note = ⊥

-- a repairer's
abbrev pub IsOfRepairer : Actor → Note → Type 0
IsOfRepairer (actor.Repairer i) note = note.kind ≡ Kind.Rebuild
IsOfRepairer who note = ⊥

-- the pass of a put or a write
pub record IsWriting (d : Directory) (who : Actor) (pass : Pass) : Type 0 where
  pub is_pass : pass_of who d ≡ Some pass
  pub kind : (pass.note.kind ≡ Kind.Put) ⊎ (pass.note.kind ≡ Kind.Write)

-- the pass of a rebuild
pub record IsRebuilding (d : Directory) (who : Actor) (pass : Pass) : Type 0 where
  pub is_pass : pass_of who d ≡ Some pass
  pub kind : pass.note.kind ≡ Kind.Rebuild

-- every touched stripe has its version, and a row of placements
pub record IsPrepared (d : Directory) (pass : Pass) (placed : List (List Placement)) : Type 0 where
  pub drawn : length pass.drawn ≡ length (touched d pass.note)
  pub rows : length placed ≡ length pass.drawn
  pub whole : All (IsRow d.shape) placed

-- the condition of each step
abbrev pub MayStep : Directory → Actor → ℕ → DirectoryStep → Type 0
MayStep d who number (DirectoryStep.Look note) = MayBegin d who number × IsOfClient who note
MayStep d who number (DirectoryStep.LookRepair note) = MayBegin d who number × IsOfRepairer who note
MayStep d who number DirectoryStep.Draw = (pass : Pass) × IsWriting d who pass × (pass.drawn ≡ [])
MayStep d who number (DirectoryStep.Commit placed) = (pass : Pass) × IsWriting d who pass × IsPrepared d pass placed
MayStep d who number DirectoryStep.Confirm = (pass : Pass) × IsRebuilding d who pass
MayStep d who number (DirectoryStep.Repaired server epoch) = (pass : Pass) × IsRebuilding d who pass × (server < chunk_count d.shape)
MayStep d who number step = ⊤
