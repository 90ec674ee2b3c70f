-- Which answers come to a call of some kind.
use Rattle.std.specs.Prelude.{◌≡◌, ℕ, Bool, Some, IsTrue, ⊤}
use Rattle.store_map.specs.declared.actor.Actor.{Actor}
use Rattle.store_core.specs.Told.{Told}
use Rattle.store_core.specs.Note.{Note, Kind}
use Rattle.store_core.specs.Act.{DirectoryStep, ServerStep}
use Rattle.run_laws.specs.AnswerLaws.{is_on_pass}
use Rattle.store_core.specs.Directory.{Pass, Directory}
use Rattle.store_core.specs.Lookups.{pass_of}
use Rattle.store_core.specs.AtDirectory.{at_directory}
use Rattle.store_core.specs.Server.{Server, at_server}

-- a call whose look may pin stripes that are read; a rebuild has a look of its own, and is not spoken of
abbrev pub MayPin : Kind → Type 0
MayPin Kind.Get = ⊤
MayPin Kind.ReadAt = ⊤
MayPin Kind.Rebuild = ⊤
MayPin _ = ⊥

-- a call whose look may let it begin to write
abbrev pub MayWrite : Kind → Type 0
MayWrite Kind.Put = ⊤
MayWrite Kind.Write = ⊤
MayWrite _ = ⊥

-- an answer that may come to a call of some kind; only a write is told that its object was changed
abbrev pub FitsKind : Kind → Told → Type 0
FitsKind kind (Told.Pinned point length_now stripes) = MayPin kind
FitsKind kind (Told.Ready base length_now stripes) = MayWrite kind
FitsKind kind (Told.Changed base newer) = kind ≡ Kind.Write
FitsKind kind answer = ⊤

-- every directory and every server answers so
pub record PlacesAnswerByKind : Type 0 where
  pub look :
      (short : Bool) (who : Actor) (number : ℕ) (note : Note) (d : Directory) → FitsKind note.kind (at_directory short who number (DirectoryStep.Look note) d).1
  pub look_repair :
      (short : Bool) (who : Actor) (number : ℕ) (note : Note) (d : Directory) (kind : Kind) →
      FitsKind kind (at_directory short who number (DirectoryStep.LookRepair note) d).1
  pub on_pass :
      (short : Bool) (who : Actor) (number : ℕ) (step : DirectoryStep) (d : Directory) (pass : Pass) → pass_of who d ≡ Some pass → IsTrue (is_on_pass step) →
      FitsKind pass.note.kind (at_directory short who number step d).1
  pub server : (short : Bool) (step : ServerStep) (s : Server) (kind : Kind) → FitsKind kind (at_server short step s).1
