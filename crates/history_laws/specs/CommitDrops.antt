-- What becomes of each version at a commit, at a delete, and where a pass gives up what it drew.
use Rattle.std.specs.Prelude.{◌≡◌, ℕ, List, Some, Contains, slice_get, ⊤}
use Rattle.store_map.specs.declared.placement.Placement.{Placement}
use Rattle.store_core.specs.Note.{Note, Kind}
use Rattle.store_core.specs.Directory.{Standing, Version, Pass, Directory}
use Rattle.store_core.specs.SoundPasses.{Stands}
use Rattle.history_laws.specs.StandsFor.{StandsFor, IsWritten, Becomes, Stays, placed_with, superseded}

-- whether a commit drops what stands for a stripe of its object: a put does so at each stripe, a write at those that it writes into
abbrev pub Replaces : Kind → Directory → Note → ℕ → Type 0
Replaces Kind.Put d note stripe = ⊤
Replaces Kind.Write d note stripe = IsWritten d note stripe
Replaces kind d note stripe = ⊥

-- a commit: what was drawn is current, the first version with the first row and so on; what stood for a stripe that is replaced is superseded; all other versions stay as they were
pub record CommitDrops (kind : Kind) (d : Directory) (after : List Version) (pass : Pass) (rows : List (List Placement)) : Type 0 where
  pub drawn :
      (place version : ℕ) (row : List Placement) → slice_get pass.drawn place ≡ Some version → slice_get rows place ≡ Some row →
      Becomes d.versions after version (placed_with row)
  pub replaced :
      (stripe version : ℕ) → StandsFor d pass.note.name stripe version → Replaces kind d pass.note stripe → Becomes d.versions after version superseded
  pub kept :
      (stripe version : ℕ) → StandsFor d pass.note.name stripe version → (Replaces kind d pass.note stripe → ⊥) →
      Stands d Standing.Current version × Stays d.versions after version
  pub others :
      (version : ℕ) → (Contains pass.drawn version → ⊥) → ((stripe : ℕ) → StandsFor d pass.note.name stripe version → ⊥) → Stays d.versions after version

-- a delete: what stood for any stripe of the object is superseded; all other versions stay as they were
pub record DeleteDrops (d : Directory) (after : List Version) (name : List ℕ) : Type 0 where
  pub dropped : (stripe version : ℕ) → StandsFor d name stripe version → Becomes d.versions after version superseded
  pub others : (version : ℕ) → ((stripe : ℕ) → StandsFor d name stripe version → ⊥) → Stays d.versions after version

-- a pass gives up what it drew: that is superseded; all other versions stay as they were
pub record GivesUp (d : Directory) (after : List Version) (pass : Pass) : Type 0 where
  pub drawn : (version : ℕ) → Contains pass.drawn version → Becomes d.versions after version superseded
  pub others : (version : ℕ) → (Contains pass.drawn version → ⊥) → Stays d.versions after version
