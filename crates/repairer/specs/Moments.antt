-- What has come of a rebuild at some moments of it.
use Rattle.std.specs.Prelude.{◌≡◌, ℕ, Bool, false, List, length, Option, None, Some}
use Rattle.clay_grid.specs.Shape.{chunk_count}
use Rattle.store_map.specs.declared.call.Rebuild.{Rebuild}
use Rattle.store_core.specs.Note.{note_of_rebuild}
use Rattle.store_core.specs.Agreement.{ActorToken}
use Rattle.version_seal.specs.Entry.{BookOf}
use Rattle.version_seal.specs.Sealed.{ChunkOf}
use Rattle.call_steps.specs.declared.seen.Seen.{Seen}
use Rattle.gathering.specs.Courses.{IsAskingStage}
use Rattle.call_steps.specs.declared.need.Need.TheVariants as need
use Rattle.gathering.specs.Gathers.{GatherOf, need_of}
use Rattle.repairer.specs.Parts.{MayStart, IsPinned, IsGatherOf, IsChunkFor}

-- nothing was done yet
pub record IsNew (token : ActorToken) (number : ℕ) (call : Rebuild) (gather : Option GatherOf) (counts : Option (List ℕ)) (due : Bool) : Type 0 where
  pub may : MayStart token number (note_of_rebuild call)
  pub none : gather ≡ None
  pub nothing : counts ≡ None
  pub ready : due ≡ false

-- the stripe was seen, and the gathering isn't made yet
pub record IsSeen (book : BookOf) (looked held : Option Seen) (gather : Option GatherOf) (counts : Option (List ℕ)) : Type 0 where
  pub seen : Seen
  pub is_seen : looked ≡ Some seen
  pub is_held : held ≡ Some seen
  pub pinned : IsPinned book seen
  pub none : gather ≡ None
  pub nothing : counts ≡ None

-- a server is asked
pub record IsAsking (book : BookOf) (target : ℕ) (looked : Option Seen) (made : Option GatherOf) (counts : Option (List ℕ)) : Type 0 where
  pub seen : Seen
  pub gather : GatherOf
  pub takes : List ℕ
  pub is_seen : looked ≡ Some seen
  pub is_gather : made ≡ Some gather
  pub is_takes : counts ≡ Some takes
  pub pinned : IsPinned book seen
  pub its : IsGatherOf book seen target gather
  pub asks : IsAskingStage gather.course.stage
  pub servers : length takes ≡ chunk_count book.geometry

-- all parts have come, and the chunk isn't made yet
pub record IsGathered (book : BookOf) (target : ℕ) (looked : Option Seen) (made : Option GatherOf) : Type 0 where
  pub seen : Seen
  pub gather : GatherOf
  pub is_seen : looked ≡ Some seen
  pub is_gather : made ≡ Some gather
  pub pinned : IsPinned book seen
  pub its : IsGatherOf book seen target gather
  pub ready : need_of gather ≡ need.Coder

-- the chunk is made
pub record IsMade (book : BookOf) (target : ℕ) (looked : Option Seen) (made : Option ChunkOf) : Type 0 where
  pub seen : Seen
  pub chunk : ChunkOf
  pub is_seen : looked ≡ Some seen
  pub is_chunk : made ≡ Some chunk
  pub pinned : IsPinned book seen
  pub its : IsChunkFor book seen target chunk
