-- The parts of a rebuild: its ticket, its pinned stripe, the gathering of its chunk, and the chunk.
use Rattle.std.specs.Prelude.{◌≡◌, ℕ, length}
use Rattle.clay_grid.specs.Shape.{chunk_count}
use Rattle.store_core.specs.Note.{Note}
use Rattle.store_core.specs.Act.{DirectoryStep}
use Rattle.store_core.specs.Agreement.{ActorToken}
use Rattle.store_core.specs.Tokens.{MayLook}
use Rattle.run_laws.specs.Stage.{Aim}
use Rattle.version_seal.specs.Entry.{BookOf}
use Rattle.version_seal.specs.Sealed.{ChunkOf}
use Rattle.call_steps.specs.declared.seen.Seen.{Seen}
use Rattle.stripe_stamps.specs.SeenStripes.{seen_in}
use Rattle.gathering.specs.Gathers.{GatherOf}

-- a seat with which its actor may begin the call
abbrev pub MayStart : ActorToken → ℕ → Note → Type 0
MayStart (ActorToken.Seated seat) number note = MayLook seat number (DirectoryStep.LookRepair note)
MayStart (ActorToken.InCall held) number note = ⊥

-- the pass of the call
abbrev pub IsOfCall : ActorToken → ℕ → Note → Type 0
IsOfCall (ActorToken.Seated seat) number note = ⊥
IsOfCall (ActorToken.InCall held) number note = (held.pass.number ≡ number) × (held.pass.note ≡ note)

-- a pinned stripe is of the book and has a placement for each server
pub record IsPinned (book : BookOf) (seen : Seen) : Type 0 where
  pub home : seen.stamp.home ≡ book.home
  pub whole : length seen.placed.items ≡ chunk_count book.geometry

-- the gathering of its chunk
pub record IsGatherOf (book : BookOf) (seen : Seen) (target : ℕ) (gather : GatherOf) : Type 0 where
  pub code : gather.course.geometry ≡ book.geometry
  pub aim : gather.course.aim ≡ Aim.Chunk (seen_in seen) target
  pub stamp : gather.stamp ≡ seen.stamp

-- the chunk that is made of it
pub record IsChunkMade (book : BookOf) (gather : GatherOf) (target : ℕ) (chunk : ChunkOf) : Type 0 where
  pub stamp : chunk.stamp ≡ gather.stamp
  pub server : chunk.server ≡ target
  pub code : chunk.geometry ≡ book.geometry

-- its chunk
pub record IsChunkFor (book : BookOf) (seen : Seen) (target : ℕ) (chunk : ChunkOf) : Type 0 where
  pub stamp : chunk.stamp ≡ seen.stamp
  pub server : chunk.server ≡ target
  pub code : chunk.geometry ≡ book.geometry
