-- Bytes of a pinned stripe that are wanted.
use Rattle.std.specs.Prelude.{◌≡◌, ⊤, ℕ, List, [], ◌∷◌, ◌++◌, length, map, All, Result, IfOk}
use Rattle.std.specs.declared.alloc.AllocError.{AllocError}
use Rattle.clay_grid.specs.Shape.{Shape, chunk_count}
use Rattle.store_core.specs.Gathering.{Part}
use Rattle.store_core.specs.Read.{part_of}
use Rattle.version_seal.specs.Entry.{StampOf, BookOf}
use Rattle.call_steps.specs.declared.seen.Seen.{Seen}
use Rattle.stripe_dir.specs.declared.directory_answers.Look.{Look}
use Rattle.stripe_stamps.specs.SeenStripes.{seen_in}
use Rattle.stripe_dir.specs.Shown.{stripes_seen}
use Rattle.gathering.specs.Made.{bytes_between}

-- a part, with the stamp of its stripe's version
pub record Wanted : Type 0 where
  pub part : Part
  pub stamp : StampOf

-- of an object's bytes from start up to end those in a pinned stripe
abbrev pub wanted_of : Shape → ℕ → ℕ → Seen → Wanted
wanted_of g start end seen = record { part = part_of g start end (seen_in seen); stamp = seen.stamp }

-- without the stamps
abbrev pub parts_of : List Wanted → List Part
parts_of left = map (λ wanted. wanted.part) left

-- their bytes, one part after another
abbrev pub bytes_of : List Wanted → List ℕ
bytes_of [] = []
bytes_of (wanted ∷ left) = bytes_between wanted.part.start wanted.part.end wanted.stamp.content ++ bytes_of left

-- a stripe that was pinned is of the book, and tells of each server how it took the chunk
pub record IsPinned (book : BookOf) (seen : Seen) : Type 0 where
  pub placed : length seen.placed.items ≡ chunk_count book.geometry
  pub home : seen.stamp.home ≡ book.home

-- so are those that come with a look
abbrev pub ArePinned : BookOf → Result (Look ⊤ ⊤) AllocError → Type 0
ArePinned book answer = IfOk answer (λ answer. All (IsPinned book) (stripes_seen answer))
