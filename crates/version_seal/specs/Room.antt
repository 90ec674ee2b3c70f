-- Room for versions in a book, and what a version that has an entry is answered.
use Rattle.std.specs.Prelude.{◌≡◌, ℕ, ◌+◌, ◌-◌, ◌*◌, ◌<◌, ◌≤◌, ⊤, List, length}
use Rattle.version_seal.specs.Entry.{BookOf}
use Rattle.version_seal.specs.declared.book_room.SealError.{SealError}
use Rattle.version_seal.specs.declared.book_room.SealError.TheVariants as seal_error

-- how many versions a book can have: 4,096 for each of its slots but the first
abbrev pub room_of : BookOf → ℕ
room_of book = (length book.home - 1) * 4096

-- so many versions of a book, from one on
pub record RoomOf : Type 0 where
  pub home : List ℕ
  pub first : ℕ
  pub count : ℕ

-- the room is of this book and has the version's place
pub record HasRoom (book : BookOf) (version : ℕ) (room : RoomOf) : Type 0 where
  pub same_home : room.home ≡ book.home
  pub from : room.first ≤ version
  pub below : version < room.first + room.count

-- a version that was sealed before is told with its stamp
abbrev pub IsSealedBefore : BookOf → ℕ → SealError → Type 0
IsSealedBefore book version (seal_error.Sealed stamp) = (stamp.home ≡ book.home) × (stamp.version ≡ version)
IsSealedBefore book version seal_error.Contended = ⊤
