-- What stands next in a session's input, of which so many bytes are served.
use Rattle.std.specs.Prelude.{◌≡◌, ◌≤◌, ℕ, ◌+◌, nat_lt, false, Option, None, Some, List, length, take, drop, IsTrue}
use Rattle.clay_bytes.specs.Stream.{Gives}
use Rattle.session_rules.specs.declared.session_ending.Ending.{Ending}
use Rattle.session_rules.specs.Input.{is_frame_length, first_frame, has_wrong_length, ending_by}
use Rattle.frame_bytes.specs.declared.frame_reading.Next.{Next}

-- the frame that stands first, where one does, and otherwise the input's ending
abbrev pub next_by : Option (List ℕ × List ℕ) → Ending → Next
next_by None ending = Next.End ending
next_by (Some first) ending = Next.Frame first.0

-- what stands next in bytes of which so many are served
abbrev pub next_of : ℕ → List ℕ → Next
next_of room bytes = next_by (first_frame (take room bytes)) (ending_by (nat_lt room (length bytes)) (take room bytes))

-- how many bytes are read to know an ending, or as many as there are: a length that no frame may have; otherwise all that are served, and one more
abbrev pub read_to_end : ℕ → Ending → ℕ
read_to_end room Ending.FrameTooLong = 4
read_to_end room _ = room + 1

-- and to know what stands next
abbrev pub read_for : ℕ → Next → ℕ
read_for room (Next.Frame frame) = 4 + length frame
read_for room (Next.End ending) = read_to_end room ending

-- this stands next in what a source has left, and so many bytes were read
abbrev pub IsNext : ℕ → Option (List ℕ) → Next → Option (List ℕ) → Type 0
IsNext room None next new = Unit {0}
IsNext room (Some bytes) next None = ⊥
IsNext room (Some bytes) next (Some rest) = (next ≡ next_of room bytes) × (rest ≡ drop (read_for room next) bytes)

-- a frame has a length that a frame may have, and is served
abbrev pub IsServed : ℕ → Next → Type 0
IsServed room (Next.Frame frame) = IsTrue (is_frame_length (length frame)) × (4 + length frame ≤ room)
IsServed room (Next.End ending) = Unit {0}

-- what was read of what stands next: no whole frame, no length that no frame may have, and no more bytes than are served
pub record IsPart (room : ℕ) (got : List ℕ) : Type 0 where
  pub served : length got ≤ room
  pub no_frame : first_frame got ≡ None
  pub no_fault : has_wrong_length got ≡ false

-- reading was given up within what stands next
abbrev pub StopsWithin : ℕ → Option (List ℕ) → Option (List ℕ) → Type 0
StopsWithin room old new = (got : List ℕ) × IsPart room got × Gives old got new

-- it was given up behind a frame's length
abbrev pub StopsAtLength : ℕ → Option (List ℕ) → Option (List ℕ) → Type 0
StopsAtLength room old new = (got : List ℕ) × (length got ≡ 4) × IsPart room got × Gives old got new
