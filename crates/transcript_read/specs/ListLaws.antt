-- What the order of lines says of each list of a transcript.
use Rattle.std.specs.Prelude.{◌≡◌, ℕ, ◌<◌, ◌≤◌, length, map}
use Rattle.std.specs.List.{AllPairs, range_with_len}
use Rattle.transcript_text.specs.Text.{text_of}
use Rattle.store_map.specs.declared.transcript.Transcript.{Transcript}
use Rattle.transcript_read.specs.WellFormed.{IsWellFormed, lines_of}

-- the points of the history rise, and the servers are all those from 0 on
pub record HasOrderedLists (servers : ℕ) (t : Transcript) : Type 0 where
  pub points : AllPairs (λ line other. line.point < other.point) t.history
  pub servers_in_order : map (λ line. line.server) t.servers ≡ range_with_len 0 servers

-- so it is of each transcript
abbrev pub AreListsOrdered : Type 0
AreListsOrdered = (servers : ℕ) (t : Transcript) → IsWellFormed servers t → HasOrderedLists servers t

-- a transcript has no more lines than its text has bytes
abbrev pub HaveFewLines : Type 0
HaveFewLines = (t : Transcript) → length (lines_of t) ≤ length (text_of t)
