-- What is known of the sources of shares.
use Rattle.std.specs.Prelude.{ℕ, ◌<◌, List, [], length, drop, get_or}
use Rattle.file_bytes.specs.Places.{Placed, Shows}

-- what a source handed out, where it told its end, and where its reads failed
pub record Seen : Type 0 where
  pub given : List Placed
  pub ends : List ℕ
  pub failed : List ℕ

abbrev pub seen : List Placed → List ℕ → List ℕ → Seen
seen given ends failed = record { given = given; ends = ends; failed = failed }

-- the one of a number
abbrev pub seen_of : List Seen → ℕ → Seen
seen_of sources c = get_or sources c (seen [] [] [])

-- where the reads failed that were made between two moments: behind those that had failed before
abbrev pub failed_since : Seen → Seen → List ℕ
failed_since old new = drop (length old.failed) new.failed

-- each source shows the file of its number
abbrev pub Show : List Seen → List (List ℕ) → Type 0
Show sources files = (c : ℕ) → c < length sources → Shows (get_or files c []) (seen_of sources c).given (seen_of sources c).ends
