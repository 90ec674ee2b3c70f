-- What stands behind a frame's length, in bytes of which so many are served.
use Rattle.std.specs.Prelude.{◌≡◌, ◌≤◌, ◌<◌, ℕ, ◌+◌, Option, None, Some, List, [], length, take, drop}
use Rattle.session_rules.specs.declared.session_ending.Ending.{Ending}
use Rattle.frame_bytes.specs.declared.frame_reading.Next.{Next}

-- the frame is not whole in what is served: those bytes go on, or end
abbrev pub IsCutBody : ℕ → ℕ → List ℕ → Ending → List ℕ → Type 0
IsCutBody count room bytes Ending.InputTooLong rest = (room < count) × (room < length bytes) × (rest ≡ drop (room + 1) bytes)
IsCutBody count room bytes Ending.TornFrame rest = (length bytes < count) × (length bytes ≤ room) × (rest ≡ [])
IsCutBody count room bytes _ rest = ⊥

-- a frame of so many bytes stands first, or the input ends before its end
abbrev pub IsBodyIn : ℕ → ℕ → List ℕ → Next → List ℕ → Type 0
IsBodyIn count room bytes (Next.Frame frame) rest = (count ≤ room) × (count ≤ length bytes) × (frame ≡ take count bytes) × (rest ≡ drop count bytes)
IsBodyIn count room bytes (Next.End ending) rest = IsCutBody count room bytes ending rest

-- this stands first in what a source has left, and its bytes were read
abbrev pub IsBody : ℕ → ℕ → Option (List ℕ) → Next → Option (List ℕ) → Type 0
IsBody count room None next new = Unit {0}
IsBody count room (Some bytes) next None = ⊥
IsBody count room (Some bytes) next (Some rest) = IsBodyIn count room bytes next rest

-- a frame has so many bytes, and is served
abbrev pub IsOfLength : ℕ → ℕ → Next → Type 0
IsOfLength count room (Next.Frame frame) = (length frame ≡ count) × (count ≤ room)
IsOfLength count room (Next.End ending) = Unit {0}
