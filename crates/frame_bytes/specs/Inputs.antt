-- A session's input, read from its front: what stands next, and then what stands behind it.
use Rattle.std.specs.Prelude.{◌≡◌, ◌≤◌, ℕ, ◌+◌, ◌-◌, nat_lt, List, [], ◌∷◌, ◌++◌, length, take, drop, if◌then◌else◌}
use Rattle.session_rules.specs.declared.session_ending.Ending.{Ending}
use Rattle.session_rules.specs.Input.{most_input, frames_by, ending_by, input_of}
use Rattle.frame_bytes.specs.declared.frame_reading.Next.{Next}
use Rattle.frame_bytes.specs.Next.{next_of, IsPart}

-- the frames and the ending of bytes of which so many are served
abbrev pub rest_of : ℕ → List ℕ → List (List ℕ) × Ending
rest_of room bytes =
    let cut : List (List ℕ) × List ℕ = frames_by (length bytes) (take room bytes) in
    (cut.0, ending_by (nat_lt room (length bytes)) cut.1)

-- the same where it is known what stands next
abbrev pub from_next : Next → ℕ → List ℕ → List (List ℕ) × Ending
from_next (Next.Frame frame) room bytes =
    let rest : List (List ℕ) × Ending = rest_of (room - (4 + length frame)) (drop (4 + length frame) bytes) in
    (frame ∷ rest.0, rest.1)
from_next (Next.End ending) room bytes = ([], ending)

-- the ending of what was read of what stands next
abbrev pub part_ending : List ℕ → Ending
part_ending got = if nat_lt 0 (length got) then Ending.TornFrame else Ending.Done

-- a session's frames and its ending are those that are read one after another
pub record InputsAreRead : Type 0 where
  pub whole : (input : List ℕ) → input_of input ≡ rest_of most_input input
  pub next : (room : ℕ) (bytes : List ℕ) → rest_of room bytes ≡ from_next (next_of room bytes) room bytes
  -- a frame that stands next is served and there, and no byte behind it counts
  pub within :
      (room : ℕ) (bytes frame : List ℕ) → next_of room bytes ≡ Next.Frame frame → (4 + length frame ≤ room) × (4 + length frame ≤ length bytes)
  pub front :
      (room : ℕ) (bytes frame more : List ℕ) → next_of room bytes ≡ Next.Frame frame →
      next_of room (take (4 + length frame) bytes ++ more) ≡ Next.Frame frame
  -- no frame stands in what was read of what stands next
  pub part : (room : ℕ) (got : List ℕ) → IsPart room got → rest_of room got ≡ ([], part_ending got)
