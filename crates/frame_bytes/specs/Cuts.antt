-- An input is cut into frames in one way.
use Rattle.std.specs.Prelude.{◌≡◌, ◌<◌, ℕ, List, ◌++◌, length, flat_map, None, All, IsTrue}
use Rattle.session_rules.specs.Input.{framed, is_frame_length, first_frame, frames_by}

-- the bytes are these frames on the wire, and no whole frame stands first in what follows them
pub record IsCut (bytes : List ℕ) (frames : List (List ℕ)) (left : List ℕ) : Type 0 where
  pub whole : bytes ≡ flat_map framed frames ++ left
  pub lengths : All (λ frame. IsTrue (is_frame_length (length frame))) frames
  pub ends : first_frame left ≡ None

-- bytes are cut so by what a session reads
abbrev pub InputsAreCut : Type 0
InputsAreCut = (bytes : List ℕ) → All (λ byte. byte < 256) bytes → IsCut bytes (frames_by (length bytes) bytes).0 (frames_by (length bytes) bytes).1

-- and in no other way
abbrev pub CutsAreTheOnlyOnes : Type 0
CutsAreTheOnlyOnes = (bytes : List ℕ) (frames : List (List ℕ)) (left : List ℕ) → IsCut bytes frames left → frames_by (length bytes) bytes ≡ (frames, left)
