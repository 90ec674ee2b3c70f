-- How an input ends, by how it is cut into frames.
use Rattle.std.specs.Prelude.{◌≡◌, ◌≤◌, ◌<◌, ℕ, ◌^◌, false, List, [], ◌++◌, length, take, All}
use Rattle.byteorder.specs.Endian.{big_bytes}
use Rattle.session_rules.specs.declared.session_ending.Ending.{Ending}
use Rattle.session_rules.specs.Input.{most_input, is_frame_length, input_of}
use Rattle.frame_bytes.specs.Cuts.{IsCut}

-- a length stands first that no frame may have
pub record BeginsWrong (bytes : List ℕ) : Type 0 where
  pub count : ℕ
  pub rest : List ℕ
  pub whole : bytes ≡ big_bytes 4 count ++ rest
  pub fits : count < 2 ^ 32
  pub wrong : is_frame_length count ≡ false

-- when each ending comes, by what is left behind the whole frames of the bytes that are served: a length that no frame may have stands there; else the
-- input goes on past those bytes; else something is left; else nothing is
abbrev pub EndsAs : List ℕ → List ℕ → Ending → Type 0
EndsAs input left Ending.FrameTooLong = BeginsWrong left
EndsAs input left Ending.InputTooLong = (BeginsWrong left → ⊥) × (most_input < length input)
EndsAs input left Ending.TornFrame = (BeginsWrong left → ⊥) × (length input ≤ most_input) × (0 < length left)
EndsAs input left Ending.Done = (length input ≤ most_input) × (left ≡ [])

-- an input that is cut so has these frames, and the ending that comes then
pub record IsEnded (input : List ℕ) (frames : List (List ℕ)) (left : List ℕ) : Type 0 where
  pub frames_are : (input_of input).0 ≡ frames
  pub ends : EndsAs input left (input_of input).1

abbrev pub InputsEnd : Type 0
InputsEnd =
    (input : List ℕ) (frames : List (List ℕ)) (left : List ℕ) → All (λ byte. byte < 256) input → IsCut (take most_input input) frames left →
    IsEnded input frames left
