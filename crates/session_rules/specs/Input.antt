-- A session's input, cut into frames, and how it ends.
use Rattle.std.specs.Prelude.{ℕ, zero, suc, Bool, false, nat_le, nat_lt, ◌&&◌, not, List, [], ◌∷◌, ◌++◌, length, take, drop, Option, None, Some, unwrap_or, if◌then◌else◌}
use Rattle.byteorder.specs.Endian.{big_bytes}
use Rattle.session_rules.specs.Fields.{Reader, number_then}
use Rattle.session_rules.specs.declared.session_ending.Ending.{Ending}

-- the most bytes of an input that are served
abbrev pub most_input : ℕ
most_input = 167772160

-- the most bytes of a frame
abbrev pub most_frame : ℕ
most_frame = 1048700

-- a frame on the wire: its length in four bytes, the highest first, then its bytes
abbrev pub framed : List ℕ → List ℕ
framed frame = big_bytes 4 (length frame) ++ frame

-- whether a frame may have so many bytes
abbrev pub is_frame_length : ℕ → Bool
is_frame_length count = nat_le 1 count && nat_le count most_frame

-- the frame that stands first, and what follows it, where it is there whole
abbrev pub first_frame : Reader (List ℕ × List ℕ)
first_frame bytes =
    number_then (λ count left. if is_frame_length count && nat_le count (length left) then Some (take count left, drop count left) else None) bytes

-- whether a length stands first that no frame may have
abbrev pub has_wrong_length : List ℕ → Bool
has_wrong_length bytes = unwrap_or (number_then (λ count left. Some (not (is_frame_length count))) bytes) false

-- a frame that stands first, if one does, before those that stand in what follows it
abbrev pub frames_after : (List ℕ → List (List ℕ) × List ℕ) → List ℕ → Option (List ℕ × List ℕ) → List (List ℕ) × List ℕ
frames_after cut bytes None = ([], bytes)
frames_after cut bytes (Some first) = (first.0 ∷ (cut first.1).0, (cut first.1).1)

-- the whole frames that stand first, and what follows them; there are at most as many as the fuel
abbrev pub frames_by : ℕ → List ℕ → List (List ℕ) × List ℕ
frames_by zero bytes = ([], bytes)
frames_by (suc fuel) bytes = frames_after (frames_by fuel) bytes (first_frame bytes)

-- the ending, by whether the input goes on past what is served, and what follows the whole frames in that
abbrev pub ending_by : Bool → List ℕ → Ending
ending_by goes_on left =
    if has_wrong_length left then Ending.FrameTooLong
    else (if goes_on then Ending.InputTooLong
    else (if nat_lt 0 (length left) then Ending.TornFrame else Ending.Done))

-- the frames of an input, and its ending
abbrev pub input_of : List ℕ → List (List ℕ) × Ending
input_of input =
    let cut : List (List ℕ) × List ℕ = frames_by (length input) (take most_input input) in
    (cut.0, ending_by (nat_lt most_input (length input)) cut.1)
