-- Worked sessions: what is sent, and what is answered, as it goes over the wire.
use Rattle.std.specs.Prelude.{◌≡◌, ℕ, ◌==◌, not, List, [], flat_map, map, filter, Result, Ok, Err}
use Rattle.hex.specs.Hex.{decode_of}
use Rattle.hex.specs.declared.error.FromHexError.{FromHexError}
use Rattle.clay_grid.specs.Shape.{Shape}
use Rattle.session_rules.specs.declared.session_ending.Ending.{Ending}
use Rattle.session_rules.specs.Session.{session_of}

-- a session's code, the greatest length of its objects, the frames that are sent, those that are answered, and how it ends
pub record Row : Type 0 where
  pub code : Shape
  pub max : ℕ
  pub sent : List (List ℕ)
  pub answered : List (List ℕ)
  pub ending : Ending

-- the definitions compute what is written, and the ending
abbrev pub Shows : Row → Type 0
Shows row = session_of row.code row.max (flat_map (λ frame. frame) row.sent) ≡ (flat_map (λ frame. frame) row.answered, row.ending)

-- the bytes that were decoded
abbrev pub decoded : Result (List ℕ) FromHexError → List ℕ
decoded (Ok bytes) = bytes
decoded (Err fault) = []

-- the bytes of a text of digits, which spaces part for the reader
abbrev pub bytes_in : List ℕ → List ℕ
bytes_in text = decoded (decode_of (filter (λ c. not (c == 32)) text))

-- stripes of 8 bytes over 4 servers, of which any two are enough
abbrev pub small_code : Shape
small_code = record { data_count = 2; parity_count = 2; width = 1 }

-- frames that are sent, each with what is answered; objects have at most 64 bytes
abbrev pub row : List (List ℕ × List ℕ) → Row
row exchanges =
    record {
      code = small_code;
      max = 64;
      sent = map (λ exchange. bytes_in exchange.0) exchanges;
      answered = map (λ exchange. bytes_in exchange.1) exchanges;
      ending = Ending.Done;
    }
