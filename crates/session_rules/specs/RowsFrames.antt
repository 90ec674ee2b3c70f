-- Rows: frames that are no requests, and how sessions end.
use Rattle.std.specs.Prelude.{◌≡◌, ℕ, ◌+◌, ◌/◌, ◌%◌, List, [], ◌∷◌, ◌++◌, codes, map, replicate}
use Rattle.std.specs.List.{range_with_len}
use Rattle.session_rules.specs.declared.session_ending.Ending.{Ending}
use Rattle.session_rules.specs.Session.{session_of}
use Rattle.session_rules.specs.Rows.{Row, row, bytes_in, small_code}

-- an unknown kind, bytes too many or too few, no name, no such server, each before the state is looked at
abbrev pub no_requests : Row
no_requests =
    row
    ((codes "00000001 00", codes "00000001 08")
    ∷ (codes "00000001 0e", codes "00000001 08")
    ∷ (codes "00000002 09 00", codes "00000001 08")
    ∷ (codes "00000002 02 00", codes "00000001 08")
    ∷ (codes "00000003 02 0141", codes "00000001 08")
    ∷ (codes "00000003 02 0261", codes "00000001 08")
    ∷ (codes "00000004 02 0161 61", codes "00000001 08")
    ∷ (codes "00000005 07 00000004", codes "00000001 08")
    ∷ (codes "00000004 07 000000", codes "00000001 08")
    ∷ (codes "0000000b 08 0162 00000000 00000004", codes "00000001 08")
    ∷ (codes "00000007 0a 0161 00000000", codes "00000001 08") ∷ [])

-- no input; one that ends in a length; no length, the greatest one, a greater one; one that ends in a frame
abbrev pub inputs : List (List ℕ)
inputs = map bytes_in (codes "" ∷ codes "000000" ∷ codes "00000000" ∷ codes "0010007c" ∷ codes "0010007d" ∷ codes "00000002 0d" ∷ [])

-- nothing is written for them, and the sessions end so
abbrev pub InputsEndSo : Type 0
InputsEndSo =
    map (session_of small_code 64) inputs
    ≡ map (λ ending. ([], ending)) (Ending.Done ∷ Ending.TornFrame ∷ Ending.FrameTooLong ∷ Ending.TornFrame ∷ Ending.FrameTooLong ∷ Ending.TornFrame ∷ [])

-- a put of an empty object, by a name of two letters for each number
abbrev pub empty_put : ℕ → List ℕ
empty_put i = 0 ∷ 0 ∷ 0 ∷ 4 ∷ 1 ∷ 2 ∷ (97 + i / 26) ∷ (97 + i % 26) ∷ []

-- 65 objects are too many for a snapshot, 64 aren't
abbrev pub many_objects : Row
many_objects =
    record (row []) {
      sent = map empty_put (range_with_len 0 65) ++ map bytes_in (codes "00000001 09" ∷ codes "00000004 06 02 6161" ∷ codes "00000001 09" ∷ []);
      answered = replicate 65 (0 ∷ 0 ∷ 0 ∷ 1 ∷ 0 ∷ []) ++ map bytes_in (codes "00000009 0e 0000000000000041" ∷ codes "00000001 00" ∷ codes "00000001 00" ∷ []);
    }
