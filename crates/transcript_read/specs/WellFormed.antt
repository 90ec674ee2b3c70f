-- The lines of a transcript, and when it is well formed.
use Rattle.std.specs.Prelude.{ℕ, List, [], ◌∷◌, ◌++◌, map, ⊤}
use Rattle.store_map.specs.declared.transcript.Transcript.{Transcript}
use Rattle.transcript_read.specs.Forms.{IsLine}
use Rattle.transcript_read.specs.declared.transcript_line.Line.{Line}
use Rattle.transcript_read.specs.declared.transcript_line.Line.TheVariants.{History, Refused, Repair, Unanswered, Object, Takes, Server, End}
use Rattle.transcript_read.specs.declared.transcript_place.TranscriptPlace.{TranscriptPlace}
use Rattle.transcript_read.specs.declared.transcript_place.TranscriptPlace.TheVariants as at
use Rattle.transcript_read.specs.Order.{place_of, Follows}

-- each of these lines has its form, and may stand behind the line before it
abbrev pub AreInOrder : ℕ → TranscriptPlace → List Line → Type 0
AreInOrder servers last [] = ⊤
AreInOrder servers last (line ∷ lines) =
    IsLine servers line × Follows servers last line × AreInOrder servers (place_of line) lines

-- the place behind these lines
abbrev pub place_after : TranscriptPlace → List Line → TranscriptPlace
place_after last [] = last
place_after last (line ∷ lines) = place_after (place_of line) lines

-- the lines of a transcript before the line `end`
abbrev pub kinds_of : Transcript → List Line
kinds_of t =
    map History t.history ++ map Refused t.refused ++ map Repair t.repairs
    ++ map Unanswered t.unanswered ++ map Object t.objects ++ map Takes t.takes
    ++ map Server t.servers

-- its lines
abbrev pub lines_of : Transcript → List Line
lines_of t = kinds_of t ++ End ∷ []

-- a transcript of so many servers
abbrev pub IsWellFormed : ℕ → Transcript → Type 0
IsWellFormed servers t = AreInOrder servers at.Start (lines_of t)
