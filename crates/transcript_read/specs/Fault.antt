-- The first fault of a text.
use Rattle.std.specs.Prelude.{◌≡◌, ◌≢◌, ◌⊎◌, ℕ, ◌+◌, ◌<◌, List, [], ◌∷◌, ◌++◌, length}
use Rattle.std.specs.List.{flat_map}
use Rattle.line_grammar.specs.Lines.{Lacks}
use Rattle.line_grammar.specs.declared.line_fault.FaultKind.{FaultKind}
use Rattle.line_grammar.specs.declared.line_fault.FaultKind.TheVariants.{Syntax, MissingEnd}
use Rattle.transcript_text.specs.Text.{text_of}
use Rattle.store_map.specs.declared.transcript.Transcript.{Transcript}
use Rattle.transcript_read.specs.Bodies.{line_body, line_text}
use Rattle.transcript_read.specs.Forms.{IsLine}
use Rattle.transcript_read.specs.Order.{Follows, rank}
use Rattle.transcript_read.specs.WellFormed.{AreInOrder, IsWellFormed, lines_of, place_after}
use Rattle.transcript_read.specs.declared.transcript_line.Line.{Line}
use Rattle.transcript_read.specs.declared.transcript_place.TranscriptPlace.{TranscriptPlace}
use Rattle.transcript_read.specs.declared.transcript_place.TranscriptPlace.TheVariants as at

-- the text, without its line feed, is no line that may stand behind that place
abbrev pub IsNoLine : ℕ → TranscriptPlace → List ℕ → Type 0
IsNoLine servers last text =
    (line : Line) → IsLine servers line → Follows servers last line → text ≢ line_body line

-- what is wrong with the text behind a place: its first line, or that no whole line follows
abbrev pub RestFault : ℕ → TranscriptPlace → List ℕ → FaultKind → Type 0
RestFault servers last rest kind =
    ((text : List ℕ) × (more : List ℕ) × (rest ≡ text ++ 10 ∷ more) × Lacks 10 text
    × IsNoLine servers last text × (kind ≡ Syntax))
    ⊎ (Lacks 10 rest × (kind ≡ MissingEnd))

-- the first fault up to the line `end`: of the line with this number, counted from 1, behind lines
-- in order
pub record IsLineFault (servers : ℕ) (bytes : List ℕ) (number : ℕ) (kind : FaultKind) : Type 0 where
  pub lines : List Line
  pub rest : List ℕ
  pub in_order : AreInOrder servers at.Start lines
  pub unended : rank (place_after at.Start lines) < 8
  pub number_is : number ≡ length lines + 1
  pub parted : bytes ≡ flat_map line_text lines ++ rest
  pub fault : RestFault servers (place_after at.Start lines) rest kind

-- something stands behind the line `end`
pub record IsTailFault (servers : ℕ) (bytes : List ℕ) (number : ℕ) (kind : FaultKind) : Type 0 where
  pub transcript : Transcript
  pub form : IsWellFormed servers transcript
  pub rest : List ℕ
  pub some : rest ≢ []
  pub parted : bytes ≡ text_of transcript ++ rest
  pub number_is : number ≡ length (lines_of transcript) + 1
  pub kind_is : kind ≡ Syntax

-- the first fault of a text, where there are so many servers
abbrev pub IsFault : ℕ → List ℕ → ℕ → FaultKind → Type 0
IsFault servers bytes number kind =
    IsLineFault servers bytes number kind ⊎ IsTailFault servers bytes number kind
