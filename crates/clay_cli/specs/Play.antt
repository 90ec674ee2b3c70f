-- What `play` and `run` print for their input.
use Rattle.std.specs.Prelude.{◌≡◌, ℕ, List, ◌++◌, codes, decimal}
use Rattle.store_map.specs.declared.script.Script.{Script}
use Rattle.script_text.specs.FirstFault.{Spelled, IsFault}
use Rattle.line_grammar.specs.declared.line_fault.FaultKind.{FaultKind}
use Rattle.line_grammar.specs.declared.line_fault.FaultKind.TheVariants as fault
use Rattle.transcript_text.specs.Text.{text_of}
use Rattle.store_map.specs.declared.transcript.Transcript.{Transcript}

-- the text is that of a transcript that some run of the script shows
pub record IsTextOf (IsShown : Script → Transcript → Type 0) (script : Script) (text : List ℕ) : Type 0 where
  pub transcript : Transcript
  pub shown : IsShown script transcript
  pub written : text ≡ text_of transcript

-- the input spells a script, and the text is that of a run's transcript
pub record IsTranscriptFor (IsShown : Script → Transcript → Type 0) (input text : List ℕ) : Type 0 where
  pub script : Script
  pub spelled : Spelled input script
  pub text_of_it : IsTextOf IsShown script text

-- what is wrong, in words
abbrev pub kind_text : FaultKind → List ℕ
kind_text fault.Syntax = codes "syntax"
kind_text fault.Geometry = codes "geometry"
kind_text fault.Limit = codes "limit"
kind_text fault.NoSuchActor = codes "no such actor"
kind_text fault.NoSuchServer = codes "no such server"
kind_text fault.MissingEnd = codes "missing end"
kind_text fault.OutOfMemory = codes "out of memory"

-- refused line L KIND
abbrev pub refusal_line : ℕ → List ℕ → List ℕ
refusal_line number kind = codes "refused line " ++ (decimal number ++ (codes " " ++ (kind ++ codes "\n")))

-- the input spells no script: its first fault is named, and the line in which it stands
pub record IsFaulty (input line : List ℕ) : Type 0 where
  pub number : ℕ
  pub kind : FaultKind
  pub fault : IsFault input number kind
  pub line_is : line ≡ refusal_line number (kind_text kind)
