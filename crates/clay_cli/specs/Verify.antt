-- What `verify` prints for its input.
use Rattle.std.specs.Prelude.{◌≡◌, ◌≢◌, ◌⊎◌, ◌==◌, ◌+◌, ℕ, List, ◌++◌, count_by}
use Rattle.clay_grid.specs.Shape.{chunk_count}
use Rattle.store_map.specs.Naming.{IsValid}
use Rattle.store_map.specs.declared.script.Script.{Script}
use Rattle.line_grammar.specs.Values.{IsScript}
use Rattle.line_grammar.specs.declared.line_fault.FaultKind.{FaultKind}
use Rattle.script_text.specs.FirstFault.{IsFrontFault}
use Rattle.script_text.specs.Spelling.{spelling}
use Rattle.transcript_text.specs.Text.{text_of}
use Rattle.store_map.specs.declared.transcript.Transcript.{Transcript}
use Rattle.transcript_read.specs.Fault.{IsFault}
use Rattle.transcript_read.specs.WellFormed.{IsWellFormed}
use Rattle.hist_rules.specs.Verdict.{verdict_of}
use Rattle.hist_check.specs.VerdictText.{verdict_line}
use Rattle.hist_rules.specs.declared.verdict.Verdict.TheVariants.{Legal}
use Rattle.clay_cli.specs.Play.{kind_text, refusal_line}

-- the input is a script, and behind it a transcript of as many servers
pub record AreRead (input : List ℕ) (script : Script) (transcript : Transcript) : Type 0 where
  pub values : IsScript script
  pub valid : IsValid script
  pub form : IsWellFormed (chunk_count script.geometry) transcript
  pub spelled : input ≡ spelling script ++ text_of transcript

-- the transcript is legal, and the line says so
pub record IsLegal (input line : List ℕ) : Type 0 where
  pub script : Script
  pub transcript : Transcript
  pub read : AreRead input script transcript
  pub legal : verdict_of script transcript ≡ Legal
  pub line_is : line ≡ verdict_line Legal

-- the transcript isn't legal, and the line names the fault of the first rule that it breaks
pub record IsNotLegal (input line : List ℕ) : Type 0 where
  pub script : Script
  pub transcript : Transcript
  pub read : AreRead input script transcript
  pub broken : verdict_of script transcript ≢ Legal
  pub line_is : line ≡ verdict_line (verdict_of script transcript)

-- no front of the input is a script: its first fault is named
pub record HasFaultyScript (input line : List ℕ) : Type 0 where
  pub number : ℕ
  pub kind : FaultKind
  pub fault : IsFrontFault input number kind
  pub line_is : line ≡ refusal_line number (kind_text kind)

-- the number of a text's whole lines
abbrev pub line_count : List ℕ → ℕ
line_count text = count_by (λ byte. byte == 10) text

-- what stands behind a script is no transcript of as many servers: its first fault is named, with lines counted from the top of the input
pub record HasFaultyTranscript (input line : List ℕ) : Type 0 where
  pub script : Script
  pub values : IsScript script
  pub valid : IsValid script
  pub rest : List ℕ
  pub parted : input ≡ spelling script ++ rest
  pub number : ℕ
  pub kind : FaultKind
  pub fault : IsFault (chunk_count script.geometry) rest number kind
  pub line_is : line ≡ refusal_line (line_count (spelling script) + number) (kind_text kind)

-- the input is refused for what it is
abbrev pub IsUnreadable : List ℕ → List ℕ → Type 0
IsUnreadable input line = HasFaultyScript input line ⊎ HasFaultyTranscript input line
