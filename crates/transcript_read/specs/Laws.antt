-- What holds of transcripts and faults.
use Rattle.std.specs.Prelude.{◌≡◌, ◌≢◌, ℕ, ◌+◌, ◌≤◌, List, length}
use Rattle.line_grammar.specs.declared.line_fault.FaultKind.{FaultKind}
use Rattle.transcript_text.specs.Text.{text_of}
use Rattle.store_map.specs.declared.transcript.Transcript.{Transcript}
use Rattle.transcript_read.specs.Fault.{IsFault}
use Rattle.transcript_read.specs.WellFormed.{IsWellFormed}

-- a text is at most one transcript's
abbrev pub IsOneTranscript : Type 0
IsOneTranscript =
    (servers : ℕ) (s t : Transcript) → IsWellFormed servers s → IsWellFormed servers t
    → text_of s ≡ text_of t → s ≡ t

-- the text of a transcript has no fault
abbrev pub IsFaultless : Type 0
IsFaultless =
    (servers : ℕ) (t : Transcript) (number : ℕ) (kind : FaultKind) → IsWellFormed servers t
    → IsFault servers (text_of t) number kind → ⊥

-- a text has one first fault at most
abbrev pub IsOneFault : Type 0
IsOneFault =
    (servers : ℕ) (bytes : List ℕ) (number number' : ℕ) (kind kind' : FaultKind)
    → IsFault servers bytes number kind → IsFault servers bytes number' kind'
    → (number ≡ number') × (kind ≡ kind')

-- no bytes are without a transcript and without a fault
abbrev pub IsCovered : Type 0
IsCovered =
    (servers : ℕ) (bytes : List ℕ) → ((t : Transcript) → IsWellFormed servers t → bytes ≢ text_of t)
    → ((number : ℕ) (kind : FaultKind) → ¬ IsFault servers bytes number kind) → ⊥

-- the faulty line is one of the text's, or the one behind them
abbrev pub IsFaultWithin : Type 0
IsFaultWithin =
    (servers : ℕ) (bytes : List ℕ) (number : ℕ) (kind : FaultKind) → IsFault servers bytes number kind
    → number ≤ length bytes + 1
