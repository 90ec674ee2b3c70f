-- No text is without a transcript and without a fault, and a fault's line is one of the text's or the one behind them.
use Rattle.std.proofs.Common.{◌≡◌, ◌≢◌, ℕ, zero, suc, ◌+◌, ◌≤◌, List, [], ◌∷◌, ◌++◌, length, length-append, refl, ap, ◌∙◌, arith, inl, inr, append-nil}
use Rattle.std.specs.Prelude.{◌⊎◌}
use Rattle.std.specs.List.{flat_map}
use Rattle.std.proofs.lemmas.Bool.{cases_eq}
use Rattle.line_grammar.specs.Lines.{Lacks}
use Rattle.line_grammar.specs.declared.line_fault.FaultKind.{FaultKind}
use Rattle.line_grammar.specs.declared.line_fault.FaultKind.TheVariants as fault
use Rattle.script_text.specs.FirstFault.{OrMemory}
use Rattle.script_text.specs.declared.script_fault.ScriptFault.{ScriptFault}
use Rattle.transcript_text.specs.Text.{text_of}
use Rattle.store_map.specs.declared.transcript.Transcript.{Transcript}
use Rattle.transcript_read.specs.Bodies.{line_body, line_text}
use Rattle.transcript_read.specs.Fault.{IsFault}
use Rattle.transcript_read.specs.Forms.{IsLine}
use Rattle.transcript_read.specs.Order.{Follows, place_of}
use Rattle.transcript_read.specs.Reader.{empty, with_line, IsTaken}
use Rattle.transcript_read.specs.WellFormed.{IsWellFormed}
use Rattle.transcript_read.specs.declared.transcript_line.Line.{Line}
use Rattle.transcript_read.specs.declared.transcript_place.TranscriptPlace.{TranscriptPlace}
use Rattle.transcript_read.specs.declared.transcript_place.TranscriptPlace.TheVariants as at
use Rattle.transcript_read.specs.declared.transcript_reader.Reader.{Reader}
use Rattle.transcript_read.proofs.OrderLaws.{few_lines}
use Rattle.transcript_read.proofs.OrderedListLaws.{lines_within}
use Rattle.transcript_read.proofs.ReadLaws.{IsReadTo, read_none, read_more, line_missing, line_refused, tail_fault, read_form, read_text}

-- the bytes are no transcript's text
abbrev NoTranscript : ℕ → List ℕ → Type 0
NoTranscript n bytes = (t : Transcript) → IsWellFormed n t → bytes ≢ text_of t

-- the bytes have no fault
abbrev NoFault : ℕ → List ℕ → Type 0
NoFault n bytes = (number : ℕ) (kind : FaultKind) → ¬ IsFault n bytes number kind

-- a fault that is named has a line
named : (n : ℕ) (bytes : List ℕ) (f : ScriptFault) (count : ℕ) → f.line ≡ count + 1 → OrMemory (IsFault n bytes) f → NoFault n bytes → ⊥
named n bytes f count line (inl memory) faultless = let none = memory.0 in omega (arith, line, none)
named n bytes f count line (inr h) faultless = faultless f.line f.kind h

-- a text has no line feed, or a first one
split_feed : (text : List ℕ) → Lacks 10 text ⊎ ((first : List ℕ) × (more : List ℕ) × (text ≡ first ++ 10 ∷ more) × Lacks 10 first)
split_feed [] = inl tt
split_feed (b ∷ bs) = elim (cases_eq b 10) [
  | inl feed ↦ inr ([], bs, ap (λ (x : ℕ). x ∷ bs) feed, tt)
  | inr other ↦ elim (split_feed bs) [
    | inl none ↦ inl (other, none)
    | inr h ↦ inr (b ∷ h.0, h.1, ap (λ (x : List ℕ). b ∷ x) h.2, (other, h.3))
  ]
]

-- the last line was read, or it was not
has_ended : (p : TranscriptPlace) → (p ≡ at.End) ⊎ (p ≢ at.End)
has_ended at.Start = inr (λ e. cc e)
has_ended (at.History a) = inr (λ e. cc e)
has_ended (at.Refused a) = inr (λ e. cc e)
has_ended (at.Repairs a) = inr (λ e. cc e)
has_ended (at.Unanswered a) = inr (λ e. cc e)
has_ended at.Objects = inr (λ e. cc e)
has_ended (at.Takes a) = inr (λ e. cc e)
has_ended (at.Servers a) = inr (λ e. cc e)
has_ended at.End = inl refl

-- the lines to the last are all of the bytes, or what follows is a fault
ended_covered : (n : ℕ) (bytes : List ℕ) (r : Reader) (rest : List ℕ) (count : ℕ) → IsReadTo n bytes r rest count → r.place ≡ at.End → NoTranscript n bytes → NoFault n bytes → ⊥
ended_covered n bytes r [] count so end none faultless =
    none r.transcript (read_form n bytes r [] count so end) (read_text n bytes r [] count so end ∙ append-nil (text_of r.transcript))
ended_covered n bytes r (x ∷ xs) count so end none faultless =
    let f : ScriptFault = record { line = count + 1; kind = fault.Syntax } in
    named n bytes f count refl (tail_fault n bytes r (x ∷ xs) count f so end (λ e. cc e) refl refl) faultless

-- a whole line has a fault, or is read
line_covered : (n : ℕ) (bytes : List ℕ) (r : Reader) (rest text more : List ℕ) (count : ℕ) → IsReadTo n bytes r rest count → r.place ≢ at.End
    → rest ≡ text ++ 10 ∷ more → Lacks 10 text → NoFault n bytes → ((new : Reader) → IsReadTo n bytes new more (count + 1) → ⊥) → ⊥
line_covered n bytes r rest text more count so unended is lacks faultless go_on =
    let f : ScriptFault = record { line = count + 1; kind = fault.Syntax } in
    named n bytes f count refl (line_refused n bytes r rest text more count f so unended is lacks taken refl refl) faultless
  where
    behind : Line → Reader
    behind l = record { servers = r.servers; place = place_of l; transcript = with_line r.transcript l }

    taken : (l : Line) → IsLine r.servers l → Follows r.servers r.place l → text ≢ line_body l
    taken l form follows spelled =
        let took : IsTaken r text l (behind l) =
        record { servers = refl; form = form; follows = follows; spelled = spelled; place = refl; transcript = refl } in
        go_on (behind l) (read_more n bytes r (behind l) rest text more count so unended is (l, took))

-- what stands behind the lines that were read, where whole lines can be left to another
covered_at : (n : ℕ) (bytes : List ℕ) (r : Reader) (rest : List ℕ) (count : ℕ) → IsReadTo n bytes r rest count → NoTranscript n bytes → NoFault n bytes
    → (r.place ≢ at.End → (text more : List ℕ) → rest ≡ text ++ 10 ∷ more → Lacks 10 text → ⊥) → ⊥
covered_at n bytes r rest count so none faultless whole = elim (has_ended r.place) [
  | inl end ↦ ended_covered n bytes r rest count so end none faultless
  | inr unended ↦ elim (split_feed rest) [
    | inl lacks ↦
        let f : ScriptFault = record { line = count + 1; kind = fault.MissingEnd } in
        named n bytes f count refl (line_missing n bytes r rest count f so unended lacks refl refl) faultless
    | inr h ↦ whole unended h.0 h.1 h.2 h.3
  ]
]

-- line by line, by the length of what is left
covered_behind : (k n : ℕ) (bytes : List ℕ) (r : Reader) (rest : List ℕ) (count : ℕ) → length rest ≤ k → IsReadTo n bytes r rest count
    → NoTranscript n bytes → NoFault n bytes → ⊥
covered_behind zero n bytes r rest count len so none faultless =
    covered_at n bytes r rest count so none faultless (λ unended text more is lacks.
    let size = ap length is ∙ length-append text (10 ∷ more) in omega (arith, size, len))
covered_behind (suc k) n bytes r rest count len so none faultless =
    covered_at n bytes r rest count so none faultless (λ unended text more is lacks.
    let size = ap length is ∙ length-append text (10 ∷ more) in
    line_covered n bytes r rest text more count so unended is lacks faultless (λ new so'.
    covered_behind k n bytes new more (count + 1) (omega (arith, size, len)) so' none faultless))

-- no bytes are without a transcript and without a fault
pub covered : (n : ℕ) (bytes : List ℕ) → NoTranscript n bytes → NoFault n bytes → ⊥
covered n bytes none faultless =
    let start : Reader = record { servers = n; place = at.Start; transcript = empty } in
    covered_behind (length bytes) n bytes start bytes 0 (omega arith) (read_none n bytes start refl refl refl) none faultless

-- no fault stands more than one line behind the bytes
pub fault_within : (n : ℕ) (bytes : List ℕ) (number : ℕ) (kind : FaultKind) → IsFault n bytes number kind → number ≤ length bytes + 1
fault_within n bytes number kind (inl f) =
    let few = few_lines f.lines in
    let parts = ap length f.parted ∙ length-append (flat_map line_text f.lines) f.rest in
    let line = f.number_is in
    omega (arith, few, parts, line)
fault_within n bytes number kind (inr f) =
    let few = lines_within f.transcript in
    let parts = ap length f.parted ∙ length-append (text_of f.transcript) f.rest in
    let line = f.number_is in
    omega (arith, few, parts, line)
