-- What `verify` says of an input is one status and one line.
use Rattle.std.proofs.Common.{◌≡◌, ◌≢◌, ◌++◌, ℕ, ◌+◌, List, refl, sym, ap, subst, ◌∙◌, inl, inr}
use Rattle.std.specs.Prelude.{◌⊎◌}
use Rattle.clay_grid.specs.Shape.{chunk_count}
use Rattle.store_map.specs.Naming.{IsValid}
use Rattle.store_map.specs.declared.script.Script.{Script}
use Rattle.line_grammar.specs.Values.{IsScript}
use Rattle.script_text.specs.Spelling.{spelling}
use Rattle.script_text.proofs.OneReadingLaws.{one_front, no_front_fault}
use Rattle.script_text.proofs.OneReadingLaws as script_laws
use Rattle.transcript_text.specs.Text.{text_of}
use Rattle.store_map.specs.declared.transcript.Transcript.{Transcript}
use Rattle.transcript_read.specs.Fault.{IsFault}
use Rattle.transcript_read.specs.WellFormed.{IsWellFormed}
use Rattle.transcript_read.proofs.StuckLaws.{no_fault, one_fault, one_transcript}
use Rattle.hist_rules.specs.Verdict.{verdict_of}
use Rattle.hist_check.specs.VerdictText.{verdict_line}
use Rattle.hist_rules.specs.declared.verdict.Verdict.{Verdict}
use Rattle.hist_rules.specs.declared.verdict.Verdict.TheVariants.{Legal}
use Rattle.clay_cli.specs.Play.{kind_text, refusal_line}
use Rattle.clay_cli.specs.Verify.{AreRead, HasFaultyScript, HasFaultyTranscript, IsUnreadable, line_count}
use Rattle.clay_cli.specs.Top.{Answers}
use Rattle.clay_cli.specs.Laws.{HasOneVerdict}
use Rattle.clay_cli.specs.declared.status.Status.{Status}
use Rattle.clay_cli.specs.declared.status.Status.TheVariants.{Done, Usage, ScriptRefused, InputTooLong, ReadFault, WriteFault, OutOfMemory, NotLegal, DataRefused}
use Rattle.clay_words.specs.declared.numbers_of_words.Task.TheVariants.{Verify}

-- the status of a verdict
abbrev HasStatus : Verdict → Status → Type 0
HasStatus verdict status = ((verdict ≡ Legal) × (status ≡ Done)) ⊎ ((verdict ≢ Legal) × (status ≡ NotLegal))

-- the input was read, and its verdict is printed
record IsJudged (input : List ℕ) (status : Status) (line : List ℕ) : Type 0 where
  script : Script
  transcript : Transcript
  read : AreRead input script transcript
  line_is : line ≡ verdict_line (verdict_of script transcript)
  status_is : HasStatus (verdict_of script transcript) status

-- each answer is of one of two kinds
abbrev IsKind : List ℕ → Status → List ℕ → Type 0
IsKind input status line = IsJudged input status line ⊎ ((status ≡ ScriptRefused) × IsUnreadable input line)

kind_of : (input : List ℕ) (status : Status) (line : List ℕ) → Answers Verify input status line → IsKind input status line
kind_of input Done line h =
    inl (record { script = h.script; transcript = h.transcript; read = h.read; line_is = h.line_is ∙ sym (ap verdict_line h.legal); status_is = inl (h.legal, refl) })
kind_of input NotLegal line h =
    inl (record { script = h.script; transcript = h.transcript; read = h.read; line_is = h.line_is; status_is = inr (h.broken, refl) })
kind_of input ScriptRefused line h = inr (refl, h)
kind_of input Usage line h = absurd h
kind_of input InputTooLong line h = absurd h
kind_of input ReadFault line h = absurd h
kind_of input WriteFault line h = absurd h
kind_of input OutOfMemory line h = absurd h
kind_of input DataRefused line h = absurd h

-- ---- one reading
same_status : (verdict other : Verdict) (status state : Status) → verdict ≡ other → HasStatus verdict status → HasStatus other state → status ≡ state
same_status verdict other status state same (inl h) (inl k) = h.1 ∙ sym k.1
same_status verdict other status state same (inl h) (inr k) = absurd (k.0 (sym same ∙ h.0))
same_status verdict other status state same (inr h) (inl k) = absurd (h.0 (same ∙ k.0))
same_status verdict other status state same (inr h) (inr k) = h.1 ∙ sym k.1

same_rest : (input : List ℕ) (s t : Script) (rest more : List ℕ) → IsScript s × IsValid s → IsScript t × IsValid t → input ≡ spelling s ++ rest → input ≡ spelling t ++ more
    → (s ≡ t) × (rest ≡ more)
same_rest input s t rest more h k e f = one_front s t rest more h.0 h.1 k.0 k.1 (sym e ∙ f)

same_servers : (s t : Script) → s ≡ t → chunk_count t.geometry ≡ chunk_count s.geometry
same_servers s t e = sym (ap (λ (x : Script). chunk_count x.geometry) e)

same_verdict : (input : List ℕ) (s t : Script) (one other : Transcript) → AreRead input s one → AreRead input t other → verdict_of s one ≡ verdict_of t other
same_verdict input s t one other h k =
    let same : (s ≡ t) × (text_of one ≡ text_of other) = same_rest input s t (text_of one) (text_of other) (h.values, h.valid) (k.values, k.valid) h.spelled k.spelled in
    let formed : IsWellFormed (chunk_count s.geometry) other = subst (λ (n : ℕ). IsWellFormed n other) (same_servers s t same.0) k.form in
    let lines : one ≡ other = one_transcript (chunk_count s.geometry) one other h.form formed same.1 in
    λ i. verdict_of (same.0 i) (lines i)

-- ---- two answers
judged_twice : (input : List ℕ) (status state : Status) (line other : List ℕ) → IsJudged input status line → IsJudged input state other → (status ≡ state) × (line ≡ other)
judged_twice input status state line other h k =
    let same : verdict_of h.script h.transcript ≡ verdict_of k.script k.transcript = same_verdict input h.script k.script h.transcript k.transcript h.read k.read in
    (same_status (verdict_of h.script h.transcript) (verdict_of k.script k.transcript) status state same h.status_is k.status_is, h.line_is ∙ ap verdict_line same ∙ sym k.line_is)

never_both : (input : List ℕ) (status : Status) (line other : List ℕ) → IsJudged input status line → IsUnreadable input other → ⊥
never_both input status line other h (inl fault) =
    no_front_fault input h.script (text_of h.transcript) fault.number fault.kind h.read.values h.read.valid h.read.spelled fault.fault
never_both input status line other h (inr fault) =
    let same : (h.script ≡ fault.script) × (text_of h.transcript ≡ fault.rest) =
    same_rest input h.script fault.script (text_of h.transcript) fault.rest (h.read.values, h.read.valid) (fault.values, fault.valid) h.read.spelled fault.parted in
    let there : IsFault (chunk_count h.script.geometry) fault.rest fault.number fault.kind =
    subst (λ (n : ℕ). IsFault n fault.rest fault.number fault.kind) (same_servers h.script fault.script same.0) fault.fault in
    no_fault (chunk_count h.script.geometry) h.transcript fault.number fault.kind h.read.form
    (subst (λ (rest : List ℕ). IsFault (chunk_count h.script.geometry) rest fault.number fault.kind) (sym same.1) there)

script_first : (input line other : List ℕ) → HasFaultyScript input line → HasFaultyTranscript input other → ⊥
script_first input line other h k = no_front_fault input k.script k.rest h.number h.kind k.values k.valid k.parted h.fault

transcript_twice : (input line other : List ℕ) → HasFaultyTranscript input line → HasFaultyTranscript input other → line ≡ other
transcript_twice input line other h k =
    let same : (h.script ≡ k.script) × (h.rest ≡ k.rest) = same_rest input h.script k.script h.rest k.rest (h.values, h.valid) (k.values, k.valid) h.parted k.parted in
    let servers : IsFault (chunk_count h.script.geometry) k.rest k.number k.kind =
    subst (λ (n : ℕ). IsFault n k.rest k.number k.kind) (same_servers h.script k.script same.0) k.fault in
    let there : IsFault (chunk_count h.script.geometry) h.rest k.number k.kind =
    subst (λ (rest : List ℕ). IsFault (chunk_count h.script.geometry) rest k.number k.kind) (sym same.1) servers in
    let fault : (h.number ≡ k.number) × (h.kind ≡ k.kind) = one_fault (chunk_count h.script.geometry) h.rest h.number k.number h.kind k.kind h.fault there in
    h.line_is ∙ (λ i. refusal_line (line_count (spelling (same.0 i)) + fault.0 i) (kind_text (fault.1 i))) ∙ sym k.line_is

unreadable_twice : (input line other : List ℕ) → IsUnreadable input line → IsUnreadable input other → line ≡ other
unreadable_twice input line other (inl h) (inl k) =
    let fault : (h.number ≡ k.number) × (h.kind ≡ k.kind) = script_laws.one_fault input h.number k.number h.kind k.kind (inl h.fault) (inl k.fault) in
    h.line_is ∙ (λ i. refusal_line (fault.0 i) (kind_text (fault.1 i))) ∙ sym k.line_is
unreadable_twice input line other (inl h) (inr k) = absurd (script_first input line other h k)
unreadable_twice input line other (inr h) (inl k) = absurd (script_first input other line k h)
unreadable_twice input line other (inr h) (inr k) = transcript_twice input line other h k

kinds_agree : (input line other : List ℕ) (status state : Status) → IsKind input status line → IsKind input state other → (status ≡ state) × (line ≡ other)
kinds_agree input line other status state (inl h) (inl k) = judged_twice input status state line other h k
kinds_agree input line other status state (inl h) (inr k) = absurd (never_both input status line other h k.1)
kinds_agree input line other status state (inr h) (inl k) = absurd (never_both input state other line k h.1)
kinds_agree input line other status state (inr h) (inr k) = (h.0 ∙ sym k.0, unreadable_twice input line other h.1 k.1)

pub one_verdict : HasOneVerdict
one_verdict input line other status state h k = kinds_agree input line other status state (kind_of input status line h) (kind_of input state other k)
