-- What `verify` says of an input.
use Rattle.std.proofs.Common.{◌≡◌, ◌≢◌, ◌++◌, ℕ, zero, suc, ◌+◌, ◌≤◌, List, [], ◌∷◌, length, length-append, take, drop, refl, sym, ap, subst, ◌∙◌, arith, inl, inr}
use Rattle.std.specs.Prelude.{Result, Ok, Err, IfOk, ◌⊎◌, ◌<◌, ◌^◌, map}
use Rattle.std.proofs.lemmas.List.{length-map}
use Rattle.clay_grid.specs.Shape.{chunk_count}
use Rattle.line_grammar.specs.Values.{IsScript}
use Rattle.line_grammar.specs.declared.line_fault.FaultKind.{FaultKind}
use Rattle.line_grammar.specs.declared.line_fault.FaultKind.TheVariants.{OutOfMemory}
use Rattle.script_text.specs.FirstFault.{IsFrontFault, OrMemory}
use Rattle.script_text.specs.Spelling.{spelling}
use Rattle.script_text.specs.declared.script_fault.ScriptFault.{ScriptFault}
use Rattle.store_map.specs.Naming.{IsValid}
use Rattle.store_map.specs.declared.script.Script.{Script}
use Rattle.transcript_read.specs.Fault.{IsFault}
use Rattle.transcript_read.specs.WellFormed.{IsWellFormed, kinds_of}
use Rattle.transcript_read.specs.declared.transcript_line.Line.{Line}
use Rattle.transcript_read.specs.declared.transcript_line.Line.TheVariants as line
use Rattle.transcript_read.proofs.CoverLaws.{fault_within}
use Rattle.transcript_read.proofs.OrderedListLaws.{lines_within}
use Rattle.transcript_text.specs.Text.{text_of}
use Rattle.store_map.specs.declared.transcript.Transcript.{Transcript}
use Rattle.hist_rules.specs.Verdict.{verdict_of}
use Rattle.hist_check.specs.VerdictText.{verdict_line}
use Rattle.hist_rules.specs.declared.verdict.Verdict.TheVariants.{Legal}
use Rattle.clay_cli.specs.Play.{kind_text, refusal_line}
use Rattle.clay_cli.specs.Verify.{line_count}
use Rattle.clay_cli.specs.Top.{Answers}
use Rattle.clay_cli.specs.declared.status.Status.{Status}
use Rattle.clay_cli.specs.declared.status.Status.TheVariants.{Done, NotLegal, ScriptRefused}
use Rattle.clay_words.specs.declared.numbers_of_words.Task.TheVariants.{Verify}

is_fault : (Fault : ℕ → FaultKind → Type 0) (f : ScriptFault) → OrMemory Fault f → f.kind ≢ OutOfMemory → Fault f.line f.kind
is_fault Fault f (inl memory) other = absurd (other memory.1)
is_fault Fault f (inr h) other = h

-- the faulty line is one of the rest's, or the one behind them
pub line_within : (n : ℕ) (bytes : List ℕ) (f : ScriptFault) → OrMemory (IsFault n bytes) f → f.line ≤ length bytes + 1
line_within n bytes f (inl memory) = let none = memory.0 in omega (arith, none)
line_within n bytes f (inr h) = fault_within n bytes f.line f.kind h

pub faulty_script : (input : List ℕ) (f : ScriptFault) (status : Status) (line : List ℕ) → OrMemory (IsFrontFault input) f
    → status ≡ ScriptRefused → line ≡ refusal_line f.line (kind_text f.kind) → f.kind ≢ OutOfMemory → Answers Verify input status line
faulty_script input f status line fault is text other =
    subst (λ (s : Status). Answers Verify input s line) (sym is)
    (inl (record { number = f.line; kind = f.kind; fault = is_fault (IsFrontFault input) f fault other; line_is = text }))

-- f is told of what stands behind the script, g of the whole input
pub faulty_transcript : (input front rest : List ℕ) (script : Script) (f g : ScriptFault) (status : Status) (line : List ℕ) → IsScript script → IsValid script
    → front ≡ spelling script → input ≡ front ++ rest → OrMemory (IsFault (chunk_count script.geometry) rest) f
    → g.kind ≡ f.kind → g.line ≡ line_count front + f.line
    → status ≡ ScriptRefused → line ≡ refusal_line g.line (kind_text g.kind) → g.kind ≢ OutOfMemory → Answers Verify input status line
faulty_transcript input front rest script f g status line values valid is_front parted fault kind line_of is text other =
    subst (λ (s : Status). Answers Verify input s line) (sym is)
    (inr (record {
      script = script;
      values = values;
      valid = valid;
      rest = rest;
      parted = parted ∙ ap (λ (x : List ℕ). x ++ rest) is_front;
      number = f.line;
      kind = f.kind;
      fault = is_fault (IsFault (chunk_count script.geometry) rest) f fault (λ e. other (kind ∙ e));
      line_is =
          text ∙ ap (λ (n : ℕ). refusal_line n (kind_text g.kind)) (line_of ∙ ap (λ (x : List ℕ). line_count x + f.line) is_front)
          ∙ ap (λ (k : FaultKind). refusal_line (line_count (spelling script) + f.line) (kind_text k)) kind;
    }))

-- a fact of the value that follows from three
pub on_three : {A E : Type 0} {P Q R S : A → Type 0} (r : Result A E) → ((value : A) → P value → Q value → R value → S value) → IfOk r P → IfOk r Q → IfOk r R → IfOk r S
on_three (Ok value) leads p q s = leads value p q s
on_three (Err e) leads p q s = tt

-- ---- a transcript that was read

front_length : {A : Type 0} (f : A → Line) (front : List Line) (xs : List A) (n : ℕ) → n ≤ length front → n + length xs ≤ length (front ++ map f xs)
front_length f front xs n few =
    let parts = length-append front (map f xs) in
    let same = length-map xs f in
    omega (arith, few, parts, same)

more_front : (front more : List Line) (n : ℕ) → n ≤ length front → n ≤ length (front ++ more)
more_front front more n few = let parts = length-append front more in omega (arith, few, parts)

-- the lines of calls are among the lines, which are no more than the bytes
pub few_calls : (t : Transcript) (bytes : List ℕ) → bytes ≡ text_of t → length bytes ≤ 167772160 → length t.history + length t.refused + length t.repairs < 2 ^ 32
few_calls t bytes is short =
    let one = length-map t.history line.History in
    let two = front_length line.Refused (map line.History t.history) t.refused (length t.history) (omega (arith, one)) in
    let three = front_length line.Repair (map line.History t.history ++ map line.Refused t.refused) t.repairs (length t.history + length t.refused) two in
    let four = more_front _ (map line.Unanswered t.unanswered) _ three in
    let five = more_front _ (map line.Object t.objects) _ four in
    let six = more_front _ (map line.Takes t.takes) _ five in
    let seven = more_front _ (map line.Server t.servers) _ six in
    let all = more_front (kinds_of t) (line.End ∷ []) _ seven in
    let within = lines_within t in
    let same = ap length is in
    omega (arith, all, within, same, short)

-- the verdict is legal, and the line says so; or it isn't, and the line says why
pub judged : (input front rest : List ℕ) (script : Script) (transcript : Transcript) (status : Status) (line : List ℕ) → IsScript script → IsValid script
    → IsWellFormed (chunk_count script.geometry) transcript → front ≡ spelling script → input ≡ front ++ rest → rest ≡ text_of transcript
    → line ≡ verdict_line (verdict_of script transcript) → (status ≡ Done → verdict_of script transcript ≡ Legal) → (status ≡ NotLegal → verdict_of script transcript ≢ Legal)
    → (status ≡ Done) ⊎ (status ≡ NotLegal) → Answers Verify input status line
judged input front rest script transcript status line values valid form is_front parted is_rest text legal broken (inl is) =
    subst (λ (s : Status). Answers Verify input s line) (sym is)
    (record {
      script = script;
      transcript = transcript;
      read = record { values = values; valid = valid; form = form; spelled = parted ∙ ap (λ (x : List ℕ). x ++ rest) is_front ∙ ap (λ (x : List ℕ). spelling script ++ x) is_rest };
      legal = legal is;
      line_is = text ∙ ap verdict_line (legal is);
    })
judged input front rest script transcript status line values valid form is_front parted is_rest text legal broken (inr is) =
    subst (λ (s : Status). Answers Verify input s line) (sym is)
    (record {
      script = script;
      transcript = transcript;
      read = record { values = values; valid = valid; form = form; spelled = parted ∙ ap (λ (x : List ℕ). x ++ rest) is_front ∙ ap (λ (x : List ℕ). spelling script ++ x) is_rest };
      broken = broken is;
      line_is = text;
    })

-- the front that the script's length cuts off is the script's spelling

-- what stands before a place and behind it is the whole
pub parted_at : (n : ℕ) (input rest : List ℕ) → rest ≡ drop n input → input ≡ take n input ++ rest
parted_at n input rest is = halves n input ∙ ap (λ (x : List ℕ). take n input ++ x) (sym is)
  where
    halves : (k : ℕ) (xs : List ℕ) → xs ≡ take k xs ++ drop k xs
    halves zero [] = refl
    halves zero (x ∷ xs) = refl
    halves (suc k) [] = refl
    halves (suc k) (x ∷ xs) = ap (λ (l : List ℕ). x ∷ l) (halves k xs)

pub rest_short : (n : ℕ) (input rest : List ℕ) → rest ≡ drop n input → length rest ≤ length input
rest_short n input rest is =
    let whole = ap length (parted_at n input rest is) in
    let parts = length-append (take n input) rest in
    omega (arith, whole, parts)

pub cut_front : (input front : List ℕ) (script : Script) (n : ℕ) → input ≡ spelling script ++ drop n input → n ≡ length (spelling script) → front ≡ take n input → front ≡ spelling script
cut_front input front script n spelled is_length is_front =
    is_front ∙ ap (take n) spelled ∙ ap (λ (k : ℕ). take k (spelling script ++ drop n input)) is_length ∙ take_front (spelling script) (drop n input)
  where
    take_front : (xs ys : List ℕ) → take (length xs) (xs ++ ys) ≡ xs
    take_front [] ys = refl
    take_front (x ∷ xs) ys = ap (λ (l : List ℕ). x ∷ l) (take_front xs ys)

-- no text ends before its script does
pub front_within : (input : List ℕ) (script : Script) (n : ℕ) → input ≡ spelling script ++ drop n input → n ≡ length (spelling script) → n ≤ length input
front_within input script n spelled is_length =
    let parts = ap length spelled ∙ length-append (spelling script) (drop n input) in omega (arith, parts, is_length)
