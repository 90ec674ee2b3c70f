-- A text read line by line up to its line `end`.
use Rattle.std.proofs.Common.{◌≡◌, ◌≢◌, ℕ, ◌+◌, ◌-◌, ◌^◌, ◌<◌, ◌≤◌, List, [], ◌∷◌, ◌++◌, length, drop, Option, None, Some, Ok, Err, refl, sym, ap, ◌∙◌, arith, inl, inr, length-append, append_assoc, append-nil, subst}
use Rattle.std.proofs.lemmas.List.{length-map}
use Rattle.std.proofs.Math.Seq.{drop-append_seam}
use Rattle.std.specs.Prelude.{codes, map, All}
use Rattle.std.specs.List.{flat_map}
use Rattle.std.proofs.lemmas.Grind.{flat_map-append}
use Rattle.std.proofs.lemmas.List.Concat.{length-flat_map}
use Rattle.std.proofs.lemmas.List.Elements.{All-weaker}
use Rattle.std.proofs.lemmas.List.Sums.{sum_by-le}
use Rattle.clay_grid.specs.Shape.{Shape}
use Rattle.store_map.specs.Limits.{IsWithinLimits}
use Rattle.store_map.specs.declared.limits.TheConstants.{MAX_CLIENTS, MAX_REPAIRERS, MAX_SCHEDULE}
use Rattle.store_map.specs.declared.script.ClientPart.{ClientPart}
use Rattle.store_map.specs.declared.script.RepairPart.{RepairPart}
use Rattle.store_map.specs.declared.script.Script.{Script}
use Rattle.line_grammar.specs.Numbers.{number_word}
use Rattle.line_grammar.specs.Forms.{IsForm, HasForm}
use Rattle.script_text.specs.Begun.{begun, lines_behind_blocks}
use Rattle.script_text.specs.Behind.{kind_of}
use Rattle.script_text.specs.Front.{Front, Empty, Opened, Begun, IsFront, front_lines, HasEnded}
use Rattle.script_text.specs.Fault.{LineFault}
use Rattle.script_text.specs.FirstFault.{IsFrontFault, OrMemory, fault_at}
use Rattle.line_grammar.specs.Line.{Line, ClayLine, CodeLine, SizeLine, TriesLine, CallLine, RebuildLine, ScheduleLine, StepLine, EndLine, line_words, line_text}
use Rattle.line_grammar.specs.Lines.{Lacks, spaced}
use Rattle.script_text.specs.Reader.{script_of, opened, IsSound, Takes}
use Rattle.line_grammar.specs.ReadsLine.{ReadsCode}
use Rattle.script_text.specs.Spelling.{limited, client_lines, repairer_lines, optional_line, script_lines, spelling}
use Rattle.line_grammar.specs.declared.line_fault.FaultKind.{FaultKind}
use Rattle.line_grammar.specs.declared.line_fault.FaultKind.TheVariants as fault
use Rattle.script_text.specs.declared.script_fault.ScriptFault.{ScriptFault}
use Rattle.script_text.specs.declared.script_place.LineKind.TheVariants as kind
use Rattle.script_text.specs.declared.script_place.ScriptPlace.{ScriptPlace}
use Rattle.script_text.specs.declared.script_place.ScriptPlace.TheVariants as place
use Rattle.script_text.specs.declared.script_reader.Reader.{Reader}
use Rattle.script_text.proofs.FrameLaws.{begun_line}
use Rattle.line_grammar.proofs.LineLaws.{line_front}
use Rattle.script_text.proofs.StepLaws.{few_calls, few_rebuilds}

-- ---- faults by name

-- a fault by its line and kind
pub named : (P : ℕ → FaultKind → Type 0) (number : ℕ) (k : FaultKind) (f : ScriptFault) → f ≡ fault_at number k → (k ≢ fault.OutOfMemory → P number k) → OrMemory P f
named P number fault.OutOfMemory f is h = rw is (inl (refl, refl))
named P number fault.Syntax f is h = rw is (inr (h (λ e. cc e)))
named P number fault.Geometry f is h = rw is (inr (h (λ e. cc e)))
named P number fault.Limit f is h = rw is (inr (h (λ e. cc e)))
named P number fault.NoSuchActor f is h = rw is (inr (h (λ e. cc e)))
named P number fault.NoSuchServer f is h = rw is (inr (h (λ e. cc e)))
named P number fault.MissingEnd f is h = rw is (inr (h (λ e. cc e)))

-- a faulty line behind a front
pub front_fault : (bytes : List ℕ) (front : Front) (rest text more : List ℕ) (number : ℕ) (k : FaultKind) → IsFront front → ¬ HasEnded front
    → number ≡ length (front_lines front) + 1 → bytes ≡ flat_map line_text (front_lines front) ++ rest → rest ≡ text ++ 10 ∷ more → Lacks 10 text → LineFault front text k
    → IsFrontFault bytes number k
front_fault bytes front rest text more number k sound unended number_is parted is lacks faulty = record {
  front = front;
  rest = rest;
  sound = sound;
  unended = unended;
  number_is = number_is;
  parted = parted;
  fault = inl (text, more, is, lacks, faulty);
}

-- no whole line behind a front
pub front_missing : (bytes : List ℕ) (front : Front) (rest : List ℕ) (number : ℕ) → IsFront front → ¬ HasEnded front
    → number ≡ length (front_lines front) + 1 → bytes ≡ flat_map line_text (front_lines front) ++ rest → Lacks 10 rest
    → IsFrontFault bytes number fault.MissingEnd
front_missing bytes front rest number sound unended number_is parted lacks = record {
  front = front;
  rest = rest;
  sound = sound;
  unended = unended;
  number_is = number_is;
  parted = parted;
  fault = inr (lacks, refl);
}

-- ---- the first two lines

-- the first line is the only one of its kind
clay_line : (l : Line) → kind_of l ≡ kind.Clay → (form : ℕ) × (l ≡ ClayLine form)
clay_line (ClayLine form) e = (form, refl)
clay_line _ e = absurd (cc e)

-- a line of the code's kind has a code
code_line : (l : Line) → kind_of l ≡ kind.Code → (g : Shape) × (l ≡ CodeLine g)
code_line (CodeLine g) e = (g, refl)
code_line _ e = absurd (cc e)

-- another first line is none
pub not_clay : (text : List ℕ) → ((form : ℕ) → IsForm form → text ≢ spaced (line_words (ClayLine form))) → LineFault Empty text fault.Syntax
not_clay text other l spells stands =
    let parts = clay_line l stands in
    other parts.0 (subst HasForm parts.1 spells.0) (spells.1 ∙ ap (λ (x : Line). spaced (line_words x)) parts.1)

-- the first lines of the two forms
pub clay_one : spaced (line_words (ClayLine 1)) ≡ codes "clay 1"
unfolding number_word
clay_one = refl

pub clay_two : spaced (line_words (ClayLine 2)) ≡ codes "clay 2"
unfolding number_word
clay_two = refl

-- a text that is neither is of no form
pub no_form : (text : List ℕ) → (text ≡ codes "clay 1" → ⊥) → (text ≡ codes "clay 2" → ⊥) → (form : ℕ) → IsForm form → text ≢ spaced (line_words (ClayLine form))
no_form text one two form (inl is) e = one (subst (λ (n : ℕ). text ≡ spaced (line_words (ClayLine n))) is e ∙ clay_one)
no_form text one two form (inr is) e = two (subst (λ (n : ℕ). text ≡ spaced (line_words (ClayLine n))) is e ∙ clay_two)

-- what is wrong with the code is wrong with its line
pub code_err : (form : ℕ) (text : List ℕ) (f : FaultKind) → ReadsCode text (Err f) → f ≢ fault.OutOfMemory → LineFault (Opened form) text f
code_err form text fault.Syntax h some = λ l spells stands.
    let parts = code_line l stands in h parts.0 tt (spells.1 ∙ ap (λ (x : Line). spaced (line_words x)) parts.1)
code_err form text fault.Limit h some = (CodeLine h.0, (tt, h.3), refl, h.2)
code_err form text fault.Geometry h some = (CodeLine h.0, (tt, h.3), refl, h.1, h.2)
code_err form text fault.OutOfMemory h some = absurd (some refl)
code_err form text fault.NoSuchActor h some = absurd h
code_err form text fault.NoSuchServer h some = absurd h
code_err form text fault.MissingEnd h some = absurd h

-- the text behind one line more
pub one_more : (bytes : List ℕ) (ls : List Line) (l : Line) (rest text behind : List ℕ) → bytes ≡ flat_map line_text ls ++ rest → rest ≡ text ++ 10 ∷ behind → text ≡ spaced (line_words l)
    → bytes ≡ flat_map line_text (ls ++ l ∷ []) ++ behind
one_more bytes ls l rest text behind parted next is =
    let one : flat_map line_text (l ∷ []) ≡ line_text l = append-nil (line_text l) in
    let both : flat_map line_text (ls ++ l ∷ []) ≡ flat_map line_text ls ++ line_text l =
    flat_map-append line_text ls (l ∷ []) ∙ ap (λ (x : List ℕ). flat_map line_text ls ++ x) one in
    let front : rest ≡ line_text l ++ behind = next ∙ ap (λ (x : List ℕ). x ++ 10 ∷ behind) is ∙ sym (line_front (line_words l) behind) in
    parted ∙ ap (λ (x : List ℕ). flat_map line_text ls ++ x) front ∙ sym (append_assoc (flat_map line_text ls) (line_text l) behind)
    ∙ ap (λ (x : List ℕ). x ++ behind) (sym both)

-- the text behind the first line
pub clay_read : (form : ℕ) (bytes first behind : List ℕ) → bytes ≡ first ++ 10 ∷ behind → first ≡ spaced (line_words (ClayLine form)) → bytes ≡ flat_map line_text (ClayLine form ∷ []) ++ behind
clay_read form bytes first behind is clay = one_more bytes [] (ClayLine form) bytes first behind refl is clay

-- ---- line by line

-- what was read so far, and what is left
pub record IsReadTo (bytes : List ℕ) (reader : Reader) (rest : List ℕ) (lines : ℕ) : Type 0 where
  pub sound : IsSound reader
  pub counted : lines ≡ length (begun reader.place (script_of reader))
  pub parted : bytes ≡ flat_map line_text (begun reader.place (script_of reader)) ++ rest

-- two lines were read
pub read_opened : (bytes : List ℕ) (reader : Reader) (form : ℕ) (g : Shape) (rest : List ℕ) → script_of reader ≡ opened form g → reader.place ≡ place.Code → IsSound reader
    → bytes ≡ flat_map line_text (ClayLine form ∷ CodeLine g ∷ []) ++ rest → IsReadTo bytes reader rest 2
read_opened bytes reader form g rest script at sound is =
    let same : begun reader.place (script_of reader) ≡ ClayLine form ∷ CodeLine g ∷ [] =
    ap (λ (p : ScriptPlace). begun p (script_of reader)) at ∙ ap (begun place.Code) script in
    record {
      sound = sound;
      counted = sym (ap length same);
      parted = is ∙ ap (λ (ls : List Line). flat_map line_text ls ++ rest) (sym same);
    }

-- one line more was read
pub read_more : (bytes : List ℕ) (old new : Reader) (rest text behind : List ℕ) (lines : ℕ) → IsReadTo bytes old rest lines → rest ≡ text ++ 10 ∷ behind
    → Takes old text (Ok tt) new → IsReadTo bytes new behind (lines + 1)
read_more bytes old new rest text behind lines so_far next takes =
    let l = takes.0 in
    let taken = takes.1 in
    let more : begun new.place (script_of new) ≡ begun old.place (script_of old) ++ l ∷ [] =
    ap (begun new.place) taken.script ∙ begun_line old.place new.place (script_of old) l taken.place so_far.sound.begun.at in
    let len = ap length more ∙ length-append (begun old.place (script_of old)) (l ∷ []) in
    record {
      sound = taken.sound;
      counted = omega (arith, len, so_far.counted);
      parted = one_more bytes (begun old.place (script_of old)) l rest text behind so_far.parted next taken.spelled.1
          ∙ ap (λ (ls : List Line). flat_map line_text ls ++ behind) (sym more);
    }

-- the line behind has a fault
pub line_refused : (bytes : List ℕ) (old new : Reader) (rest text behind : List ℕ) (lines : ℕ) (k : FaultKind) (f : ScriptFault) → IsReadTo bytes old rest lines → (old.place ≡ place.End → ⊥)
    → rest ≡ text ++ 10 ∷ behind → Lacks 10 text → Takes old text (Err k) new → f ≡ fault_at (lines + 1) k → OrMemory (IsFrontFault bytes) f
line_refused bytes old new rest text behind lines k f so_far unended next lacks takes is =
    named (IsFrontFault bytes) (lines + 1) k f is (λ known.
    front_fault bytes (Begun old.place (script_of old)) rest text behind (lines + 1) k so_far.sound.begun unended
    (ap (λ (n : ℕ). n + 1) so_far.counted) so_far.parted next lacks (line_fault k known takes))
  where
    line_fault : (k : FaultKind) → k ≢ fault.OutOfMemory → Takes old text (Err k) new → LineFault (Begun old.place (script_of old)) text k
    line_fault fault.OutOfMemory known h = absurd (known refl)
    line_fault fault.Syntax known h = h
    line_fault fault.Geometry known h = h
    line_fault fault.Limit known h = h
    line_fault fault.NoSuchActor known h = h
    line_fault fault.NoSuchServer known h = h
    line_fault fault.MissingEnd known h = h

-- no whole line stands behind
pub line_missing : (bytes : List ℕ) (old : Reader) (rest : List ℕ) (lines : ℕ) (f : ScriptFault) → IsReadTo bytes old rest lines → (old.place ≡ place.End → ⊥)
    → Lacks 10 rest → f ≡ fault_at (lines + 1) fault.MissingEnd → OrMemory (IsFrontFault bytes) f
line_missing bytes old rest lines f so_far unended lacks is =
    named (IsFrontFault bytes) (lines + 1) fault.MissingEnd f is (λ known.
    front_missing bytes (Begun old.place (script_of old)) rest (lines + 1) so_far.sound.begun unended
    (ap (λ (n : ℕ). n + 1) so_far.counted) so_far.parted lacks)

-- ---- few lines

-- a step limit adds one line at most
limited_length : (o : Option ℕ) (ls : List Line) → length (limited o ls) ≤ length ls + 1
limited_length None ls = omega arith
limited_length (Some n) [] = omega arith
limited_length (Some n) (l ∷ []) = omega arith
limited_length (Some n) (l ∷ m ∷ ls) = let rest = limited_length (Some n) (m ∷ ls) in omega (arith, rest)

-- the lines of the clients are few
few_clients : (cs : List ClientPart) → length cs ≤ MAX_CLIENTS → All few_calls cs → length (flat_map client_lines cs) ≤ 300000
few_clients cs few calls =
    let each : (part : ClientPart) → few_calls part → length (client_lines part) ≤ 4098 = λ part h.
    let len = limited_length part.leave (map CallLine part.calls) in
    let len' = length-map part.calls CallLine in
    omega (arith, len, len', h) in
    let total = length-flat_map client_lines cs in
    let bound = sum_by-le (λ part. length (client_lines part)) 4098 cs (All-weaker few_calls (λ part. length (client_lines part) ≤ 4098) each cs calls) in
    omega (arith, total, bound, few)

-- so are those of the repairers
few_repairers : (rs : List RepairPart) → length rs ≤ MAX_REPAIRERS → All few_rebuilds rs → length (flat_map repairer_lines rs) ≤ 300000
few_repairers rs few calls =
    let each : (part : RepairPart) → few_rebuilds part → length (repairer_lines part) ≤ 4098 = λ part h.
    let len = limited_length part.leave (map RebuildLine part.calls) in
    let len' = length-map part.calls RebuildLine in
    omega (arith, len, len', h) in
    let total = length-flat_map repairer_lines rs in
    let bound = sum_by-le (λ part. length (repairer_lines part)) 4098 rs (All-weaker few_rebuilds (λ part. length (repairer_lines part) ≤ 4098) each rs calls) in
    omega (arith, total, bound, few)

-- an optional line is one line at most
optional_length : (make : ℕ → Line) (o : Option ℕ) → length (optional_line make o) ≤ 1
optional_length make None = omega arith
optional_length make (Some n) = omega arith

-- the lines behind the blocks are few
behind_length : (p : ScriptPlace) (s : Script) → length s.schedule ≤ MAX_SCHEDULE → length (lines_behind_blocks p s) ≤ MAX_SCHEDULE + 2
behind_length (place.ClientLimit n) s few = omega arith
behind_length (place.RepairerLimit n) s few = omega arith
behind_length place.Schedule s few = let len = length-map s.schedule StepLine in omega (arith, len, few)
behind_length place.End s few =
    let len = length-map s.schedule StepLine in
    let len' = length-append (map StepLine s.schedule) (EndLine ∷ []) in
    omega (arith, len, len', few)
behind_length _ s few = omega arith

-- a script so far has few lines
pub few_lines : (p : ScriptPlace) (s : Script) → IsWithinLimits s → length (begun p s) < 2 ^ 31
few_lines p s l =
    let a = ClayLine s.form ∷ CodeLine s.geometry ∷ [] in
    let b = optional_line SizeLine s.size in
    let c = optional_line TriesLine s.tries in
    let d = flat_map client_lines s.clients in
    let e = flat_map repairer_lines s.repairers in
    let f = lines_behind_blocks p s in
    let whole = length-append ((((a ++ b) ++ c) ++ d) ++ e) f in
    let whole1 = length-append (((a ++ b) ++ c) ++ d) e in
    let whole2 = length-append ((a ++ b) ++ c) d in
    let whole3 = length-append (a ++ b) c in
    let whole4 = length-append a b in
    let size = optional_length SizeLine s.size in
    let tries = optional_length TriesLine s.tries in
    let clients = few_clients s.clients l.clients l.client_calls in
    let repairers = few_repairers s.repairers l.repairers l.repairer_calls in
    let behind = behind_length p s l.schedule in
    omega (arith, whole, whole1, whole2, whole3, whole4, size, tries, clients, repairers, behind)

-- so few lines were read
pub few_read : (bytes : List ℕ) (reader : Reader) (rest : List ℕ) (lines : ℕ) → IsReadTo bytes reader rest lines → lines < 2 ^ 31
few_read bytes reader rest lines so_far =
    let few = few_lines reader.place (script_of reader) so_far.sound.begun.valid.limits in
    omega (arith, few, so_far.counted)

-- ---- the line `end`

-- up to the last line a script so far has all lines of the script
pub ended_lines : (s : Script) → begun place.End s ≡ script_lines s
ended_lines s =
    let x = (ClayLine s.form ∷ CodeLine s.geometry ∷ [])
    ++ optional_line SizeLine s.size ++ optional_line TriesLine s.tries
    ++ flat_map client_lines s.clients ++ flat_map repairer_lines s.repairers in
    sym (append_assoc x (ScheduleLine ∷ map StepLine s.schedule) (EndLine ∷ []))

-- behind the last line the bytes begin with a script
pub ended : (bytes : List ℕ) (reader : Reader) (rest : List ℕ) (lines : ℕ) → IsReadTo bytes reader rest lines → reader.place ≡ place.End
    → (lines ≡ length (script_lines (script_of reader))) × (bytes ≡ spelling (script_of reader) ++ rest)
unfolding spelling
ended bytes reader rest lines so_far at =
    let same : begun reader.place (script_of reader) ≡ script_lines (script_of reader) = ap (λ (p : ScriptPlace). begun p (script_of reader)) at ∙ ended_lines (script_of reader) in
    (so_far.counted ∙ ap length same, so_far.parted ∙ ap (λ (ls : List Line). flat_map line_text ls ++ rest) same)

-- what is left of a text, by the length of its front
pub front_length : (bytes front rest : List ℕ) (n : ℕ) → bytes ≡ front ++ rest → n ≡ length bytes - length rest → n ≡ length front
front_length bytes front rest n is n_is = let len = ap length is ∙ length-append front rest in omega (arith, len, n_is)

-- what is left of a text behind its front
pub front_left : (bytes front rest : List ℕ) (n : ℕ) → bytes ≡ front ++ rest → n ≡ length front → bytes ≡ front ++ drop n bytes
front_left bytes front rest n is n_is =
    let left : drop n bytes ≡ rest = ap (drop n) is ∙ ap (λ (k : ℕ). drop k (front ++ rest)) n_is ∙ drop-append_seam front rest in
    is ∙ ap (λ (x : List ℕ). front ++ x) (sym left)
