-- A text read line by line up to its line `end`.
-- One trait, Field, has the values of a part and their spelling; reading up to a separator and reading a list of values are proved once
-- for all fields. A text has one reading since two lines' texts differ before their first line feed, and the lists of a transcript are
-- picked out of its lines again.
use Rattle.std.proofs.Common.{◌≡◌, ◌≢◌, ℕ, ◌+◌, ◌≤◌, List, [], ◌∷◌, ◌++◌, length, length-append, refl, sym, ap, ◌∙◌, subst, arith, inl, inr}
use Rattle.std.specs.List.{flat_map}
use Rattle.script_text.specs.FirstFault.{OrMemory}
use Rattle.line_grammar.specs.Lines.{Lacks}
use Rattle.line_grammar.specs.declared.line_fault.FaultKind.TheVariants as fault
use Rattle.script_text.specs.declared.script_fault.ScriptFault.{ScriptFault}
use Rattle.transcript_text.specs.Text.{text_of}
use Rattle.transcript_read.specs.Bodies.{line_text}
use Rattle.transcript_read.specs.Fault.{IsNoLine, RestFault, IsFault}
use Rattle.transcript_read.specs.Order.{Follows}
use Rattle.transcript_read.specs.WellFormed.{AreInOrder, place_after, IsWellFormed}
use Rattle.transcript_read.specs.Forms.{IsLine}
use Rattle.transcript_read.specs.Reader.{empty, IsTaken}
use Rattle.transcript_read.specs.declared.transcript_line.Line.{Line}
use Rattle.transcript_read.specs.declared.transcript_place.TranscriptPlace.{TranscriptPlace}
use Rattle.transcript_read.specs.declared.transcript_place.TranscriptPlace.TheVariants as at
use Rattle.transcript_read.specs.declared.transcript_reader.Reader.{Reader}
use Rattle.transcript_read.proofs.OrderLaws.{so_far, IsUpTo, up_to_more, so_far_more, in_order_more, place_after_more, text_more, few_lines, whole_text, unended_rank}

-- the reader has read the bytes up to the rest, so many lines
pub record IsReadTo (servers : ℕ) (bytes : List ℕ) (r : Reader) (rest : List ℕ) (count : ℕ) : Type 0 where
  pub servers_is : r.servers ≡ servers
  pub parted : bytes ≡ flat_map line_text (so_far r.place r.transcript) ++ rest
  pub in_order : AreInOrder servers at.Start (so_far r.place r.transcript)
  pub place_is : place_after at.Start (so_far r.place r.transcript) ≡ r.place
  pub counted : count ≡ length (so_far r.place r.transcript)
  pub up_to : IsUpTo r.place r.transcript

pub read_none : (servers : ℕ) (bytes : List ℕ) (r : Reader) → r.servers ≡ servers → r.place ≡ at.Start → r.transcript ≡ empty → IsReadTo servers bytes r bytes 0
read_none servers bytes r s p t = record {
  servers_is = s;
  parted = rw (p, t) refl;
  in_order = rw (p, t) tt;
  place_is = rw (p, t) refl;
  counted = rw (p, t) refl;
  up_to = rw (p, t) (record {
    history = λ h. refl;
    refused = λ h. refl;
    repairs = λ h. refl;
    unanswered = λ h. refl;
    objects = λ h. refl;
    takes = λ h. refl;
    servers = λ h. refl;
  });
}

pub read_more : (servers : ℕ) (bytes : List ℕ) (old new : Reader) (rest text behind : List ℕ) (count : ℕ) → IsReadTo servers bytes old rest count → old.place ≢ at.End
    → rest ≡ text ++ 10 ∷ behind → ((l : Line) × IsTaken old text l new) → IsReadTo servers bytes new behind (count + 1)
read_more servers bytes old new rest text behind count so unended next taken =
    let l = taken.0 in
    let is = taken.1 in
    let lines = so_far old.place old.transcript in
    let grown : so_far new.place new.transcript ≡ lines ++ l ∷ [] =
    rw (is.place, is.transcript) (so_far_more old.servers old.place old.transcript l so.up_to (unended_rank old.place unended) is.follows) in
    let follows : Follows servers (place_after at.Start lines) l = rw (so.place_is, ← so.servers_is) is.follows in
    let form : IsLine servers l = rw (← so.servers_is) is.form in
    record {
      servers_is = is.servers ∙ so.servers_is;
      parted = rw grown (text_more bytes rest text behind lines l so.parted next is.spelled);
      in_order = rw grown (in_order_more servers at.Start lines l so.in_order form follows);
      place_is = rw (grown, is.place) (place_after_more at.Start lines l);
      counted = rw (grown, so.counted) (sym (length-append lines (l ∷ [])));
      up_to = rw (is.place, is.transcript) (up_to_more old.servers old.place old.transcript l so.up_to is.follows);
    }

-- fewer lines than bytes
pub few_read : (servers : ℕ) (bytes : List ℕ) (r : Reader) (rest : List ℕ) (count : ℕ) → IsReadTo servers bytes r rest count → count ≤ length bytes
few_read servers bytes r rest count so =
    let lines = so_far r.place r.transcript in
    let few = few_lines lines in
    let parts : length bytes ≡ length (flat_map line_text lines) + length rest = ap length so.parted ∙ length-append (flat_map line_text lines) rest in
    omega (arith, few, parts, so.counted)

-- the rest has a fault
rest_fault : (servers : ℕ) (bytes : List ℕ) (r : Reader) (rest : List ℕ) (count : ℕ) (f : ScriptFault) → IsReadTo servers bytes r rest count → r.place ≢ at.End
    → f.line ≡ count + 1 → RestFault servers r.place rest f.kind → OrMemory (IsFault servers bytes) f
rest_fault servers bytes r rest count f so unended line faulty =
    inr (inl (record {
      lines = so_far r.place r.transcript;
      rest = rest;
      in_order = so.in_order;
      unended = rw so.place_is (unended_rank r.place unended);
      number_is = line ∙ ap (λ (n : ℕ). n + 1) so.counted;
      parted = so.parted;
      fault = rw so.place_is faulty;
    }))

pub line_missing : (servers : ℕ) (bytes : List ℕ) (r : Reader) (rest : List ℕ) (count : ℕ) (f : ScriptFault) → IsReadTo servers bytes r rest count → r.place ≢ at.End
    → Lacks 10 rest → f.line ≡ count + 1 → f.kind ≡ fault.MissingEnd → OrMemory (IsFault servers bytes) f
line_missing servers bytes r rest count f so unended lacks line kind = rest_fault servers bytes r rest count f so unended line (inr (lacks, kind))

pub line_refused : (servers : ℕ) (bytes : List ℕ) (r : Reader) (rest text behind : List ℕ) (count : ℕ) (f : ScriptFault) → IsReadTo servers bytes r rest count → r.place ≢ at.End
    → rest ≡ text ++ 10 ∷ behind → Lacks 10 text → IsNoLine r.servers r.place text → f.line ≡ count + 1 → f.kind ≡ fault.Syntax → OrMemory (IsFault servers bytes) f
line_refused servers bytes r rest text behind count f so unended next lacks none line kind =
    let known : IsNoLine servers r.place text = rw (← so.servers_is) none in
    rest_fault servers bytes r rest count f so unended line (inl (text, behind, next, lacks, known, kind))

-- the line `end` was read
pub read_form : (servers : ℕ) (bytes : List ℕ) (r : Reader) (rest : List ℕ) (count : ℕ) → IsReadTo servers bytes r rest count → r.place ≡ at.End → IsWellFormed servers r.transcript
read_form servers bytes r rest count so end = let Q : TranscriptPlace → Type 0 = λ p. AreInOrder servers at.Start (so_far p r.transcript) in subst Q end so.in_order

pub read_text : (servers : ℕ) (bytes : List ℕ) (r : Reader) (rest : List ℕ) (count : ℕ) → IsReadTo servers bytes r rest count → r.place ≡ at.End → bytes ≡ text_of r.transcript ++ rest
read_text servers bytes r rest count so end =
    so.parted ∙ ap (λ (p : TranscriptPlace). flat_map line_text (so_far p r.transcript) ++ rest) end ∙ ap (λ (t : List ℕ). t ++ rest) (whole_text r.transcript)

pub tail_fault : (servers : ℕ) (bytes : List ℕ) (r : Reader) (rest : List ℕ) (count : ℕ) (f : ScriptFault) → IsReadTo servers bytes r rest count → r.place ≡ at.End → rest ≢ []
    → f.line ≡ count + 1 → f.kind ≡ fault.Syntax → OrMemory (IsFault servers bytes) f
tail_fault servers bytes r rest count f so end some line kind =
    inr (inr (record {
      transcript = r.transcript;
      form = read_form servers bytes r rest count so end;
      rest = rest;
      some = some;
      parted = read_text servers bytes r rest count so end;
      number_is = line ∙ ap (λ (n : ℕ). n + 1) (so.counted ∙ ap (λ (p : TranscriptPlace). length (so_far p r.transcript)) end);
      kind_is = kind;
    }))
