-- A text is read in one way at most.
use Rattle.std.proofs.Common.{◌≡◌, ℕ, zero, suc, ◌+◌, ◌<◌, ◌≤◌, List, [], ◌∷◌, ◌++◌, length, get_or, Option, None, Some, refl, sym, ap, ◌∙◌, arith, subst, inl, inr, length-append, append_assoc, append-nil}
use Rattle.std.specs.Prelude.{◌⊎◌}
use Rattle.std.specs.List.{flat_map, AllByRecursion}
use Rattle.clay_grid.specs.Limits.{IsGeometry}
use Rattle.clay_grid.specs.Shape.{Shape}
use Rattle.store_map.specs.Limits.{IsWithinLimits}
use Rattle.store_map.specs.Naming.{IsValid}
use Rattle.store_map.specs.declared.script.Script.{Script}
use Rattle.script_text.specs.Begun.{begun}
use Rattle.script_text.specs.Behind.{place_behind, with_line}
use Rattle.script_text.specs.SoFar.{IsBegun}
use Rattle.script_text.specs.Front.{Front, Empty, Opened, Begun, IsFront, front_lines, MayStand, HasEnded}
use Rattle.script_text.specs.Fault.{FitsLimits, HasGeometry, NamesActor, NamesServer, LineFault}
use Rattle.script_text.specs.FirstFault.{Spelled, RestFault, IsFrontFault, IsFault}
use Rattle.line_grammar.specs.Line.{Line, ClayLine, CodeLine, line_words, line_text}
use Rattle.line_grammar.specs.Lines.{Lacks, spaced}
use Rattle.script_text.specs.Reader.{opened}
use Rattle.script_text.specs.Spelling.{script_lines, spelling}
use Rattle.line_grammar.specs.Forms.{HasForm}
use Rattle.line_grammar.specs.Bounds.{HasNumbers}
use Rattle.line_grammar.specs.Values.{IsScript}
use Rattle.line_grammar.specs.declared.line_fault.FaultKind.{FaultKind}
use Rattle.line_grammar.specs.declared.line_fault.FaultKind.TheVariants as fault
use Rattle.script_text.specs.declared.script_place.ScriptPlace.{ScriptPlace}
use Rattle.script_text.specs.declared.script_place.ScriptPlace.TheVariants as place
use Rattle.script_text.proofs.BackLaws.{last_item, HasBefore, before}
use Rattle.script_text.proofs.FrameLaws.{begun_line, no_code}
use Rattle.line_grammar.proofs.LineLaws.{same_parts, never_parted, line_front}
use Rattle.script_text.proofs.OneLineLaws.{same_line, line_lacks_feed}
use Rattle.script_text.proofs.ScriptLaws.{ended_lines}

-- ---- fronts, line by line

-- the front at a place, if there is one
abbrev placed : Script → Option ScriptPlace → Option Front
placed s (Some q) = Some (Begun q s)
placed s None = None

-- the front behind one line more
abbrev next_front : Front → Line → Option Front
next_front Empty (ClayLine form) = Some (Opened form)
next_front Empty _ = None
next_front (Opened form) (CodeLine g) = Some (Begun place.Code (opened form g))
next_front (Opened form) _ = None
next_front (Begun p s) l = placed (with_line p s l) (place_behind p l)

-- a line without a fault behind a front
record IsLineOk (front : Front) (l : Line) : Type 0 where
  pub form : HasForm l
  pub stands : MayStand front l
  pub fits : FitsLimits front l
  pub geometry : HasGeometry l
  pub actor : NamesActor front l
  pub server : NamesServer front l

-- a front, before its last line
record HasFrontBefore (front : Front) : Type 0 where
  pub before : Front
  pub l : Line
  pub sound : IsFront before
  pub next : next_front before l ≡ Some front
  pub lines : front_lines front ≡ front_lines before ++ l ∷ []
  pub ok : IsLineOk before l

-- a line behind the code line has no geometry to keep
stands_geometry : (p q : ScriptPlace) (l : Line) → place_behind p l ≡ Some q → HasGeometry l
stands_geometry p q (CodeLine g) e = absurd (no_code p q e)
stands_geometry p q _ e = tt

-- the numbers of a geometry are below 2^32
code_numbers : (g : Shape) → IsGeometry g → HasNumbers (CodeLine g)
code_numbers g h = (omega (arith, h.data_chunks), omega (arith, h.limits.parity_chunks.1), omega (arith, h.limits.width.1))

-- a script of which only the code is known stands behind the first line
code_back : (s : Script) → IsBegun place.Code s → s ≡ opened s.form s.geometry → HasFrontBefore (Begun place.Code s)
code_back s b start = record {
  before = Opened s.form;
  l = CodeLine s.geometry;
  sound = b.valid.form;
  next = ap (λ (x : Script). Some (Begun place.Code x)) (sym start);
  lines = ap (begun place.Code) start;
  ok = record { form = tt; stands = refl; fits = code_numbers s.geometry b.values.geometry; geometry = b.values.geometry; actor = tt; server = tt };
}

-- the front at a place that is there
placed_is : (s t : Script) (o : Option ScriptPlace) (q : ScriptPlace) → o ≡ Some q → s ≡ t → placed s o ≡ Some (Begun q t)
placed_is s t o q e e' = ap (placed s) e ∙ ap (λ (x : Script). Some (Begun q x)) e'

-- a script so far has the front before its last line
line_back : (q : ScriptPlace) (s : Script) → IsBegun q s → HasBefore q s → HasFrontBefore (Begun q s)
line_back q s b h = record {
  before = Begun h.p h.before;
  l = h.l;
  sound = h.begun;
  next = placed_is (with_line h.p h.before h.l) s (place_behind h.p h.l) q h.place h.script;
  lines = ap (begun q) (sym h.script) ∙ begun_line h.p q h.before h.l h.place h.begun.at;
  ok = record {
    form = h.form;
    stands = (rw h.place refl, h.of_form);
    fits = (h.numbers, subst IsWithinLimits (sym h.script) b.valid.limits);
    geometry = stands_geometry h.p q h.l h.place;
    actor = h.actor;
    server = h.server;
  };
}

-- a front is empty or has one before its last line
front_back : (f : Front) → IsFront f → (f ≡ Empty) ⊎ HasFrontBefore f
front_back Empty sound = inl refl
front_back (Opened form) sound = inr (record {
  before = Empty;
  l = ClayLine form;
  sound = tt;
  next = refl;
  lines = refl;
  ok = record { form = sound; stands = refl; fits = tt; geometry = tt; actor = tt; server = tt };
})
front_back (Begun q s) sound = elim (before q s sound) [
  | inl start ↦ inr (code_start q start.0 sound start.1)
  | inr h ↦ inr (line_back q s sound h)
]
  where
    code_start : (q : ScriptPlace) → q ≡ place.Code → IsBegun q s → s ≡ opened s.form s.geometry → HasFrontBefore (Begun q s)
    code_start place.Code e b start = code_back s b start
    code_start _ e b start = absurd (cc e)

-- ---- one front

-- equal lists of lines end alike
same_last : (xs ys : List Line) (x y : Line) → xs ++ x ∷ [] ≡ ys ++ y ∷ [] → (xs ≡ ys) × (x ≡ y)
same_last [] [] x y e = (refl, cc e)
same_last [] (z ∷ []) x y e = absurd (let len = ap length e in omega (arith, len))
same_last [] (z ∷ w ∷ ys) x y e = absurd (let len = ap length e in omega (arith, len))
same_last (z ∷ []) [] x y e = absurd (let len = ap length e in omega (arith, len))
same_last (z ∷ w ∷ xs) [] x y e = absurd (let len = ap length e in omega (arith, len))
same_last (z ∷ xs) (w ∷ ys) x y e =
    let heads : z ≡ w = cc e in
    let tails : xs ++ x ∷ [] ≡ ys ++ y ∷ [] = cc e in
    let rest = same_last xs ys x y tails in
    (cc (heads, rest.0), rest.1)

-- no lines have no last one
last_is_some : (xs : List Line) (l : Line) → [] ≡ xs ++ l ∷ [] → ⊥
last_is_some xs l e = let len = ap length e ∙ length-append xs (l ∷ []) in omega (arith, len)

-- the front before has fewer lines
shorter : (f : Front) (b : HasFrontBefore f) (n : ℕ) → length (front_lines f) ≤ suc n → length (front_lines b.before) ≤ n
shorter f b n h = let len = ap length b.lines ∙ length-append (front_lines b.before) (b.l ∷ []) in omega (arith, len, h)

-- by the number of lines
unique_front : (n : ℕ) (f g : Front) → IsFront f → IsFront g → length (front_lines f) ≤ n → front_lines f ≡ front_lines g → f ≡ g
unique_front zero f g pf pg len same = elim (front_back f pf) [
  | inl ef ↦ elim (front_back g pg) [
    | inl eg ↦ ef ∙ sym eg
    | inr bg ↦ absurd (last_is_some (front_lines bg.before) bg.l (ap front_lines (sym ef) ∙ same ∙ bg.lines))
  ]
  | inr bf ↦ absurd (let more = ap length bf.lines ∙ length-append (front_lines bf.before) (bf.l ∷ []) in omega (arith, more, len))
]
unique_front (suc n) f g pf pg len same = elim (front_back f pf) [
  | inl ef ↦ elim (front_back g pg) [
    | inl eg ↦ ef ∙ sym eg
    | inr bg ↦ absurd (last_is_some (front_lines bg.before) bg.l (ap front_lines (sym ef) ∙ same ∙ bg.lines))
  ]
  | inr bf ↦ elim (front_back g pg) [
    | inl eg ↦ absurd (last_is_some (front_lines bf.before) bf.l (ap front_lines (sym eg) ∙ sym same ∙ bf.lines))
    | inr bg ↦
        let parts = same_last (front_lines bf.before) (front_lines bg.before) bf.l bg.l (sym bf.lines ∙ same ∙ bg.lines) in
        let earlier = unique_front n bf.before bg.before bf.sound bg.sound (shorter f bf n len) parts.0 in
        let now : Some f ≡ Some g = sym bf.next ∙ ap (λ (x : Front). next_front x bf.l) earlier ∙ ap (λ (x : Line). next_front bg.before x) parts.1 ∙ bg.next in
        cc now
  ]
]

-- lines are those of one front at most
same_front : (f g : Front) → IsFront f → IsFront g → front_lines f ≡ front_lines g → f ≡ g
same_front f g pf pg same = unique_front (length (front_lines f)) f g pf pg (omega arith) same

-- the front before any of a front's lines
front_at : (n : ℕ) (f : Front) (xs : List Line) (l : Line) (ys : List Line) → IsFront f → front_lines f ≡ xs ++ l ∷ ys → length ys ≤ n
    → (g : Front) × IsFront g × (front_lines g ≡ xs) × IsLineOk g l
front_at zero f xs l [] pf parted len = elim (front_back f pf) [
  | inl ef ↦ absurd (last_is_some xs l (ap front_lines (sym ef) ∙ parted))
  | inr b ↦ let parts = same_last (front_lines b.before) xs b.l l (sym b.lines ∙ parted) in (b.before, b.sound, parts.0, subst (IsLineOk b.before) parts.1 b.ok)
]
front_at zero f xs l (y ∷ ys) pf parted len = absurd (omega (arith, len))
front_at (suc n) f xs l ys pf parted len = elim (front_back f pf) [
  | inl ef ↦ absurd (let none = ap length (ap front_lines (sym ef) ∙ parted) ∙ length-append xs (l ∷ ys) in omega (arith, none))
  | inr b ↦ elim (last_item Line ys) [
    | inl none ↦
        let parts = same_last (front_lines b.before) xs b.l l (sym b.lines ∙ parted ∙ ap (λ (zs : List Line). xs ++ l ∷ zs) none) in
        (b.before, b.sound, parts.0, subst (IsLineOk b.before) parts.1 b.ok)
    | inr more ↦
        let whole : front_lines f ≡ (xs ++ l ∷ more.0) ++ more.1 ∷ [] =
        parted ∙ ap (λ (zs : List Line). xs ++ l ∷ zs) more.2 ∙ sym (append_assoc xs (l ∷ more.0) (more.1 ∷ [])) in
        let parts = same_last (front_lines b.before) (xs ++ l ∷ more.0) b.l more.1 (sym b.lines ∙ whole) in
        let fewer = ap length more.2 ∙ length-append more.0 (more.1 ∷ []) in
        front_at n b.before xs l more.0 b.sound parts.0 (omega (arith, fewer, len))
  ]
]

-- a front whose lines go on has no fault at the next
line_ok : (f g : Front) (l : Line) (zs : List Line) → IsFront f → IsFront g → front_lines g ≡ front_lines f ++ l ∷ zs → IsLineOk f l
line_ok f g l zs pf pg longer =
    let at = front_at (length zs) g (front_lines f) l zs pg longer (omega arith) in
    let same = same_front at.0 f at.1 pf at.2 in
    subst (λ (x : Front). IsLineOk x l) same at.3

-- ---- the lines of a text

-- all lines have names and bytes
AreForms : List Line → Type 0
AreForms ls = AllByRecursion HasForm ls

-- one line more
forms_push : (ls : List Line) (l : Line) → AreForms ls → HasForm l → AreForms (ls ++ l ∷ [])
unfolding AreForms
forms_push [] l p q = (q, tt)
forms_push (x ∷ ls) l p q = (p.0, forms_push ls l p.1 q)

-- by the number of lines
front_forms : (n : ℕ) (f : Front) → IsFront f → length (front_lines f) ≤ n → AreForms (front_lines f)
unfolding AreForms
front_forms zero f pf len = elim (front_back f pf) [
  | inl ef ↦ subst AreForms (ap front_lines (sym ef)) tt
  | inr b ↦ absurd (let more = ap length b.lines ∙ length-append (front_lines b.before) (b.l ∷ []) in omega (arith, more, len))
]
front_forms (suc n) f pf len = elim (front_back f pf) [
  | inl ef ↦ subst AreForms (ap front_lines (sym ef)) tt
  | inr b ↦ subst AreForms (sym b.lines) (forms_push (front_lines b.before) b.l (front_forms n b.before b.sound (shorter f b n len)) b.ok.form)
]

-- the lines of a front have names and bytes
forms_of : (f : Front) → IsFront f → AreForms (front_lines f)
forms_of f pf = front_forms (length (front_lines f)) f pf (omega arith)

-- the bytes of lines
text_of : List Line → List ℕ
text_of ls = flat_map line_text ls

-- the first of some lines, and the text behind it
first_line : (l : Line) (ls : List Line) (rest : List ℕ) → text_of (l ∷ ls) ++ rest ≡ spaced (line_words l) ++ 10 ∷ (text_of ls ++ rest)
unfolding text_of
first_line l ls rest = append_assoc (line_text l) (text_of ls) rest ∙ line_front (line_words l) (text_of ls ++ rest)

-- the second lines go on where the first end
abbrev GoesOn : List Line → List Line → List ℕ → List ℕ → Type 0
GoesOn xs ys rest more = (l : Line) × (zs : List Line) × (ys ≡ xs ++ l ∷ zs) × (rest ≡ text_of (l ∷ zs) ++ more)

-- lines that begin one text: the same, or those of the one go on
meet : (xs ys : List Line) (rest more : List ℕ) → AreForms xs → AreForms ys → text_of xs ++ rest ≡ text_of ys ++ more
    → (GoesOn xs ys rest more ⊎ GoesOn ys xs more rest) ⊎ ((xs ≡ ys) × (rest ≡ more))
unfolding text_of AreForms
meet [] [] rest more p q e = inr (refl, e)
meet [] (y ∷ ys) rest more p q e = inl (inl (y, ys, refl, e))
meet (x ∷ xs) [] rest more p q e = inl (inr (x, xs, refl, sym e))
meet (x ∷ xs) (y ∷ ys) rest more p q e =
    let same = same_parts 10 (spaced (line_words x)) (text_of xs ++ rest) (spaced (line_words y)) (text_of ys ++ more)
    (line_lacks_feed x p.0) (line_lacks_feed y q.0) (sym (first_line x xs rest) ∙ e ∙ first_line y ys more) in
    let head = same_line x y p.0 q.0 same.0 in
    elim (meet xs ys rest more p.1 q.1 same.1) [
      | inl longer ↦ elim longer [
        | inl h ↦ inl (inl (h.0, h.1, ap (λ (l : Line). l ∷ ys) (sym head) ∙ ap (λ (ls : List Line). x ∷ ls) h.2, h.3))
        | inr h ↦ inl (inr (h.0, h.1, ap (λ (l : Line). l ∷ xs) head ∙ ap (λ (ls : List Line). y ∷ ls) h.2, h.3))
      ]
      | inr both ↦ inr (ap (λ (l : Line). l ∷ xs) head ∙ ap (λ (ls : List Line). y ∷ ls) both.0, both.1)
    ]

-- ---- faults

-- a line without a fault has none
no_fault : (f : Front) (l : Line) (text : List ℕ) (k : FaultKind) → IsLineOk f l → text ≡ spaced (line_words l) → LineFault f text k → ⊥
no_fault f l text fault.Syntax ok is h = h l (ok.form, is) ok.stands
no_fault f l text fault.Limit ok is h =
    let same = same_line h.0 l h.1.0 ok.form (sym h.1.1 ∙ is) in h.3 (subst (FitsLimits f) (sym same) ok.fits)
no_fault f l text fault.Geometry ok is h =
    let same = same_line h.0 l h.1.0 ok.form (sym h.1.1 ∙ is) in h.4 (subst HasGeometry (sym same) ok.geometry)
no_fault f l text fault.NoSuchActor ok is h =
    let same = same_line h.0 l h.1.0 ok.form (sym h.1.1 ∙ is) in h.5 (subst (NamesActor f) (sym same) ok.actor)
no_fault f l text fault.NoSuchServer ok is h =
    let same = same_line h.0 l h.1.0 ok.form (sym h.1.1 ∙ is) in h.6 (subst (NamesServer f) (sym same) ok.server)
no_fault f l text fault.MissingEnd ok is h = h
no_fault f l text fault.OutOfMemory ok is h = h

-- nor has the text that begins with it
no_rest_fault : (f : Front) (l : Line) (zs : List Line) (rest more : List ℕ) (k : FaultKind) → IsLineOk f l → rest ≡ text_of (l ∷ zs) ++ more → RestFault f rest k → ⊥
no_rest_fault f l zs rest more k ok is h = elim h [
  | inl found ↦
      let same = same_parts 10 found.0 found.1 (spaced (line_words l)) (text_of zs ++ more) found.3 (line_lacks_feed l ok.form)
      (sym found.2 ∙ is ∙ first_line l zs more) in
      no_fault f l found.0 k ok same.0 found.4
  | inr none ↦
      let P : List ℕ → Type 0 = Lacks 10 in
      never_parted 10 (spaced (line_words l)) (text_of zs ++ more) (subst P (is ∙ first_line l zs more) none.0)
]

-- a front with a fault behind it doesn't go on
stops : (f g : Front) (rest more : List ℕ) (k : FaultKind) → IsFront f → IsFront g → RestFault f rest k → GoesOn (front_lines f) (front_lines g) rest more → ⊥
stops f g rest more k pf pg h longer = no_rest_fault f longer.0 longer.1 rest more k (line_ok f g longer.0 longer.1 pf pg longer.2) longer.3 h

-- behind the line `end` no line stands
ended_stops : (s : Script) (g : Front) (rest more : List ℕ) → IsBegun place.End s → IsFront g → GoesOn (front_lines (Begun place.End s)) (front_lines g) rest more → ⊥
ended_stops s g rest more b pg longer = let ok = line_ok (Begun place.End s) g longer.0 longer.1 b pg longer.2 in cc (ok.stands.0)

-- a script to its last line is a front
ended_front : (s : Script) → IsScript s → IsValid s → IsBegun place.End s
ended_front s values valid = record { at = tt; values = values; valid = valid }

-- a script's bytes are those of its lines
spelling_text : (s : Script) → spelling s ≡ text_of (front_lines (Begun place.End s))
unfolding spelling text_of
spelling_text s = ap (λ (ls : List Line). flat_map line_text ls) (sym (ended_lines s))

-- the bytes of lines by their name
lines_text : (ls : List Line) → flat_map line_text ls ≡ text_of ls
unfolding text_of
lines_text ls = refl

-- two scripts at the front of one text are one
pub one_front : (s t : Script) (rest more : List ℕ) → IsScript s → IsValid s → IsScript t → IsValid t → spelling s ++ rest ≡ spelling t ++ more → (s ≡ t) × (rest ≡ more)
one_front s t rest more vs ws vt wt e =
    let f = Begun place.End s in
    let g = Begun place.End t in
    let pf = ended_front s vs ws in
    let pg = ended_front t vt wt in
    let e' = ap (λ (x : List ℕ). x ++ rest) (sym (spelling_text s)) ∙ e ∙ ap (λ (x : List ℕ). x ++ more) (spelling_text t) in
    elim (meet (front_lines f) (front_lines g) rest more (forms_of f pf) (forms_of g pg) e') [
      | inl longer ↦ elim longer [
        | inl h ↦ absurd (ended_stops s g rest more pf pg h)
        | inr h ↦ absurd (ended_stops t f more rest pg pf h)
      ]
      | inr both ↦ let same = same_front f g pf pg both.0 in (ap script_in same, both.1)
    ]
  where
    script_in : Front → Script
    script_in (Begun p x) = x
    script_in _ = s

-- a text with a script at its front has no fault there
pub no_front_fault : (bytes : List ℕ) (s : Script) (more : List ℕ) (number : ℕ) (k : FaultKind) → IsScript s → IsValid s → bytes ≡ spelling s ++ more → IsFrontFault bytes number k → ⊥
no_front_fault bytes s more number k values valid is h =
    let f = h.front in
    let g = Begun place.End s in
    let pg = ended_front s values valid in
    let e = ap (λ (x : List ℕ). x ++ h.rest) (sym (lines_text (front_lines f))) ∙ sym h.parted ∙ is ∙ ap (λ (x : List ℕ). x ++ more) (spelling_text s) in
    elim (meet (front_lines f) (front_lines g) h.rest more (forms_of f h.sound) (forms_of g pg) e) [
      | inl longer ↦ elim longer [
        | inl on ↦ stops f g h.rest more k h.sound pg h.fault on
        | inr on ↦ ended_stops s f more h.rest pg h.sound on
      ]
      | inr both ↦ let same = same_front f g h.sound pg both.0 in h.unended (subst HasEnded (sym same) refl)
    ]

-- a text that spells a script has no fault
pub no_script_fault : (bytes : List ℕ) (s : Script) (number : ℕ) (k : FaultKind) → Spelled bytes s → IsFault bytes number k → ⊥
no_script_fault bytes s number k spelled (inl h) = no_front_fault bytes s [] number k spelled.values spelled.valid (spelled.spelled ∙ sym (append-nil (spelling s))) h
no_script_fault bytes s number k spelled (inr h) =
    let same = one_front s h.script [] h.rest spelled.values spelled.valid h.values h.valid (append-nil (spelling s) ∙ sym spelled.spelled ∙ h.parted) in
    h.some (sym same.1)

-- ---- one fault

-- the order in which the kinds are tried
abbrev ranked : FaultKind → ℕ
ranked fault.Syntax = 0
ranked fault.Limit = 1
ranked fault.Geometry = 2
ranked fault.NoSuchActor = 3
ranked fault.NoSuchServer = 4
ranked fault.MissingEnd = 5
ranked fault.OutOfMemory = 6

-- of two faults of one line the earlier leaves no room for the later
earlier : (f : Front) (text : List ℕ) (k k' : FaultKind) → ranked k < ranked k' → LineFault f text k → LineFault f text k' → ⊥
earlier f text k fault.Syntax lt h h' = omega (arith, lt)
earlier f text k fault.MissingEnd lt h h' = h'
earlier f text k fault.OutOfMemory lt h h' = h'
earlier f text fault.MissingEnd k' lt h h' = h
earlier f text fault.OutOfMemory k' lt h h' = h
earlier f text fault.Syntax fault.Limit lt h h' = h h'.0 h'.1 h'.2
earlier f text fault.Syntax fault.Geometry lt h h' = h h'.0 h'.1 h'.2
earlier f text fault.Syntax fault.NoSuchActor lt h h' = h h'.0 h'.1 h'.2
earlier f text fault.Syntax fault.NoSuchServer lt h h' = h h'.0 h'.1 h'.2
earlier f text fault.Limit fault.Limit lt h h' = omega (arith, lt)
earlier f text fault.Limit fault.Geometry lt h h' = let same = same_line h.0 h'.0 h.1.0 h'.1.0 (sym h.1.1 ∙ h'.1.1) in h.3 (subst (FitsLimits f) (sym same) h'.3)
earlier f text fault.Limit fault.NoSuchActor lt h h' = let same = same_line h.0 h'.0 h.1.0 h'.1.0 (sym h.1.1 ∙ h'.1.1) in h.3 (subst (FitsLimits f) (sym same) h'.3)
earlier f text fault.Limit fault.NoSuchServer lt h h' = let same = same_line h.0 h'.0 h.1.0 h'.1.0 (sym h.1.1 ∙ h'.1.1) in h.3 (subst (FitsLimits f) (sym same) h'.3)
earlier f text fault.Geometry fault.Limit lt h h' = omega (arith, lt)
earlier f text fault.Geometry fault.Geometry lt h h' = omega (arith, lt)
earlier f text fault.Geometry fault.NoSuchActor lt h h' = let same = same_line h.0 h'.0 h.1.0 h'.1.0 (sym h.1.1 ∙ h'.1.1) in h.4 (subst HasGeometry (sym same) h'.4)
earlier f text fault.Geometry fault.NoSuchServer lt h h' = let same = same_line h.0 h'.0 h.1.0 h'.1.0 (sym h.1.1 ∙ h'.1.1) in h.4 (subst HasGeometry (sym same) h'.4)
earlier f text fault.NoSuchActor fault.Limit lt h h' = omega (arith, lt)
earlier f text fault.NoSuchActor fault.Geometry lt h h' = omega (arith, lt)
earlier f text fault.NoSuchActor fault.NoSuchActor lt h h' = omega (arith, lt)
earlier f text fault.NoSuchActor fault.NoSuchServer lt h h' = let same = same_line h.0 h'.0 h.1.0 h'.1.0 (sym h.1.1 ∙ h'.1.1) in h.5 (subst (NamesActor f) (sym same) h'.5)
earlier f text fault.NoSuchServer fault.Limit lt h h' = omega (arith, lt)
earlier f text fault.NoSuchServer fault.Geometry lt h h' = omega (arith, lt)
earlier f text fault.NoSuchServer fault.NoSuchActor lt h h' = omega (arith, lt)
earlier f text fault.NoSuchServer fault.NoSuchServer lt h h' = omega (arith, lt)

-- the kind at a place of that order
abbrev kind_at : ℕ → FaultKind
kind_at n = get_or (fault.Syntax ∷ fault.Limit ∷ fault.Geometry ∷ fault.NoSuchActor ∷ fault.NoSuchServer ∷ fault.MissingEnd ∷ []) n fault.OutOfMemory

-- the order has each kind once
kind_ranked : (k : FaultKind) → kind_at (ranked k) ≡ k
kind_ranked fault.Syntax = refl
kind_ranked fault.Limit = refl
kind_ranked fault.Geometry = refl
kind_ranked fault.NoSuchActor = refl
kind_ranked fault.NoSuchServer = refl
kind_ranked fault.MissingEnd = refl
kind_ranked fault.OutOfMemory = refl

-- kinds of one place are one
same_rank : (k k' : FaultKind) → (ranked k < ranked k' → ⊥) → (ranked k' < ranked k → ⊥) → k ≡ k'
same_rank k k' below above = let same : ranked k ≡ ranked k' = omega (arith, below, above) in sym (kind_ranked k) ∙ ap kind_at same ∙ kind_ranked k'

-- behind one front a text has one fault
one_rest_fault : (f : Front) (rest : List ℕ) (k k' : FaultKind) → RestFault f rest k → RestFault f rest k' → k ≡ k'
one_rest_fault f rest k k' (inl h) (inl h') =
    let same = same_parts 10 h.0 h.1 h'.0 h'.1 h.3 h'.3 (sym h.2 ∙ h'.2) in
    let moved = subst (λ (x : List ℕ). LineFault f x k') (sym same.0) h'.4 in
    same_rank k k' (λ lt. earlier f h.0 k k' lt h.4 moved) (λ lt. earlier f h.0 k' k lt moved h.4)
one_rest_fault f rest k k' (inl h) (inr h') = let P : List ℕ → Type 0 = Lacks 10 in absurd (never_parted 10 h.0 h.1 (subst P h.2 h'.0))
one_rest_fault f rest k k' (inr h) (inl h') = let P : List ℕ → Type 0 = Lacks 10 in absurd (never_parted 10 h'.0 h'.1 (subst P h'.2 h.0))
one_rest_fault f rest k k' (inr h) (inr h') = h.1 ∙ sym h'.1

-- a text has one fault up to its line `end`
one_front_fault : (bytes : List ℕ) (m n : ℕ) (k k' : FaultKind) → IsFrontFault bytes m k → IsFrontFault bytes n k' → (m ≡ n) × (k ≡ k')
one_front_fault bytes m n k k' h h' =
    let f = h.front in
    let g = h'.front in
    let e = ap (λ (x : List ℕ). x ++ h.rest) (sym (lines_text (front_lines f))) ∙ sym h.parted ∙ h'.parted ∙ ap (λ (x : List ℕ). x ++ h'.rest) (lines_text (front_lines g)) in
    elim (meet (front_lines f) (front_lines g) h.rest h'.rest (forms_of f h.sound) (forms_of g h'.sound) e) [
      | inl longer ↦ elim longer [
        | inl on ↦ absurd (stops f g h.rest h'.rest k h.sound h'.sound h.fault on)
        | inr on ↦ absurd (stops g f h'.rest h.rest k' h'.sound h.sound h'.fault on)
      ]
      | inr both ↦
          let same = same_front f g h.sound h'.sound both.0 in
          let moved : RestFault f h.rest k' = subst (λ (x : List ℕ). RestFault f x k') (sym both.1) (subst (λ (x : Front). RestFault x h'.rest k') (sym same) h'.fault) in
          (h.number_is ∙ ap (λ (ls : List Line). length ls + 1) both.0 ∙ sym h'.number_is, one_rest_fault f h.rest k k' h.fault moved)
    ]

-- a text has one first fault
pub one_fault : (bytes : List ℕ) (m n : ℕ) (k k' : FaultKind) → IsFault bytes m k → IsFault bytes n k' → (m ≡ n) × (k ≡ k')
one_fault bytes m n k k' (inl h) (inl h') = one_front_fault bytes m n k k' h h'
one_fault bytes m n k k' (inl h) (inr h') = absurd (no_front_fault bytes h'.script h'.rest m k h'.values h'.valid h'.parted h)
one_fault bytes m n k k' (inr h) (inl h') = absurd (no_front_fault bytes h.script h.rest n k' h.values h.valid h.parted h')
one_fault bytes m n k k' (inr h) (inr h') =
    let same = one_front h.script h'.script h.rest h'.rest h.values h.valid h'.values h'.valid (sym h.parted ∙ h'.parted) in
    (h.number_is ∙ ap (λ (x : Script). length (script_lines x) + 1) same.0 ∙ sym h'.number_is, h.kind_is ∙ sym h'.kind_is)

-- a text spells one script at most
pub one_script : (bytes : List ℕ) (s t : Script) → Spelled bytes s → Spelled bytes t → s ≡ t
one_script bytes s t h h' =
    (one_front s t [] [] h.values h.valid h'.values h'.valid (append-nil (spelling s) ∙ sym h.spelled ∙ h'.spelled ∙ sym (append-nil (spelling t)))).0
