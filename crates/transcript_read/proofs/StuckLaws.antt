-- A text is one transcript's, or has one first fault.
use Rattle.std.proofs.Common.{◌≡◌, ◌≢◌, ℕ, ◌+◌, ◌<◌, List, [], ◌∷◌, ◌++◌, length, refl, sym, ap, ap₂, ◌∙◌, subst, arith, inl, inr, append_assoc, append-nil}
use Rattle.std.specs.Prelude.{map}
use Rattle.std.specs.List.{flat_map}
use Rattle.std.proofs.lemmas.Grind.{flat_map-append}
use Rattle.line_grammar.specs.Lines.{Lacks}
use Rattle.line_grammar.specs.declared.line_fault.FaultKind.{FaultKind}
use Rattle.line_grammar.proofs.LineLaws.{same_parts, never_parted}
use Rattle.transcript_text.specs.Text.{text_of}
use Rattle.store_map.specs.declared.line.HLine.{HLine}
use Rattle.store_map.specs.declared.line.XLine.{XLine}
use Rattle.store_map.specs.declared.line.RLine.{RLine}
use Rattle.store_map.specs.declared.line.OLine.{OLine}
use Rattle.store_map.specs.declared.line.LLine.{LLine}
use Rattle.store_map.specs.declared.line.GLine.{GLine}
use Rattle.store_map.specs.declared.line.TLine.{TLine}
use Rattle.store_map.specs.declared.transcript.Transcript.{Transcript}
use Rattle.transcript_read.specs.Bodies.{line_body, line_text}
use Rattle.transcript_read.specs.Fault.{RestFault, IsFault}
use Rattle.transcript_read.specs.Forms.{IsLine}
use Rattle.transcript_read.specs.Order.{Follows, place_of, rank}
use Rattle.transcript_read.specs.WellFormed.{AreInOrder, place_after, IsWellFormed, kinds_of, lines_of}
use Rattle.transcript_read.specs.declared.transcript_line.Line.{Line}
use Rattle.transcript_read.specs.declared.transcript_line.Line.TheVariants.{History, Refused, Repair, Unanswered, Object, Takes, Server, End}
use Rattle.transcript_read.specs.declared.transcript_place.TranscriptPlace.{TranscriptPlace}
use Rattle.transcript_read.specs.declared.transcript_place.TranscriptPlace.TheVariants as at
use Rattle.transcript_read.proofs.OrderLaws.{line_whole, follows_rank, place_after_more, whole_text}
use Rattle.transcript_read.proofs.SameLaws.{same_line, line_feed}

-- no line that may stand behind the place stands at the front of the text
abbrev pub Stuck : ℕ → TranscriptPlace → List ℕ → Type 0
Stuck n p rest = (l : Line) → IsLine n l → Follows n p l → (more : List ℕ) → rest ≢ line_text l ++ more

fed : (l : Line) (more : List ℕ) → line_text l ++ more ≡ line_body l ++ 10 ∷ more
fed l more = ap (λ (t : List ℕ). t ++ more) (line_whole l) ∙ append_assoc (line_body l) (10 ∷ []) more

-- the line at the front of a text is determined
line_at : (n : ℕ) (l m : Line) (x y : List ℕ) → IsLine n l → IsLine n m → line_text l ++ x ≡ line_text m ++ y → (l ≡ m) × (x ≡ y)
line_at n l m x y il im e =
    let parts = same_parts 10 (line_body l) x (line_body m) y (line_feed n l il) (line_feed n m im) (sym (fed l x) ∙ e ∙ fed m y) in
    (same_line n l m il im parts.0, parts.1)

-- so are all lines up to where none may follow
same_stuck : (n : ℕ) (p : TranscriptPlace) (ls ms : List Line) (x y : List ℕ) → AreInOrder n p ls → AreInOrder n p ms → Stuck n (place_after p ls) x → Stuck n (place_after p ms) y
    → flat_map line_text ls ++ x ≡ flat_map line_text ms ++ y → (ls ≡ ms) × (x ≡ y)
same_stuck n p [] [] x y ol om sl sm e = (refl, e)
same_stuck n p [] (m ∷ ms) x y ol om sl sm e =
    absurd (sl m om.0 om.1 (flat_map line_text ms ++ y) (e ∙ append_assoc (line_text m) (flat_map line_text ms) y))
same_stuck n p (l ∷ ls) [] x y ol om sl sm e =
    absurd (sm l ol.0 ol.1 (flat_map line_text ls ++ x) (sym e ∙ append_assoc (line_text l) (flat_map line_text ls) x))
same_stuck n p (l ∷ ls) (m ∷ ms) x y ol om sl sm e =
    let parts = line_at n l m (flat_map line_text ls ++ x) (flat_map line_text ms ++ y) ol.0 om.0
    (sym (append_assoc (line_text l) (flat_map line_text ls) x) ∙ e ∙ append_assoc (line_text m) (flat_map line_text ms) y) in
    let order : AreInOrder n (place_of l) ms = rw (parts.0) om.2 in
    let stuck : Stuck n (place_after (place_of l) ms) y = rw (parts.0) sm in
    let rest = same_stuck n (place_of l) ls ms x y ol.2 order sl stuck parts.1 in
    (cc (parts.0, rest.0), rest.1)

-- nothing stands behind the line `end`
nothing_follows : (n : ℕ) (l : Line) → Follows n at.End l → ⊥
nothing_follows n (History a) f = let le = follows_rank n at.End (History a) f in omega (arith, le)
nothing_follows n (Refused a) f = let le = follows_rank n at.End (Refused a) f in omega (arith, le)
nothing_follows n (Repair a) f = let le = follows_rank n at.End (Repair a) f in omega (arith, le)
nothing_follows n (Unanswered a) f = let le = follows_rank n at.End (Unanswered a) f in omega (arith, le)
nothing_follows n (Object a) f = let le = follows_rank n at.End (Object a) f in omega (arith, le)
nothing_follows n (Takes a) f = let le = follows_rank n at.End (Takes a) f in omega (arith, le)
nothing_follows n (Server a) f = omega (arith, f.0)
nothing_follows n End f = omega (arith, f.0)

last_place : (t : Transcript) → place_after at.Start (lines_of t) ≡ at.End
last_place t = place_after_more at.Start (kinds_of t) End

stuck_ended : (n : ℕ) (t : Transcript) (rest : List ℕ) → Stuck n (place_after at.Start (lines_of t)) rest
stuck_ended n t rest l is f more e = let Q : TranscriptPlace → Type 0 = λ p. Follows n p l in nothing_follows n l (subst Q (last_place t) f)

stuck_fault : (n : ℕ) (p : TranscriptPlace) (rest : List ℕ) (kind : FaultKind) → RestFault n p rest kind → Stuck n p rest
stuck_fault n p rest kind (inl h) l is f more e = h.4 l is f (same_parts 10 h.0 h.1 (line_body l) more h.3 (line_feed n l is) (sym h.2 ∙ e ∙ fed l more)).0
stuck_fault n p rest kind (inr h) l is f more e =
    let P : List ℕ → Type 0 = Lacks 10 in never_parted 10 (line_body l) more (subst P (e ∙ fed l more) h.0)

same_kind : (n m : ℕ) (p q : TranscriptPlace) (x y : List ℕ) (k k' : FaultKind) → x ≡ y → RestFault n p x k → RestFault m q y k' → k ≡ k'
same_kind n m p q x y k k' e (inl f) (inl g) = f.5 ∙ sym g.5
same_kind n m p q x y k k' e (inl f) (inr g) = let P : List ℕ → Type 0 = Lacks 10 in absurd (never_parted 10 f.0 f.1 (subst P (sym e ∙ f.2) g.0))
same_kind n m p q x y k k' e (inr f) (inl g) = let P : List ℕ → Type 0 = Lacks 10 in absurd (never_parted 10 g.0 g.1 (subst P (e ∙ g.2) f.0))
same_kind n m p q x y k k' e (inr f) (inr g) = f.1 ∙ sym g.1

-- lines that may go on aren't those of a transcript
goes_on : (ls : List Line) (t : Transcript) → rank (place_after at.Start ls) < 8 → ls ≡ lines_of t → ⊥
goes_on ls t low e =
    let last : rank (place_after at.Start ls) ≡ 8 = ap (λ (x : List Line). rank (place_after at.Start x)) e ∙ ap rank (last_place t) in
    omega (arith, low, last)

pub no_fault : (n : ℕ) (t : Transcript) (number : ℕ) (kind : FaultKind) → IsWellFormed n t → IsFault n (text_of t) number kind → ⊥
no_fault n t number kind form (inl f) =
    let same = same_stuck n at.Start f.lines (lines_of t) f.rest [] f.in_order form (stuck_fault n (place_after at.Start f.lines) f.rest kind f.fault) (stuck_ended n t [])
    (sym f.parted ∙ sym (whole_text t) ∙ sym (append-nil (flat_map line_text (lines_of t)))) in
    goes_on f.lines t f.unended same.0
no_fault n t number kind form (inr f) =
    let same = same_stuck n at.Start (lines_of f.transcript) (lines_of t) f.rest [] f.form form (stuck_ended n f.transcript f.rest) (stuck_ended n t [])
    (ap (λ (x : List ℕ). x ++ f.rest) (whole_text f.transcript) ∙ sym f.parted ∙ sym (whole_text t) ∙ sym (append-nil (flat_map line_text (lines_of t)))) in
    f.some same.1

pub one_fault : (n : ℕ) (bytes : List ℕ) (number number' : ℕ) (kind kind' : FaultKind) → IsFault n bytes number kind → IsFault n bytes number' kind' → (number ≡ number') × (kind ≡ kind')
one_fault n bytes number number' kind kind' (inl f) (inl g) =
    let same = same_stuck n at.Start f.lines g.lines f.rest g.rest f.in_order g.in_order (stuck_fault n (place_after at.Start f.lines) f.rest kind f.fault)
    (stuck_fault n (place_after at.Start g.lines) g.rest kind' g.fault) (sym f.parted ∙ g.parted) in (
      f.number_is ∙ ap (λ (x : List Line). length x + 1) same.0 ∙ sym g.number_is,
      same_kind n n (place_after at.Start f.lines) (place_after at.Start g.lines) f.rest g.rest kind kind' same.1 f.fault g.fault,
    )
one_fault n bytes number number' kind kind' (inl f) (inr g) =
    let same = same_stuck n at.Start f.lines (lines_of g.transcript) f.rest g.rest f.in_order g.form (stuck_fault n (place_after at.Start f.lines) f.rest kind f.fault)
    (stuck_ended n g.transcript g.rest) (sym f.parted ∙ g.parted ∙ sym (ap (λ (x : List ℕ). x ++ g.rest) (whole_text g.transcript))) in
    absurd (goes_on f.lines g.transcript f.unended same.0)
one_fault n bytes number number' kind kind' (inr f) (inl g) =
    let same = same_stuck n at.Start g.lines (lines_of f.transcript) g.rest f.rest g.in_order f.form (stuck_fault n (place_after at.Start g.lines) g.rest kind' g.fault)
    (stuck_ended n f.transcript f.rest) (sym g.parted ∙ f.parted ∙ sym (ap (λ (x : List ℕ). x ++ f.rest) (whole_text f.transcript))) in
    absurd (goes_on g.lines f.transcript g.unended same.0)
one_fault n bytes number number' kind kind' (inr f) (inr g) =
    let same = same_stuck n at.Start (lines_of f.transcript) (lines_of g.transcript) f.rest g.rest f.form g.form (stuck_ended n f.transcript f.rest) (stuck_ended n g.transcript g.rest)
    (ap (λ (x : List ℕ). x ++ f.rest) (whole_text f.transcript) ∙ sym f.parted ∙ g.parted ∙ sym (ap (λ (x : List ℕ). x ++ g.rest) (whole_text g.transcript))) in
    (f.number_is ∙ ap (λ (x : List Line). length x + 1) same.0 ∙ sym g.number_is, f.kind_is ∙ sym g.kind_is)

-- ---- the lists of a transcript are determined by its lines

own : {A : Type 0} (f : A → Line) (pick : Line → List A) → ((x : A) → pick (f x) ≡ x ∷ []) → (xs : List A) → flat_map pick (map f xs) ≡ xs
own f pick h [] = refl
own f pick h (x ∷ xs) = ap (λ (t : List _). t ++ flat_map pick (map f xs)) (h x) ∙ ap (λ (t : List _). x ∷ t) (own f pick h xs)

others : {A B : Type 0} (f : B → Line) (pick : Line → List A) → ((x : B) → pick (f x) ≡ []) → (xs : List B) → flat_map pick (map f xs) ≡ []
others f pick h [] = refl
others f pick h (x ∷ xs) = ap (λ (t : List _). t ++ flat_map pick (map f xs)) (h x) ∙ others f pick h xs

with_none : {A : Type 0} (pick : Line → List A) (front more : List Line) (found : List A) → flat_map pick front ≡ found → flat_map pick more ≡ [] → flat_map pick (front ++ more) ≡ found
with_none pick front more found p q = flat_map-append pick front more ∙ ap (λ (t : List _). flat_map pick front ++ t) q ∙ append-nil (flat_map pick front) ∙ p

with_own : {A : Type 0} (pick : Line → List A) (front more : List Line) (found : List A) → flat_map pick front ≡ [] → flat_map pick more ≡ found → flat_map pick (front ++ more) ≡ found
with_own pick front more found p q = flat_map-append pick front more ∙ ap (λ (t : List _). t ++ flat_map pick more) p ∙ q

abbrev pick_history : Line → List HLine
pick_history (History a) = a ∷ []
pick_history _ = []

picked_history : (t : Transcript) → flat_map pick_history (lines_of t) ≡ t.history
picked_history t =
    let s1 = with_none pick_history (map History t.history) (map Refused t.refused) t.history (own History pick_history (λ x. refl) t.history) (others Refused pick_history (λ x. refl) t.refused) in
    let s2 = with_none pick_history (map History t.history ++ map Refused t.refused) (map Repair t.repairs) t.history (s1) (others Repair pick_history (λ x. refl) t.repairs) in
    let s3 = with_none pick_history (map History t.history ++ map Refused t.refused ++ map Repair t.repairs) (map Unanswered t.unanswered) t.history (s2) (others Unanswered pick_history (λ x. refl) t.unanswered) in
    let s4 = with_none pick_history (map History t.history ++ map Refused t.refused ++ map Repair t.repairs ++ map Unanswered t.unanswered) (map Object t.objects) t.history (s3) (others Object pick_history (λ x. refl) t.objects) in
    let s5 = with_none pick_history (map History t.history ++ map Refused t.refused ++ map Repair t.repairs ++ map Unanswered t.unanswered ++ map Object t.objects) (map Takes t.takes) t.history (s4) (others Takes pick_history (λ x. refl) t.takes) in
    let s6 = with_none pick_history (map History t.history ++ map Refused t.refused ++ map Repair t.repairs ++ map Unanswered t.unanswered ++ map Object t.objects ++ map Takes t.takes) (map Server t.servers) t.history (s5) (others Server pick_history (λ x. refl) t.servers) in
    with_none pick_history (kinds_of t) (End ∷ []) t.history s6 refl

abbrev pick_refused : Line → List XLine
pick_refused (Refused a) = a ∷ []
pick_refused _ = []

picked_refused : (t : Transcript) → flat_map pick_refused (lines_of t) ≡ t.refused
picked_refused t =
    let s1 = with_own pick_refused (map History t.history) (map Refused t.refused) t.refused (others History pick_refused (λ x. refl) t.history) (own Refused pick_refused (λ x. refl) t.refused) in
    let s2 = with_none pick_refused (map History t.history ++ map Refused t.refused) (map Repair t.repairs) t.refused (s1) (others Repair pick_refused (λ x. refl) t.repairs) in
    let s3 = with_none pick_refused (map History t.history ++ map Refused t.refused ++ map Repair t.repairs) (map Unanswered t.unanswered) t.refused (s2) (others Unanswered pick_refused (λ x. refl) t.unanswered) in
    let s4 = with_none pick_refused (map History t.history ++ map Refused t.refused ++ map Repair t.repairs ++ map Unanswered t.unanswered) (map Object t.objects) t.refused (s3) (others Object pick_refused (λ x. refl) t.objects) in
    let s5 = with_none pick_refused (map History t.history ++ map Refused t.refused ++ map Repair t.repairs ++ map Unanswered t.unanswered ++ map Object t.objects) (map Takes t.takes) t.refused (s4) (others Takes pick_refused (λ x. refl) t.takes) in
    let s6 = with_none pick_refused (map History t.history ++ map Refused t.refused ++ map Repair t.repairs ++ map Unanswered t.unanswered ++ map Object t.objects ++ map Takes t.takes) (map Server t.servers) t.refused (s5) (others Server pick_refused (λ x. refl) t.servers) in
    with_none pick_refused (kinds_of t) (End ∷ []) t.refused s6 refl

abbrev pick_repairs : Line → List RLine
pick_repairs (Repair a) = a ∷ []
pick_repairs _ = []

picked_repairs : (t : Transcript) → flat_map pick_repairs (lines_of t) ≡ t.repairs
picked_repairs t =
    let s1 = with_none pick_repairs (map History t.history) (map Refused t.refused) [] (others History pick_repairs (λ x. refl) t.history) (others Refused pick_repairs (λ x. refl) t.refused) in
    let s2 = with_own pick_repairs (map History t.history ++ map Refused t.refused) (map Repair t.repairs) t.repairs (s1) (own Repair pick_repairs (λ x. refl) t.repairs) in
    let s3 = with_none pick_repairs (map History t.history ++ map Refused t.refused ++ map Repair t.repairs) (map Unanswered t.unanswered) t.repairs (s2) (others Unanswered pick_repairs (λ x. refl) t.unanswered) in
    let s4 = with_none pick_repairs (map History t.history ++ map Refused t.refused ++ map Repair t.repairs ++ map Unanswered t.unanswered) (map Object t.objects) t.repairs (s3) (others Object pick_repairs (λ x. refl) t.objects) in
    let s5 = with_none pick_repairs (map History t.history ++ map Refused t.refused ++ map Repair t.repairs ++ map Unanswered t.unanswered ++ map Object t.objects) (map Takes t.takes) t.repairs (s4) (others Takes pick_repairs (λ x. refl) t.takes) in
    let s6 = with_none pick_repairs (map History t.history ++ map Refused t.refused ++ map Repair t.repairs ++ map Unanswered t.unanswered ++ map Object t.objects ++ map Takes t.takes) (map Server t.servers) t.repairs (s5) (others Server pick_repairs (λ x. refl) t.servers) in
    with_none pick_repairs (kinds_of t) (End ∷ []) t.repairs s6 refl

abbrev pick_unanswered : Line → List OLine
pick_unanswered (Unanswered a) = a ∷ []
pick_unanswered _ = []

picked_unanswered : (t : Transcript) → flat_map pick_unanswered (lines_of t) ≡ t.unanswered
picked_unanswered t =
    let s1 = with_none pick_unanswered (map History t.history) (map Refused t.refused) [] (others History pick_unanswered (λ x. refl) t.history) (others Refused pick_unanswered (λ x. refl) t.refused) in
    let s2 = with_none pick_unanswered (map History t.history ++ map Refused t.refused) (map Repair t.repairs) [] (s1) (others Repair pick_unanswered (λ x. refl) t.repairs) in
    let s3 = with_own pick_unanswered (map History t.history ++ map Refused t.refused ++ map Repair t.repairs) (map Unanswered t.unanswered) t.unanswered (s2) (own Unanswered pick_unanswered (λ x. refl) t.unanswered) in
    let s4 = with_none pick_unanswered (map History t.history ++ map Refused t.refused ++ map Repair t.repairs ++ map Unanswered t.unanswered) (map Object t.objects) t.unanswered (s3) (others Object pick_unanswered (λ x. refl) t.objects) in
    let s5 = with_none pick_unanswered (map History t.history ++ map Refused t.refused ++ map Repair t.repairs ++ map Unanswered t.unanswered ++ map Object t.objects) (map Takes t.takes) t.unanswered (s4) (others Takes pick_unanswered (λ x. refl) t.takes) in
    let s6 = with_none pick_unanswered (map History t.history ++ map Refused t.refused ++ map Repair t.repairs ++ map Unanswered t.unanswered ++ map Object t.objects ++ map Takes t.takes) (map Server t.servers) t.unanswered (s5) (others Server pick_unanswered (λ x. refl) t.servers) in
    with_none pick_unanswered (kinds_of t) (End ∷ []) t.unanswered s6 refl

abbrev pick_objects : Line → List LLine
pick_objects (Object a) = a ∷ []
pick_objects _ = []

picked_objects : (t : Transcript) → flat_map pick_objects (lines_of t) ≡ t.objects
picked_objects t =
    let s1 = with_none pick_objects (map History t.history) (map Refused t.refused) [] (others History pick_objects (λ x. refl) t.history) (others Refused pick_objects (λ x. refl) t.refused) in
    let s2 = with_none pick_objects (map History t.history ++ map Refused t.refused) (map Repair t.repairs) [] (s1) (others Repair pick_objects (λ x. refl) t.repairs) in
    let s3 = with_none pick_objects (map History t.history ++ map Refused t.refused ++ map Repair t.repairs) (map Unanswered t.unanswered) [] (s2) (others Unanswered pick_objects (λ x. refl) t.unanswered) in
    let s4 = with_own pick_objects (map History t.history ++ map Refused t.refused ++ map Repair t.repairs ++ map Unanswered t.unanswered) (map Object t.objects) t.objects (s3) (own Object pick_objects (λ x. refl) t.objects) in
    let s5 = with_none pick_objects (map History t.history ++ map Refused t.refused ++ map Repair t.repairs ++ map Unanswered t.unanswered ++ map Object t.objects) (map Takes t.takes) t.objects (s4) (others Takes pick_objects (λ x. refl) t.takes) in
    let s6 = with_none pick_objects (map History t.history ++ map Refused t.refused ++ map Repair t.repairs ++ map Unanswered t.unanswered ++ map Object t.objects ++ map Takes t.takes) (map Server t.servers) t.objects (s5) (others Server pick_objects (λ x. refl) t.servers) in
    with_none pick_objects (kinds_of t) (End ∷ []) t.objects s6 refl

abbrev pick_takes : Line → List GLine
pick_takes (Takes a) = a ∷ []
pick_takes _ = []

picked_takes : (t : Transcript) → flat_map pick_takes (lines_of t) ≡ t.takes
picked_takes t =
    let s1 = with_none pick_takes (map History t.history) (map Refused t.refused) [] (others History pick_takes (λ x. refl) t.history) (others Refused pick_takes (λ x. refl) t.refused) in
    let s2 = with_none pick_takes (map History t.history ++ map Refused t.refused) (map Repair t.repairs) [] (s1) (others Repair pick_takes (λ x. refl) t.repairs) in
    let s3 = with_none pick_takes (map History t.history ++ map Refused t.refused ++ map Repair t.repairs) (map Unanswered t.unanswered) [] (s2) (others Unanswered pick_takes (λ x. refl) t.unanswered) in
    let s4 = with_none pick_takes (map History t.history ++ map Refused t.refused ++ map Repair t.repairs ++ map Unanswered t.unanswered) (map Object t.objects) [] (s3) (others Object pick_takes (λ x. refl) t.objects) in
    let s5 = with_own pick_takes (map History t.history ++ map Refused t.refused ++ map Repair t.repairs ++ map Unanswered t.unanswered ++ map Object t.objects) (map Takes t.takes) t.takes (s4) (own Takes pick_takes (λ x. refl) t.takes) in
    let s6 = with_none pick_takes (map History t.history ++ map Refused t.refused ++ map Repair t.repairs ++ map Unanswered t.unanswered ++ map Object t.objects ++ map Takes t.takes) (map Server t.servers) t.takes (s5) (others Server pick_takes (λ x. refl) t.servers) in
    with_none pick_takes (kinds_of t) (End ∷ []) t.takes s6 refl

abbrev pick_servers : Line → List TLine
pick_servers (Server a) = a ∷ []
pick_servers _ = []

picked_servers : (t : Transcript) → flat_map pick_servers (lines_of t) ≡ t.servers
picked_servers t =
    let s1 = with_none pick_servers (map History t.history) (map Refused t.refused) [] (others History pick_servers (λ x. refl) t.history) (others Refused pick_servers (λ x. refl) t.refused) in
    let s2 = with_none pick_servers (map History t.history ++ map Refused t.refused) (map Repair t.repairs) [] (s1) (others Repair pick_servers (λ x. refl) t.repairs) in
    let s3 = with_none pick_servers (map History t.history ++ map Refused t.refused ++ map Repair t.repairs) (map Unanswered t.unanswered) [] (s2) (others Unanswered pick_servers (λ x. refl) t.unanswered) in
    let s4 = with_none pick_servers (map History t.history ++ map Refused t.refused ++ map Repair t.repairs ++ map Unanswered t.unanswered) (map Object t.objects) [] (s3) (others Object pick_servers (λ x. refl) t.objects) in
    let s5 = with_none pick_servers (map History t.history ++ map Refused t.refused ++ map Repair t.repairs ++ map Unanswered t.unanswered ++ map Object t.objects) (map Takes t.takes) [] (s4) (others Takes pick_servers (λ x. refl) t.takes) in
    let s6 = with_own pick_servers (map History t.history ++ map Refused t.refused ++ map Repair t.repairs ++ map Unanswered t.unanswered ++ map Object t.objects ++ map Takes t.takes) (map Server t.servers) t.servers (s5) (own Server pick_servers (λ x. refl) t.servers) in
    with_none pick_servers (kinds_of t) (End ∷ []) t.servers s6 refl

abbrev transcript_of : List HLine → List XLine → List RLine → List OLine → List LLine → List GLine → List TLine → Transcript
transcript_of h x r o l g t = record { history = h; refused = x; repairs = r; unanswered = o; objects = l; takes = g; servers = t }

pub one_transcript : (n : ℕ) (s t : Transcript) → IsWellFormed n s → IsWellFormed n t → text_of s ≡ text_of t → s ≡ t
one_transcript n s t p q e =
    let lines = (same_stuck n at.Start (lines_of s) (lines_of t) [] [] p q (stuck_ended n s []) (stuck_ended n t [])
    (append-nil (flat_map line_text (lines_of s)) ∙ whole_text s ∙ e ∙ sym (whole_text t) ∙ sym (append-nil (flat_map line_text (lines_of t))))).0 in
    let history : s.history ≡ t.history = sym (picked_history s) ∙ ap (flat_map pick_history) lines ∙ picked_history t in
    let refused : s.refused ≡ t.refused = sym (picked_refused s) ∙ ap (flat_map pick_refused) lines ∙ picked_refused t in
    let repairs : s.repairs ≡ t.repairs = sym (picked_repairs s) ∙ ap (flat_map pick_repairs) lines ∙ picked_repairs t in
    let unanswered : s.unanswered ≡ t.unanswered = sym (picked_unanswered s) ∙ ap (flat_map pick_unanswered) lines ∙ picked_unanswered t in
    let objects : s.objects ≡ t.objects = sym (picked_objects s) ∙ ap (flat_map pick_objects) lines ∙ picked_objects t in
    let takes : s.takes ≡ t.takes = sym (picked_takes s) ∙ ap (flat_map pick_takes) lines ∙ picked_takes t in
    let servers : s.servers ≡ t.servers = sym (picked_servers s) ∙ ap (flat_map pick_servers) lines ∙ picked_servers t in
    ap₂ (λ g x. g x) (ap₂ (λ g x. g x) (ap₂ (λ g x. g x) (ap₂ (λ g x. g x) (ap₂ (λ g x. g x) (ap₂ transcript_of history refused) repairs) unanswered) objects) takes) servers
