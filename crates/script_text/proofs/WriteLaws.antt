-- Laws on text that is appended.
use Rattle.std.proofs.Common.{◌≡◌, ℕ, ◌^◌, ◌<◌, List, [], ◌∷◌, ◌++◌, Result, Ok, Err, sym, ap, ◌∙◌, append_assoc, append-nil}
use Rattle.std.specs.Prelude.{OnOk, is_ok, if◌then◌else◌, Option, None, Some, map}
use Rattle.std.specs.List.{flat_map}
use Rattle.std.proofs.lemmas.Grind.{flat_map-append}
use Rattle.store_map.specs.declared.script.Script.{Script}
use Rattle.line_grammar.specs.Line.{Line, ClayLine, CodeLine, SizeLine, TriesLine, LeaveLine, ScheduleLine, StepLine, EndLine, line_text}
use Rattle.script_text.specs.Spelling.{limited, optional_line, client_lines, repairer_lines, head_lines, spelling}
use Rattle.std.specs.Fmt.{decimal}
use Rattle.line_grammar.specs.Numbers.{number_word}
use Rattle.line_grammar.proofs.NumberLaws.{number_word_is}

-- digits that were appended are those of the number
pub extended : (E : Type 0) (r : Result (Unit {0}) E) (old new other : List ℕ) (n : ℕ) → n < 2 ^ 64 → new ≡ (if is_ok r then old ++ other else old) → other ≡ decimal n
    → OnOk r (new ≡ old ++ number_word n)
extended E (Ok u) old new other n small e is = e ∙ ap (λ (l : List ℕ). old ++ l) (is ∙ sym (number_word_is n small))
extended E (Err e') old new other n small e is = tt

-- four texts in a row
regrouped : (a b c d : List ℕ) → a ++ ((b ++ c) ++ d) ≡ ((a ++ b) ++ c) ++ d
regrouped a b c d = ap (λ (l : List ℕ). a ++ l) (append_assoc b c d) ∙ sym (append_assoc (a ++ b) c d ∙ append_assoc a b (c ++ d))

-- a block's lines with the last one apart
pub limited-last : (leave : Option ℕ) (front : List Line) (last : Line)
    → flat_map line_text (limited leave (front ++ last ∷ [])) ≡ (flat_map line_text front ++ flat_map line_text (optional_line LeaveLine leave)) ++ line_text last
limited-last None front last =
    flat_map-append line_text front (last ∷ [])
    ∙ ap (λ (l : List ℕ). flat_map line_text front ++ l) (append-nil (line_text last))
    ∙ ap (λ (l : List ℕ). l ++ line_text last) (sym (append-nil (flat_map line_text front)))
limited-last (Some n) [] last =
    ap (λ (l : List ℕ). line_text (LeaveLine n) ++ l) (append-nil (line_text last))
    ∙ ap (λ (l : List ℕ). l ++ line_text last) (sym (append-nil (line_text (LeaveLine n))))
limited-last (Some n) (x ∷ []) last =
    ap (λ (l : List ℕ). line_text x ++ l) (limited-last (Some n) [] last)
    ∙ regrouped (line_text x) [] (flat_map line_text (LeaveLine n ∷ [])) (line_text last)
limited-last (Some n) (x ∷ y ∷ ys) last =
    ap (λ (l : List ℕ). line_text x ++ l) (limited-last (Some n) (y ∷ ys) last)
    ∙ regrouped (line_text x) (flat_map line_text (y ∷ ys)) (flat_map line_text (LeaveLine n ∷ [])) (line_text last)

-- a block is its first line, its calls but the last, its step limit, and its last call
pub block_written : (old t1 t2 t3 t4 : List ℕ) (head : Line) (leave : Option ℕ) (lines front : List Line) (last : Line)
    → lines ≡ front ++ last ∷ [] → t1 ≡ old ++ line_text head → t2 ≡ t1 ++ flat_map line_text front
    → t3 ≡ t2 ++ flat_map line_text (optional_line LeaveLine leave) → t4 ≡ t3 ++ line_text last
    → t4 ≡ old ++ flat_map line_text (head ∷ limited leave lines)
block_written old t1 t2 t3 t4 head leave lines front last parted e1 e2 e3 e4 =
    let leaves = flat_map line_text (optional_line LeaveLine leave) in
    let fronts = flat_map line_text front in
    let all : t4 ≡ (((old ++ line_text head) ++ fronts) ++ leaves) ++ line_text last = cc in
    let block : flat_map line_text (limited leave lines) ≡ (fronts ++ leaves) ++ line_text last =
    ap (λ (ls : List Line). flat_map line_text (limited leave ls)) parted ∙ limited-last leave front last in
    all ∙ ap (λ (l : List ℕ). l ++ line_text last) (append_assoc (old ++ line_text head) fronts leaves)
    ∙ append_assoc (old ++ line_text head) (fronts ++ leaves) (line_text last)
    ∙ append_assoc old (line_text head) ((fronts ++ leaves) ++ line_text last)
    ∙ ap (λ (l : List ℕ). old ++ (line_text head ++ l)) (sym block)

-- more is known where all went well
pub on_ok : (E : Type 0) (r : Result (Unit {0}) E) (P Q : Type 0) → (P → Q) → OnOk r P → OnOk r Q
on_ok E (Ok u) P Q f p = f p
on_ok E (Err e) P Q f p = tt

-- the bytes of some more lines
flat_more : (front back : List Line) (bytes : List ℕ) → flat_map line_text front ≡ bytes → flat_map line_text (front ++ back) ≡ bytes ++ flat_map line_text back
flat_more front back bytes is = flat_map-append line_text front back ∙ ap (λ (l : List ℕ). l ++ flat_map line_text back) is

-- the lines before the blocks, one after the other
pub head_written : (script : Script) (t0 t1 t2 t3 : List ℕ) → t0 ≡ line_text (ClayLine script.form) → t1 ≡ t0 ++ line_text (CodeLine script.geometry)
    → t2 ≡ t1 ++ flat_map line_text (optional_line SizeLine script.size) → t3 ≡ t2 ++ flat_map line_text (optional_line TriesLine script.tries)
    → t3 ≡ flat_map line_text (head_lines script)
head_written script t0 t1 t2 t3 e0 e1 e2 e3 =
    let a : List Line = ClayLine script.form ∷ CodeLine script.geometry ∷ [] in
    let s = optional_line SizeLine script.size in
    let t = optional_line TriesLine script.tries in
    let opening : t1 ≡ flat_map line_text a =
    e1 ∙ ap (λ (l : List ℕ). l ++ line_text (CodeLine script.geometry)) e0 ∙ ap (λ (l : List ℕ). line_text (ClayLine script.form) ++ l) (sym (append-nil (line_text (CodeLine script.geometry)))) in
    let sized : t2 ≡ flat_map line_text (a ++ s) = e2 ∙ sym (flat_more a s t1 (sym opening)) in
    e3 ∙ sym (flat_more (a ++ s) t t2 (sym sized))

-- the parts of a script, one after the other
pub script_written : (script : Script) (t0 t1 t2 t3 : List ℕ) → t0 ≡ flat_map line_text (head_lines script)
    → t1 ≡ t0 ++ flat_map line_text (flat_map client_lines script.clients) → t2 ≡ t1 ++ flat_map line_text (flat_map repairer_lines script.repairers)
    → t3 ≡ t2 ++ flat_map line_text (ScheduleLine ∷ map StepLine script.schedule) ++ line_text EndLine
    → t3 ≡ spelling script
unfolding spelling
script_written script t0 t1 t2 t3 e0 e1 e2 e3 =
    let h = head_lines script in
    let c = flat_map client_lines script.clients in
    let r = flat_map repairer_lines script.repairers in
    let k : List Line = ScheduleLine ∷ map StepLine script.schedule in
    let e : List Line = EndLine ∷ [] in
    let called : t1 ≡ flat_map line_text (h ++ c) = e1 ∙ sym (flat_more h c t0 (sym e0)) in
    let rebuilt : t2 ≡ flat_map line_text ((h ++ c) ++ r) = e2 ∙ sym (flat_more (h ++ c) r t1 (sym called)) in
    let scheduled = flat_more ((h ++ c) ++ r) k t2 (sym rebuilt) in
    e3 ∙ sym (flat_more (((h ++ c) ++ r) ++ k) e (t2 ++ flat_map line_text k) scheduled)
