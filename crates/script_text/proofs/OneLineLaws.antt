-- A text spells one line at most, and a line has no line feed before its end.
use Rattle.std.proofs.Common.{◌≡◌, ℕ, ◌<◌, List, [], ◌∷◌, ◌++◌, drop, Ok, refl, sym, ap, ◌∙◌, arith, subst}
use Rattle.std.specs.Prelude.{codes}
use Rattle.std.proofs.lemmas.Bool.{eqb-false}
use Rattle.std.proofs.lemmas.List.Sums.{list_all-from_AllPass}
use Rattle.clay_grid.specs.Shape.{Shape}
use Rattle.hex.specs.Hex.{encode_lower, decode_of, IsBytes}
use Rattle.hex.proofs.HexLemmas.{decode_of-encode_lower}
use Rattle.store_map.specs.Name.{IsName}
use Rattle.store_map.specs.declared.actor.Token.{Token}
use Rattle.store_map.specs.declared.actor.Token.TheVariants as token
use Rattle.store_map.specs.declared.call.Call.{Call}
use Rattle.store_map.specs.declared.call.Call.TheVariants.{Put, Write, Get, ReadAt, Stat, Delete}
use Rattle.store_map.specs.declared.call.Rebuild.{Rebuild}
use Rattle.store_map.specs.declared.content.Content.{Content}
use Rattle.store_map.specs.declared.content.Content.TheVariants.{Hex, Fill, Ramp}
use Rattle.script_text.specs.Behind.{kind_of}
use Rattle.line_grammar.specs.Line.{Line, ClayLine, CodeLine, SizeLine, TriesLine, ClientLine, RepairerLine, LeaveLine, CallLine, RebuildLine, ScheduleLine, StepLine, EndLine, line_words}
use Rattle.line_grammar.specs.Words.{run_word, content_word, rebuild_words}
use Rattle.line_grammar.specs.Lines.{Lacks, spaced}
use Rattle.line_grammar.specs.Numbers.{number_word}
use Rattle.line_grammar.specs.Forms.{IsContentForm, IsCallForm, HasForm}
use Rattle.line_grammar.specs.Digits.{is_lower_digit}
use Rattle.script_text.specs.declared.script_place.LineKind.TheVariants as kind
use Rattle.line_grammar.proofs.CallLaws.{call_text, put_parts, write_parts, get_only, read_parts, stat_only, delete_only, name_lacks_space, name_lacks_feed, heads}
use Rattle.line_grammar.proofs.ContentLaws.{one_byte, byte_lacks_colon, run_parts, hex_only, fill_only, ramp_only}
use Rattle.line_grammar.proofs.DigitLaws.{lower-encode}
use Rattle.line_grammar.proofs.LineLaws.{Lacks-append, Lacks-from_test, Lacks-literal}
use Rattle.line_grammar.proofs.NumberLaws.{number_lacks, number_word_injective}
use Rattle.script_text.proofs.ReaderLaws.{line_verb, kind_of_first, size_line, tries_line, leave_line, call_line_of, rebuild_line, step_line}
use Rattle.line_grammar.proofs.TextLaws.{token_text, client_only, repairer_only, wipe_only, down_only, up_only, client_reap_only, repairer_reap_only, rebuild_parts, code_parts, shape, second}

-- ---- one line

-- equal digits spell equal bytes
same_digits : (xs ys : List ℕ) → IsBytes xs → IsBytes ys → encode_lower xs ≡ encode_lower ys → xs ≡ ys
same_digits xs ys p q e = let read : Ok xs ≡ Ok ys = sym (decode_of-encode_lower xs p) ∙ ap decode_of e ∙ decode_of-encode_lower ys q in cc read

-- and an equal byte
same_byte : (x y : ℕ) → x < 256 → y < 256 → encode_lower (x ∷ []) ≡ encode_lower (y ∷ []) → x ≡ y
same_byte x y p q e = let same = same_digits (x ∷ []) (y ∷ []) (one_byte x p) (one_byte y q) e in cc same

-- equal runs are of one byte and one length
same_run : (x m y n : ℕ) → x < 256 → y < 256 → run_word x m ≡ run_word y n → (x ≡ y) × (m ≡ n)
same_run x m y n p q e =
    let parts = run_parts (run_word x m) (encode_lower (x ∷ [])) (number_word m) (y, n) q refl (byte_lacks_colon x p) e in
    (same_byte x y p q parts.0, number_word_injective m n parts.1)

-- equal words are of equal data
same_content : (c d : Content) → IsContentForm c → IsContentForm d → content_word c ≡ content_word d → c ≡ d
same_content (Hex xs) d p q e =
    let only = hex_only (encode_lower xs) d q e in ap Hex (same_digits xs only.0 p only.2 only.3) ∙ sym only.1
same_content (Fill x m) d p q e =
    let only = fill_only (run_word x m) d q e in
    let same = same_run x m only.0.0 only.0.1 p only.2 only.3 in
    let here : Fill x m ≡ Fill only.0.0 only.0.1 = cc (same.0, same.1) in here ∙ sym only.1
same_content (Ramp x m) d p q e =
    let only = ramp_only (run_word x m) d q e in
    let same = same_run x m only.0.0 only.0.1 p only.2 only.3 in
    let here : Ramp x m ≡ Ramp only.0.0 only.0.1 = cc (same.0, same.1) in here ∙ sym only.1

-- equal lines are of one call
same_call : (c d : Call) → IsCallForm c → IsCallForm d → call_text c ≡ call_text d → c ≡ d
same_call (Put name content) d p q e =
    let parts = put_parts (name ++ 32 ∷ content_word content) name (content_word content) refl (name_lacks_space name p.0) d q e in
    ap (λ (x : Content). Put name x) (same_content content parts.1.0 p.1 parts.1.2 parts.1.3) ∙ sym parts.1.1
same_call (Write name offset content) d p q e =
    let rest = number_word offset ++ 32 ∷ content_word content in
    let parts = write_parts (name ++ 32 ∷ rest) name rest (number_word offset) (content_word content) refl (name_lacks_space name p.0) refl (number_lacks 32 offset (omega arith)) d q e in
    let offset_is = number_word_injective offset parts.1.0 parts.1.4 in
    let content_is = same_content content parts.1.1 p.1 parts.1.3 parts.1.5 in
    let here : Write name offset content ≡ Write name parts.1.0 parts.1.1 = cc (offset_is, content_is) in here ∙ sym parts.1.2
same_call (Get name) d p q e = sym (get_only name d q e).1
same_call (ReadAt name offset count) d p q e =
    let rest = number_word offset ++ 32 ∷ number_word count in
    let parts = read_parts (name ++ 32 ∷ rest) name rest (number_word offset) (number_word count) refl (name_lacks_space name p) refl (number_lacks 32 offset (omega arith)) d q e in
    let offset_is = number_word_injective offset parts.1.0 parts.1.3 in
    let count_is = number_word_injective count parts.1.1 parts.1.4 in
    let here : ReadAt name offset count ≡ ReadAt name parts.1.0 parts.1.1 = cc (offset_is, count_is) in here ∙ sym parts.1.2
same_call (Stat name) d p q e = sym (stat_only name d q e).1
same_call (Delete name) d p q e = sym (delete_only name d q e).1

-- of one step
same_step : (t u : Token) → token_text t ≡ token_text u → t ≡ u
same_step (token.Client i) u e = let only = client_only (number_word i) u e in ap (λ (n : ℕ). token.Client n) (number_word_injective i only.0 only.2) ∙ sym only.1
same_step (token.Repairer i) u e = let only = repairer_only (number_word i) u e in ap (λ (n : ℕ). token.Repairer n) (number_word_injective i only.0 only.2) ∙ sym only.1
same_step (token.Wipe j) u e = let only = wipe_only (number_word j) u e in ap (λ (n : ℕ). token.Wipe n) (number_word_injective j only.0 only.2) ∙ sym only.1
same_step (token.Down j) u e = let only = down_only (number_word j) u e in ap (λ (n : ℕ). token.Down n) (number_word_injective j only.0 only.2) ∙ sym only.1
same_step (token.Up j) u e = let only = up_only (number_word j) u e in ap (λ (n : ℕ). token.Up n) (number_word_injective j only.0 only.2) ∙ sym only.1
same_step (token.ReapClient i) u e = let only = client_reap_only (number_word i) u e in ap (λ (n : ℕ). token.ReapClient n) (number_word_injective i only.0 only.2) ∙ sym only.1
same_step (token.ReapRepairer i) u e = let only = repairer_reap_only (number_word i) u e in ap (λ (n : ℕ). token.ReapRepairer n) (number_word_injective i only.0 only.2) ∙ sym only.1
same_step token.Sweep token.Sweep e = refl
same_step token.Sweep _ e = absurd (eqb-false 115 _ refl (heads _ _ e))
same_step token.Drain token.Drain e = refl
same_step token.Drain (token.Down j) e = absurd (eqb-false 114 _ refl (second _ _ e))
same_step token.Drain _ e = absurd (eqb-false 100 _ refl (heads _ _ e))

-- a rebuild of these parts
abbrev rebuild_of : List ℕ → ℕ → ℕ → Rebuild
rebuild_of name stripe server = record { name = name; stripe = stripe; server = server }

-- of one rebuild
same_rebuild : (r s : Rebuild) → IsName r.name → IsName s.name → spaced (rebuild_words r) ≡ spaced (rebuild_words s) → r ≡ s
same_rebuild r s p q e =
    let rest = number_word r.stripe ++ 32 ∷ number_word r.server in
    let parts = rebuild_parts (r.name ++ 32 ∷ rest) r.name rest (number_word r.stripe) (number_word r.server) refl (name_lacks_space r.name p) refl (number_lacks 32 r.stripe (omega arith)) s q e in
    let stripe = number_word_injective r.stripe s.stripe parts.1 in
    let server = number_word_injective r.server s.server parts.2 in
    ap (λ (x : List ℕ). rebuild_of x r.stripe r.server) parts.0 ∙ ap (λ (x : ℕ). rebuild_of s.name x r.server) stripe ∙ ap (λ (x : ℕ). rebuild_of s.name s.stripe x) server

-- of one code
same_shape : (g h : Shape) → spaced (line_words (CodeLine g)) ≡ spaced (line_words (CodeLine h)) → g ≡ h
same_shape g h e =
    let rest = number_word g.parity_count ++ 32 ∷ number_word g.width in
    let parts = code_parts (number_word g.data_count ++ 32 ∷ rest) (number_word g.data_count) rest (number_word g.parity_count) (number_word g.width) refl
    (number_lacks 32 g.data_count (omega arith)) refl (number_lacks 32 g.parity_count (omega arith)) h e in
    let k = number_word_injective g.data_count h.data_count parts.0 in
    let m = number_word_injective g.parity_count h.parity_count parts.1 in
    let w = number_word_injective g.width h.width parts.2 in
    ap (λ (x : ℕ). shape x g.parity_count g.width) k ∙ ap (λ (x : ℕ). shape h.data_count x g.width) m ∙ ap (λ (x : ℕ). shape h.data_count h.parity_count x) w

-- a line without its line feed
abbrev text_of : Line → List ℕ
text_of l = spaced (line_words l)

-- the first line is the only one of its kind
clay_only : (l : Line) → kind.Clay ≡ kind_of l → (form : ℕ) × (l ≡ ClayLine form)
clay_only (ClayLine form) e = (form, refl)
clay_only _ e = absurd (cc e)

-- a line of the code's kind has a code
code_only : (l : Line) → kind.Code ≡ kind_of l → (g : Shape) × (l ≡ CodeLine g)
code_only (CodeLine g) e = (g, refl)
code_only _ e = absurd (cc e)

-- a client begins with one line
client_line_only : (l : Line) → kind.Client ≡ kind_of l → ClientLine ≡ l
client_line_only ClientLine e = refl
client_line_only _ e = absurd (cc e)

-- a repairer begins with one line
repairer_line_only : (l : Line) → kind.Repairer ≡ kind_of l → RepairerLine ≡ l
repairer_line_only RepairerLine e = refl
repairer_line_only _ e = absurd (cc e)

-- the schedule begins with one line
schedule_only : (l : Line) → kind.Schedule ≡ kind_of l → ScheduleLine ≡ l
schedule_only ScheduleLine e = refl
schedule_only _ e = absurd (cc e)

-- the last line is the only one of its kind
end_only : (l : Line) → kind.End ≡ kind_of l → EndLine ≡ l
end_only EndLine e = refl
end_only _ e = absurd (cc e)

-- equal texts are of lines of one kind
same_kind : (l m : Line) → HasForm m → text_of l ≡ text_of m → kind_of l ≡ kind_of m
same_kind l m q e =
    let verb = line_verb l in
    let same = kind_of_first (text_of l) verb.0 m (verb.1.0, verb.1.1) (q, e) in
    let own = verb.1.2 in
    cc (same, own)

-- a text is of one line at most
pub same_line : (l m : Line) → HasForm l → HasForm m → text_of l ≡ text_of m → l ≡ m
same_line (ClayLine form) m p q e =
    let only = clay_only m (same_kind (ClayLine form) m q e) in
    ap (λ (x : ℕ). ClayLine x) (number_word_injective form only.0 (ap (drop 5) (e ∙ ap text_of only.1))) ∙ sym only.1
same_line (CodeLine g) m p q e =
    let only = code_only m (same_kind (CodeLine g) m q e) in
    ap (λ (x : Shape). CodeLine x) (same_shape g only.0 (e ∙ ap text_of only.1)) ∙ sym only.1
same_line (SizeLine n) m p q e =
    let only = size_line m (sym (same_kind (SizeLine n) m q e)) in
    ap (λ (x : ℕ). SizeLine x) (number_word_injective n only.0 (ap (drop 5) (e ∙ ap text_of only.1))) ∙ sym only.1
same_line (TriesLine n) m p q e =
    let only = tries_line m (sym (same_kind (TriesLine n) m q e)) in
    ap (λ (x : ℕ). TriesLine x) (number_word_injective n only.0 (ap (drop 6) (e ∙ ap text_of only.1))) ∙ sym only.1
same_line ClientLine m p q e = client_line_only m (same_kind ClientLine m q e)
same_line RepairerLine m p q e = repairer_line_only m (same_kind RepairerLine m q e)
same_line (LeaveLine n) m p q e =
    let only = leave_line m (sym (same_kind (LeaveLine n) m q e)) in
    ap (λ (x : ℕ). LeaveLine x) (number_word_injective n only.0 (ap (drop 6) (e ∙ ap text_of only.1))) ∙ sym only.1
same_line (CallLine c) m p q e =
    let only = call_line_of m (sym (same_kind (CallLine c) m q e)) in
    ap (λ (x : Call). CallLine x) (same_call c only.0 p (subst HasForm only.1 q) (e ∙ ap text_of only.1)) ∙ sym only.1
same_line (RebuildLine r) m p q e =
    let only = rebuild_line m (sym (same_kind (RebuildLine r) m q e)) in
    ap (λ (x : Rebuild). RebuildLine x) (same_rebuild r only.0 p (subst HasForm only.1 q) (e ∙ ap text_of only.1)) ∙ sym only.1
same_line ScheduleLine m p q e = schedule_only m (same_kind ScheduleLine m q e)
same_line (StepLine t) m p q e =
    let only = step_line m (sym (same_kind (StepLine t) m q e)) in
    ap (λ (x : Token). StepLine x) (same_step t only.0 (e ∙ ap text_of only.1)) ∙ sym only.1
same_line EndLine m p q e = end_only m (same_kind EndLine m q e)

-- ---- no line feed in a line

-- no line feed
abbrev F : List ℕ → Type 0
F bs = Lacks 10 bs

-- a number has no line feed
number_feed : (n : ℕ) → F (number_word n)
number_feed n = number_lacks 10 n (omega arith)

-- digits have none
digits_feed : (bytes : List ℕ) → IsBytes bytes → F (encode_lower bytes)
digits_feed bytes h =
    Lacks-from_test is_lower_digit 10 refl (encode_lower bytes) (list_all-from_AllPass is_lower_digit (encode_lower bytes) (lower-encode bytes h))

-- a word behind a space
behind_space : (word : List ℕ) → F word → F (32 ∷ word)
behind_space word h = Lacks-append 10 (32 ∷ []) word (Lacks-literal 10 (32 ∷ []) refl) h

-- two words with a space between have none, if neither has
two_words : (first second : List ℕ) → F first → F second → F (first ++ 32 ∷ second)
two_words first second p q = Lacks-append 10 first (32 ∷ second) p (behind_space second q)

-- a run has none
run_feed : (b n : ℕ) → b < 256 → F (run_word b n)
run_feed b n h =
    Lacks-append 10 (encode_lower (b ∷ [])) (codes ":" ++ number_word n) (digits_feed (b ∷ []) (one_byte b h))
    (Lacks-append 10 (codes ":") (number_word n) (Lacks-literal 10 (codes ":") refl) (number_feed n))

-- data has none
content_feed : (c : Content) → IsContentForm c → F (content_word c)
content_feed (Hex bytes) h = Lacks-append 10 (codes "hex:") (encode_lower bytes) (Lacks-literal 10 (codes "hex:") refl) (digits_feed bytes h)
content_feed (Fill b n) h = Lacks-append 10 (codes "fill:") (run_word b n) (Lacks-literal 10 (codes "fill:") refl) (run_feed b n h)
content_feed (Ramp b n) h = Lacks-append 10 (codes "ramp:") (run_word b n) (Lacks-literal 10 (codes "ramp:") refl) (run_feed b n h)

-- a call has none
call_feed : (c : Call) → IsCallForm c → F (call_text c)
call_feed (Put name content) h =
    two_words (codes "put") (name ++ 32 ∷ content_word content) (Lacks-literal 10 (codes "put") refl)
    (two_words name (content_word content) (name_lacks_feed name h.0) (content_feed content h.1))
call_feed (Write name offset content) h =
    two_words (codes "write") (name ++ 32 ∷ (number_word offset ++ 32 ∷ content_word content)) (Lacks-literal 10 (codes "write") refl)
    (two_words name (number_word offset ++ 32 ∷ content_word content) (name_lacks_feed name h.0)
    (two_words (number_word offset) (content_word content) (number_feed offset) (content_feed content h.1)))
call_feed (Get name) h = two_words (codes "get") name (Lacks-literal 10 (codes "get") refl) (name_lacks_feed name h)
call_feed (ReadAt name offset count) h =
    two_words (codes "read") (name ++ 32 ∷ (number_word offset ++ 32 ∷ number_word count)) (Lacks-literal 10 (codes "read") refl)
    (two_words name (number_word offset ++ 32 ∷ number_word count) (name_lacks_feed name h)
    (two_words (number_word offset) (number_word count) (number_feed offset) (number_feed count)))
call_feed (Stat name) h = two_words (codes "stat") name (Lacks-literal 10 (codes "stat") refl) (name_lacks_feed name h)
call_feed (Delete name) h = two_words (codes "delete") name (Lacks-literal 10 (codes "delete") refl) (name_lacks_feed name h)

-- a step has none
step_feed : (t : Token) → F (token_text t)
step_feed (token.Client i) = two_words (codes "c") (number_word i) (Lacks-literal 10 (codes "c") refl) (number_feed i)
step_feed (token.Repairer i) = two_words (codes "r") (number_word i) (Lacks-literal 10 (codes "r") refl) (number_feed i)
step_feed token.Sweep = Lacks-literal 10 (codes "s") refl
step_feed (token.Wipe j) = two_words (codes "wipe") (number_word j) (Lacks-literal 10 (codes "wipe") refl) (number_feed j)
step_feed (token.Down j) = two_words (codes "down") (number_word j) (Lacks-literal 10 (codes "down") refl) (number_feed j)
step_feed (token.Up j) = two_words (codes "up") (number_word j) (Lacks-literal 10 (codes "up") refl) (number_feed j)
step_feed (token.ReapClient i) = two_words (codes "reap c") (number_word i) (Lacks-literal 10 (codes "reap c") refl) (number_feed i)
step_feed (token.ReapRepairer i) = two_words (codes "reap r") (number_word i) (Lacks-literal 10 (codes "reap r") refl) (number_feed i)
step_feed token.Drain = Lacks-literal 10 (codes "drain") refl

-- a line has none but the one that ends it
pub line_lacks_feed : (l : Line) → HasForm l → F (text_of l)
line_lacks_feed (ClayLine form) h = two_words (codes "clay") (number_word form) (Lacks-literal 10 (codes "clay") refl) (number_feed form)
line_lacks_feed (CodeLine g) h =
    two_words (codes "code") (number_word g.data_count ++ 32 ∷ (number_word g.parity_count ++ 32 ∷ number_word g.width)) (Lacks-literal 10 (codes "code") refl)
    (two_words (number_word g.data_count) (number_word g.parity_count ++ 32 ∷ number_word g.width) (number_feed g.data_count)
    (two_words (number_word g.parity_count) (number_word g.width) (number_feed g.parity_count) (number_feed g.width)))
line_lacks_feed (SizeLine n) h = two_words (codes "size") (number_word n) (Lacks-literal 10 (codes "size") refl) (number_feed n)
line_lacks_feed (TriesLine n) h = two_words (codes "tries") (number_word n) (Lacks-literal 10 (codes "tries") refl) (number_feed n)
line_lacks_feed ClientLine h = Lacks-literal 10 (codes "client") refl
line_lacks_feed RepairerLine h = Lacks-literal 10 (codes "repairer") refl
line_lacks_feed (LeaveLine n) h = two_words (codes "leave") (number_word n) (Lacks-literal 10 (codes "leave") refl) (number_feed n)
line_lacks_feed (CallLine c) h = call_feed c h
line_lacks_feed (RebuildLine r) h =
    two_words (codes "rebuild") (r.name ++ 32 ∷ (number_word r.stripe ++ 32 ∷ number_word r.server)) (Lacks-literal 10 (codes "rebuild") refl)
    (two_words r.name (number_word r.stripe ++ 32 ∷ number_word r.server) (name_lacks_feed r.name h)
    (two_words (number_word r.stripe) (number_word r.server) (number_feed r.stripe) (number_feed r.server)))
line_lacks_feed ScheduleLine h = Lacks-literal 10 (codes "schedule") refl
line_lacks_feed (StepLine t) h = step_feed t
line_lacks_feed EndLine h = Lacks-literal 10 (codes "end") refl
