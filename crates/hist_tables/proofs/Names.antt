-- Calls and their actors, compared either way round, and one more call among some.
use Rattle.std.proofs.Common.{◌≡◌, ℕ, ◌+◌, ◌<◌, Bool, true, false, nat_eq, List, [], ◌∷◌, ◌++◌, ◌≤◌, length, length-append, get_or, take, drop, map, filter, refl, sym, ap, ◌∙◌}
use Rattle.std.specs.Prelude.{◌||◌}
use Rattle.std.specs.List.{list_any}
use Rattle.std.proofs.lemmas.Bool.Decides.{same_from_decides, Decides-eqb, Decides-like}
use Rattle.std.proofs.lemmas.List.{at_drop_more, at_drop_all, length-map}
use Rattle.std.proofs.lemmas.List.Folds.{list_any_more, list_any-append}
use Rattle.store_map.specs.declared.call_name.CallName.{CallName}
use Rattle.store_map.specs.declared.call_name.CallName.TheVariants.{Client, Repairer}
use Rattle.store_map.specs.declared.line.HLine.{HLine}
use Rattle.store_map.specs.declared.line.XLine.{XLine}
use Rattle.store_map.specs.declared.line.RLine.{RLine}
use Rattle.store_map.specs.declared.line.OLine.{OLine}
use Rattle.store_map.specs.declared.transcript.Transcript.{Transcript}
use Rattle.hist_rules.specs.Calls.{number_of, same_actor, same_call, is_named}
use Rattle.hist_rules.specs.Named.{answered_calls, is_reply, listed_calls}
use Rattle.hist_tables.specs.Tables.{has}
use Rattle.hist_tables.specs.declared.call_set.CallSet.{CallSet}

pub equal_either_way : (a b : ℕ) → nat_eq a b ≡ nat_eq b a
equal_either_way a b = same_from_decides (nat_eq a b) (nat_eq b a) (Decides-eqb a b) (Decides-like (nat_eq b a) (λ e. sym e) (λ e. sym e) (Decides-eqb b a))

pub same_actor_either_way : (one other : CallName) → same_actor one other ≡ same_actor other one
same_actor_either_way (Client a) (Client b) = equal_either_way a.client b.client
same_actor_either_way (Repairer a) (Repairer b) = equal_either_way a.repairer b.repairer
same_actor_either_way (Client a) (Repairer b) = refl
same_actor_either_way (Repairer a) (Client b) = refl

pub same_call_either_way : (one other : CallName) → same_call one other ≡ same_call other one
same_call_either_way one other = cc (same_actor_either_way one other, equal_either_way (number_of one) (number_of other))

pub or_either_way : (a b : Bool) → (a || b) ≡ (b || a)
or_either_way true true = refl
or_either_way true false = refl
or_either_way false true = refl
or_either_way false false = refl

pub named_more : (calls : List CallName) (i : ℕ) (d other : CallName) → i < length calls
    → is_named other (take (i + 1) calls) ≡ (same_call other (get_or calls i d) || is_named other (take i calls))
named_more calls i d other within = list_any_more (same_call other) calls i d within ∙ or_either_way (list_any (same_call other) (take i calls)) (same_call other (get_or calls i d))

-- a set of the first calls, with one more
pub taken_more : (old new : CallSet) (calls : List CallName) (i : ℕ) (d : CallName) → i < length calls
    → ((other : CallName) → has new other ≡ (same_call other (get_or calls i d) || has old other))
    → ((other : CallName) → has old other ≡ is_named other (take i calls))
    → (other : CallName) → has new other ≡ is_named other (take (i + 1) calls)
taken_more old new calls i d within added before other =
    added other ∙ ap (λ (seen : Bool). same_call other (get_or calls i d) || seen) (before other) ∙ sym (named_more calls i d other within)

-- ---- sets that get the calls of some lines, the first of them first

or_moved : (one other rest : Bool) → ((one || other) || rest) ≡ (other || (one || rest))
or_moved true true rest = refl
or_moved true false rest = refl
or_moved false true rest = refl
or_moved false false rest = refl

-- the set with the next line's call, beside the calls of the others
pub next_named : (old new : CallSet) (call : CallName) (calls : List CallName) (other : CallName) → has new other ≡ (same_call other call || has old other)
    → (has new other || is_named other calls) ≡ (has old other || is_named other (call ∷ calls))
next_named old new call calls other added =
    ap (λ (there : Bool). there || is_named other calls) added ∙ or_moved (same_call other call) (has old other) (is_named other calls)

or_none : (one : Bool) → (one || false) ≡ one
or_none true = refl
or_none false = refl

-- nothing is added where no line is left
pub none_named : (set : CallSet) (other : CallName) → (has set other || is_named other []) ≡ has set other
none_named set other = or_none (has set other)

-- a set that got one list after another
pub both_named : (old middle new : CallSet) (calls others : List CallName) (other : CallName) → has middle other ≡ (has old other || is_named other calls)
    → has new other ≡ (has middle other || is_named other others) → has new other ≡ (has old other || is_named other (calls ++ others))
both_named old middle new calls others other first second =
    second ∙ ap (λ (there : Bool). there || is_named other others) first
    ∙ or_assoc (has old other) (is_named other calls) (is_named other others)
    ∙ ap (λ (there : Bool). has old other || there) (sym (list_any-append (same_call other) calls others))
  where
    or_assoc : (one two three : Bool) → ((one || two) || three) ≡ (one || (two || three))
    or_assoc true two three = refl
    or_assoc false two three = refl

-- a set that was empty before
pub from_none : (old new : CallSet) (calls : List CallName) (other : CallName) → has old other ≡ false → has new other ≡ (has old other || is_named other calls)
    → has new other ≡ is_named other calls
from_none old new calls other empty got = got ∙ ap (λ (there : Bool). there || is_named other calls) empty

-- the same of a line, whose call is added
pub line_named : {Line : Type 0} (call : Line → CallName) (old new : CallSet) (lines : List Line) (i : ℕ) (item : Line) (named other : CallName) (whole : Bool)
    → i < length lines → item ≡ get_or lines i item → named ≡ call item → has new other ≡ (same_call other named || has old other)
    → (has old other || is_named other (map call (drop i lines))) ≡ whole → (has new other || is_named other (map call (drop (i + 1) lines))) ≡ whole
line_named {Line} call old new lines i item named other whole within is names added so_far =
    let next : (has old other || is_named other (map call (drop i lines))) ≡ (has old other || is_named other (call (get_or lines i item) ∷ map call (drop (i + 1) lines))) =
    at_drop_more (λ (rest : List Line). has old other || is_named other (map call rest)) lines i item within in
    let call_is : named ≡ call (get_or lines i item) = names ∙ ap call is in
    next_named old new (call (get_or lines i item)) (map call (drop (i + 1) lines)) other (added ∙ ap (λ (name : CallName). same_call other name || has old other) call_is)
    ∙ sym next ∙ so_far

-- the calls of the lines that pass a test
abbrev pub passing : {Line : Type 0} → (Line → CallName) → (Line → Bool) → List Line → List CallName
passing call test lines = map call (filter test lines)

pub passes_first : {Line : Type 0} (call : Line → CallName) (test : Line → Bool) (line : Line) (lines : List Line) → test line ≡ true → passing call test (line ∷ lines) ≡ call line ∷ passing call test lines
passes_first call test line lines passed = rw passed refl

pub fails_first : {Line : Type 0} (call : Line → CallName) (test : Line → Bool) (line : Line) (lines : List Line) → test line ≡ false → passing call test (line ∷ lines) ≡ passing call test lines
fails_first call test line lines failed = rw failed refl

-- the calls from a line on that passes, and from one on that doesn't
pub passing_more : {Line : Type 0} (call : Line → CallName) (test : Line → Bool) (lines : List Line) (i : ℕ) (item : Line) → i < length lines → item ≡ get_or lines i item → test item ≡ true
    → passing call test (drop i lines) ≡ call item ∷ passing call test (drop (i + 1) lines)
passing_more call test lines i item within is passed =
    let next : passing call test (drop i lines) ≡ passing call test (get_or lines i item ∷ drop (i + 1) lines) = at_drop_more (passing call test) lines i item within in
    next ∙ passes_first call test (get_or lines i item) (drop (i + 1) lines) (ap test (sym is) ∙ passed) ∙ ap (λ (line : _). call line ∷ passing call test (drop (i + 1) lines)) (sym is)

pub passing_on : {Line : Type 0} (call : Line → CallName) (test : Line → Bool) (lines : List Line) (i : ℕ) (item : Line) → i < length lines → item ≡ get_or lines i item → test item ≡ false
    → passing call test (drop i lines) ≡ passing call test (drop (i + 1) lines)
passing_on call test lines i item within is failed =
    let next : passing call test (drop i lines) ≡ passing call test (get_or lines i item ∷ drop (i + 1) lines) = at_drop_more (passing call test) lines i item within in
    next ∙ fails_first call test (get_or lines i item) (drop (i + 1) lines) (ap test (sym is) ∙ failed)

pub passing_end : {Line : Type 0} (call : Line → CallName) (test : Line → Bool) (lines : List Line) (i : ℕ) → length lines ≤ i → passing call test (drop i lines) ≡ []
passing_end call test lines i past = at_drop_all (passing call test) lines i past

-- every line passes a test that always holds
pub all_pass : {Line : Type 0} (call : Line → CallName) (lines : List Line) → passing call (λ line. true) lines ≡ map call lines
all_pass call [] = refl
all_pass call (line ∷ lines) = ap (λ (calls : List CallName). call line ∷ calls) (all_pass call lines)

-- ---- the lists of a transcript's calls, from its lines as they are read

pub answers_of : (t : Transcript) (replies : List HLine) (refusals : List XLine) (results : List RLine) → replies ≡ t.history → refusals ≡ t.refused → results ≡ t.repairs
    → passing (λ line. Client line.call) (λ line. is_reply line.reply) replies ++ map (λ line. Client line.call) refusals ++ map (λ line. Repairer line.call) results ≡ answered_calls t
answers_of t replies refusals results h x r = rw (h, x, r) refl

pub listed_of : (t : Transcript) (replies : List HLine) (refusals : List XLine) (results : List RLine) (open_lines : List OLine)
    → replies ≡ t.history → refusals ≡ t.refused → results ≡ t.repairs → open_lines ≡ t.unanswered
    → map (λ line. Client line.call) replies ++ map (λ line. Client line.call) refusals ++ map (λ line. Repairer line.call) results ++ map (λ line. line.call) open_lines ≡ listed_calls t
listed_of t replies refusals results open_lines h x r o = rw (h, x, r, o) refl

pub count_parts : (t : Transcript) (replied refused repaired : ℕ) → replied ≡ length (filter (λ line. is_reply line.reply) t.history) → refused ≡ length t.refused → repaired ≡ length t.repairs
    → replied + refused + repaired ≡ length (answered_calls t)
count_parts t replied refused repaired h x r =
    rw (h, x, r) (simp (length-append, length-map) refl)
