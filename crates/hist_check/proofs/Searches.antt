-- A search for an answer out of order, from line to line and from one kind of lines to the next.
-- Each rule is first_fault of a list, or first_fault_along where it sees the lines before. A loop's invariant is that the rule over what
-- is left (drop i, beside reverse (take i) for the lines before) comes to the rule over all; three lemmas a kind (Faults: it fits, it is
-- found, there is none) serve every loop. A set stands for a list by its look-ups (IsSetOf), so no order and no permutation comes up. How
-- far an actor's answers are known to be there is kept (AreReached), so each number is looked up once; least_missing runs for a fault
-- alone. The replay keeps two places, lines looked at and replies given, since a line without a call in the script has no reply. The
-- rules in a row are lists of tests (found_at, last_decides, found_behind).
use Rattle.std.proofs.Common.{◌≡◌, ℕ, ◌+◌, ◌<◌, ◌≤◌, Bool, true, false, List, [], ◌∷◌, ◌++◌, length, get_or, drop, sym, ap, ap₂, ◌∙◌, append_assoc, append-nil}
use Rattle.std.specs.Prelude.{Option, None, Some, Result, Ok, Err, IfOk, ◌||◌}
use Rattle.std.specs.Option.{option_or}
use Rattle.store_map.specs.declared.call_name.CallName.TheVariants.{Client, Repairer}
use Rattle.store_map.specs.declared.call_name.CallName.{CallName}
use Rattle.store_map.specs.declared.line.HLine.{HLine}
use Rattle.store_map.specs.declared.line.XLine.{XLine}
use Rattle.store_map.specs.declared.line.RLine.{RLine}
use Rattle.store_map.specs.declared.transcript.Transcript.{Transcript}
use Rattle.hist_rules.specs.Named.{answered_calls, is_reply}
use Rattle.hist_rules.specs.declared.verdict.Verdict.{Verdict}
use Rattle.hist_rules.specs.First.{first_fault_after}
use Rattle.hist_rules.specs.Calls.{same_call, is_named}
use Rattle.hist_rules.specs.CallsInOrder.{follows_answered, is_first_answer}
use Rattle.hist_tables.specs.Tables.{has, IsSetOf}
use Rattle.hist_tables.specs.declared.call_set.CallSet.{CallSet}
use Rattle.hist_tables.proofs.Faults.{or_first, or_second}
use Rattle.hist_tables.proofs.Names.{all_pass, answers_of, passing, passing_more, passing_on, passing_end}
use Rattle.hist_check.specs.Searched.{answer_fault, IsSearched}

-- what is found from some calls on, after earlier ones
abbrev pub found_after : List CallName → List CallName → List CallName → Option Verdict
found_after answered earlier calls = first_fault_after (answer_fault answered) earlier calls

-- the search has come to these calls: the set has those before them
abbrev pub IsAt : List CallName → List CallName → List CallName → List CallName → List CallName → CallSet → Type 0
IsAt answered earlier calls rest left set = (later : List CallName) × IsSetOf set later × (found_after answered earlier (calls ++ rest) ≡ found_after answered later (left ++ rest))

-- a set with one call more
pub set_with : (old new : CallSet) (later : List CallName) (call : CallName) → ((other : CallName) → has new other ≡ (same_call other call || has old other)) → IsSetOf old later
    → IsSetOf new (call ∷ later)
set_with old new later call added whole other = added other ∙ ap (λ (there : Bool). same_call other call || there) (whole other)

-- a line that doesn't answer is passed over
pub passed_over : {Line : Type 0} (call : Line → CallName) (test : Line → Bool) (answered earlier rest : List CallName) (lines : List Line) (i : ℕ) (item : Line) (set : CallSet)
    → i < length lines → item ≡ get_or lines i item → test item ≡ false
    → IsAt answered earlier (passing call test lines) rest (passing call test (drop i lines)) set
    → IsAt answered earlier (passing call test lines) rest (passing call test (drop (i + 1) lines)) set
passed_over call test answered earlier rest lines i item set within is failed so_far =
    (so_far.0, so_far.1, so_far.2 ∙ ap (λ (left : List CallName). found_after answered so_far.0 (left ++ rest)) (passing_on call test lines i item within is failed))

-- what an answer gives
at_answer : {Line : Type 0} (call : Line → CallName) (test : Line → Bool) (answered later rest : List CallName) (lines : List Line) (i : ℕ) (item : Line)
    → i < length lines → item ≡ get_or lines i item → test item ≡ true
    → found_after answered later (passing call test (drop i lines) ++ rest)
    ≡ option_or (answer_fault answered later (call item)) (found_after answered (call item ∷ later) (passing call test (drop (i + 1) lines) ++ rest))
at_answer call test answered later rest lines i item within is passed =
    ap (λ (left : List CallName). found_after answered later (left ++ rest)) (passing_more call test lines i item within is passed)

-- an answer that is out of order
pub answer_wrong : {Line : Type 0} (call : Line → CallName) (test : Line → Bool) (answered earlier rest : List CallName) (lines : List Line) (i : ℕ) (item : Line) (set : CallSet) (fault : Verdict)
    → i < length lines → item ≡ get_or lines i item → test item ≡ true
    → (so_far : IsAt answered earlier (passing call test lines) rest (passing call test (drop i lines)) set)
    → answer_fault answered so_far.0 (call item) ≡ Some fault
    → found_after answered earlier (passing call test lines ++ rest) ≡ Some fault
answer_wrong call test answered earlier rest lines i item set fault within is passed so_far wrong =
    so_far.2 ∙ at_answer call test answered so_far.0 rest lines i item within is passed
    ∙ ap (λ (found : Option Verdict). option_or found (found_after answered (call item ∷ so_far.0) (passing call test (drop (i + 1) lines) ++ rest))) wrong

-- one that isn't
pub answer_right : {Line : Type 0} (call : Line → CallName) (test : Line → Bool) (answered earlier rest : List CallName) (lines : List Line) (i : ℕ) (item : Line) (old new : CallSet)
    → i < length lines → item ≡ get_or lines i item → test item ≡ true
    → (so_far : IsAt answered earlier (passing call test lines) rest (passing call test (drop i lines)) old)
    → answer_fault answered so_far.0 (call item) ≡ None
    → ((other : CallName) → has new other ≡ (same_call other (call item) || has old other))
    → IsAt answered earlier (passing call test lines) rest (passing call test (drop (i + 1) lines)) new
answer_right call test answered earlier rest lines i item old new within is passed so_far right added = (
  call item ∷ so_far.0,
  set_with old new so_far.0 (call item) added so_far.1,
  so_far.2 ∙ at_answer call test answered so_far.0 rest lines i item within is passed
      ∙ ap (λ (found : Option Verdict). option_or found (found_after answered (call item ∷ so_far.0) (passing call test (drop (i + 1) lines) ++ rest))) right,
)

-- no line is left
pub all_searched : {Line : Type 0} (call : Line → CallName) (test : Line → Bool) (answered earlier rest : List CallName) (lines : List Line) (i : ℕ) (set : CallSet) → length lines ≤ i
    → IsAt answered earlier (passing call test lines) rest (passing call test (drop i lines)) set
    → IsSearched answered earlier (passing call test lines) rest None set
all_searched call test answered earlier rest lines i set past so_far =
    (so_far.0, so_far.1, so_far.2 ∙ ap (λ (left : List CallName). found_after answered so_far.0 (left ++ rest)) (passing_end call test lines i past))

-- ---- one kind of lines after another

first_fault_found : (answered earlier calls rest : List CallName) (found : Option Verdict) (set : CallSet) (fault : Verdict) → found ≡ Some fault
    → IsSearched answered earlier calls rest found set → found_after answered earlier (calls ++ rest) ≡ Some fault
first_fault_found answered earlier calls rest None set fault is searched = cc is
first_fault_found answered earlier calls rest (Some other) set fault is searched = searched ∙ is

none_found : (answered earlier calls rest : List CallName) (found : Option Verdict) (set : CallSet) → found ≡ None → IsSearched answered earlier calls rest found set
    → (later : List CallName) × IsSetOf set later × (found_after answered earlier (calls ++ rest) ≡ found_after answered later rest)
none_found answered earlier calls rest None set is searched = searched
none_found answered earlier calls rest (Some other) set is searched = cc is

last_found : (answered earlier calls : List CallName) (found : Option Verdict) (set : CallSet) → IsSearched answered earlier calls [] found set → found_after answered earlier calls ≡ found
last_found answered earlier calls None set searched = ap (found_after answered earlier) (sym (append-nil calls)) ∙ searched.2
last_found answered earlier calls (Some fault) set searched = ap (found_after answered earlier) (sym (append-nil calls)) ∙ searched

pub order_first : (answered a b c : List CallName) (found : Option Verdict) (set : CallSet) (fault : Verdict) → found ≡ Some fault → IsSearched answered [] a (b ++ c) found set
    → Some fault ≡ found_after answered [] (a ++ b ++ c)
order_first answered a b c found set fault is searched =
    sym (ap (found_after answered []) (append_assoc a b c) ∙ first_fault_found answered [] a (b ++ c) found set fault is searched)

pub order_second : (answered a b c : List CallName) (found other : Option Verdict) (set new : CallSet) (fault : Verdict) → found ≡ None → IsSearched answered [] a (b ++ c) found set
    → other ≡ Some fault → ((later : List CallName) → IsSetOf set later → IsSearched answered later b c other new) → Some fault ≡ found_after answered [] (a ++ b ++ c)
order_second answered a b c found other set new fault none searched is then =
    let first = none_found answered [] a (b ++ c) found set none searched in
    sym (ap (found_after answered []) (append_assoc a b c) ∙ first.2 ∙ first_fault_found answered first.0 b c other new fault is (then first.0 first.1))

pub order_third : (answered a b c : List CallName) (found other last : Option Verdict) (set new end : CallSet) → found ≡ None → IsSearched answered [] a (b ++ c) found set
    → other ≡ None → ((later : List CallName) → IsSetOf set later → IsSearched answered later b c other new)
    → ((later : List CallName) → IsSetOf new later → IsSearched answered later c [] last end) → last ≡ found_after answered [] (a ++ b ++ c)
order_third answered a b c found other last set new end none searched none_2 then finally =
    let first = none_found answered [] a (b ++ c) found set none searched in
    let second = none_found answered first.0 b c other new none_2 (then first.0 first.1) in
    sym (ap (found_after answered []) (append_assoc a b c) ∙ first.2 ∙ second.2 ∙ last_found answered second.0 c last end (finally second.0 second.1))

-- the same of a last search that memory may have ended
pub finally_found : {E : Type 0} (answered a b c whole : List CallName) (found other : Option Verdict) (set new end : CallSet) (last : Result (Option Verdict) E)
    → found ≡ None → IsSearched answered [] a (b ++ c) found set → other ≡ None → ((later : List CallName) → IsSetOf set later → IsSearched answered later b c other new)
    → ((later : List CallName) → IsSetOf new later → IfOk last (λ fault. IsSearched answered later c [] fault end)) → a ++ b ++ c ≡ whole
    → IfOk last (λ fault. fault ≡ found_after answered [] whole)
finally_found answered a b c whole found other set new end (Ok fault) none searched none_2 then finally all =
    order_third answered a b c found other fault set new end none searched none_2 then finally ∙ ap (found_after answered []) all
finally_found answered a b c whole found other set new end (Err error) none searched none_2 then finally all = tt

-- the answers of the three kinds of lines are the answered calls
pub kinds_of_answers : (t : Transcript) (replies : List HLine) (refusals : List XLine) (results : List RLine) → replies ≡ t.history → refusals ≡ t.refused → results ≡ t.repairs
    → passing (λ line. Client line.call) (λ line. is_reply line.reply) replies ++ passing (λ line. Client line.call) (λ line. true) refusals ++ passing (λ line. Repairer line.call) (λ line. true) results ≡ answered_calls t
kinds_of_answers t replies refusals results h x r =
    ap₂ (λ others last. passing (λ line. Client line.call) (λ line. is_reply line.reply) replies ++ others ++ last) (all_pass (λ (line : XLine). Client line.call) refusals) (all_pass (λ (line : RLine). Repairer line.call) results)
    ∙ answers_of t replies refusals results h x r
