-- The rules on answers and on calls without a reply, as the loops meet them.
use Rattle.std.proofs.Common.{◌≡◌, ℕ, ◌+◌, ◌<◌, Bool, List, length, length-append, get_or, take, ◌≤◌, refl, sym, ap, ◌∙◌, arith}
use Rattle.std.specs.Prelude.{Option, None, Some, reverse, find, ◌||◌}
use Rattle.std.specs.Option.{option_or}
use Rattle.store_map.specs.declared.call_name.CallName.TheVariants.{Client}
use Rattle.store_map.specs.declared.script.Script.{Script}
use Rattle.store_map.specs.declared.call_name.CallName.{CallName}
use Rattle.store_map.specs.declared.line.HLine.{HLine}
use Rattle.store_map.specs.declared.transcript.Transcript.{Transcript}
use Rattle.std.proofs.lemmas.List.{length-map}
use Rattle.std.proofs.lemmas.List.Sums.{length-filter, count_by-le-length}
use Rattle.hist_rules.specs.declared.verdict.Verdict.{Verdict}
use Rattle.hist_rules.specs.First.{first_fault, first_fault_along}
use Rattle.hist_rules.specs.Calls.{same_actor, same_call, is_named}
use Rattle.hist_rules.specs.CallsInOrder.{follows_answered, is_first_answer}
use Rattle.hist_rules.specs.Named.{answered_calls, is_reply}
use Rattle.hist_rules.specs.OneOpenCall.{is_only_one, is_next_call, is_unanswered, unanswered_calls, one_open_call}
use Rattle.hist_tables.specs.Tables.{has, IsSetOf}
use Rattle.hist_tables.specs.declared.call_set.CallSet.{CallSet}
use Rattle.hist_tables.proofs.Faults.{before_more, or_first, or_second}

-- a call without a reply, after the ones before it
abbrev pub open_fault : List CallName → List CallName → CallName → Option Verdict
open_fault answered before call = option_or (is_only_one (find (same_actor call) before) call) (is_next_call answered call)

-- the answered calls are no more than the lines that answer
pub answered_few : (t : Transcript) → length (answered_calls t) ≤ length t.history + length t.refused + length t.repairs
answered_few t =
    simp (length-append, length-map) (omega (arith, length-filter (λ (line : HLine). is_reply line.reply) t.history, count_by-le-length (λ (line : HLine). is_reply line.reply) t.history))

-- a set of a list is a set of an equal one
pub set_of : (set : CallSet) (calls others : List CallName) → calls ≡ others → IsSetOf set calls → IsSetOf set others
set_of set calls others same whole call = whole call ∙ ap (is_named call) same

-- ---- the two parts of the rule on calls without a reply

abbrev pub effect_fault : Script → Transcript → HLine → Option Verdict
effect_fault script t line = is_unanswered script t (Client line.call) line.reply

pub effect_found : (script : Script) (t : Transcript) (lines : List HLine) (fault : Verdict) → lines ≡ t.history
    → Some fault ≡ first_fault (effect_fault script t) lines → Some fault ≡ one_open_call script t
effect_found script t lines fault all found =
    sym (or_first (first_fault (effect_fault script t) t.history) (first_fault_along (open_fault (answered_calls t)) (unanswered_calls t)) fault (ap (first_fault (effect_fault script t)) (sym all) ∙ sym found))

pub early_found : (script : Script) (t : Transcript) (lines : List HLine) (answered waiting : List CallName) (found : Option Verdict) → lines ≡ t.history
    → None ≡ first_fault (effect_fault script t) lines → answered ≡ answered_calls t → waiting ≡ unanswered_calls t
    → found ≡ first_fault_along (open_fault answered) waiting → found ≡ one_open_call script t
early_found script t lines answered waiting found all none answers opened is =
    is
    ∙ ap (λ (calls : List CallName). first_fault_along (open_fault calls) waiting) answers
    ∙ ap (first_fault_along (open_fault (answered_calls t))) opened
    ∙ sym (or_second (first_fault (effect_fault script t) t.history) (first_fault_along (open_fault (answered_calls t)) (unanswered_calls t)) (first_fault_along (open_fault (answered_calls t)) (unanswered_calls t))
    (ap (first_fault (effect_fault script t)) (sym all) ∙ sym none) refl)
