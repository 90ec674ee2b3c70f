-- At most one call of each actor has no reply: the one after those that were answered.
use Rattle.std.specs.Prelude.{◌&&◌, not, List, map, Option, None, Some, find}
use Rattle.std.specs.Option.{option_or}
use Rattle.store_map.specs.declared.script.Script.{Script}
use Rattle.store_map.specs.declared.call_name.CallName.{CallName}
use Rattle.store_map.specs.declared.call_name.CallName.TheVariants.{Client}
use Rattle.store_map.specs.declared.shown.Shown.TheVariants.{Reply as Replied, Unfinished}
use Rattle.store_map.specs.declared.shown.Shown.{Shown}
use Rattle.store_map.specs.declared.transcript.Transcript.{Transcript}
use Rattle.hist_rules.specs.declared.verdict.Verdict.{Verdict}
use Rattle.hist_rules.specs.declared.verdict.Verdict.TheVariants.{Misplaced}
use Rattle.hist_rules.specs.First.{unless, first_fault, first_fault_along}
use Rattle.hist_rules.specs.Calls.{number_of, same_actor, is_named, calls_of}
use Rattle.hist_rules.specs.Named.{answered_calls}
use Rattle.hist_rules.specs.CallsInOrder.{follows, least_missing}

-- the calls without a reply
abbrev pub unanswered_calls : Transcript → List CallName
unanswered_calls t = map (λ line. line.call) t.unanswered

-- a call that took effect without a reply has its line among those; the fault tells its number, and how many calls its actor has
abbrev pub is_unanswered : Script → Transcript → CallName → Shown → Option Verdict
is_unanswered script t call (Replied reply) = None
is_unanswered script t call Unfinished = unless (is_named call (unanswered_calls t)) (Misplaced call (number_of call) (calls_of script call))

-- the actor has no such line before; the fault tells the number there, and the number named
abbrev pub is_only_one : Option CallName → CallName → Option Verdict
is_only_one None call = None
is_only_one (Some first) call = Some (Misplaced call (number_of first) (number_of call))

-- the call is the first of its actor that isn't answered; the fault tells that one's number, and the number named
abbrev pub is_next_call : List CallName → CallName → Option Verdict
is_next_call answered call =
    unless (follows answered call && not (is_named call answered)) (Misplaced call (least_missing answered call) (number_of call))

-- the first line that is wrong, those of the history first
abbrev pub one_open_call : Script → Transcript → Option Verdict
one_open_call script t =
    option_or (first_fault (λ line. is_unanswered script t (Client line.call) line.reply) t.history)
    (first_fault_along (λ before call. option_or (is_only_one (find (same_actor call) before) call) (is_next_call (answered_calls t) call)) (unanswered_calls t))
