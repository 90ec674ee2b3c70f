-- The rules in groups, each found by a function of its own.
use Rattle.std.proofs.Common.{◌≡◌, ℕ, List, [], ◌∷◌, length, map, ap, ◌∙◌}
use Rattle.std.specs.Prelude.{Option, None}
use Rattle.std.specs.Option.{option_or}
use Rattle.store_map.specs.History.{map_after}
use Rattle.store_map.specs.Limits.{size_of}
use Rattle.store_map.specs.PlainMap.{Objects, SizedMap}
use Rattle.store_map.specs.declared.script.Script.{Script}
use Rattle.store_map.specs.declared.line.HLine.{HLine}
use Rattle.store_map.specs.declared.line.LLine.{LLine}
use Rattle.store_map.specs.declared.transcript.Transcript.{Transcript}
use Rattle.hist_rules.specs.declared.verdict.Verdict.{Verdict}
use Rattle.hist_rules.specs.First.{first_of}
use Rattle.hist_rules.specs.CallsExist.{calls_exist}
use Rattle.hist_rules.specs.PointsRise.{points_rise}
use Rattle.hist_rules.specs.RepliesMatch.{replies_match, calls_in, history_calls}
use Rattle.hist_rules.specs.CallsInOrder.{calls_in_order}
use Rattle.hist_rules.specs.OneOpenCall.{one_open_call}
use Rattle.hist_rules.specs.LostChunks.{lost_chunks}
use Rattle.hist_rules.specs.LostRaces.{lost_races}
use Rattle.hist_rules.specs.GivenUp.{given_up}
use Rattle.hist_rules.specs.CausesNamed.{causes_named}
use Rattle.hist_rules.specs.TakesHaveCalls.{takes_have_calls}
use Rattle.hist_rules.specs.ObjectsListed.{first_difference, objects_listed}
use Rattle.hist_rules.specs.TakesAddUp.{takes_add_up}
use Rattle.hist_rules.specs.Verdict.{fault_of}
use Rattle.hist_check.proofs.Replays.{rest_fault}
use Rattle.hist_check.proofs.Tests.{found_behind}

abbrev pub line_tests : Script → Transcript → List (Option Verdict)
line_tests script t = calls_exist script t ∷ points_rise t ∷ []

abbrev pub order_tests : Script → Transcript → List (Option Verdict)
order_tests script t = calls_in_order t ∷ one_open_call script t ∷ []

abbrev pub cause_tests : Script → Transcript → List (Option Verdict)
cause_tests script t = lost_chunks script t ∷ lost_races script t ∷ given_up script t ∷ causes_named script t ∷ []

abbrev pub end_tests : Script → Transcript → List (Option Verdict)
end_tests script t = takes_have_calls t ∷ objects_listed script t ∷ takes_add_up script t ∷ []

-- ---- the groups in their order

abbrev after_replies : Script → Transcript → List (Option Verdict)
after_replies script t =
    calls_in_order t
    ∷ one_open_call script t
    ∷ lost_chunks script t
    ∷ lost_races script t
    ∷ given_up script t
    ∷ causes_named script t
    ∷ takes_have_calls t
    ∷ objects_listed script t
    ∷ takes_add_up script t
    ∷ []

abbrev after_order : Script → Transcript → List (Option Verdict)
after_order script t =
    lost_chunks script t ∷ lost_races script t ∷ given_up script t ∷ causes_named script t ∷ takes_have_calls t ∷ objects_listed script t ∷ takes_add_up script t ∷ []

-- what is found behind the replies
behind_replies : (script : Script) (t : Transcript) (found : Option Verdict) → None ≡ first_of (line_tests script t) → None ≡ replies_match script t
    → found ≡ first_of (after_replies script t) → found ≡ fault_of script t
behind_replies script t found lines replies is =
    found_behind (line_tests script t) (replies_match script t ∷ after_replies script t) found lines
    (is ∙ ap (λ (first : Option Verdict). option_or first (first_of (after_replies script t))) replies)

pub in_end : (script : Script) (t : Transcript) (found : Option Verdict) → None ≡ first_of (line_tests script t) → None ≡ replies_match script t
    → None ≡ first_of (order_tests script t) → None ≡ first_of (cause_tests script t) → found ≡ first_of (end_tests script t) → found ≡ fault_of script t
in_end script t found lines replies order causes is =
    behind_replies script t found lines replies
    (found_behind (order_tests script t) (after_order script t) found order (found_behind (cause_tests script t) (end_tests script t) found causes is))

-- ---- the replay, from the empty map

abbrev pub empty_map : ℕ → SizedMap
empty_map max = record { max = max; objects = [] }

pub starts : (script : Script) (map : SizedMap) (max : ℕ) → map ≡ empty_map max → max ≡ size_of script → map ≡ empty_map (size_of script)
starts script map max made size = made ∙ ap empty_map size

pub replays : (script : Script) (t : Transcript) (map : SizedMap) (lines : List HLine) → map ≡ empty_map (size_of script) → lines ≡ t.history
    → rest_fault script map.max lines (calls_in script lines) map.objects ≡ replies_match script t
replays script t map lines start all =
    ap (λ (from : SizedMap). rest_fault script from.max lines (calls_in script lines) from.objects) start
    ∙ ap (λ (those : List HLine). rest_fault script (size_of script) those (calls_in script those) []) all

-- ---- the objects at the end

abbrev pub objects_fault : Objects → List LLine → Option Verdict
objects_fault objects lines = first_difference (map (λ object. record { name = object.0; length = length object.1 }) objects) lines

pub objects_are : (script : Script) (t : Transcript) (objects : Objects) (lines : List LLine) → objects ≡ map_after (size_of script) (history_calls script t) → lines ≡ t.objects
    → objects_fault objects lines ≡ objects_listed script t
objects_are script t objects lines made all = ap (λ (those : Objects). objects_fault those lines) made ∙ ap (objects_fault (map_after (size_of script) (history_calls script t))) all
