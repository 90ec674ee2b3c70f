-- What the checker says: the fault of the first rule that is broken.
use Rattle.std.specs.Prelude.{[], ◌∷◌, Option, unwrap_or}
use Rattle.store_map.specs.declared.script.Script.{Script}
use Rattle.store_map.specs.declared.transcript.Transcript.{Transcript}
use Rattle.hist_rules.specs.declared.verdict.Verdict.{Verdict}
use Rattle.hist_rules.specs.declared.verdict.Verdict.TheVariants.{Legal}
use Rattle.hist_rules.specs.First.{first_of}
use Rattle.hist_rules.specs.CallsExist.{calls_exist}
use Rattle.hist_rules.specs.PointsRise.{points_rise}
use Rattle.hist_rules.specs.RepliesMatch.{replies_match}
use Rattle.hist_rules.specs.CallsInOrder.{calls_in_order}
use Rattle.hist_rules.specs.OneOpenCall.{one_open_call}
use Rattle.hist_rules.specs.LostChunks.{lost_chunks}
use Rattle.hist_rules.specs.LostRaces.{lost_races}
use Rattle.hist_rules.specs.GivenUp.{given_up}
use Rattle.hist_rules.specs.CausesNamed.{causes_named}
use Rattle.hist_rules.specs.TakesHaveCalls.{takes_have_calls}
use Rattle.hist_rules.specs.ObjectsListed.{objects_listed}
use Rattle.hist_rules.specs.TakesAddUp.{takes_add_up}

-- the rules in their order
abbrev pub fault_of : Script → Transcript → Option Verdict
fault_of script t =
    first_of
    (calls_exist script t
    ∷ points_rise t
    ∷ replies_match script t
    ∷ calls_in_order t
    ∷ one_open_call script t
    ∷ lost_chunks script t
    ∷ lost_races script t
    ∷ given_up script t
    ∷ causes_named script t
    ∷ takes_have_calls t
    ∷ objects_listed script t
    ∷ takes_add_up script t
    ∷ [])

-- of a script and a transcript
abbrev pub verdict_of : Script → Transcript → Verdict
verdict_of script t = unwrap_or (fault_of script t) Legal
