use Rattle.std.proofs.Common.{◌≡◌, [], ◌∷◌, sym, ◌∙◌}
use Rattle.std.proofs.lemmas.Result.{IfOk-weaker}
use Rattle.hist_rules.specs.First.{first_of}
use Rattle.hist_rules.specs.LostChunks.{lost_chunks}
use Rattle.hist_rules.specs.LostRaces.{lost_races}
use Rattle.hist_rules.specs.GivenUp.{given_up}
use Rattle.hist_rules.specs.CausesNamed.{causes_named}
use Rattle.hist_check.proofs.Groups.{cause_tests}
use Rattle.hist_check.proofs.Tests.{found_at, last_decides}
use Rattle.hist_check.proofs.judging.find_false_cause.Goals as goal

pub returns-in-Some : goal.returns-in-Some
returns-in-Some c = found_at (cause_tests c.args.script.now c.args.transcript.now) 0 c.in-Some.fault tt (sym c.in_ok-fault.ensures ∙ c.in-Some.is)

pub returns-in-Some-find_false_race : goal.returns-in-Some-find_false_race
returns-in-Some-find_false_race c =
    found_at (cause_tests c.args.script.now c.args.transcript.now) 1 c.in-Some-find_false_race.fault ((sym c.in_ok-fault.ensures ∙ c.in_default.is), tt) (sym c.in-Some-find_false_race.ensures)

pub returns-in-Some-2 : goal.returns-in-Some-2
returns-in-Some-2 c =
    found_at (cause_tests c.args.script.now c.args.transcript.now) 2 c.in-Some-2.fault
    ((sym c.in_ok-fault.ensures ∙ c.in_default.is), (sym c.in_default-find_false_race.ensures, tt)) (sym c.in_ok-fault-2.ensures ∙ c.in-Some-2.is)

pub returns : goal.returns
returns c =
    IfOk-weaker c.find_false_result.result (λ found. found ≡ causes_named c.args.script.now c.args.transcript.now)
    (λ found. found ≡ first_of (cause_tests c.args.script.now c.args.transcript.now))
    (λ found is.
    is
    ∙ last_decides (lost_chunks c.args.script.now c.args.transcript.now ∷ lost_races c.args.script.now c.args.transcript.now ∷ given_up c.args.script.now c.args.transcript.now ∷ [])
    (causes_named c.args.script.now c.args.transcript.now)
    ((sym c.in_ok-fault.ensures ∙ c.in_default.is), (sym c.in_default-find_false_race.ensures, ((sym c.in_ok-fault-2.ensures ∙ c.in_default-2.is), tt))))
    c.find_false_result.ensures
