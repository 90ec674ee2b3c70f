use Rattle.std.proofs.Common.{◌≡◌, [], ◌∷◌, sym, ◌∙◌}
use Rattle.std.proofs.lemmas.Result.{IfOk-weaker}
use Rattle.hist_rules.specs.First.{first_of}
use Rattle.hist_rules.specs.TakesHaveCalls.{takes_have_calls}
use Rattle.hist_rules.specs.ObjectsListed.{objects_listed}
use Rattle.hist_rules.specs.TakesAddUp.{takes_add_up}
use Rattle.hist_check.proofs.Groups.{end_tests, objects_are}
use Rattle.hist_check.proofs.Tests.{found_at, last_decides}
use Rattle.hist_check.proofs.judging.find_wrong_end.Goals as goal

pub returns-in-Some : goal.returns-in-Some
returns-in-Some c = found_at (end_tests c.args.script.now c.args.transcript.now) 0 c.in-Some.fault tt (sym c.in_ok-fault.ensures ∙ c.in-Some.is)

pub returns-in-Some-2 : goal.returns-in-Some-2
returns-in-Some-2 c =
    found_at (end_tests c.args.script.now c.args.transcript.now) 1 c.in-Some-2.fault ((sym c.in_ok-fault.ensures ∙ c.in_default.is), tt)
    (sym (c.in_ok-fault-2.ensures ∙ objects_are c.args.script.now c.args.transcript.now c.args.map.now.objects c.as_slice.result.now c.requires.map c.as_slice.ensures) ∙ c.in-Some-2.is)

pub returns : goal.returns
returns c =
    IfOk-weaker c.find_wrong_sum.result (λ found. found ≡ takes_add_up c.args.script.now c.args.transcript.now) (λ found. found ≡ first_of (end_tests c.args.script.now c.args.transcript.now))
    (λ found is.
    is
    ∙ last_decides (takes_have_calls c.args.transcript.now ∷ objects_listed c.args.script.now c.args.transcript.now ∷ []) (takes_add_up c.args.script.now c.args.transcript.now) (
      (sym c.in_ok-fault.ensures ∙ c.in_default.is),
      ((sym (c.in_ok-fault-2.ensures ∙ objects_are c.args.script.now c.args.transcript.now c.args.map.now.objects c.as_slice.result.now c.requires.map c.as_slice.ensures) ∙ c.in_default-2.is), tt),
    ))
    c.find_wrong_sum.ensures
