use Rattle.std.proofs.Common.{◌≡◌, [], ◌∷◌, sym, ◌∙◌}
use Rattle.std.proofs.lemmas.Result.{IfOk-weaker}
use Rattle.hist_rules.specs.First.{first_of}
use Rattle.hist_rules.specs.CallsInOrder.{calls_in_order}
use Rattle.hist_rules.specs.OneOpenCall.{one_open_call}
use Rattle.hist_check.proofs.Groups.{order_tests}
use Rattle.hist_check.proofs.Tests.{found_at, last_decides}
use Rattle.hist_check.proofs.judging.find_wrong_order.Goals as goal

pub returns-in-Some : goal.returns-in-Some
returns-in-Some c = found_at (order_tests c.args.script.now c.args.transcript.now) 0 c.in-Some.fault tt (sym c.in_ok-fault.ensures ∙ c.in-Some.is)

pub returns : goal.returns
returns c =
    IfOk-weaker c.find_wrong_open.result (λ found. found ≡ one_open_call c.args.script.now c.args.transcript.now)
    (λ found. found ≡ first_of (order_tests c.args.script.now c.args.transcript.now))
    (λ found is. is ∙ last_decides (calls_in_order c.args.transcript.now ∷ []) (one_open_call c.args.script.now c.args.transcript.now) ((sym c.in_ok-fault.ensures ∙ c.in_default.is), tt))
    c.find_wrong_open.ensures
