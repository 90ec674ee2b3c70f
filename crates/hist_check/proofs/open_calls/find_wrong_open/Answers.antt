use Rattle.std.proofs.Common.{◌≡◌, refl, ◌∙◌}
use Rattle.std.proofs.lemmas.Result.{IfOk-weaker}
use Rattle.hist_rules.specs.First.{first_fault_along}
use Rattle.hist_rules.specs.Named.{answered_calls}
use Rattle.hist_rules.specs.OneOpenCall.{unanswered_calls, one_open_call}
use Rattle.hist_check.proofs.Rules.{open_fault, set_of, effect_found, early_found}
use Rattle.hist_check.proofs.open_calls.find_wrong_open.Goals as goal

pub returns-in-Some : goal.returns-in-Some
returns-in-Some c =
    effect_found c.args.script.now c.args.transcript.now c.as_slice.result.now c.in-Some.fault c.as_slice.ensures
    (c.in-Some.ensures c.args.transcript.now
    (set_of c.in_ok-set.set c.deref.result.now (unanswered_calls c.args.transcript.now) (c.deref.ensures.value ∙ c.in_ok-waiting.ensures) c.in_ok-set.ensures))

pub returns : goal.returns
returns c =
    IfOk-weaker c.find_early.result (λ found. found ≡ first_fault_along (open_fault (answered_calls c.args.transcript.now)) c.deref-2.result.now) (λ found. found ≡ one_open_call c.args.script.now c.args.transcript.now)
    (λ found is.
    early_found c.args.script.now c.args.transcript.now c.as_slice.result.now (answered_calls c.args.transcript.now) c.deref-2.result.now found c.as_slice.ensures
    (c.in_default.ensures c.args.transcript.now
    (set_of c.in_ok-set.set c.deref.result.now (unanswered_calls c.args.transcript.now) (c.deref.ensures.value ∙ c.in_ok-waiting.ensures) c.in_ok-set.ensures))
    refl (c.deref-2.ensures.value ∙ c.in_ok-waiting.ensures) is)
    c.find_early.ensures
