use Rattle.std.proofs.Common.{◌∙◌, sym, take}
use Rattle.std.specs.Prelude.{reverse, find}
use Rattle.hist_rules.specs.Calls.{same_actor}
use Rattle.hist_rules.specs.Named.{answered_calls}
use Rattle.hist_rules.specs.First.{first_fault_along}
use Rattle.hist_tables.proofs.Faults.{after_fits, after_found, none_after, or_first, or_second}
use Rattle.hist_check.proofs.Numbers.{numbers_put}
use Rattle.hist_check.proofs.Rules.{open_fault}
use Rattle.std.proofs.lemmas.List.{get_or_default}
use Rattle.hist_check.proofs.open_calls.find_early_by.Goals as goal

pub returns-in-Some : goal.returns-in-Some
returns-in-Some c =
    after_found (open_fault (answered_calls c.args.transcript.now)) c.args.calls.now c.loop-call.call-index _ (first_fault_along (open_fault (answered_calls c.args.transcript.now)) c.args.calls.now) c.in-Some.fault
    c.loop-call.invariant.so_far c.loop-call-test.true
    (or_first _ _ c.in-Some.fault (sym (c.in-Some.ensures (find (same_actor _) (reverse (take c.loop-call.call-index c.args.calls.now))) (c.get.ensures ∙ c.loop-call.invariant.firsts _))))

pub returns-in-Some-2 : goal.returns-in-Some-2
returns-in-Some-2 c =
    after_found (open_fault (answered_calls c.args.transcript.now)) c.args.calls.now c.loop-call.call-index _ (first_fault_along (open_fault (answered_calls c.args.transcript.now)) c.args.calls.now) c.in-Some-2.fault
    c.loop-call.invariant.so_far c.loop-call-test.true
    (or_second _ _ _ (sym (c.in_default.ensures (find (same_actor _) (reverse (take c.loop-call.call-index c.args.calls.now))) (c.get.ensures ∙ c.loop-call.invariant.firsts _))) (sym c.in_ok-fault.ensures.found ∙ c.in-Some-2.is))

pub loop-call-preserved : goal.loop-call-preserved
loop-call-preserved c = record {
  so_far =
      after_fits (open_fault (answered_calls c.args.transcript.now)) c.args.calls.now c.loop-call.call-index _ (first_fault_along (open_fault (answered_calls c.args.transcript.now)) c.args.calls.now)
      c.loop-call.invariant.so_far c.loop-call-test.true
      (or_second _ _ _ (sym (c.in_default.ensures (find (same_actor _) (reverse (take c.loop-call.call-index c.args.calls.now))) (c.get.ensures ∙ c.loop-call.invariant.firsts _))) (sym c.in_ok-fault.ensures.found ∙ c.in_default-2.is));
  reached = c.in_ok-fault.ensures.reached;
  firsts =
      numbers_put (λ call. call) c.loop-call.firsts c.set.new.self c.args.calls.now c.loop-call.call-index c.from.result _ c.loop-call-test.true
      c.in_ok-set.ensures (get_or_default c.args.calls.now c.loop-call.call-index _ _ c.loop-call-test.true) (c.from.ensures ∙ c.number_of.ensures) c.loop-call.invariant.firsts;
}

pub returns : goal.returns
returns c = none_after (open_fault (answered_calls c.args.transcript.now)) c.args.calls.now c.loop-call.call-index (first_fault_along (open_fault (answered_calls c.args.transcript.now)) c.args.calls.now) c.loop-call.invariant.so_far c.loop-call-test.false
