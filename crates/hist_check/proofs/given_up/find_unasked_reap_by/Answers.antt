use Rattle.std.proofs.Common.{◌+◌, ℕ, Option, sym, ap, ◌∙◌, take}
use Rattle.std.specs.Prelude.{reverse, count_by, unwrap_or}
use Rattle.hist_rules.specs.Calls.{same_actor}
use Rattle.hist_rules.specs.First.{first_fault_along}
use Rattle.hist_rules.specs.GivenUp.{is_reaped}
use Rattle.hist_tables.specs.Tables.{value_at}
use Rattle.hist_tables.proofs.Faults.{after_fits, after_found, before_more, none_after}
use Rattle.hist_check.proofs.Reaped.{counted_more, reaped_by}
use Rattle.hist_check.proofs.given_up.find_unasked_reap_by.Goals as goal

pub returns-in-Some : goal.returns-in-Some
returns-in-Some c = λ script same.
    let calls = c.args.calls.now in
    let before = reverse (take c.loop-call.call-index calls) in
    let counted = c.unwrap_or-count.ensures ∙ ap (λ (o : Option ℕ). unwrap_or o 0) c.get.ensures in
    after_found (is_reaped script) calls c.loop-call.call-index _ (first_fault_along (is_reaped script) calls) c.in-Some.fault
    (c.loop-call.invariant.so_far script same) c.loop-call-test.true
    (sym (c.in-Some.ensures ∙ reaped_by script before _ _ _ (counted ∙ c.loop-call.invariant.counts _) (c.of-allowed.ensures ∙ same _)))

pub loop-call-preserved : goal.loop-call-preserved
loop-call-preserved c =
    let calls = c.args.calls.now in
    let before = reverse (take c.loop-call.call-index calls) in
    let counted = c.unwrap_or-count.ensures ∙ ap (λ (o : Option ℕ). unwrap_or o 0) c.get.ensures in
    record {
      so_far = λ script same.
          after_fits (is_reaped script) calls c.loop-call.call-index _ (first_fault_along (is_reaped script) calls) (c.loop-call.invariant.so_far script same) c.loop-call-test.true
          (sym (c.in_default.ensures ∙ reaped_by script before _ _ _ (counted ∙ c.loop-call.invariant.counts _) (c.of-allowed.ensures ∙ same _)));
      counts = λ call.
          counted_more (value_at c.loop-call.counts) (value_at c.set.new.self) before _ _ c.loop-call.invariant.counts (ap (λ (n : ℕ). n + 1) counted) c.in_ok-set.ensures call
          ∙ ap (count_by (same_actor call)) (sym (before_more calls c.loop-call.call-index _ c.loop-call-test.true));
    }

pub returns : goal.returns
returns c = λ script same.
    none_after (is_reaped script) c.args.calls.now c.loop-call.call-index (first_fault_along (is_reaped script) c.args.calls.now)
    (c.loop-call.invariant.so_far script same) c.loop-call-test.false
