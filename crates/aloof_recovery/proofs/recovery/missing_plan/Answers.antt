use Rattle.std.proofs.Common.{◌≤◌, false, get_or, sym, subst, ap, ◌∙◌}
use Rattle.aloof_recovery.proofs.recovery.missing_plan.Goals as goal

pub whole_plan-requires-clause-few : goal.whole_plan-requires-clause-few
whole_plan-requires-clause-few c = subst (λ n. n ≤ c.args.g.parity_count) (sym c.in_ok-erased.ensures.count) c.requires.few

pub returns : goal.returns
returns c =
    let plan = c.in_ok-plan.ensures in
    record {
      aloof = plan.aloof;
      sound = plan.sound;
      few = plan.few;
      erased_are = λ i h. ap (λ l. get_or l i false) plan.erased_are ∙ c.in_ok-erased.ensures.value i h;
      all = plan.all;
    }
