use Rattle.std.proofs.Common.{◌≤◌, sym, subst, ◌∙◌}
use Rattle.std.specs.Option.{option_map}
use Rattle.std.proofs.lemmas.List.{length-map}
use Rattle.std.proofs.lemmas.Result.{IfOk-weaker}
use Rattle.clay_model.specs.Left.{parts}
use Rattle.code_laws.specs.Solved.{is_erased}
use Rattle.clay_lanes.specs.Present.{is_gone}
use Rattle.clay_lanes.specs.Recovered.{IsPlanFor, IsLanePlan}
use Rattle.clay_lanes.proofs.Shown.{bytes_of, count_none, gone_erased, plan_same}
use Rattle.clay_lanes.proofs.recovery_plan.make_plan.Goals as goal

pub plan_of-requires-clause-count : goal.plan_of-requires-clause-count
plan_of-requires-clause-count c = length-map c.args.have.now (option_map bytes_of) ∙ c.requires.count

pub plan_of-requires-clause-few : goal.plan_of-requires-clause-few
plan_of-requires-clause-few c = subst (λ n. n ≤ c.args.g.parity_count) (sym (count_none bytes_of c.args.have.now)) c.requires.few

pub returns : goal.returns
returns c =
    let g = c.args.g in
    let have = c.args.have.now in
    IfOk-weaker c.plan_of.result (IsPlanFor g (is_gone g (parts have))) (IsLanePlan g have) (λ plan is. record {
      count = c.requires.count;
      lengths = c.requires.lengths;
      nodes = plan_same g (is_gone g (parts have)) (is_erased g have) plan (gone_erased g have) is;
    }) c.plan_of.ensures
