use Rattle.std.proofs.Common.{◌∙◌, sym, take}
use Rattle.std.specs.Prelude.{reverse}
use Rattle.store_map.specs.declared.call_name.CallName.TheVariants.{Client}
use Rattle.hist_rules.specs.First.{first_fault_along}
use Rattle.hist_rules.specs.PointsRise.{line_rises}
use Rattle.hist_tables.proofs.Faults.{after_item_fits, after_item_found, none_after}
use Rattle.hist_check.proofs.Numbers.{point_more, numbers_more}
use Rattle.hist_check.proofs.rising.find_fall.Goals as goal

pub returns-in-Some : goal.returns-in-Some
returns-in-Some c =
    after_item_found line_rises c.args.lines.now c.loop-line.line-index c.line-item.result (first_fault_along line_rises c.args.lines.now) c.in-Some.fault
    c.loop-line.invariant.so_far c.loop-line-test.true c.line-item.is
    (sym (c.in-Some.ensures (reverse (take c.loop-line.line-index c.args.lines.now)) c.loop-line.invariant.point (c.get.ensures ∙ c.loop-line.invariant.numbers (Client c.line-item.result.call))))

pub loop-line-preserved : goal.loop-line-preserved
loop-line-preserved c = record {
  so_far =
      after_item_fits line_rises c.args.lines.now c.loop-line.line-index c.line-item.result (first_fault_along line_rises c.args.lines.now)
      c.loop-line.invariant.so_far c.loop-line-test.true c.line-item.is
      (sym (c.in_default.ensures (reverse (take c.loop-line.line-index c.args.lines.now)) c.loop-line.invariant.point (c.get.ensures ∙ c.loop-line.invariant.numbers (Client c.line-item.result.call))));
  point = point_more c.args.lines.now c.loop-line.line-index c.line-item.result c.loop-line-test.true c.line-item.is;
  numbers =
      numbers_more (λ line. Client line.call) c.loop-line.numbers c.set.new.self c.args.lines.now c.loop-line.line-index c.line-item.result c.loop-line-test.true c.line-item.is
      (λ other. cc (c.in_ok-set.ensures other, c.from.ensures)) c.loop-line.invariant.numbers;
}

pub returns : goal.returns
returns c = none_after line_rises c.args.lines.now c.loop-line.line-index (first_fault_along line_rises c.args.lines.now) c.loop-line.invariant.so_far c.loop-line-test.false
