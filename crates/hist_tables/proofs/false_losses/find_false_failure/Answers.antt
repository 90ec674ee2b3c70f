use Rattle.std.proofs.Common.{sym}
use Rattle.hist_rules.specs.First.{first_fault}
use Rattle.hist_tables.proofs.Faults.{item_fits, item_found, no_fault}
use Rattle.hist_tables.specs.Lines.{result_for_loss}
use Rattle.hist_tables.proofs.false_losses.find_false_failure.Goals as goal

pub returns-in-Some : goal.returns-in-Some
returns-in-Some c =
    item_found (result_for_loss c.args.script.now) c.args.lines.now c.loop-line.line-index c.line-item.result (first_fault (result_for_loss c.args.script.now) c.args.lines.now) c.in-Some.fault
    c.loop-line.invariant c.loop-line-test.true c.line-item.is (sym c.in-Some.ensures)

pub loop-line-preserved : goal.loop-line-preserved
loop-line-preserved c =
    item_fits (result_for_loss c.args.script.now) c.args.lines.now c.loop-line.line-index c.line-item.result (first_fault (result_for_loss c.args.script.now) c.args.lines.now)
    c.loop-line.invariant c.loop-line-test.true c.line-item.is (sym c.in_default.ensures)

pub returns : goal.returns
returns c = no_fault (result_for_loss c.args.script.now) c.args.lines.now c.loop-line.line-index (first_fault (result_for_loss c.args.script.now) c.args.lines.now) c.loop-line.invariant c.loop-line-test.false
