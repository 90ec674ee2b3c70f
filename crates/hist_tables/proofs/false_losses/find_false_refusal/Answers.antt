use Rattle.std.proofs.Common.{sym}
use Rattle.hist_rules.specs.First.{first_fault}
use Rattle.hist_tables.proofs.Faults.{item_fits, item_found, no_fault}
use Rattle.hist_tables.specs.Lines.{refusal_for_loss}
use Rattle.hist_tables.proofs.false_losses.find_false_refusal.Goals as goal

pub returns-in-Some : goal.returns-in-Some
returns-in-Some c =
    item_found (refusal_for_loss c.args.script.now) c.args.lines.now c.loop-line.line-index c.line-item.result (first_fault (refusal_for_loss c.args.script.now) c.args.lines.now) c.in-Some.fault
    c.loop-line.invariant c.loop-line-test.true c.line-item.is (sym c.in-Some.ensures)

pub loop-line-preserved : goal.loop-line-preserved
loop-line-preserved c =
    item_fits (refusal_for_loss c.args.script.now) c.args.lines.now c.loop-line.line-index c.line-item.result (first_fault (refusal_for_loss c.args.script.now) c.args.lines.now)
    c.loop-line.invariant c.loop-line-test.true c.line-item.is (sym c.in_default.ensures)

pub returns : goal.returns
returns c = no_fault (refusal_for_loss c.args.script.now) c.args.lines.now c.loop-line.line-index (first_fault (refusal_for_loss c.args.script.now) c.args.lines.now) c.loop-line.invariant c.loop-line-test.false
