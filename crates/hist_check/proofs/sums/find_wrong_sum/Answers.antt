use Rattle.std.proofs.Common.{sym, ap, ◌∙◌}
use Rattle.hist_rules.specs.First.{first_fault}
use Rattle.hist_rules.specs.TakesAddUp.{server_adds_up}
use Rattle.hist_tables.proofs.Faults.{line_fits, line_found, no_fault}
use Rattle.hist_check.proofs.sums.find_wrong_sum.Goals as goal

pub returns-in-Some : goal.returns-in-Some
returns-in-Some c =
    let r = server_adds_up c.args.script.now c.args.transcript.now in
    line_found r c.as_slice-lines.result.now c.loop-line.line-index _ (first_fault r c.as_slice-lines.result.now)
    c.in-Some.fault c.loop-line.invariant c.loop-line-test.true (sym c.in-Some.ensures) ∙ ap (first_fault r) c.as_slice-lines.ensures

pub loop-line-preserved : goal.loop-line-preserved
loop-line-preserved c =
    let r = server_adds_up c.args.script.now c.args.transcript.now in
    line_fits r c.as_slice-lines.result.now c.loop-line.line-index _ (first_fault r c.as_slice-lines.result.now)
    c.loop-line.invariant c.loop-line-test.true (sym c.in_default.ensures)

pub returns : goal.returns
returns c =
    let r = server_adds_up c.args.script.now c.args.transcript.now in
    no_fault r c.as_slice-lines.result.now c.loop-line.line-index (first_fault r c.as_slice-lines.result.now) c.loop-line.invariant c.loop-line-test.false
    ∙ ap (first_fault r) c.as_slice-lines.ensures
