use Rattle.std.proofs.Common.{sym, ap, ◌∙◌, Option}
use Rattle.std.specs.Prelude.{option_and_then}
use Rattle.store_map.specs.declared.call_name.CallName.TheVariants.{Repairer}
use Rattle.hist_rules.specs.Calls.{rebuild_of}
use Rattle.store_map.specs.declared.line.RLine.{RLine}
use Rattle.hist_rules.specs.declared.verdict.Verdict.{Verdict}
use Rattle.hist_rules.specs.First.{first_fault}
use Rattle.hist_rules.specs.CausesNamed.{result_named}
use Rattle.store_map.specs.declared.script.Script.{Script}
use Rattle.store_map.specs.declared.transcript.Transcript.{Transcript}
use Rattle.hist_tables.proofs.Faults.{item_fits, item_found, no_fault}
use Rattle.hist_check.proofs.results.find_false_result.Goals as goal

abbrev rule : Script → Transcript → RLine → Option Verdict
rule script t line = option_and_then (result_named script t (Repairer line.call) line.result) (rebuild_of script line.call)

pub returns-in-Some : goal.returns-in-Some
returns-in-Some c =
    let r = rule c.args.script.now c.args.transcript.now in
    item_found r c.as_slice-lines.result.now c.loop-line.line-index c.line-item.result (first_fault r c.as_slice-lines.result.now)
    c.in-Some.fault c.loop-line.invariant c.loop-line-test.true c.line-item.is (sym c.in-Some.ensures) ∙ ap (first_fault r) c.as_slice-lines.ensures

pub loop-line-preserved : goal.loop-line-preserved
loop-line-preserved c =
    let r = rule c.args.script.now c.args.transcript.now in
    item_fits r c.as_slice-lines.result.now c.loop-line.line-index c.line-item.result (first_fault r c.as_slice-lines.result.now)
    c.loop-line.invariant c.loop-line-test.true c.line-item.is (sym c.in_default.ensures)

pub returns : goal.returns
returns c =
    let r = rule c.args.script.now c.args.transcript.now in
    no_fault r c.as_slice-lines.result.now c.loop-line.line-index (first_fault r c.as_slice-lines.result.now) c.loop-line.invariant c.loop-line-test.false
    ∙ ap (first_fault r) c.as_slice-lines.ensures
