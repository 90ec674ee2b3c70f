use Rattle.std.proofs.Common.{sym, ap, ◌∙◌}
use Rattle.hist_rules.specs.CallsExist.{call_exists}
use Rattle.hist_rules.specs.First.{first_fault}
use Rattle.hist_tables.proofs.Faults.{item_fits, item_found, no_fault}
use Rattle.hist_check.proofs.calls_exist.find_unknown_call.Goals as goal

pub returns-in-Some : goal.returns-in-Some
returns-in-Some g c =
    item_found (λ line. call_exists c.args.script.now (g.L.NamesCall.call line)) c.args.lines.now c.loop-line.line-index c.line-item.result
    (first_fault (λ line. call_exists c.args.script.now (g.L.NamesCall.call line)) c.args.lines.now) c.in-Some.fault c.loop-line.invariant c.loop-line-test.true c.line-item.is
    (ap (call_exists c.args.script.now) (sym c.call.ensures) ∙ sym c.in-Some.ensures)

pub loop-line-preserved : goal.loop-line-preserved
loop-line-preserved g c =
    item_fits (λ line. call_exists c.args.script.now (g.L.NamesCall.call line)) c.args.lines.now c.loop-line.line-index c.line-item.result
    (first_fault (λ line. call_exists c.args.script.now (g.L.NamesCall.call line)) c.args.lines.now) c.loop-line.invariant c.loop-line-test.true c.line-item.is
    (ap (call_exists c.args.script.now) (sym c.call.ensures) ∙ sym c.in_default.ensures)

pub returns : goal.returns
returns g c =
    no_fault (λ line. call_exists c.args.script.now (g.L.NamesCall.call line)) c.args.lines.now c.loop-line.line-index
    (first_fault (λ line. call_exists c.args.script.now (g.L.NamesCall.call line)) c.args.lines.now) c.loop-line.invariant c.loop-line-test.false
