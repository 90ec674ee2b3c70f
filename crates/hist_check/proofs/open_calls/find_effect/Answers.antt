use Rattle.std.proofs.Common.{sym}
use Rattle.store_map.specs.declared.call_name.CallName.TheVariants.{Client}
use Rattle.hist_rules.specs.First.{first_fault}
use Rattle.hist_rules.specs.OneOpenCall.{is_unanswered}
use Rattle.hist_tables.proofs.Faults.{item_fits, item_found, no_fault}
use Rattle.hist_check.proofs.open_calls.find_effect.Goals as goal

pub returns-in-Some : goal.returns-in-Some
returns-in-Some c = λ t whole.
    item_found (λ line. is_unanswered c.args.script.now t (Client line.call) line.reply) c.args.lines.now c.loop-line.line-index c.line-item.result
    (first_fault (λ line. is_unanswered c.args.script.now t (Client line.call) line.reply) c.args.lines.now) c.in-Some.fault (c.loop-line.invariant t whole) c.loop-line-test.true c.line-item.is
    (sym (c.in-Some.ensures t whole))

pub loop-line-preserved : goal.loop-line-preserved
loop-line-preserved c = λ t whole.
    item_fits (λ line. is_unanswered c.args.script.now t (Client line.call) line.reply) c.args.lines.now c.loop-line.line-index c.line-item.result
    (first_fault (λ line. is_unanswered c.args.script.now t (Client line.call) line.reply) c.args.lines.now) (c.loop-line.invariant t whole) c.loop-line-test.true c.line-item.is
    (sym (c.in_default.ensures t whole))

pub returns : goal.returns
returns c = λ t whole.
    no_fault (λ line. is_unanswered c.args.script.now t (Client line.call) line.reply) c.args.lines.now c.loop-line.line-index
    (first_fault (λ line. is_unanswered c.args.script.now t (Client line.call) line.reply) c.args.lines.now) (c.loop-line.invariant t whole) c.loop-line-test.false
