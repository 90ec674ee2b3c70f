use Rattle.store_core.specs.Outcomes.{result_of}
use Rattle.store_core.specs.Shown.{repair_line}
use Rattle.call_steps.specs.CallerCalls.{ended_of}
use Rattle.world_lines.proofs.Numbered.{lines_more_of}
use Rattle.world_lines.proofs.refused.push_repairer.Goals as goal

pub loop-number-preserved : goal.loop-number-preserved
loop-number-preserved c = λ servers.
    lines_more_of (ended_of servers) (λ number ended. repair_line (record { repairer = c.args.actor; number = number }) (result_of ended.outcome)) c.args.lines.now c.loop-number.lines c.push_repair.new.lines
    c.args.repairer.now.ended.items c.deref-ended-items.result.now c.loop-number.number c.ended-item.result c.deref-ended-items.ensures.value c.loop-number-test.true c.ended-item.is
    (c.loop-number.invariant servers) c.in_ok-push_repair.ensures
