use Rattle.std.proofs.Common.{ℕ, ◌++◌, replicate, unwrap_or, ap, ◌∙◌}
use Rattle.store_map.specs.declared.call_name.CallName.{CallName}
use Rattle.store_core.specs.Shown.{take_line}
use Rattle.call_steps.specs.CallerCalls.{ended_of}
use Rattle.world_lines.specs.Names.{name_by}
use Rattle.world_lines.proofs.Numbered.{lines_more_of}
use Rattle.world_lines.proofs.lines_of_takes.push_ended.Goals as goal

pub loop-number-preserved : goal.loop-number-preserved
loop-number-preserved c = λ servers.
    lines_more_of (ended_of servers) (λ number ended. take_line (name_by c.args.role c.args.actor number) ended.takes) c.args.lines.now c.loop-number.lines c.push_takes.new.lines
    c.args.caller.now.ended.items c.deref-ended-items.result.now c.loop-number.number c.ended-item.result c.deref-ended-items.ensures.value c.loop-number-test.true c.ended-item.is
    (c.loop-number.invariant servers)
    (c.in_ok-push_takes.ensures servers
    ∙ ap (λ (name : CallName). c.loop-number.lines ++ take_line name (unwrap_or c.ended-item.result.takes (replicate {A = ℕ} servers 0))) c.call.ensures)
