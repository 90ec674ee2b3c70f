use Rattle.std.proofs.Common.{length}
use Rattle.store_core.specs.Shown.{take_lines}
use Rattle.call_steps.specs.CallerCalls.{calling_at}
use Rattle.world_lines.specs.Names.{name_by}
use Rattle.world_lines.proofs.Numbered.{lines_more, names_at}
use Rattle.world_lines.proofs.lines_of_takes.push_callers.Goals as goal

pub push_caller-requires : goal.push_caller-requires
push_caller-requires c =
    (names_at (λ calls. length calls.ended.items) c.args.callers.now c.loop-i.i c.index-callers-i.result c.requires c.loop-i-test.true c.index-callers-i.is).1

pub loop-i-preserved : goal.loop-i-preserved
loop-i-preserved c = λ servers.
    lines_more (calling_at servers) (λ i. take_lines (name_by c.args.role i)) c.args.lines.now c.loop-i.lines c.push_caller.new.lines
    c.args.callers.now c.loop-i.i c.index-callers-i.result c.loop-i-test.true c.index-callers-i.is
    (c.loop-i.invariant servers) (c.in_ok-push_caller.ensures servers)
