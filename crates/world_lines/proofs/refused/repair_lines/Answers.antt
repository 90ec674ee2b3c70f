use Rattle.std.proofs.Common.{[], length}
use Rattle.store_core.specs.Outcomes.{result_of}
use Rattle.store_core.specs.Shown.{lines_of_ended, repair_line}
use Rattle.call_steps.specs.CallerCalls.{calling_at}
use Rattle.world_lines.proofs.Numbered.{lines_more, names_at}
use Rattle.world_lines.proofs.refused.repair_lines.Goals as goal

pub push_repairer-requires : goal.push_repairer-requires
push_repairer-requires c =
    (names_at (λ calls. length calls.ended.items) c.args.repairers.now c.loop-i.i c.index-repairers-i.result c.requires c.loop-i-test.true c.index-repairers-i.is).1

pub loop-i-preserved : goal.loop-i-preserved
loop-i-preserved c = λ servers.
    lines_more (calling_at servers) (λ i. lines_of_ended (λ number ended. repair_line (record { repairer = i; number = number }) (result_of ended.outcome))) [] c.loop-i.lines c.push_repairer.new.lines
    c.args.repairers.now c.loop-i.i c.index-repairers-i.result c.loop-i-test.true c.index-repairers-i.is
    (c.loop-i.invariant servers) (c.in_ok-push_repairer.ensures servers)
