use Rattle.std.proofs.Common.{[], length}
use Rattle.store_core.specs.Outcomes.{cause_of}
use Rattle.store_core.specs.Shown.{lines_of_ended, refused_line}
use Rattle.call_steps.specs.CallerCalls.{calling_at}
use Rattle.world_lines.proofs.Numbered.{lines_more, names_at}
use Rattle.world_lines.proofs.refused.refused_lines.Goals as goal

pub push_client-requires : goal.push_client-requires
push_client-requires c =
    (names_at (λ calls. length calls.ended.items) c.args.clients.now c.loop-i.i c.index-clients-i.result c.requires c.loop-i-test.true c.index-clients-i.is).1

pub loop-i-preserved : goal.loop-i-preserved
loop-i-preserved c = λ servers.
    lines_more (calling_at servers) (λ i. lines_of_ended (λ number ended. refused_line (record { client = i; number = number }) (cause_of ended.outcome))) [] c.loop-i.lines c.push_client.new.lines
    c.args.clients.now c.loop-i.i c.index-clients-i.result c.loop-i-test.true c.index-clients-i.is
    (c.loop-i.invariant servers) (c.in_ok-push_client.ensures servers)
