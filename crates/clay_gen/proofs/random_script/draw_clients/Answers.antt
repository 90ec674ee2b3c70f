use Rattle.clay_gen.specs.Script.{client_from, behind_client}
use Rattle.clay_gen.proofs.SequenceLaws.{drawn_more, behind_more}
use Rattle.clay_gen.proofs.random_script.draw_clients.Goals as goal

pub loop-made-preserved : goal.loop-made-preserved
loop-made-preserved c = record {
  so_far = drawn_more (client_from c.args.count) (behind_client c.args.count) c.loop-made._made _ c.loop-made.sequence c.loop-made.clients _ _ c.loop-made.invariant.so_far c.loop-made.invariant.behind c.in_ok-client.ensures.part c.in_ok-push.ensures.ok;
  behind = behind_more (behind_client c.args.count) c.loop-made._made _ c.loop-made.sequence _ c.loop-made.invariant.behind c.in_ok-client.ensures.state;
}
