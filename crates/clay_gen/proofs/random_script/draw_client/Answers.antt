use Rattle.clay_gen.specs.Calls.{call_from, behind_call}
use Rattle.clay_gen.proofs.SequenceLaws.{drawn_more, behind_more}
use Rattle.clay_gen.proofs.random_script.draw_client.Goals as goal

pub loop-made-preserved : goal.loop-made-preserved
loop-made-preserved c = record {
  so_far = drawn_more call_from behind_call c.loop-made._made _ c.loop-made.sequence c.loop-made.calls _ _ c.loop-made.invariant.so_far c.loop-made.invariant.behind c.in_ok-call.ensures.call c.in_ok-push.ensures.ok;
  behind = behind_more behind_call c.loop-made._made _ c.loop-made.sequence _ c.loop-made.invariant.behind c.in_ok-call.ensures.state;
}
