use Rattle.clay_gen.specs.Calls.{rebuild_from, behind_rebuild}
use Rattle.clay_gen.proofs.SequenceLaws.{drawn_more, behind_more}
use Rattle.clay_gen.proofs.random_script.draw_repairers.Goals as goal

pub loop-made-preserved : goal.loop-made-preserved
loop-made-preserved c = record {
  so_far = drawn_more rebuild_from behind_rebuild c.loop-made._made _ c.loop-made.sequence c.loop-made.calls _ _ c.loop-made.invariant.so_far c.loop-made.invariant.behind c.in_ok-rebuild.ensures.rebuild c.in_ok-push.ensures.ok;
  behind = behind_more behind_rebuild c.loop-made._made _ c.loop-made.sequence _ c.loop-made.invariant.behind c.in_ok-rebuild.ensures.state;
}
