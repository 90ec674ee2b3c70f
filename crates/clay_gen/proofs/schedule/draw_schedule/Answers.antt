use Rattle.clay_gen.specs.Steps.{step_from, behind_step}
use Rattle.clay_gen.proofs.SequenceLaws.{drawn_more, behind_more}
use Rattle.clay_gen.proofs.schedule.draw_schedule.Goals as goal

pub loop-made-preserved : goal.loop-made-preserved
loop-made-preserved c = record {
  so_far = drawn_more step_from behind_step c.loop-made._made _ c.loop-made.sequence c.loop-made.steps _ _ c.loop-made.invariant.so_far c.loop-made.invariant.behind c.draw_step-step.ensures.step c.in_ok-push.ensures.ok;
  behind = behind_more behind_step c.loop-made._made _ c.loop-made.sequence _ c.loop-made.invariant.behind c.draw_step-step.ensures.state;
}
