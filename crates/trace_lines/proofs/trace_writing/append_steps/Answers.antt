use Rattle.trace_lines.proofs.Numbered.{written_more}
use Rattle.trace_lines.proofs.trace_writing.append_steps.Goals as goal

pub loop-number-preserved : goal.loop-number-preserved
loop-number-preserved c =
    written_more c.args.out.now.items c.loop-number.out.items c.append_step.new.out.items c.args.steps.now c.loop-number.number _ c.loop-number-test.true
    c.loop-number.invariant c.in_ok-append_step.ensures
