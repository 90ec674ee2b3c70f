use Rattle.std.proofs.Common.{arith}
use Rattle.session_store.proofs.Stepping.{runs_none, may_step_next, runs_more, over_at_end}
use Rattle.session_store.proofs.alone.run_to_end.Goals as goal

pub loop-made-init : goal.loop-made-init
loop-made-init g c = runs_none c.args.call.now c.args.places.now c.requires

pub make_step-requires : goal.make_step-requires
make_step-requires g c =
    may_step_next c.args.call.now c.loop-made.call c.code.new.call c.args.places.now c.loop-made.places c.loop-made._made c.requires c.loop-made.invariant c.code.ensures

pub loop-made-preserved : goal.loop-made-preserved
loop-made-preserved g c =
    runs_more c.args.call.now c.loop-made.call c.code.new.call c.make_step.new.call c.args.places.now c.loop-made.places c.make_step.new.places c.loop-made._made c.requires c.loop-made.invariant c.code.ensures c.make_step.ensures

pub returns-then-matches-clause-ran : goal.returns-then-matches-clause-ran
returns-then-matches-clause-ran g c = c.loop-made.invariant.ran

pub returns-clause-ran : goal.returns-clause-ran
returns-clause-ran g c = c.loop-made.invariant.ran

pub returns-clause-over : goal.returns-clause-over
returns-clause-over g c = over_at_end c.args.call.now c.loop-made.call c.args.places.now c.loop-made.places c.loop-made._made c.requires c.loop-made.invariant (omega (arith, c.loop-made-test.false))
