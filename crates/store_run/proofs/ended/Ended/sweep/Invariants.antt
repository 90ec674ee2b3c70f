use Rattle.store_run.specs.Ended.{IsEnded}
use Rattle.store_run.specs.LastSweep.{steps_left}
use Rattle.store_run.proofs.ended.Ended.sweep.Given as goal

abbrev pub invariant-loop-self : goal.invariant-loop-self
invariant-loop-self g l = IsEnded g.script l.self

abbrev pub decreases-loop-self : goal.decreases-loop-self
decreases-loop-self g l = steps_left g.script l.self

abbrev pub ghost-sweep_step : goal.ghost-sweep_step
ghost-sweep_step g a = g.script
