use Rattle.session_store.specs.Sweeping.{Sweeps, sweeps_left_in}
use Rattle.session_store.proofs.session_sweeps.sweep_all.Given as goal

abbrev pub invariant-loop-places : goal.invariant-loop-places
invariant-loop-places l = Sweeps l.initial.places l.sweeper l.places

abbrev pub decreases-loop-places : goal.decreases-loop-places
decreases-loop-places l = sweeps_left_in l.sweeper l.places
