use Rattle.std.specs.Prelude.{⊤}
use Rattle.run_seats.proofs.workers.has_sweeper.Given as goal

abbrev pub invariant-loop-actor : goal.invariant-loop-actor
invariant-loop-actor l = ⊤
