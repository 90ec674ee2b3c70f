use Rattle.lost_read.specs.MissingReadings.{run_of, Fits}
use Rattle.lost_read.proofs.MissingReadLaws.{HoldsSums}
use Rattle.lost_read.proofs.missing_reading.Reading.solve_layer.Given as goal

abbrev pub invariant-loop-node : goal.invariant-loop-node
invariant-loop-node l = HoldsSums (run_of l.self).g (Fits l.self) (run_of l.self).unknown l.self.plan.now.points.items l.self.plan.now.generator.each l.layer l.node l.rows
