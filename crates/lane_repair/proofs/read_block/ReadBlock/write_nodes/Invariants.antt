use Rattle.lane_repair.specs.Pieces.{HoldsNodes}
use Rattle.lane_repair.specs.Views.{FitsPieces, pieces_of}
use Rattle.lane_repair.proofs.read_block.ReadBlock.write_nodes.Given as goal

abbrev pub invariant-loop-x : goal.invariant-loop-x
invariant-loop-x l = HoldsNodes l.self.g (λ word. FitsPieces l.self.g l.self.plan.now.lost (pieces_of l.self.parts) word) l.self.at l.self.len l.self.plan.now.erased.items l.first l.self.z l.x l.values
