use Rattle.lost_layers.specs.ErasedRuns.{erased_of, AreSolved}
use Rattle.lost_layers.proofs.pieces_of_missing.solved_layers.Given as goal

abbrev pub invariant-loop-layer : goal.invariant-loop-layer
invariant-loop-layer l = AreSolved (erased_of l.erased) l.layer l.solved.items
