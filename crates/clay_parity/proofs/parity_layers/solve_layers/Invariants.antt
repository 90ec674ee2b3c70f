use Rattle.clay_parity.specs.Blocks.{HoldsGroup}
use Rattle.clay_parity.specs.Solved.{layer_value}
use Rattle.clay_parity.proofs.parity_layers.solve_layers.Given as goal

abbrev pub invariant-loop-digit : goal.invariant-loop-digit
invariant-loop-digit l = HoldsGroup l.fn.g.parity_count l.fn.g.width l.number l.digit (layer_value l.fn.g l.generator.each l.stripe) l.group
