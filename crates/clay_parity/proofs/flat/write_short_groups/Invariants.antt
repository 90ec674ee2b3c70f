use Rattle.clay_parity.specs.Solved.{layer_value}
use Rattle.clay_parity.specs.Flat.{HoldsGroups}
use Rattle.clay_parity.proofs.flat.write_short_groups.Given as goal

abbrev pub invariant-loop-number : goal.invariant-loop-number
invariant-loop-number l = HoldsGroups l.fn.g (layer_value l.fn.g l.generator.each l.stripe) l.number l.out
