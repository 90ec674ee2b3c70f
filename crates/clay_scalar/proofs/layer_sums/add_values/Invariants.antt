use Rattle.std.proofs.Common.{◌≡◌}
use Rattle.clay_field.specs.Field.{power_of}
use Rattle.clay_scalar.proofs.Parts.{HasAdded}
use Rattle.clay_scalar.proofs.layer_sums.add_values.Given as goal

abbrev pub invariant-loop-j : goal.invariant-loop-j
invariant-loop-j l = record {
  next : l.power ≡ power_of l.point l.j;
  added : HasAdded l.w l.point l.j l.values l.initial.sums l.sums;
}
