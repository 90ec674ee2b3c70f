use Rattle.std.proofs.Common.{◌≡◌, ℕ, ◌<◌, length, get_or, All}
use Rattle.clay_par.specs.Groups.{HasRoom}
use Rattle.clay_par.specs.declared.parity.Group.{Group}
use Rattle.clay_par.proofs.parity.make_groups.Given as goal

abbrev pub invariant-loop-number : goal.invariant-loop-number
invariant-loop-number l = record {
  count : length l.groups.items ≡ l.number;
  numbers : (i : ℕ) (d : Group) → i < l.number → (get_or l.groups.items i d).number ≡ i;
  room : All (HasRoom l.g) l.groups.items;
}
