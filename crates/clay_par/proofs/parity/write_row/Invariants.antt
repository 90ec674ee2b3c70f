use Rattle.std.proofs.Common.{◌≡◌, ℕ, ◌*◌, ◌/◌, ◌%◌, ◌<◌, get_or}
use Rattle.clay_parity.specs.Blocks.{coupled_of}
use Rattle.clay_par.specs.Groups.{HoldGroups}
use Rattle.clay_par.proofs.parity.write_row.Given as goal

abbrev pub invariant-loop-number : goal.invariant-loop-number
invariant-loop-number l =
    (value : ℕ → ℕ → ℕ → ℕ) → HoldGroups l.fn.g value l.fn.groups
    → (o : ℕ) → o < l.number * (l.fn.g.parity_count * l.fn.g.width) → get_or l.chunk o 0 ≡ coupled_of l.fn.g.parity_count value l.fn.row (o / l.fn.g.width) (o % l.fn.g.width)
