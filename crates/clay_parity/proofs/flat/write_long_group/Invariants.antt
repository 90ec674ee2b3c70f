use Rattle.std.proofs.Common.{ℕ, ◌*◌}
use Rattle.clay_grid.specs.Shape.{chunk_length}
use Rattle.clay_parity.specs.Blocks.{piece_bytes}
use Rattle.clay_parity.specs.Flat.{WritesRows}
use Rattle.clay_parity.proofs.flat.write_long_group.Given as goal

abbrev pub invariant-loop-x : goal.invariant-loop-x
invariant-loop-x l =
    let part : ℕ = l.fn.g.parity_count * l.fn.g.width in
    WritesRows l.x (chunk_length l.fn.g) (l.number * part) part (piece_bytes l.fn.g.parity_count l.fn.g.width l.group) l.fn.out l.out
