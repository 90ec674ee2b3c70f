use Rattle.std.proofs.Common.{ℕ, length, arith}
use Rattle.std.proofs.lemmas.Nat.{mul-le}
use Rattle.clay_parity.proofs.parity_layers.solve_block.Goals as goal

pub slice_bounds-column-end : goal.slice_bounds-column-end
slice_bounds-column-end c =
    let len : ℕ = length c.args.values.now in
    let room = mul-le c.q-q.result len 4 len (omega (arith, c.if-q-lt4.true)) (omega arith) in
    omega (arith, room, c.requires.column_len)
