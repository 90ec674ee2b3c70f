use Rattle.std.proofs.Common.{arith}
use Rattle.std.proofs.lemmas.Nat.{mul-le}
use Rattle.clay_lanes.proofs.block.Block.solve_layer.Goals as goal

pub slice_bounds-column-end : goal.slice_bounds-column-end
slice_bounds-column-end c =
    let room = mul-le c.q-q.result c.args.self.now.len 4 c.args.self.now.len (omega (arith, c.if-q-lt4.true)) (omega arith) in
    omega (arith, room)
