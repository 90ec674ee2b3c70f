use Rattle.std.proofs.Common.{ℕ, ◌<◌, ◌≤◌, Bool, get_or, None, is_some, length, arith}
use Rattle.clay_grid.specs.Score.{count_below}
use Rattle.clay_grid.proofs.Counting.{count_below-le}
use Rattle.clay_aloof.proofs.lost_chunk.helper_count.Goals as goal

pub overflow_add-count : goal.overflow_add-count
overflow_add-count c =
    let test : ℕ → Bool = λ i. is_some (get_or c.args.parts.now i None) in
    let most : count_below c.loop-part.part-index test ≤ c.loop-part.part-index = count_below-le c.loop-part.part-index test in
    let within : c.loop-part.part-index < length c.args.parts.now = omega (arith, c.loop-part-test.true) in
    omega (arith, c.loop-part.invariant, most, within, c.requires)
