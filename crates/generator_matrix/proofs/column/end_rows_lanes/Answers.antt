use Rattle.std.proofs.Common.{arith, ◌+◌, ◌≤◌, length, bit_xor}
use Rattle.clay_kernels.proofs.ProgressLemmas.{HasLanes-op, HasLanes-chunk, HasLanes-left, IsDone-block}
use Rattle.generator_matrix.proofs.column.end_rows_lanes.Goals as goal

pub loop-at-preserved : goal.loop-at-preserved
loop-at-preserved c =
    let i = c.loop-at.invariant in
    let at = c.loop-at.at in
    let n = length c.args.d3.now in
    let room : at + 16 ≤ n = omega (arith, c.loop-at-test.true) in
    let v3 = HasLanes-chunk 16 at c.args.d3.now room in
    let o0 = HasLanes-left 16 c.args.start at n _ _ _ room i.a0 in
    let o1 = HasLanes-left 16 c.args.start at n _ _ _ room i.a1 in
    let o2 = HasLanes-left 16 c.args.start at n _ _ _ room i.a2 in
    let e1 = HasLanes-op 16 bit_xor o1 v3 in
    record {
      a0 = IsDone-block 16 c.args.start at n _ _ _ _ room i.a0 (HasLanes-op 16 bit_xor (HasLanes-op 16 bit_xor o0 e1) o2);
      a1 = IsDone-block 16 c.args.start at n _ _ _ _ room i.a1 e1;
      a2 = IsDone-block 16 c.args.start at n _ _ _ _ room i.a2 (HasLanes-op 16 bit_xor o2 v3);
    }
