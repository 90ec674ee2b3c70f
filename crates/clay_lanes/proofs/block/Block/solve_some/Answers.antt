use Rattle.std.proofs.Common.{◌≡◌, ℕ, ◌+◌, ◌-◌, ◌*◌, ◌≤◌, List, length, subst, sym, ap, ◌∙◌, arith}
use Rattle.code_laws.proofs.Pieces.{piece_fits}
use Rattle.lane_repair.specs.Views.{pieces_of}
use Rattle.clay_lanes.specs.Present.{FitsChunks}
use Rattle.clay_lanes.specs.Recovered.{AreRowsOfLayers}
use Rattle.clay_lanes.proofs.Recovery.{rows_written}
use Rattle.clay_lanes.proofs.block.Block.solve_some.Goals as goal

pub slice_bounds-out-end : goal.slice_bounds-out-end
slice_bounds-out-end c =
    let block = c.args.self.now in
    let i : ℕ = c.loop-i.i in
    let part : ℕ = c.len.result * block.len in
    let count : c.len.result ≡ length block.plan.now.points.items = omega (arith, c.len.ensures, block.plan.now.points.ok.0) in
    let long : length c.loop-i.rows ≡ length c.args.layers.now * part =
    c.loop-i.auto.rows ∙ c.requires.rows_len ∙ ap (λ n. length c.args.layers.now * (n * block.len)) (sym count) in
    let fits : i * part + part ≤ length c.args.layers.now * part = piece_fits i (length c.args.layers.now) part c.loop-i-test.true in
    omega (arith, long, fits)

pub loop-i-preserved : goal.loop-i-preserved
loop-i-preserved c =
    let block = c.args.self.now in
    let fits : List (List ℕ) → Type 0 = λ word. FitsChunks block.g (pieces_of block.have) word in
    let points = block.plan.now.points.items in
    let i : ℕ = c.loop-i.i in
    let part : ℕ = c.len.result * block.len in
    let count : c.len.result ≡ length points = omega (arith, c.len.ensures, block.plan.now.points.ok.0) in
    let start_is : i * part ≡ i * (length points * block.len) = ap (λ n. i * (n * block.len)) count in
    let new = c.solve_layer.new.rows in
    let long : length c.loop-i.rows ≡ length c.args.layers.now * (length points * block.len) = c.loop-i.auto.rows ∙ c.requires.rows_len in
    let fitting : i * part + part ≤ length c.args.layers.now * part = piece_fits i (length c.args.layers.now) part c.loop-i-test.true in
    let same : length c.args.layers.now * part ≡ length c.args.layers.now * (length points * block.len) = ap (λ n. length c.args.layers.now * (n * block.len)) count in
    let room : i * part + part ≤ length c.loop-i.rows = omega (arith, fitting, same, long) in
    let width : i * part + part - i * part ≡ part = omega arith in
    let new_long : length new ≡ part = omega (arith, c.solve_layer.auto.rows, room, width) in
    rows_written block.g fits block.at block.len points c.args.layers.now (length c.args.layers.now) i (i * part) (i * part + part - i * part) c.loop-i.rows new
    c.loop-i-test.true start_is long (new_long ∙ ap (λ n. n * block.len) count) c.solve_layer.ensures c.loop-i.invariant

pub returns : goal.returns
returns c =
    let block = c.args.self.now in
    let all : c.loop-i.i ≡ length c.args.layers.now = omega (arith, c.loop-i-test.false, c.loop-i.auto.i-end) in
    subst (λ n. AreRowsOfLayers block.g (λ word. FitsChunks block.g (pieces_of block.have) word) block.at block.len block.plan.now.points.items c.args.layers.now n c.loop-i.rows) all c.loop-i.invariant
