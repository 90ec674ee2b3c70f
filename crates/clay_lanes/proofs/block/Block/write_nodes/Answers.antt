use Rattle.std.proofs.Common.{◌≡◌, ℕ, ◌+◌, ◌-◌, ◌*◌, ◌<◌, List, length, take, drop, subst, ◌∙◌, arith}
use Rattle.std.proofs.lemmas.List.Edits.{length-between}
use Rattle.clay_grid.specs.Shape.{row_count}
use Rattle.code_laws.proofs.Pieces.{piece_fits}
use Rattle.lane_repair.specs.Views.{pieces_of}
use Rattle.lane_repair.proofs.NodeRows.{one_more_node}
use Rattle.clay_lanes.specs.Present.{FitsChunks}
use Rattle.clay_lanes.proofs.block.Block.write_nodes.Goals as goal

pub loop-x-preserved : goal.loop-x-preserved
loop-x-preserved c =
    let g = c.args.self.now.g in
    let plan = c.args.self.now.plan.now in
    let fits : List (List ℕ) → Type 0 = λ word. FitsChunks g (pieces_of c.args.self.now.have) word in
    let len : ℕ = c.args.self.now.len in
    let x = c.loop-x.x in
    let values = c.loop-x.values in
    let out = c.write_value.new.out in
    let below : x < row_count g = subst (λ n. x < n) c.q-x-end.ensures.value c.loop-x-test.true in
    let long : length values ≡ row_count g * len = c.loop-x.auto.values ∙ c.requires.values_len in
    let fit = piece_fits x (row_count g) len below in
    let width : x * len + len - x * len ≡ len = omega arith in
    let part : length (take (x * len + len - x * len) (drop (x * len) values)) ≡ len = length-between values (x * len) (x * len + len) (omega arith) ∙ width in
    one_more_node g fits c.args.self.now.at len plan.erased.items c.args.first c.args.z x (x * len + len - x * len) values out (omega arith) (c.write_value.auto.out ∙ part) c.loop-x.invariant c.write_value.ensures

pub slice_bounds-out-end : goal.slice_bounds-out-end
slice_bounds-out-end c =
    let g = c.args.self.now.g in
    let len : ℕ = c.args.self.now.len in
    let below : c.loop-x.x < row_count g = subst (λ n. c.loop-x.x < n) c.q-x-end.ensures.value c.loop-x-test.true in
    let fits = piece_fits c.loop-x.x (row_count g) len below in
    let long : length c.loop-x.values ≡ row_count g * len = c.loop-x.auto.values ∙ c.requires.values_len in
    omega arith
