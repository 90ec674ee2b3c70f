use Rattle.std.proofs.Common.{◌≡◌, ℕ, ◌+◌, ◌-◌, ◌*◌, ◌<◌, ◌≤◌, length, None, IfSome, subst, ap, arith}
use Rattle.clay_grid.specs.Shape.{row_count, layer_count, chunk_length}
use Rattle.code_laws.proofs.Nodes.{node_real}
use Rattle.code_laws.proofs.Pieces.{piece_fits}
use Rattle.lane_repair.specs.Views.{pieces_of}
use Rattle.clay_lanes.proofs.Recovery.{held_piece}
use Rattle.clay_lanes.proofs.block.Block.piece.Goals as goal

pub slice_bounds-result-end : goal.slice_bounds-result-end
slice_bounds-result-end c =
    let g = c.args.self.now.g in
    let pieces = pieces_of c.args.self.now.have in
    let start : ℕ = c.args.z * c.w.result + c.args.self.now.at in
    let facts = c.in-Some.ensures in
    let below : c.in-Some.chunk < length pieces = omega (arith, facts.0, c.requires.block.chunks.count) in
    let long : length c.in-Some-get.bytes.now ≡ chunk_length g =
    subst (λ o. IfSome o (λ p. length p ≡ chunk_length g)) c.in-Some-get.ensures (c.requires.block.chunks.lengths c.in-Some.chunk None below) in
    let fits = piece_fits c.args.z (layer_count g) g.width c.requires.layer in
    let same : c.args.z * c.w.result ≡ c.args.z * g.width = ap (λ w. c.args.z * w) c.w.ensures.value in
    let ends : start + c.args.self.now.len ≤ length c.in-Some-get.bytes.now = omega (arith, long, fits, same, c.requires.block.within) in
    ends

pub returns-in-Some-get-clause-value : goal.returns-in-Some-get-clause-value
returns-in-Some-get-clause-value c =
    let g = c.args.self.now.g in
    let start : ℕ = c.args.z * c.w.result + c.args.self.now.at in
    let facts = c.in-Some.ensures in
    let rows : 0 < row_count g = let some = c.w.ensures.geometry.limits.parity_chunks.0 in omega arith in
    let width : start + c.args.self.now.len - start ≡ c.args.self.now.len = omega arith in
    held_piece g (pieces_of c.args.self.now.have) c.in-Some.chunk c.args.node c.args.z c.args.self.now.at c.args.self.now.len start (start + c.args.self.now.len - start) c.in-Some-get.bytes.now rows c.requires.layer
    (node_real g c.in-Some.chunk c.args.node facts.1) c.in-Some-get.ensures (ap (λ v. c.args.z * v + c.args.self.now.at) c.w.ensures.value) width
