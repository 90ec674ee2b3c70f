use Rattle.std.proofs.Common.{◌≡◌, ℕ, ◌+◌, ◌-◌, ◌*◌, ◌<◌, ◌≤◌, length, sym, subst, ap, arith}
use Rattle.clay_grid.specs.Shape.{layer_count, chunk_length}
use Rattle.code_laws.proofs.Pieces.{piece_fits}
use borrow.Rule.Slice.PartMut.{put_mid}
use Rattle.clay_aloof.specs.Shape.{grid_of, node_of}
use Rattle.clay_aloof.specs.Solved.{HoldsSubchunks}
use Rattle.clay_aloof.specs.Encoded.{HoldsParity}
use Rattle.clay_aloof.specs.Known.{node_bytes}
use Rattle.clay_aloof.proofs.Laid.{no_parity, parity_more}
use Rattle.clay_aloof.proofs.aloof_chunks.couple_chunks.Goals as goal

pub loop-place-init : goal.loop-place-init
loop-place-init c = no_parity c.args.g c.args.plan.now (node_bytes (grid_of c.args.g) c.args.known.now) c.args.parity.now

pub slice_bounds-out-end : goal.slice_bounds-out-end
slice_bounds-out-end c =
    let g = c.args.g in
    let e : ℕ = c.loop-place.place in
    let len : ℕ = chunk_length (grid_of g) in
    let below : e < g.parity_count = omega (arith, c.loop-place-test.true, c.m-place-end.ensures.value) in
    let fits = piece_fits e g.parity_count len below in
    let same : e * c.chunk_len-len.result + c.chunk_len-len.result ≡ e * len + len = ap (λ w. e * w + w) c.chunk_len-len.ensures.value in
    let ends : e * c.chunk_len-len.result + c.chunk_len-len.result ≤ length c.loop-place.parity = omega (arith, same, fits, c.loop-place.auto.parity, c.requires.parity) in
    ends

pub loop-place-preserved : goal.loop-place-preserved
loop-place-preserved c =
    let g = c.args.g in
    let e : ℕ = c.loop-place.place in
    let len : ℕ = chunk_length (grid_of g) in
    let below : e < g.parity_count = omega (arith, c.loop-place-test.true, c.m-place-end.ensures.value) in
    let fits = piece_fits e g.parity_count len below in
    let start : e * len ≤ length c.loop-place.parity = omega (arith, fits, c.loop-place.auto.parity, c.requires.parity) in
    let long : length c.couple_parity.new.chunk ≡ len = omega (arith, c.couple_parity.auto.chunk, c.chunk_len-len.ensures.value, fits, c.loop-place.auto.parity, c.requires.parity) in
    subst (λ w. HoldsParity g c.args.plan.now (node_bytes (grid_of g) c.args.known.now) (e + 1) (put_mid (e * w) (e * w + w - e * w) c.loop-place.parity c.couple_parity.new.chunk)) (sym c.chunk_len-len.ensures.value)
    (parity_more g c.args.plan.now (node_bytes (grid_of g) c.args.known.now) e (e * len + len - e * len) c.loop-place.parity c.couple_parity.new.chunk start long c.loop-place.invariant
    (subst (λ v. HoldsSubchunks (grid_of g) c.args.plan.now (node_bytes (grid_of g) c.args.known.now) (node_of g (v + e)) (layer_count (grid_of g)) c.couple_parity.new.chunk) c.k.ensures.value c.couple_parity.ensures))
