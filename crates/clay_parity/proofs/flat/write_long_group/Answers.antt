use Rattle.std.proofs.Common.{◌≡◌, ℕ, ◌+◌, ◌-◌, ◌*◌, ◌<◌, ◌≤◌, length, take, drop, subst, sym, ◌∙◌, arith}
use Rattle.std.proofs.lemmas.List.Edits.{length-between}
use borrow.Rule.Slice.PartMut.{put_mid}
use Rattle.clay_grid.specs.Shape.{layer_count, chunk_length}
use Rattle.clay_parity.specs.Blocks.{piece_bytes}
use Rattle.clay_parity.specs.Flat.{WritesRows}
use Rattle.clay_parity.proofs.FlatLemmas.{group_inside, row_inside, rows_more}
use Rattle.clay_parity.proofs.flat.write_long_group.Goals as goal

pub slice_bounds-write_pieces-end : goal.slice_bounds-write_pieces-end
slice_bounds-write_pieces-end c =
    let g = c.args.g in
    let x = c.loop-x.x in
    let n = c.args.number in
    let part : ℕ = g.parity_count * g.width in
    let size : c.q.result * c.w.result ≡ part = λ i. c.q.ensures.value i * c.w.ensures.value i in
    let from : x * c.chunk_len-chunk_len.result + n * (c.q.result * c.w.result) ≡ x * chunk_length g + n * part = λ i. x * c.chunk_len-chunk_len.ensures.value i + n * size i in
    let below : x < g.parity_count = subst (λ m. x < m) c.q-x-end.ensures.value c.loop-x-test.true in
    let inside = row_inside x g.parity_count (chunk_length g) (n * part) part below (group_inside g.parity_count g.width n (layer_count g) c.requires.in_layers) in
    let ends : x * c.chunk_len-chunk_len.result + n * (c.q.result * c.w.result) + c.q.result * c.w.result ≤ length c.loop-x.out =
    omega (arith, from, size, inside, c.loop-x.auto.out, c.requires.out_len) in
    ends

pub loop-x-preserved : goal.loop-x-preserved
loop-x-preserved c =
    let g = c.args.g in
    let x = c.loop-x.x in
    let n = c.args.number in
    let out = c.loop-x.out in
    let new = c.write_pieces.new.out in
    let len : ℕ = chunk_length g in
    let part : ℕ = g.parity_count * g.width in
    let value = piece_bytes g.parity_count g.width c.args.group.now in
    let size : part ≡ c.q.result * c.w.result = λ i. sym c.q.ensures.value i * sym c.w.ensures.value i in
    let from : x * len + n * part ≡ x * c.chunk_len-chunk_len.result + n * (c.q.result * c.w.result) = λ i. x * sym c.chunk_len-chunk_len.ensures.value i + n * size i in
    let below : x < g.parity_count = subst (λ m. x < m) c.q-x-end.ensures.value c.loop-x-test.true in
    let within = group_inside g.parity_count g.width n (layer_count g) c.requires.in_layers in
    let inside = row_inside x g.parity_count len (n * part) part below within in
    let out_long : length out ≡ g.parity_count * len = c.loop-x.auto.out ∙ c.requires.out_len in
    let a : ℕ = x * len + n * part in
    let width : a + part - a ≡ part = omega arith in
    let long : length new ≡ part =
    c.write_pieces.auto.out
    ∙ (λ i. length (take (sym from i + sym size i - sym from i) (drop (sym from i) out)))
    ∙ length-between out a (a + part) (omega arith) ∙ width in
    let rows = WritesRows (x + 1) len (n * part) part value c.args.out.now in
    subst (λ v. rows (put_mid v (v + c.q.result * c.w.result - v) out new)) from
    (subst (λ p. rows (put_mid a (a + p - a) out new)) size
    (rows_more x len (n * part) part (a + part - a) value c.args.out.now out new within (omega arith) width long c.write_pieces.ensures c.loop-x.invariant))

pub returns : goal.returns
returns c =
    let g = c.args.g in
    let part : ℕ = g.parity_count * g.width in
    let all : c.loop-x.x ≡ g.parity_count = omega (arith, c.loop-x-test.false, c.q-x-end.ensures.value) in
    subst (λ m. WritesRows m (chunk_length g) (c.args.number * part) part (piece_bytes g.parity_count g.width c.args.group.now) c.args.out.now c.loop-x.out) all c.loop-x.invariant
