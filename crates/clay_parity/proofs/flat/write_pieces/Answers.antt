use Rattle.std.proofs.Common.{◌≡◌, ℕ, ◌+◌, ◌-◌, ◌*◌, ◌<◌, ◌≤◌, length, take, drop, subst, sym, ap, ◌∙◌, arith}
use Rattle.std.proofs.lemmas.List.Edits.{length-between}
use borrow.Rule.Slice.PartMut.{put_mid}
use Rattle.code_laws.specs.Columns.{HoldsPieces}
use Rattle.code_laws.proofs.Pieces.{piece_fits, one_more_piece}
use Rattle.clay_parity.specs.Blocks.{coupled_byte}
use Rattle.clay_parity.proofs.ShortLemmas.{piece_at}
use Rattle.clay_parity.proofs.flat.write_pieces.Goals as goal

pub slice_bounds-write_piece-end : goal.slice_bounds-write_piece-end
slice_bounds-write_piece-end c =
    let g = c.args.g in
    let d = c.loop-digit.digit in
    let below : d < g.parity_count = subst (λ n. d < n) c.q-digit-end.ensures.value c.loop-digit-test.true in
    let fits = piece_fits d g.parity_count g.width below in
    let same : d * c.w-w.result + c.w-w.result ≡ d * g.width + g.width = ap (λ p. d * p + p) c.w-w.ensures.value in
    let ends : d * c.w-w.result + c.w-w.result ≤ length c.loop-digit.out = omega (arith, c.loop-digit.auto.out, c.requires.out_len) in
    ends

pub loop-digit-preserved : goal.loop-digit-preserved
loop-digit-preserved c =
    let g = c.args.g in
    let m : ℕ = g.parity_count in
    let w : ℕ = g.width in
    let d = c.loop-digit.digit in
    let out = c.loop-digit.out in
    let new = c.write_piece.new.out in
    let value = coupled_byte m w c.args.group.now c.args.x in
    let width : w ≡ c.w-w.result = sym c.w-w.ensures.value in
    let below : d < m = subst (λ n. d < n) c.q-digit-end.ensures.value c.loop-digit-test.true in
    let fits = piece_fits d m w below in
    let out_long : length out ≡ m * w = c.loop-digit.auto.out ∙ c.requires.out_len in
    let size : d * w + w - d * w ≡ w = omega arith in
    let long : length new ≡ w =
    c.write_piece.auto.out
    ∙ (λ i. length (take (d * sym width i + sym width i - d * sym width i) (drop (d * sym width i) out)))
    ∙ length-between out (d * w) (d * w + w) (omega arith) ∙ size in
    subst (λ p. HoldsPieces w (d + 1) value (put_mid (d * p) (d * p + p - d * p) out new)) width
    (one_more_piece w d (d * w + w - d * w) value out new (omega arith) long c.loop-digit.invariant c.write_piece.ensures)

pub returns : goal.returns
returns c = λ o h.
    let g = c.args.g in
    let all : c.loop-digit.digit ≡ g.parity_count = omega (arith, c.loop-digit-test.false, c.q-digit-end.ensures.value) in
    piece_at g.width g.parity_count (coupled_byte g.parity_count g.width c.args.group.now c.args.x) c.loop-digit.out
    (subst (λ n. HoldsPieces g.width n (coupled_byte g.parity_count g.width c.args.group.now c.args.x) c.loop-digit.out) all c.loop-digit.invariant) o h
