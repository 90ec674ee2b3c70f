use Rattle.std.proofs.Common.{◌≡◌, ℕ, ◌+◌, ◌-◌, ◌*◌, ◌≤◌, length, get_or, ap, ◌∙◌, arith}
use Rattle.std.proofs.lemmas.List.Edits.{get_or-between, length-between}
use Rattle.code_laws.proofs.Pieces.{piece_fits, one_more_piece}
use Rattle.clay_parity.proofs.ShortLemmas.{square_fits}
use Rattle.clay_parity.proofs.short.gather.Goals as goal

pub slice_bounds-copy_from_slice-end : goal.slice_bounds-copy_from_slice-end
slice_bounds-copy_from_slice-end c =
    let w = c.args.width in
    let fits = piece_fits c.loop-d.d c.args.count w c.loop-d-test.true in
    let ends : c.loop-d.d * w + w ≤ length c.loop-d.out = omega (arith, fits, c.loop-d.auto.out, c.requires.out_len) in
    ends

pub slice_bounds-copy_from_slice-end-in-loop-d : goal.slice_bounds-copy_from_slice-end-in-loop-d
slice_bounds-copy_from_slice-end-in-loop-d c =
    let n = c.args.count in
    let w = c.args.width in
    let fits = square_fits n w c.loop-d.d c.args.x c.loop-d-test.true c.requires.place in
    let ends : (c.loop-d.d * n + c.args.x) * w + w ≤ length c.args.rows.now = omega (arith, fits, c.requires.rows_len) in
    ends

pub loop-d-preserved : goal.loop-d-preserved
loop-d-preserved c =
    let n = c.args.count in
    let w = c.args.width in
    let x = c.args.x in
    let d = c.loop-d.d in
    let rows = c.args.rows.now in
    let out = c.loop-d.out in
    let from : ℕ = d * n + x in
    let inside = piece_fits d n w c.loop-d-test.true in
    let fits = square_fits n w d x c.loop-d-test.true c.requires.place in
    let ends : from * w + w ≤ length rows = omega (arith, fits, c.requires.rows_len) in
    let width : from * w + w - from * w ≡ w = omega arith in
    let new = c.copy_from_slice.new.self in
    let long : length new ≡ w = ap length c.copy_from_slice.ensures.after ∙ length-between rows (from * w) (from * w + w) ends ∙ width in
    one_more_piece w d (d * w + w - d * w) (λ d b. get_or rows ((d * n + x) * w + b) 0) out new (omega (arith, inside, c.loop-d.auto.out, c.requires.out_len)) long c.loop-d.invariant
    (λ b h. ap (λ l. get_or l b 0) c.copy_from_slice.ensures.after ∙ get_or-between rows (from * w) (from * w + w) b 0 (omega arith))
