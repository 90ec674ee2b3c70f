use Rattle.std.proofs.Common.{◌≡◌, ℕ, ◌+◌, ◌-◌, ◌*◌, ◌/◌, ◌%◌, ◌≤◌, length, get_or, ◌∙◌, arith}
use Rattle.std.proofs.lemmas.List.Edits.{length-between}
use Rattle.code_laws.proofs.Pieces.{piece_fits, one_more_piece}
use Rattle.clay_parity.proofs.ShortLemmas.{piece_at}
use Rattle.clay_parity.proofs.short.transpose.Goals as goal

pub slice_bounds-gather-end : goal.slice_bounds-gather-end
slice_bounds-gather-end c =
    let n = c.args.count in
    let w = c.args.width in
    let fits = piece_fits c.loop-x.x n (n * w) c.loop-x-test.true in
    let ends : c.loop-x.x * (n * w) + n * w ≤ length c.loop-x.out = omega (arith, fits, c.loop-x.auto.out, c.requires.out_len) in
    ends

pub loop-x-preserved : goal.loop-x-preserved
loop-x-preserved c =
    let n = c.args.count in
    let w = c.args.width in
    let x = c.loop-x.x in
    let len : ℕ = n * w in
    let rows = c.args.rows.now in
    let out = c.loop-x.out in
    let new = c.gather.new.out in
    let fits = piece_fits x n len c.loop-x-test.true in
    let out_long : length out ≡ n * len = c.loop-x.auto.out ∙ c.requires.out_len in
    let width : x * len + len - x * len ≡ len = omega arith in
    let long : length new ≡ len = c.gather.auto.out ∙ length-between out (x * len) (x * len + len) (omega arith) ∙ width in
    one_more_piece len x (x * len + len - x * len) (λ x o. get_or rows ((o / w * n + x) * w + o % w) 0) out new (omega arith) long c.loop-x.invariant
    (λ o h. piece_at w n (λ d b. get_or rows ((d * n + x) * w + b) 0) new c.gather.ensures o h)
