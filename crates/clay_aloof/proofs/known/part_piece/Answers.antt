use Rattle.std.proofs.Common.{◌≡◌, ℕ, ◌+◌, ◌-◌, ◌*◌, ◌≤◌, length, ap, arith}
use Rattle.clay_aloof.proofs.KnownBytes.{cut_byte}
use Rattle.clay_aloof.proofs.known.part_piece.Goals as goal

pub slice_bounds-result-end : goal.slice_bounds-result-end
slice_bounds-result-end c =
    let g = c.args.g in
    let same : c.args.place * c.w-w.result + c.w-w.result ≡ c.args.place * g.width + g.width = λ k. c.args.place * c.w-w.ensures.value k + c.w-w.ensures.value k in
    let ends : c.args.place * c.w-w.result + c.w-w.result ≤ length c.args.part.now = omega (arith, same, c.requires) in
    ends

pub returns-clause-bytes : goal.returns-clause-bytes
returns-clause-bytes c = λ b hb.
    let g = c.args.g in
    let start : ℕ = c.args.place * c.w-w.result in
    let start_is : start ≡ c.args.place * g.width = ap (λ n. c.args.place * n) c.w-w.ensures.value in
    let width : start + c.w-w.result - start ≡ g.width = omega (arith, c.w-w.ensures.value) in
    let at : start + b ≡ c.args.place * g.width + b = omega (arith, start_is) in
    cut_byte start (start + c.w-w.result - start) g.width (c.args.place * g.width + b) b c.args.part.now width at hb
