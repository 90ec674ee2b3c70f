use Rattle.std.proofs.Common.{◌≡◌, ◌∙◌, min, length, take, ap, arith}
use Rattle.std.proofs.lemmas.List.{take_min}
use Rattle.frame_bytes.proofs.lengths.listed.Goals as goal

pub returns-clause-listed : goal.returns-clause-listed
returns-clause-listed c =
    let count : c.min-count.result ≡ min 14000 (length c.args.lost.now) = omega (arith, c.min-count.ensures) in
    ap (λ n. take n c.args.lost.now) count ∙ take_min 14000 c.args.lost.now
