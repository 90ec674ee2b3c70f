use Rattle.std.proofs.Common.{◌+◌, ◌%◌, length, arith}
use Rattle.std.proofs.lemmas.List.FromFn.{fill_by_all}
use Rattle.client_patch.proofs.bytes.count_from.Goals as goal

pub returns : goal.returns
returns c =
    fill_by_all (λ i. (c.args.first + i) % 256) c.loop-byte.piece (length c.args.piece.now) 0 (omega arith)
    (λ k h. c.loop-byte.invariant.1 k (omega arith))
