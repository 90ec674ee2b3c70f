use Rattle.std.proofs.Common.{length, ◌∙◌, arith}
use Rattle.std.proofs.lemmas.List.FromFn.{fill_by_all}
use Rattle.client_patch.proofs.Ramps.{constant}
use Rattle.client_patch.proofs.bytes.repeat.Goals as goal

pub returns : goal.returns
returns c =
    fill_by_all (λ i. c.args.value) c.loop-byte.piece (length c.args.piece.now) 0 (omega arith) (λ k h. c.loop-byte.invariant k (omega arith))
    ∙ constant c.args.value 0 (length c.args.piece.now)
