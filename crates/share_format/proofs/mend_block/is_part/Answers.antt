use Rattle.std.proofs.Common.{ℕ, ◌≤◌, ◌<◌, ◌+◌, ◌*◌, length, get_or, refl, sym, subst, inl, inr, arith}
use Rattle.std.proofs.lemmas.Bool.{cases_eq}
use Rattle.share_format.specs.Blocks.{subchunk, HasChecksum}
use Rattle.share_format.proofs.Laid.{within_chunk}
use Rattle.share_format.proofs.mend_block.is_part.Goals as goal

pub is_piece-requires-clause-part : goal.is_piece-requires-clause-part
is_piece-requires-clause-part c =
    let number = c.loop-number.number in
    let count = length c.args.layers.now in
    let width = c.args.g.width in
    let less : number < count = omega (arith, c.loop-number-test.true) in
    let fits : number * width + width ≤ count * width = within_chunk number count width less in
    omega (arith, fits, c.requires.part)

pub loop-number-preserved : goal.loop-number-preserved
loop-number-preserved c = λ k h.
    let g = c.args.g in
    let layers = c.args.layers.now in
    let front = c.args.front.now in
    let part = c.args.part.now in
    let number : ℕ = c.loop-number.number in
    let here : HasChecksum front (get_or layers number 0) (subchunk g part number) = c.if-not-is_piece.ensures.0 refl in
    elim (cases_eq k number) [
      | inl same ↦ subst (λ j. HasChecksum front (get_or layers j 0) (subchunk g part j)) (sym same) here
      | inr differs ↦ c.loop-number.invariant k (omega (arith, h, differs))
    ]
