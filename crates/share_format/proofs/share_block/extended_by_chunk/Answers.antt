use Rattle.std.proofs.Common.{◌≡◌, ℕ, ◌<◌, ◌++◌, sym, ap, subst, ◌∙◌, arith}
use Rattle.crc64.specs.Remainder.{checksum_of}
use Rattle.clay_grid.specs.Shape.{layer_count}
use Rattle.clay_aloof.specs.Shape.{grid_of}
use Rattle.share_format.proofs.Summed.{chunk_more, chunk_all}
use Rattle.share_format.proofs.share_block.extended_by_chunk.Goals as goal

pub loop-layer-preserved : goal.loop-layer-preserved
loop-layer-preserved c = λ before begun is.
    let layer : ℕ = c.loop-layer.layer in
    let layers : c.alpha-layer-end.result ≡ layer_count (grid_of c.args.g) = c.alpha-layer-end.ensures.value ∙ ap layer_count c.grid.ensures.value in
    chunk_more c.args.g c.args.block.now (λ k. (c.type_inv.block k).fits) is before layer c.loop-layer.sum c.u64_at.result c.combined-sum.result
    (subst (λ n. layer < n) layers c.loop-layer-test.true) c.u64_at.ensures (c.loop-layer.invariant before begun is)
    (λ xs ys long. c.combined-sum.ensures xs ys (long ∙ sym c.requires.combiner))

pub returns : goal.returns
returns c = λ before begun is.
    let layers : c.alpha-layer-end.result ≡ layer_count (grid_of c.args.g) = c.alpha-layer-end.ensures.value ∙ ap layer_count c.grid.ensures.value in
    let all : c.loop-layer.layer ≡ c.alpha-layer-end.result = omega (arith, c.loop-layer-test.false, c.loop-layer.auto.layer-end) in
    c.loop-layer.invariant before begun is
    ∙ ap (λ l. checksum_of (before ++ l)) (chunk_all c.args.g c.args.block.now (λ k. (c.type_inv.block k).fits) is c.loop-layer.layer (all ∙ layers))
