use Rattle.std.proofs.Common.{◌≡◌, ◌*◌, ◌<◌, length, sym, ap, ◌∙◌, arith}
use Rattle.std.proofs.lemmas.List.{length-replicate}
use Rattle.clay_grid.specs.Shape.{row_count, chunk_length}
use Rattle.code_laws.proofs.Pieces.{written_whole}
use Rattle.code_laws.proofs.Nodes.{node_real, same_chunk}
use Rattle.clay_decode.proofs.plain_missing.missing_chunk.Goals as goal

pub returns-clause-value : goal.returns-clause-value
returns-clause-value c = λ word fits.
    let g = c.args.g in
    let chunk = c.in_ok-chunk.chunk in
    let rows : 0 < row_count g = omega (arith, c.requires.plan.geometry.limits.parity_chunks.0) in
    let wide : 0 < g.width = omega (arith, c.requires.plan.geometry.limits.width.0) in
    let size : c.alpha.result * c.w.result ≡ chunk_length g = λ i. c.alpha.ensures.value i * c.w.ensures.value i in
    let made : length chunk.items ≡ c.alpha.result * c.w.result = ap length c.in_ok-chunk.ensures ∙ simp length-replicate in
    let long : length c.couple_chunk.new.chunk ≡ length chunk.items = omega (arith, c.couple_chunk.auto.chunk, ap length c.deref_mut.ensures.value) in
    written_whole chunk.len chunk.items c.couple_chunk.new.chunk (omega (arith, chunk.ok.0)) long
    ∙ same_chunk g c.args.have.now c.args.c c.node_of_chunk-node.result c.couple_chunk.new.chunk rows wide c.requires.chunk
    (node_real g c.args.c c.node_of_chunk-node.result (sym c.node_of_chunk-node.ensures.value)) (long ∙ made ∙ size) c.couple_chunk.ensures word fits
