use Rattle.std.proofs.Common.{◌≡◌, length, subst, sym, ap, ◌∙◌, arith}
use Rattle.std.proofs.lemmas.List.{length-replicate}
use Rattle.clay_grid.specs.Shape.{chunk_length}
use Rattle.clay_par.specs.Solved.{IsChunk}
use Rattle.clay_par.proofs.Makes.{written_all}
use Rattle.clay_par.proofs.SolvedLemmas.{whole_chunk}
use Rattle.clay_par.proofs.shared_chunks.missing_chunk.Goals as goal

pub returns : goal.returns
returns c =
    let shape = c.args.g in
    let before = c.in_ok-chunk.chunk in
    let new = c.write_chunk.new.chunk in
    let geometry = c.chunk_len.ensures.geometry in
    let size : length new ≡ length before.items = c.write_chunk.auto.chunk ∙ ap length c.deref_mut.ensures.value in
    let long : length new ≡ chunk_length shape = size ∙ ap length c.in_ok-chunk.ensures ∙ length-replicate c.chunk_len.result 0 ∙ c.chunk_len.ensures.value in
    subst (IsChunk shape c.args.have.now c.args.c) (sym (written_all before.len before.items new (omega (arith, before.ok.0)) size))
    (whole_chunk shape c.args.have.now c.args.c new (let wide = geometry.limits.width.0 in omega (arith, wide)) c.requires.chunk long c.write_chunk.ensures)
