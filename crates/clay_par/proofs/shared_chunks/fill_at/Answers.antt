use Rattle.std.proofs.Common.{◌≡◌, ◌/◌, ◌<◌, subst, sym, ap, ◌∙◌, arith}
use Rattle.std.proofs.lemmas.Nat.{div_below}
use Rattle.clay_grid.specs.Shape.{chunk_count, chunk_length}
use Rattle.clay_par.specs.Solved.{IsFilled}
use Rattle.clay_par.proofs.SolvedLemmas.{some_bytes}
use Rattle.clay_par.proofs.shared_chunks.fill_at.Goals as goal

pub fill_chunk-requires-clause-chunk : goal.fill_chunk-requires-clause-chunk
fill_chunk-requires-clause-chunk c =
    let g = c.args.g in
    subst (λ n. c.args.start / n < chunk_count g) (sym c.chunk_len.ensures.value)
    (div_below c.args.start (chunk_length g) (chunk_count g) (some_bytes g c.chunk_len.ensures.geometry) c.requires.start)

pub returns : goal.returns
returns c =
    subst (λ n. IsFilled c.args.g c.args.have.now (c.args.start / n) c.args.chunk.now c.fill_chunk.new.chunk) c.chunk_len.ensures.value c.fill_chunk.ensures
