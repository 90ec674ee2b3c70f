use Rattle.std.proofs.Common.{rules, ◌≡◌, ◌<◌, get_or, None, ◌∙◌, sym, arith}
use Rattle.clay_par.proofs.SolvedLemmas.{filled_chunk}
use Rattle.clay_par.proofs.shared_chunks.fill_chunk.Goals as goal

pub returns-in-None : goal.returns-in-None
returns-in-None c =
    let wide = c.requires.plan.nodes.geometry.limits.width.0 in
    let gone : get_or c.args.have.now c.args.c None ≡ None = search rules in
    filled_chunk c.args.g c.args.have.now c.args.c c.args.chunk.now c.write_chunk.new.chunk (omega (arith, wide)) gone c.write_chunk.ensures
