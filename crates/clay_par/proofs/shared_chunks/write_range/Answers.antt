use Rattle.std.proofs.Common.{◌≡◌, length, subst, sym, arith}
use Rattle.clay_model.specs.Left.{Completes}
use Rattle.clay_lanes.specs.Recovered.{HoldsLayerRows}
use Rattle.clay_par.proofs.shared_chunks.write_range.Goals as goal

pub couple_chunk-requires-clause-holds : goal.couple_chunk-requires-clause-holds
couple_chunk-requires-clause-holds c = λ n h.
    let range = c.args.range.now in
    let long : c.len.result ≡ length range.values.items = omega (arith, c.len.ensures, range.values.ok.0) in
    subst (λ l. HoldsLayerRows c.args.g (λ word. Completes c.args.g c.args.have.now word) range.at c.len.result c.args.plan.now.points.items n l) (sym c.deref.ensures.value)
    (subst (λ k. HoldsLayerRows c.args.g (λ word. Completes c.args.g c.args.have.now word) range.at k c.args.plan.now.points.items n range.solved.items) (sym long)
    (c.requires.range.solved n h))

pub returns-clause-written : goal.returns-clause-written
returns-clause-written c = λ z b hz hb. c.couple_chunk.ensures.written z b hz (omega (arith, hb, c.len.ensures, c.args.range.now.values.ok.0))
