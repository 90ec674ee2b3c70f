use Rattle.std.proofs.Common.{◌≡◌, ℕ, ◌+◌, ◌-◌, ◌*◌, ◌<◌, get_or, take, drop, Some, None, sym, ap, ◌∙◌, subst, arith}
use Rattle.std.proofs.lemmas.List.{get_or_read}
use Rattle.clay_grid.specs.Shape.{row_count}
use Rattle.code_laws.specs.Solved.{IsCoupled}
use Rattle.code_laws.proofs.Nodes.{node_real, held_piece}
use Rattle.clay_decode.proofs.plain_layers.piece.Goals as goal

pub returns-in-Some-have-clause-value : goal.returns-in-Some-have-clause-value
returns-in-Some-have-clause-value c =
    let g = c.args.g in
    let w : ℕ = c.w-w.result in
    let facts = c.in-Some.ensures in
    let rows : 0 < row_count g = let some = c.w-w.ensures.geometry.limits.parity_chunks.0 in omega arith in
    let there : get_or c.args.have.now c.in-Some.chunk None ≡ Some c.in-Some-have.bytes =
    sym (get_or_read c.args.have.now c.in-Some.chunk c.index-have-chunk.result (omega (arith, facts.0, c.requires.plan.left.count)) c.index-have-chunk.is None)
    ∙ c.in-Some-have.is in
    let width : c.args.z * w + w - c.args.z * w ≡ g.width = omega (arith, c.w-w.ensures.value) in
    subst (λ l. IsCoupled g c.args.have.now c.args.node c.args.z (take (c.args.z * w + w - c.args.z * w) (drop (c.args.z * w) l))) (sym c.deref.ensures.value)
    (held_piece g c.args.have.now c.in-Some.chunk c.args.node c.args.z (c.args.z * w) c.in-Some-have.bytes rows c.requires.layer
    (node_real g c.in-Some.chunk c.args.node facts.1) there (ap (λ v. c.args.z * v) c.w-w.ensures.value) (c.args.z * w + w - c.args.z * w) width)
