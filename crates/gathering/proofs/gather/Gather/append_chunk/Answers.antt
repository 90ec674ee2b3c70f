use Rattle.std.proofs.Common.{◌≡◌, ◌-◌, ◌*◌, ℕ, ap, subst, ◌∙◌}
use Rattle.clay_grid.specs.Shape.{chunk_length}
use Rattle.store_core.specs.Gathering.{Part}
use Rattle.gathering.specs.Aims.{IfRange}
use Rattle.gathering.specs.Made.{IsPieceOf}
use Rattle.gathering.specs.Gathers.{GatherOf}
use Rattle.gathering.proofs.Serving.{piece_is, chunk_appends, on_ok}
use Rattle.gathering.proofs.gather.Gather.append_chunk.Goals as goal

pub returns : goal.returns
returns c =
    let w = c.args.self.now in
    let long : ℕ = c.chunk_len-long.result in
    let piece : IsPieceOf w.course.geometry w.course.aim c.args.chunk (c.max-from.result - c.args.chunk * long) (c.min-to.result - c.args.chunk * long) =
    piece_is w.course.geometry w.stamp.content w.course.aim c.args.chunk c.max-from.result c.min-to.result long c.bounds-start.result c.requires.range c.requires.there
    (subst (λ (v : GatherOf). IfRange v.course.aim (λ (part : Part). c.bounds-start.result ≡ (part.start, part.end))) c.self.view_is c.bounds-start.ensures)
    (c.chunk_len-long.ensures.value ∙ ap chunk_length (c.geometry.ensures ∙ ap (λ (v : GatherOf). v.course.geometry) c.self.view_is))
    c.max-from.ensures c.min-to.ensures c.if-to-from.false
    in
    on_ok c.append_piece.result c.append_piece.ensures
    (chunk_appends w.course.geometry w.stamp.content w.course.aim c.args.chunk (c.max-from.result - c.args.chunk * long) (c.min-to.result - c.args.chunk * long)
    c.args.bytes.now.items c.append_piece.new.bytes.items piece)
