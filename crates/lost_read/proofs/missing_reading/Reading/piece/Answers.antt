use Rattle.std.proofs.Common.{◌≡◌, ℕ, ◌<◌, List, [], Bor, MatchOption, map, length, get_or, subst, sym, ap, ◌∙◌}
use Rattle.std.proofs.lemmas.List.{length-map}
use Rattle.clay_grid.specs.Shape.{chunk_count, node_of_chunk, IsVirtual}
use Rattle.code_laws.proofs.Nodes.{node_virtual}
use Rattle.lost_layers.proofs.PieceLaws.{some_rows}
use Rattle.lost_read.proofs.ReadLaws.{virtual_bytes}
use Rattle.lost_layers.specs.ErasedPieces.{is_piece, pieces_of}
use Rattle.lost_read.specs.MissingReadings.{run_of}
use Rattle.lost_read.proofs.MissingReadLaws.{piece_bytes}
use Rattle.lost_read.proofs.missing_reading.Reading.piece.Goals as goal

pub place-requires-clause-read : goal.place-requires-clause-read
place-requires-clause-read c =
    let e = run_of c.args.self.now in
    ap (λ i. is_piece e i c.args.layer) c.in-Some.ensures.1 ∙ c.requires.read

pub bytes_at-requires : goal.bytes_at-requires
bytes_at-requires c = subst (λ n. c.place.result < n) (sym c.requires.reading.count) c.place.ensures.within

pub returns-clause-len : goal.returns-clause-len
returns-clause-len c =
    let pieces = c.args.self.now.pieces.now in
    ap length c.bytes_at.ensures
    ∙ c.requires.reading.lengths c.place.result []
    (subst (λ n. c.place.result < n) (sym (length-map pieces (λ (piece : Bor (List ℕ)). piece.now) ∙ c.requires.reading.count)) c.place.ensures.within)

pub returns-clause-value : goal.returns-clause-value
returns-clause-value c =
    let e = run_of c.args.self.now in
    let pieces : List (List ℕ) = map (λ (piece : Bor (List ℕ)). piece.now) c.args.self.now.pieces.now in
    let rows = some_rows e.g c.requires.reading.run.placed.geometry in
    λ word fits b h.
    ap (λ l. get_or l b 0) c.bytes_at.ensures
    ∙ piece_bytes e.g (pieces_of e) pieces word c.place.result c.in-Some.chunk c.args.layer c.args.node b rows c.requires.layer c.in-Some.ensures.1 c.place.ensures fits h

pub returns-in_default-clause-value : goal.returns-in_default-clause-value
returns-in_default-clause-value c =
    let plan = c.args.self.now.plan.now in
    let g = (run_of c.args.self.now).g in
    let virtual : IsVirtual g c.args.node =
    subst (λ o. MatchOption o (IsVirtual g c.args.node) (λ chunk. (chunk < chunk_count g) × (node_of_chunk g chunk ≡ c.args.node))) c.in_default.is c.chunk_of_node.ensures in
    λ word fits b h.
    virtual_bytes g word c.args.node c.args.layer b c.deref.result.now (node_virtual g c.args.node virtual) (c.deref.ensures.value ∙ c.requires.reading.planned.empty) h
