use Rattle.std.proofs.Common.{◌≡◌, ℕ, List, Bor, map, length, sym, subst, ap, ◌∙◌}
use Rattle.lost_read.specs.Read.{IsReadable}
use Rattle.clay_c.specs.Lost.{piece_count, pieces_cut}
use Rattle.clay_c.proofs.PiecesCut.{cut_readable}
use Rattle.clay_c.proofs.laid.write_run.Goals as goal

pub read_pieces-requires-clause-readable : goal.read_pieces-requires-clause-readable
read_pieces-requires-clause-readable c =
    let g = c.args.placed.now.g in
    let run = c.args.placed.now.run in
    let bytes = c.args.bytes.now in
    let cut : map (λ (piece : Bor (List ℕ)). piece.now) c.deref.result.now ≡ pieces_cut g.width bytes (piece_count g run) =
    ap (map (λ (piece : Bor (List ℕ)). piece.now)) c.deref.ensures.value ∙ c.in_ok-pieces.ensures ∙ (λ k. pieces_cut (c.w.ensures.value k) bytes (c.requires.count k)) in
    subst (λ pieces. IsReadable g run pieces (length c.args.subchunks.now)) (sym cut) (cut_readable g run bytes c.args.subchunks.now c.requires.placed.run c.requires.lengths)
