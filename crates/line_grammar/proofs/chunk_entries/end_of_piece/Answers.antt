use Rattle.line_grammar.proofs.Pieces.{piece_to_feed, piece_to_end}
use Rattle.line_grammar.proofs.chunk_entries.end_of_piece.Goals as goal

pub returns-in-Some-clause-piece : goal.returns-in-Some-clause-piece
returns-in-Some-clause-piece c =
    let first = c.in-Some.ensures in
    piece_to_feed c.args.text.now c.args.at c.in-Some.length first.0.high (λ k low high. first.0.before k low high) first.1

pub returns-in-None-clause-piece : goal.returns-in-None-clause-piece
returns-in-None-clause-piece c = piece_to_end c.args.text.now c.args.at c.requires c.in-None.ensures
