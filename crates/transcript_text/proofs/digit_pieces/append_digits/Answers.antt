use Rattle.std.proofs.Common.{ℕ, List, ◌++◌, ap, ◌∙◌}
use Rattle.hex.specs.Hex.{encode_lower}
use Rattle.transcript_text.proofs.Pieces.{pieces_done}
use Rattle.transcript_text.proofs.digit_pieces.append_digits.Goals as goal

pub returns : goal.returns
returns c =
    pieces_done _ _ _ c.in-None.ensures.steps.1.0 c.loop-piece.invariant
    ∙ ap (λ (old : List ℕ). old ++ encode_lower c.args.bytes.now) c.reserve.ensures.items
