use Rattle.std.proofs.Common.{◌≡◌, ◌++◌}
use Rattle.hex.specs.Hex.{encode_lower}
use Rattle.transcript_text.proofs.digit_pieces.append_digits.Given as goal

abbrev pub invariant-loop-piece : goal.invariant-loop-piece
invariant-loop-piece l =
    l.out.items ++ encode_lower l.piece-iterator.rest.now ≡ l.initial.out.items ++ encode_lower l.bytes
