use Rattle.std.proofs.Common.{◌*◌}
use Rattle.clay_parity.specs.Blocks.{Appends, piece_bytes}
use Rattle.clay_parity.proofs.parity_layers.add_pieces.Given as goal

abbrev pub invariant-loop-digit : goal.invariant-loop-digit
invariant-loop-digit l = Appends (l.digit * l.fn.g.width) (piece_bytes l.fn.g.parity_count l.fn.g.width l.group l.x) l.fn.chunk.items l.chunk.items
