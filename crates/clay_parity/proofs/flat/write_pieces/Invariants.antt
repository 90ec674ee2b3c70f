use Rattle.code_laws.specs.Columns.{HoldsPieces}
use Rattle.clay_parity.specs.Blocks.{coupled_byte}
use Rattle.clay_parity.proofs.flat.write_pieces.Given as goal

abbrev pub invariant-loop-digit : goal.invariant-loop-digit
invariant-loop-digit l = HoldsPieces l.fn.g.width l.digit (coupled_byte l.fn.g.parity_count l.fn.g.width l.group l.x) l.out
