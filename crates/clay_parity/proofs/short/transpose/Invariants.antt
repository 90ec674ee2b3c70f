use Rattle.std.proofs.Common.{◌+◌, ◌*◌, ◌/◌, ◌%◌, get_or}
use Rattle.code_laws.specs.Columns.{HoldsPieces}
use Rattle.clay_parity.proofs.short.transpose.Given as goal

abbrev pub invariant-loop-x : goal.invariant-loop-x
invariant-loop-x l = HoldsPieces l.len l.x (λ x o. get_or l.rows ((o / l.width * l.count + x) * l.width + o % l.width) 0) l.out
