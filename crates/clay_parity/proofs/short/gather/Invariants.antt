use Rattle.std.proofs.Common.{◌+◌, ◌*◌, get_or}
use Rattle.code_laws.specs.Columns.{HoldsPieces}
use Rattle.clay_parity.proofs.short.gather.Given as goal

abbrev pub invariant-loop-d : goal.invariant-loop-d
invariant-loop-d l = HoldsPieces l.width l.d (λ d b. get_or l.rows ((d * l.count + l.x) * l.width + b) 0) l.out
