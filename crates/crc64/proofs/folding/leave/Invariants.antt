use Rattle.std.proofs.Common.{◌≡◌, ◌-◌, ◌%◌, length}
use Rattle.crc64.specs.Folding.{span}
use Rattle.crc64.proofs.Struck.{IsLeft}
use Rattle.crc64.proofs.folding.leave.Given as goal

abbrev pub invariant-loop-at : goal.invariant-loop-at
invariant-loop-at l = (l.at % 32 ≡ 0) × (length l.rest ≡ span) × IsLeft (length l.bytes - span) l.bytes l.digits l.at l.rest

abbrev pub decreases-loop-at : goal.decreases-loop-at
decreases-loop-at l = span - l.at
