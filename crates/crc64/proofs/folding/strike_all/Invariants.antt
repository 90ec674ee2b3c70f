use Rattle.std.proofs.Common.{◌≡◌, ◌+◌, ◌-◌, ◌%◌, ◌≤◌, length}
use Rattle.crc64.specs.Folding.{span, HasDigits}
use Rattle.crc64.proofs.folding.strike_all.Given as goal

abbrev pub invariant-loop-at : goal.invariant-loop-at
invariant-loop-at l = (l.at % 32 ≡ 0) × (32 ≤ l.at) × (span + l.at ≤ length l.bytes) × HasDigits l.start l.bytes l.at l.digits

abbrev pub decreases-loop-at : goal.decreases-loop-at
decreases-loop-at l = length l.bytes - l.at
