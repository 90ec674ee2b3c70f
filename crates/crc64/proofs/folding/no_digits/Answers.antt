use Rattle.crc64.proofs.Struck.{zeros}
use Rattle.crc64.proofs.folding.no_digits.Goals as goal

pub returns-clause-blank : goal.returns-clause-blank
returns-clause-blank c = zeros 4576
