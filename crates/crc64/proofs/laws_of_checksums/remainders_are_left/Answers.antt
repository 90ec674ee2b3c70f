use Rattle.crc64.proofs.Degrees.{remainder_is, remainder_below}
use Rattle.crc64.proofs.laws_of_checksums.remainders_are_left.Goals as goal

pub returns-clause-division : goal.returns-clause-division
returns-clause-division c = remainder_is

pub returns-clause-degree : goal.returns-clause-degree
returns-clause-degree c = remainder_below
