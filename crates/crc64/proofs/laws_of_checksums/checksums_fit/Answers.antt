use Rattle.crc64.proofs.Degrees.{checksum_below}
use Rattle.crc64.proofs.laws_of_checksums.checksums_fit.Goals as goal

pub returns : goal.returns
returns c = checksum_below
