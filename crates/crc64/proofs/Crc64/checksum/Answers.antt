use Rattle.std.proofs.Common.{[]}
use Rattle.crc64.proofs.Lookups.{checksum_of_nothing}
use Rattle.crc64.proofs.Crc64.checksum.Goals as goal

pub returns : goal.returns
returns c = c.extended.ensures [] checksum_of_nothing
