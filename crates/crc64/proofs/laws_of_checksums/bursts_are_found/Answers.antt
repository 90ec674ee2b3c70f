use Rattle.crc64.proofs.Bursts.{burst_found}
use Rattle.crc64.proofs.laws_of_checksums.bursts_are_found.Goals as goal

pub returns : goal.returns
returns c = burst_found
