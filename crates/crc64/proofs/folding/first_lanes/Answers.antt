use Rattle.crc64.proofs.Struck.{first_entered}
use Rattle.crc64.proofs.folding.first_lanes.Goals as goal

pub returns : goal.returns
returns c = λ k less. first_entered c.args.start k c.args.bytes.now c.write_u64.new.buf c.ranges.start.fits c.requires c.write_u64.ensures less
