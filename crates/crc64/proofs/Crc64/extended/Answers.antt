use Rattle.crc64.proofs.Lookups.{checksum_goes_on}
use Rattle.crc64.proofs.Crc64.extended.Goals as goal

pub returns : goal.returns
returns c before begun = checksum_goes_on before c.args.bytes.now c.args.checksum c.after_all.result begun c.after_all.ensures
