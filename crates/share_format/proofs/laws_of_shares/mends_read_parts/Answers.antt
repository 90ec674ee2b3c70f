use Rattle.share_format.proofs.Ranges.{read_by_mend, length_read}
use Rattle.share_format.proofs.laws_of_shares.mends_read_parts.Goals as goal

pub returns-clause-held : goal.returns-clause-held
returns-clause-held c = read_by_mend

pub returns-clause-bytes : goal.returns-clause-bytes
returns-clause-bytes c = length_read
